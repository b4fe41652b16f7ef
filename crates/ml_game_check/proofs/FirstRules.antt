-- The first three rules at one vertex.
--
--   claimed_for, winner_of == a vertex with a claim is claimed for the player whom it names, and for no other
--   is_broken              == the first vertex whose claim breaks one of the first three rules is the one to name
--   all_kept, four_broken  == where none does, the fourth rule decides
--   own, other             == what a claim for the owner breaks, and what one for the opponent does
use Rattle.std.proofs.Common.{ℕ, ◌≡◌, ◌<◌, ◌≤◌, ◌⊎◌, Option, Some, None, length, Bool, inl, inr, sym, ap, ◌∙◌, subst, arith}
use Rattle.std.specs.Bool.{IsTrue}
use Rattle.std.specs.Prelude.{◌↔◌}
use Rattle.std.proofs.lemmas.Bool.{cases_lt}
use Rattle.std.proofs.lemmas.List.{get_or_past}
use Rattle.ml_parity.specs.declared.players.Player.{Player}
use Rattle.ml_parity.specs.Game.{ParityGame, HasMove, owner_of}
use Rattle.ml_game_check.specs.RightClaims.{AreRight, Claims, BreaksFour, BreaksOne, BreaksTwo, BreaksThree, IsClaimed, IsMoved, claim, claim_at}
use Rattle.ml_game_check.specs.Verdicts.{Breaks, BreaksEarly, IsBroken, number_of}
use Rattle.ml_game_check.specs.private.Early.{IsFirstRule, KeepsEarly}
use Rattle.ml_game_check.specs.declared.claims.Claim.{Claim}
use Rattle.ml_game_check.specs.declared.verdict.Rule.{Rule}
use Rattle.ml_game_check.specs.declared.verdict.Rule.TheVariants as rule
use Rattle.ml_game_check.proofs.Won.{no_claim, same_winner}
use Rattle.ml_game_check.proofs.OfSolutions.{no_number, same_move, same_number}

pub claimed_for : (cs : Claims) (v : ℕ) (c : Claim) → claim_at cs v ≡ Some c → (p : Player) → c.winner ≡ p → IsClaimed cs p v
claimed_for cs v c is p same = (c.move_to, is ∙ ap (λ q. Some (claim q c.move_to)) same)

pub winner_of : (cs : Claims) (v : ℕ) (c : Claim) → claim_at cs v ≡ Some c → (p : Player) → IsClaimed cs p v → c.winner ≡ p
winner_of cs v c is p h = same_winner c.winner p c.move_to h.0 (sym is ∙ h.1)

-- the answer for the claim is the answer for the vertex
pub told : (cs : Claims) (v : ℕ) (c : Claim) → claim_at cs v ≡ Some c → (p : Player) (b : Bool)
    → (IsTrue b ↔ (c.winner ≡ p)) → (IsTrue b ↔ IsClaimed cs p v)
told cs v c is p b same = (λ yes_it_is. claimed_for cs v c is p (same.0 yes_it_is), λ h. same.1 (winner_of cs v c is p h))

pub none_claimed : (cs : Claims) (v : ℕ) → claim_at cs v ≡ None → (p : Player) → IsClaimed cs p v → ⊥
none_claimed cs v is p h = no_claim (claim p h.0) (sym is ∙ h.1)

pub claimed_low : (cs : Claims) (p : Player) (v : ℕ) → IsClaimed cs p v → v < length cs
claimed_low cs p v h = by_place (cases_lt v (length cs))
  where
    by_place : (v < length cs) ⊎ (length cs ≤ v) → v < length cs
    by_place (inl low) = low
    by_place (inr past) = absurd (none_claimed cs v (get_or_past cs v None past) p h)

at_least_one : (r : Rule) → 1 ≤ number_of r
at_least_one rule.HasMove = omega arith
at_least_one rule.MovesAlong = omega arith
at_least_one rule.StaysClaimed = omega arith
at_least_one rule.NoBadCycle = omega arith

-- who breaks a rule early has a claim
pub early_claimed : (g : ParityGame) (cs : Claims) (v : ℕ) → BreaksEarly g cs v → (p : Player) × IsClaimed cs p v
early_claimed g cs v (inl (p, b)) = (p, (None, b.1))
early_claimed g cs v (inr (inl (p, b))) = (p, (Some b.1.0, b.1.1))
early_claimed g cs v (inr (inr (p, b))) = (p, b.1.0)

module _ (g : ParityGame) (cs : Claims) (v : ℕ) (c : Claim) (is : claim_at cs v ≡ Some c) where
  moved_as : (to : Option ℕ) → c.move_to ≡ to → claim_at cs v ≡ Some (claim c.winner to)
  moved_as to e = is ∙ ap (λ o. Some (claim c.winner o)) e

  names : (p : Player) (to : Option ℕ) → claim_at cs v ≡ Some (claim p to) → c.winner ≡ p
  names p to here = winner_of cs v c is p (to, here)

  moves : (p : Player) (to : Option ℕ) → claim_at cs v ≡ Some (claim p to) → c.move_to ≡ to
  moves p to here = same_move c.winner p c.move_to to (sym is ∙ here)

  module _ (own : owner_of g v ≡ c.winner) where
    pub own_none : c.move_to ≡ None → IsFirstRule g cs v rule.HasMove
    own_none e = record {
      breaks = (c.winner, (own, moved_as None e));
      lowest = λ r b. at_least_one r;
      early = omega arith;
    }

    module _ (to : ℕ) (e : c.move_to ≡ Some to) where
      not_one : Breaks g cs rule.HasMove v → ⊥
      not_one (p, b) = no_number to (sym (moves p None b.1) ∙ e)

      same_target : (p : Player) (w : ℕ) → IsMoved cs p v w → w ≡ to
      same_target p w here = same_number w to (sym (moves p (Some w) here) ∙ e)

      pub own_astray : (HasMove g v to → ⊥) → IsFirstRule g cs v rule.MovesAlong
      own_astray astray = record {
        breaks = (c.winner, (own, (to, moved_as (Some to) e, astray)));
        lowest = lowest;
        early = omega arith;
      }
        where
          lowest : (r : Rule) → Breaks g cs r v → 2 ≤ number_of r
          lowest rule.HasMove b = absurd (not_one b)
          lowest rule.MovesAlong b = omega arith
          lowest rule.StaysClaimed b = omega arith
          lowest rule.NoBadCycle b = omega arith

      module _ (along : HasMove g v to) where
        not_two : Breaks g cs rule.MovesAlong v → ⊥
        not_two (p, b) = b.1.2 (subst (HasMove g v) (sym (same_target p b.1.0 b.1.1)) along)

        pub own_leaves : (IsClaimed cs c.winner to → ⊥) → IsFirstRule g cs v rule.StaysClaimed
        own_leaves leaves = record {
          breaks = (c.winner, (to, ((Some to, moved_as (Some to) e), inl (own, moved_as (Some to) e)), leaves));
          lowest = lowest;
          early = omega arith;
        }
          where
            lowest : (r : Rule) → Breaks g cs r v → 3 ≤ number_of r
            lowest rule.HasMove b = absurd (not_one b)
            lowest rule.MovesAlong b = absurd (not_two b)
            lowest rule.StaysClaimed b = omega arith
            lowest rule.NoBadCycle b = omega arith

        pub own_kept : IsClaimed cs c.winner to → BreaksEarly g cs v → ⊥
        own_kept stays (inl b) = not_one b
        own_kept stays (inr (inl b)) = not_two b
        own_kept stays (inr (inr (p, (w, (claimed, inl (own_too, here)), leaves)))) =
            leaves (subst (λ q. IsClaimed cs q w) (names p (Some w) here)
            (subst (IsClaimed cs c.winner) (sym (same_target p w here)) stays))
        own_kept stays (inr (inr (p, (w, (claimed, inr (other, move)), leaves)))) =
            other (own ∙ names p claimed.0 claimed.1)

  module _ (other : owner_of g v ≡ c.winner → ⊥) where
    other_one : Breaks g cs rule.HasMove v → ⊥
    other_one (p, b) = other (b.0 ∙ sym (names p None b.1))

    other_two : Breaks g cs rule.MovesAlong v → ⊥
    other_two (p, b) = other (b.0 ∙ sym (names p (Some b.1.0) b.1.1))

    pub other_leaves : (w : ℕ) → HasMove g v w → (IsClaimed cs c.winner w → ⊥) → IsFirstRule g cs v rule.StaysClaimed
    other_leaves w move leaves = record {
      breaks = (c.winner, (w, ((c.move_to, is), inr (other, move)), leaves));
      lowest = lowest;
      early = omega arith;
    }
      where
        lowest : (r : Rule) → Breaks g cs r v → 3 ≤ number_of r
        lowest rule.HasMove b = absurd (other_one b)
        lowest rule.MovesAlong b = absurd (other_two b)
        lowest rule.StaysClaimed b = omega arith
        lowest rule.NoBadCycle b = omega arith

    pub other_kept : ((w : ℕ) → HasMove g v w → IsClaimed cs c.winner w) → BreaksEarly g cs v → ⊥
    other_kept stay (inl b) = other_one b
    other_kept stay (inr (inl b)) = other_two b
    other_kept stay (inr (inr (p, (w, (claimed, inl (own, here)), leaves)))) = other (own ∙ sym (names p (Some w) here))
    other_kept stay (inr (inr (p, (w, (claimed, inr (not_own, move)), leaves)))) =
        leaves (subst (λ q. IsClaimed cs q w) (names p claimed.0 claimed.1) (stay w move))

pub none_kept : (g : ParityGame) (cs : Claims) (v : ℕ) → claim_at cs v ≡ None → BreaksEarly g cs v → ⊥
none_kept g cs v is b = let c = early_claimed g cs v b in none_claimed cs v is c.0 c.1

-- where no vertex before one breaks a rule early, and this one does, it is the one to name
pub is_broken : (g : ParityGame) (cs : Claims) (v : ℕ) (r : Rule)
    → ((k : ℕ) → k < v → BreaksEarly g cs k → ⊥)
    → IsFirstRule g cs v r
    → IsBroken g cs v r
is_broken g cs v r before first = record { breaks = first.breaks; lowest = first.lowest; first = λ w b. (first.early, after w b) }
  where
    by_place : (w : ℕ) → BreaksEarly g cs w → (w < v) ⊎ (v ≤ w) → v ≤ w
    by_place w b (inl early) = absurd (before w early b)
    by_place w b (inr late) = late

    after : (w : ℕ) → BreaksEarly g cs w → v ≤ w
    after w b = by_place w b (cases_lt w v)

-- ---- all four rules

module _ (g : ParityGame) (cs : Claims) (early : KeepsEarly g cs) where
  pub kept : (v : ℕ) → BreaksEarly g cs v → ⊥
  kept v b =
      let c = early_claimed g cs v b in
      early.kept v (omega (arith, claimed_low cs c.0 v c.1, early.places)) b

  pub all_kept : ((p : Player) (v : ℕ) → BreaksFour g cs p v → ⊥) → AreRight g cs
  all_kept none = (
    early.places,
    λ p v. record {
      one = λ (b : BreaksOne g cs p v). kept v (inl (p, b));
      two = λ (b : BreaksTwo g cs p v). kept v (inr (inl (p, b)));
      three = λ (b : BreaksThree g cs p v). kept v (inr (inr (p, b)));
      four = none p v;
    },
  )

  pub four_broken : (v : ℕ) → ((p : Player) × BreaksFour g cs p v) → IsBroken g cs v rule.NoBadCycle
  four_broken v b = record { breaks = b; lowest = lowest; first = λ w early_too. absurd (kept w early_too) }
    where
      lowest : (r : Rule) → Breaks g cs r v → 4 ≤ number_of r
      lowest rule.HasMove c = absurd (kept v (inl c))
      lowest rule.MovesAlong c = absurd (kept v (inr (inl c)))
      lowest rule.StaysClaimed c = absurd (kept v (inr (inr c)))
      lowest rule.NoBadCycle c = omega arith
