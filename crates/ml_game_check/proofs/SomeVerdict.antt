-- Claims have a verdict.
--
-- The first three rules are looked up at each vertex. Where none of them is broken, the game of ways has a winner at each
-- vertex: where each player wins what is claimed for the player, the claims are right, and else the winner's moves from a
-- vertex that is lost lead to one that breaks the fourth rule.
--
--   early_or_not  == at a vertex one of the first three rules is broken, or none is
--   ways_of_game, is_way_game == the game of ways
--   by_cycles     == the verdict, where none of the first three rules is broken
--   some_verdict  == the theorem
use Rattle.std.proofs.Common.{ℕ, ◌≡◌, ◌<◌, ◌⊎◌, List, [], Option, Some, None, map, inl, inr, ⊎_elim, refl, sym, ap, ◌∙◌, arith}
use Rattle.std.specs.List.{range_with_len}
use Rattle.std.proofs.lemmas.List.FromFn.{get_or-map-range_with_len, length-map-range_with_len}
use Rattle.ml_lists.specs.Found.{Found}
use Rattle.ml_lists.proofs.Decided.{Decided}
use Rattle.ml_lists.proofs.Deciding.{FirstWith, Having, decided_not, first_bad, some_below, some_member}
use Rattle.ml_lists.proofs.Members.{contains_of_member, member_of_contains}
use Rattle.ml_parity.specs.declared.players.Player.{Player}
use Rattle.ml_parity.specs.declared.players.Player.TheVariants.{Even}
use Rattle.ml_parity.specs.Game.{ParityGame, IsGame, HasMove, moves_of, owner_of, priority_of, size}
use Rattle.ml_parity.specs.Player.{opponent}
use Rattle.ml_parity.proofs.Opponents.{is_or_not}
use Rattle.ml_parity.proofs.Winners.{Winners, winners}
use Rattle.ml_game_check.specs.Laws.{SomeVerdict}
use Rattle.ml_game_check.specs.RightClaims.{Claims, IsClaimed, claim_at}
use Rattle.ml_game_check.specs.Verdicts.{BreaksEarly, IsVerdict}
use Rattle.ml_game_check.specs.declared.claims.Claim.{Claim}
use Rattle.ml_game_check.specs.declared.verdict.Rule.{Rule}
use Rattle.ml_game_check.specs.declared.verdict.Rule.TheVariants as rule
use Rattle.ml_game_check.specs.declared.verdict.Verdict.{Verdict}
use Rattle.ml_game_check.specs.declared.verdict.Verdict.TheVariants as verdict
use Rattle.ml_game_check.specs.private.Early.{IsFirstRule, KeepsEarly}
use Rattle.ml_game_check.specs.private.WayGame.{IsWayGame, way_owner, ways_of}
use Rattle.ml_game_check.proofs.FirstRules.{all_kept, claimed_low, four_broken, is_broken, none_claimed, none_kept, other_kept, other_leaves, own_astray, own_kept, own_leaves, own_none, winner_of}
use Rattle.ml_game_check.proofs.Rounds.{some_lowest}
use Rattle.ml_game_check.proofs.WayGames.{is_game, lost_breaks, no_bad_cycle}
use Rattle.ml_game_check.proofs.Won.{claimed_or_not, has_move_or_not}

-- ---- the first three rules

abbrev SomeRule : ParityGame → Claims → ℕ → Type 0
SomeRule g cs v = (r : Rule) × IsFirstRule g cs v r

abbrev EarlyOrNot : ParityGame → Claims → ℕ → Type 0
EarlyOrNot g cs v = (BreaksEarly g cs v → ⊥) ⊎ SomeRule g cs v

module _ (g : ParityGame) (cs : Claims) (v : ℕ) where
  module _ (c : Claim) (is : claim_at cs v ≡ Some c) where
    own_or_not : owner_of g v ≡ c.winner → (to : Option ℕ) → c.move_to ≡ to → EarlyOrNot g cs v
    own_or_not own None e = inr (rule.HasMove, own_none g cs v c is own e)
    own_or_not own (Some to) e = by_move (has_move_or_not g v to) (claimed_or_not cs c.winner to)
      where
        by_move : Decided (HasMove g v to) → Decided (IsClaimed cs c.winner to) → EarlyOrNot g cs v
        by_move (inr astray) there = inr (rule.MovesAlong, own_astray g cs v c is own to e astray)
        by_move (inl along) (inr leaves) = inr (rule.StaysClaimed, own_leaves g cs v c is own to e along leaves)
        by_move (inl along) (inl stays) = inl (own_kept g cs v c is own to e along stays)

    abbrev Leaving : ℕ → Type 0
    Leaving w = ¬ (IsClaimed cs c.winner w)

    other_or_not : (owner_of g v ≡ c.winner → ⊥) → Decided (Having Leaving (moves_of g v)) → EarlyOrNot g cs v
    other_or_not other (inl h) =
        inr (
          rule.StaysClaimed,
          other_leaves g cs v c is other h.item (contains_of_member h.item (moves_of g v) h.member) h.holds,
        )
    other_or_not other (inr none) =
        inl (other_kept g cs v c is other (λ w move.
        ⊎_elim (λ (stays : IsClaimed cs c.winner w). stays)
        (λ (leaves : Leaving w).
        absurd (none (record { item = w; member = member_of_contains w (moves_of g v) move; holds = leaves })))
        (claimed_or_not cs c.winner w)))

    by_owner : (owner_of g v ≡ c.winner) ⊎ (owner_of g v ≡ c.winner → ⊥) → EarlyOrNot g cs v
    by_owner (inl own) = own_or_not own c.move_to refl
    by_owner (inr other) =
        other_or_not other (some_member Leaving (moves_of g v) (λ w member. decided_not (claimed_or_not cs c.winner w)))

  by_claim : (o : Option Claim) → claim_at cs v ≡ o → EarlyOrNot g cs v
  by_claim None is = inl (none_kept g cs v is)
  by_claim (Some c) is = by_owner c is (is_or_not (owner_of g v) c.winner)

  early_or_not : EarlyOrNot g cs v
  early_or_not = by_claim (claim_at cs v) refl

-- ---- the game of ways

module _ (g : ParityGame) (cs : Claims) where
  abbrev owner_at : ℕ → Player
  owner_at v = way_owner (owner_of g v) (claim_at cs v)

  abbrev ways_at : ℕ → List ℕ
  ways_at v = ways_of (owner_of g v) (claim_at cs v) (moves_of g v)

  abbrev ways_of_game : ParityGame
  ways_of_game = record {
    owner = map owner_at (range_with_len 0 (size g));
    priority = g.priority;
    successors = map ways_at (range_with_len 0 (size g));
  }

  is_way_game : IsWayGame g cs ways_of_game
  is_way_game = record {
    sizes = length-map-range_with_len owner_at 0 (size g);
    owners = λ v low. get_or-map-range_with_len owner_at 0 (size g) v v Even low (omega arith);
    priorities = refl;
    moves = λ v low. get_or-map-range_with_len ways_at 0 (size g) v v [] low (omega arith);
  }

  -- ---- the fourth rule

  module _ (ok : IsGame g) (early : KeepsEarly g cs) where
    is_game_of_ways : IsGame ways_of_game
    is_game_of_ways =
        is_game g cs ok early ways_of_game is_way_game
        (length-map-range_with_len ways_at 0 (size g) ∙ sym (length-map-range_with_len owner_at 0 (size g)))

    module _ (w : Winners ways_of_game) where
      abbrev Lost : ℕ → Type 0
      Lost v = (p : Player) × IsClaimed cs p v × (w.win v ≡ opponent p)

      lost_or_not : (v : ℕ) → Decided (Lost v)
      lost_or_not v = of_claim (claim_at cs v) refl
        where
          of_winner : (c : Claim) → claim_at cs v ≡ Some c → Decided (w.win v ≡ opponent c.winner) → Decided (Lost v)
          of_winner c is (inl lost) = inl (c.winner, (c.move_to, is), lost)
          of_winner c is (inr won) =
              inr (λ (l : Lost v). won (l.2 ∙ ap opponent (sym (winner_of cs v c is l.0 l.1))))

          of_claim : (o : Option Claim) → claim_at cs v ≡ o → Decided (Lost v)
          of_claim None is = inr (λ (l : Lost v). none_claimed cs v is l.0 l.1)
          of_claim (Some c) is = of_winner c is (is_or_not (w.win v) (opponent c.winner))

      by_lost : Decided (Found Lost (size g)) → (answer : Verdict) × IsVerdict g cs answer
      by_lost (inr none) = (
        verdict.Right,
        all_kept g cs early (λ p v. no_bad_cycle g cs ok early ways_of_game is_way_game p w.win w.choice w.moves w.wins
            (λ x claimed lost. none (record {
              place = x;
              below = omega (arith, claimed_low cs p x claimed, early.places);
              holds = (p, claimed, lost);
            })) v),
      )
      by_lost (inl f) =
          let p = f.holds.0 in
          let lowest = some_lowest w.choice (priority_of ways_of_game) (size g) f.place (size g) in (
            verdict.Broken lowest.0 rule.NoBadCycle,
            four_broken g cs early lowest.0 (
              p,
              lost_breaks g cs ok early ways_of_game is_way_game p w.win w.choice w.moves w.wins f.place f.holds.1
                  f.holds.2 lowest.0 lowest.1,
            ),
          )

    by_cycles : (answer : Verdict) × IsVerdict g cs answer
    by_cycles =
        let w = winners ways_of_game is_game_of_ways in
        by_lost w (some_below (Lost w) (size g) (λ v low. lost_or_not w v))

pub some_verdict : SomeVerdict
some_verdict g cs ok places =
    by_first (first_bad (λ v. BreaksEarly g cs v → ⊥) (SomeRule g cs) (size g) (λ v low before. early_or_not g cs v))
  where
    by_first : ((v : ℕ) → v < size g → BreaksEarly g cs v → ⊥)
        ⊎ FirstWith (λ v. BreaksEarly g cs v → ⊥) (SomeRule g cs) (size g)
        → (answer : Verdict) × IsVerdict g cs answer
    by_first (inl kept) = by_cycles g cs ok (record { places = places; kept = kept })
    by_first (inr f) = (verdict.Broken f.place f.bad.0, is_broken g cs f.place f.bad.0 f.before f.bad.1)
