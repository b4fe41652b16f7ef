-- Choices that lead round where the lowest priority is bad.
--
--   low, leads    == a claim is for a vertex, and a way leads to a vertex that is claimed for the same player
--   lowest_breaks == the lowest vertex to which choices lead, which are ways, breaks the fourth rule where its priority is bad
--   circle_breaks == so with choices that passed the check
--   circle_told   == so with what the lowest vertex is told to be
use Rattle.std.proofs.Common.{ℕ, zero, suc, ◌≡◌, ◌<◌, ◌≤◌, List, Option, Some, None, length, get_or, inr, ⊎_elim, arith, sym, ap, ◌∙◌, subst, subst₂}
use Rattle.std.specs.Prelude.{MatchOption}
use Rattle.ml_lists.specs.Lasso.{Lasso, entry, lowest_on_loop}
use Rattle.ml_lists.specs.Walk.{walk}
use Rattle.ml_lists.proofs.Lasso.{lasso_of, lasso_of-entry, lasso_of-length, lasso_of_is, lowest_on_loop_is}
use Rattle.ml_lists.proofs.Walks.{walk-add-one}
use Rattle.ml_parity.specs.declared.players.Player.{Player}
use Rattle.ml_parity.specs.Game.{ParityGame, priority_of, size}
use Rattle.ml_parity.specs.Player.{opponent, side}
use Rattle.ml_parity.specs.Solution.{choice_at}
use Rattle.ml_game_check.specs.RightClaims.{BreaksFour, Claims, IsClaimed, IsWay, claim_at}
use Rattle.ml_game_check.specs.declared.claims.Claim.{Claim}
use Rattle.ml_game_check.specs.private.Cycles.{IsLowestFrom}
use Rattle.ml_game_check.specs.private.Early.{KeepsEarly}
use Rattle.ml_game_check.specs.private.Fourth.{AreChosen}
use Rattle.ml_game_check.proofs.FirstRules.{claimed_low, kept}
use Rattle.ml_game_check.proofs.Rounds.{Round, lowest_round}
use Rattle.ml_game_check.proofs.Won.{claimed_or_not}

module _ (g : ParityGame) (cs : Claims) (early : KeepsEarly g cs) (p : Player) where
  low : (v : ℕ) → IsClaimed cs p v → v < size g
  low v claimed = omega (arith, claimed_low cs p v claimed, early.places)

  leads : (v w : ℕ) → IsWay g cs p v w → IsClaimed cs p w
  leads v w way =
      ⊎_elim (λ (is : IsClaimed cs p w). is)
      (λ (none : ¬ (IsClaimed cs p w)). absurd (kept g cs early v (inr (inr (p, (w, way, none))))))
      (claimed_or_not cs p w)

  module _ (next : ℕ → ℕ) (ways : (x : ℕ) → IsClaimed cs p x → IsWay g cs p x (next x)) where
    along : (v : ℕ) → IsClaimed cs p v → (k : ℕ) → IsClaimed cs p (walk next v k)
    along v claimed zero = claimed
    along v claimed (suc k) =
        leads (walk next v k) (next (walk next v k)) (ways (walk next v k) (along v claimed k))

    round_breaks : (x : ℕ) → IsClaimed cs p x → Round next (priority_of g) x → side (priority_of g x) ≡ opponent p
        → BreaksFour g cs p x
    round_breaks x claimed r bad = (
      claimed,
      record {
        cycle = l;
        ways = lasso_of_is (IsWay g cs p) c 0 r.length_of r.some (sym r.closed)
            (λ k below. subst (IsWay g cs p (c k)) (sym (walk-add-one next x k)) (ways (c k) (along x claimed k)));
        place = 0;
        on_loop = omega arith;
        in_list = omega (arith, r.some, lasso_of-length c 0 r.length_of);
        here = first;
        lowest = lowest;
        bad = bad;
      },
    )
      where
        c : ℕ → ℕ
        c = walk next x

        l : Lasso
        l = lasso_of c 0 r.length_of

        first : entry l 0 ≡ x
        first = lasso_of-entry c 0 r.length_of 0 r.some

        lowest : lowest_on_loop (priority_of g) l ≡ priority_of g x
        lowest =
            lowest_on_loop_is (priority_of g) l 0 (omega arith) (omega (arith, r.some, lasso_of-length c 0 r.length_of))
            (λ j later below.
            subst₂ (λ a b. priority_of g a ≤ priority_of g b) (sym first)
            (sym (lasso_of-entry c 0 r.length_of j (omega (arith, lasso_of-length c 0 r.length_of)))) (r.lowest j))
            ∙ ap (priority_of g) first

    lowest_breaks : (v x : ℕ) → IsClaimed cs p v → IsLowestFrom next (priority_of g) (size g) v x
        → side (priority_of g x) ≡ opponent p → BreaksFour g cs p x
    lowest_breaks v x claimed lowest bad =
        round_breaks x (subst (IsClaimed cs p) lowest.there (along v claimed lowest.steps))
        (lowest_round next (priority_of g) (size g) v x (λ k. low (walk next v k) (along v claimed k)) lowest) bad

pub circle_breaks : (g : ParityGame) (cs : Claims) → KeepsEarly g cs
    → (choices ps : List ℕ) → ps ≡ g.priority → length choices ≡ length cs → AreChosen g cs choices
    → (p : Player) (v x : ℕ) → IsClaimed cs p v
    → IsLowestFrom (choice_at choices) (λ k. get_or ps k 0) (length choices) v x
    → side (get_or ps x 0) ≡ opponent p
    → BreaksFour g cs p x
circle_breaks g cs early choices ps same many chosen p v x claimed lowest bad =
    lowest_breaks g cs early p (choice_at choices) (chosen.ways p) v x claimed
    (subst (λ n. IsLowestFrom (choice_at choices) (priority_of g) n v x) (many ∙ early.places)
    (subst (λ xs. IsLowestFrom (choice_at choices) (λ k. get_or xs k 0) (length choices) v x) same lowest))
    (subst (λ xs. side (get_or xs x 0) ≡ opponent p) same bad)

pub circle_told : (g : ParityGame) (cs : Claims) → KeepsEarly g cs
    → (choices ps : List ℕ) → ps ≡ g.priority → length choices ≡ length cs → AreChosen g cs choices
    → (c : Claim) (v : ℕ) → claim_at cs v ≡ Some c
    → (o : Option ℕ)
    → MatchOption o (Unit {0})
    (λ x. IsLowestFrom (choice_at choices) (λ k. get_or ps k 0) (length choices) v x
    × (side (get_or ps x 0) ≡ opponent c.winner))
    → MatchOption o (Unit {0}) (λ x. (p : Player) × BreaksFour g cs p x)
circle_told g cs early choices ps same many chosen c v is None t = t
circle_told g cs early choices ps same many chosen c v is (Some x) t =
    (c.winner, circle_breaks g cs early choices ps same many chosen c.winner v x (c.move_to, is) t.0 t.1)
