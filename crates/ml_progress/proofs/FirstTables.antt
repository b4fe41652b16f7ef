-- Where lifting begins: the top at the vertices that the player loses.
--
--   lost_is_top     == where the other player wins, each progress measure has the top
--   top_keeps       == a low measure stays low where such a vertex gets the top
use Rattle.std.proofs.Common.{ℕ, ◌≡◌, ◌≢◌, ◌<◌, arith, Bool, true, false, List, Option, Some, None, refl, sym, ap, ◌∙◌, subst}
use Rattle.ml_parity.specs.declared.players.Player.{Player}
use Rattle.ml_parity.specs.Game.{ParityGame, IsGame, size}
use Rattle.ml_parity.specs.Winner.{Wins}
use Rattle.ml_parity.proofs.Winners.{Winners, winners}
use Rattle.ml_progress.specs.Measure.{HasList, Measure, IsProgressMeasure, measure_at}
use Rattle.ml_progress.specs.private.Bounds.{bounds_of}
use Rattle.ml_progress.specs.private.Codes.{level}
use Rattle.ml_progress.specs.private.Lifting.{IsLow}
use Rattle.ml_progress.specs.private.Tables.{IsRaised}
use Rattle.ml_progress.proofs.LiftedMeasures.{set_low}
use Rattle.ml_progress.proofs.WhoWins.{listed_won}

module _ (g : ParityGame) (ok : IsGame g) (p q : Player) (differs : q ≢ p) (v : ℕ) (below : v < size g)
    (wins : Wins g q v) where
  -- where the other player wins, each progress measure has the top
  lost_is_top : (k : Measure) → IsProgressMeasure g p k → measure_at k v ≡ None
  lost_is_top k progress = from (measure_at k v) refl
    where
      from : (a : Option (List ℕ)) → measure_at k v ≡ a → a ≡ None
      from None is = refl
      from (Some xs) is =
          let has : HasList k v = λ top. let wrong = sym is ∙ top in cc in
          let w : Winners g = winners g ok in
          absurd (differs (sym (w.only v q below wins) ∙ w.only v p below (listed_won g ok p k progress v below has)))

  -- a low measure stays low where such a vertex gets the top
  pub top_keeps : (m n : Measure) (r : Bool) → IsLow g p m → IsRaised None m n v r → IsLow g p n
  top_keeps m n true low raised =
      set_low g ok p m n v low below None raised.1 tt
      (λ k progress. let e = ap (level (bounds_of g p)) (lost_is_top k progress) in omega arith)
  top_keeps m n false low raised = subst (IsLow g p) (sym raised.1) low
