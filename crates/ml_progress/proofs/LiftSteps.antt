-- A vertex as the program lifts it.
--
--   cut_read    == a cut as it is read
--   cut_low     == it is no longer than the bounds
--   lifted      == the vertex is lifted
--   top_target  == where a successor with the top is chosen, the target is the top
use Rattle.std.proofs.Common.{ℕ, ◌≡◌, ◌<◌, ◌≤◌, ◌↔◌, arith, Bool, true, false, IsTrue, List, length, get_or, Option, None, Contains, refl, sym, ap, ◌∙◌, subst}
use Rattle.std.proofs.lemmas.List.{get_or_default}
use Rattle.ml_parity.specs.declared.players.Player.{Player}
use Rattle.ml_parity.specs.Player.{opponent}
use Rattle.ml_parity.specs.Game.{ParityGame, HasMove, owner_of, priority_of, moves_of, size}
use Rattle.ml_parity.proofs.Opponents.{not_both}
use Rattle.ml_progress.specs.Measure.{Measure, is_bad, measure_at}
use Rattle.ml_progress.specs.private.Bounds.{bounds_of, cut_length}
use Rattle.ml_progress.specs.private.Codes.{IsTarget, cut_level}
use Rattle.ml_progress.specs.private.Lifting.{AreFitting, Furthest, IsExtreme, IsLow, IsLifted}
use Rattle.ml_progress.specs.private.Scales.{IsScale}
use Rattle.ml_progress.specs.private.Tables.{IsRaised}
use Rattle.ml_progress.proofs.Scales.{cut_within}

-- where a successor with the top is chosen, the target is the top
pub top_target : (c : ℕ) (bs : List ℕ) (t : Bool) → IsTarget c bs t None None
top_target c bs t = omega arith

module _ (g : ParityGame) (p : Player) (v cut : ℕ) (bounds cuts : List ℕ) (scale : IsScale g p bounds cuts) (low : v < size g)
    (read : cut ≡ get_or cuts v cut) where
  -- a cut as it is read
  pub cut_read : cut ≡ cut_length g p v
  cut_read = read ∙ get_or_default cuts v cut 0 (omega (arith, scale.long)) ∙ scale.cuts_are v low

  -- it is no longer than the bounds
  pub cut_low : cut ≤ length bounds
  cut_low = omega (arith, cut_read, cut_within g p v, ap length scale.bounds_are)

  module _ (m : Measure) (is_low : IsLow g p m) (chosen : ℕ) (moves : List ℕ) (own bad : Bool) (are : moves ≡ moves_of g v)
      (member : Contains moves chosen)
      (mine : IsTrue own ↔ (owner_of g v ≡ p))
      (extreme : (bs : List ℕ) → AreFitting bs m → IsExtreme own cut bs m moves chosen)
      (badness : bad ≡ is_bad p (priority_of g v)) where
    furthest : (x : ℕ) → HasMove g v x
        → Furthest own (cut_level (cut_length g p v) (bounds_of g p) (measure_at m chosen))
        (cut_level (cut_length g p v) (bounds_of g p) (measure_at m x))
    furthest x move =
        subst (λ k. Furthest own (cut_level k (bounds_of g p) (measure_at m chosen))
        (cut_level k (bounds_of g p) (measure_at m x))) cut_read
        (extreme (bounds_of g p) is_low.fits x (subst (λ xs. Contains xs x) (sym are) move))

    at_own : (b : Bool) → own ≡ b → owner_of g v ≡ p → b ≡ true
    at_own b is his = sym is ∙ mine.1 his

    at_other : (b : Bool) → own ≡ b → owner_of g v ≡ opponent p → b ≡ false
    at_other true is theirs = absurd (not_both (owner_of g v) p (mine.0 is) theirs)
    at_other false is theirs = refl

    -- the vertex is lifted
    pub lifted : (n : Measure) (r : Bool) (o target : Option (List ℕ))
        → measure_at m chosen ≡ o
        → IsTarget cut bounds bad o target
        → IsRaised target m n v r
        → IsLifted g p m n v r
    lifted n r o target is_o is_target raised = record {
      chosen = chosen;
      move = subst (λ xs. Contains xs chosen) are member;
      own = λ his x move.
          subst (λ b. Furthest b (cut_level (cut_length g p v) (bounds_of g p) (measure_at m chosen))
          (cut_level (cut_length g p v) (bounds_of g p) (measure_at m x))) (at_own own refl his) (furthest x move);
      other = λ theirs x move.
          subst (λ b. Furthest b (cut_level (cut_length g p v) (bounds_of g p) (measure_at m chosen))
          (cut_level (cut_length g p v) (bounds_of g p) (measure_at m x))) (at_other own refl theirs) (furthest x move);
      target = target;
      is_target =
          subst (λ k. IsTarget k (bounds_of g p) (is_bad p (priority_of g v)) (measure_at m chosen) target) cut_read
          (subst (λ bs. IsTarget cut bs (is_bad p (priority_of g v)) (measure_at m chosen) target) scale.bounds_are
          (subst (λ t. IsTarget cut bounds t (measure_at m chosen) target) badness
          (subst (λ q. IsTarget cut bounds bad q target) (sym is_o) is_target)));
      raised = raised;
    }
