-- Refusals that are handed on.
--
--   handed_on == where a refusal is handed on, it is the one that was answered
use Rattle.std.proofs.Common.{◌≡◌, Result, Err, sym, ap, ◌∙◌}
use Rattle.std.specs.Result.{IsErrOf}
use Rattle.ml_determinise.specs.declared.refusals.DetRefusal.{DetRefusal}
use Rattle.ml_determinise.specs.declared.refusals.DetRefusal.TheVariants as refusal

pub handed_on : {X Y : Type 0} (r : Result X DetRefusal) (x : DetRefusal)
    → ((y : DetRefusal) × (r ≡ Err y) × (y ≡ x))
    → IsErrOf r refusal.Passed
    → IsErrOf {T = Y} (Err x) refusal.Passed
handed_on r x (y, is, same) e = let passed : y ≡ refusal.Passed = err_same y (sym is ∙ e) in ap Err (sym same ∙ passed)
  where
    err_same : {Z : Type 0} (z : DetRefusal) → IsErrOf {T = Z} (Err z) refusal.Passed → z ≡ refusal.Passed
    err_same z f = cc
