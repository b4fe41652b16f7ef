use Rattle.std.proofs.Common.{◌≡◌, ◌∙◌, Err, Result, ap, sym}
use Rattle.std.specs.Result.{IsErrOf}
use Rattle.std.proofs.lemmas.Result.{err_from_is_err_and}
use Rattle.ml_word_check.specs.declared.refusal.WordRefusal.{WordRefusal}
use Rattle.ml_word_check.specs.declared.refusal.WordRefusal.TheVariants.{NotAWord}
use Rattle.ml_word_check.proofs.holding.holds.Goals as goal

-- a refusal that is handed on is the one that was answered
handed_on : {X Y : Type 0} (r : Result X WordRefusal) (x y : WordRefusal)
    → ((z : WordRefusal) × (r ≡ Err z) × (z ≡ x))
    → IsErrOf r y
    → IsErrOf {T = Y} (Err x) y
handed_on r x y (z, is, same) e = let one : z ≡ y = same_error (sym is ∙ e) in ap Err (sym same ∙ one)
  where
    same_error : {Z : Type 0} → IsErrOf {T = Z} (Err z) y → z ≡ y
    same_error f = cc

pub returns-in_err-next-clause-fork : goal.returns-in_err-next-clause-fork
returns-in_err-next-clause-fork c = λ s is.
    c.in_err-next.ensures.fork s
    (handed_on c.from_residual.result c.in_err-next.field-0.0 (NotAWord s)
    (err_from_is_err_and c.from_residual.result c.from_residual.ensures.1) is)
