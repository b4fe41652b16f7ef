-- What is the answer to `check-answers`: exactly one status, of those that are no fault.
--
--   one_checked_answers  == one status is the answer at most
--   calm_checked_answers == it is no fault, and no want of memory
--   on_answers           == some status is, with some output
use Rattle.std.proofs.Common.{◌≡◌, ℕ, ◌≤◌, List, refl, sym, ap, ◌∙◌, arith}
use Rattle.ml_answers.specs.declared.finding.AnswersFinding.{AnswersFinding}
use Rattle.ml_answers.specs.declared.finding.AnswersFinding.TheVariants.{NoDocument, OpenAt, Refused, Right, TooLong, Unreadable, WrongAt}
use Rattle.ml_answers.proofs.OneFinding.{one_finding}
use Rattle.ml_answers.proofs.SomeFinding.{some_finding}
use Rattle.ml_driver.specs.CheckedAnswers.{AreAnswersTold, said_of}
use Rattle.ml_driver.specs.Codes.{code_of}
use Rattle.ml_driver.specs.Said.{said_text, status_said}
use Rattle.ml_driver.specs.declared.status.Status.{Status}

pub one_checked_answers : (text : List ℕ) (s t : Status) (out more : List ℕ)
    → AreAnswersTold text s out
    → AreAnswersTold text t more
    → s ≡ t
one_checked_answers text s t out more x y =
    x.is_said.0
    ∙ ap (λ z. status_said (said_of z)) (one_finding text x.finding y.finding x.is_found y.is_found)
    ∙ sym y.is_said.0

pub calm_checked_answers : (x : AnswersFinding) (s : Status) → s ≡ status_said (said_of x) → code_of s ≤ 4
calm_checked_answers Right s is = omega (arith, ap code_of is)
calm_checked_answers (WrongAt line) s is = omega (arith, ap code_of is)
calm_checked_answers (OpenAt line) s is = omega (arith, ap code_of is)
calm_checked_answers TooLong s is = omega (arith, ap code_of is)
calm_checked_answers (NoDocument line column) s is = omega (arith, ap code_of is)
calm_checked_answers (Refused line column rule) s is = omega (arith, ap code_of is)
calm_checked_answers (Unreadable fault) s is = omega (arith, ap code_of is)

pub on_answers : (text : List ℕ) → (s : Status) × ((out : List ℕ) × AreAnswersTold text s out)
on_answers text =
    let x = some_finding text in
    let said = said_of x.0 in
    (status_said said, (said_text said, record { finding = x.0; is_found = x.1; is_said = (refl, refl) }))
