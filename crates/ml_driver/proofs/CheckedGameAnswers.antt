-- What is the answer to `check-game`: exactly one status, with one output, but for the vertex that is named with the fourth
-- rule.
--
--   one_game_check  == one answer at most
--   on_checked_game == some status is the answer, with some output
--   one_check_due   == one is due
--   solutions_are_accepted == the solution that is due for `solve-game` is accepted
use Rattle.std.proofs.Common.{◌≡◌, ◌≢◌, ℕ, ◌≤◌, ◌⊎◌, ⊎_elim, List, ◌++◌, length, length-append, Some, refl, sym, ap, subst, ◌∙◌, inl, inr, arith}
use Rattle.ml_pgsolver.specs.CheckedText.{IsCheckRefusedBy, IsFoundIn}
use Rattle.ml_pgsolver.specs.Laws.{NamesFour as FindsFour}
use Rattle.ml_pgsolver.specs.declared.limits.TheConstants.{LONGEST_CHECKED_TEXT}
use Rattle.ml_pgsolver.specs.declared.finding.SolutionFinding.{SolutionFinding}
use Rattle.ml_pgsolver.specs.declared.finding.SolutionFinding.TheVariants.{Accepted}
use Rattle.ml_pgsolver.specs.declared.refusal.GameTextRefusal.{GameTextRefusal}
use Rattle.ml_pgsolver.specs.declared.refusal.GameTextRefusal.TheVariants as cause
use Rattle.ml_pgsolver.proofs.OneChecked.{one_check_refusal}
use Rattle.ml_pgsolver.proofs.OneFound.{found_or_refused, one_found, some_found}
use Rattle.ml_pgsolver.proofs.WrittenSolutions.{written_is_accepted}
use Rattle.ml_driver.proofs.GameAnswers.{game_line, told_cause}
use Rattle.ml_driver.proofs.InputLimits.{SomeAnswer, alike_due}
use Rattle.ml_driver.proofs.SolutionLengths.{solution_short}
use Rattle.ml_driver.specs.Codes.{code_of}
use Rattle.ml_driver.specs.CheckedGames.{IsGameChecked, finding_said, if_found, if_unread}
use Rattle.ml_driver.specs.Games.{game_refusal_line}
use Rattle.ml_driver.specs.Laws.{NamesFour, OneCheckDue, SolutionsAreAccepted}
use Rattle.ml_driver.specs.Said.{IsSaid, said_text, status_said}
use Rattle.ml_driver.specs.declared.command.Command.TheVariants.{CheckGame}
use Rattle.ml_driver.specs.declared.status.Status.{Status}
use Rattle.ml_driver.specs.declared.status.Status.TheVariants.{Text}

-- ---- one answer

abbrev pub Alike : Status → Status → List ℕ → List ℕ → Type 0
Alike s t out more = (s ≡ t) × ((out ≡ more) ⊎ (NamesFour out × NamesFour more))

same_finding : (f h : SolutionFinding) (s t : Status) (out more : List ℕ)
    → IsSaid (finding_said f) s out
    → IsSaid (finding_said h) t more
    → (f ≡ h) ⊎ (FindsFour f × FindsFour h)
    → Alike s t out more
same_finding f h s t out more x y (inl same) = (
  x.0 ∙ ap (λ k. status_said (finding_said k)) same ∙ sym y.0,
  inl (x.1 ∙ ap (λ k. said_text (finding_said k)) same ∙ sym y.1),
)
same_finding f h s t out more x y (inr (four, also)) = (
  x.0 ∙ ap (λ k. status_said (finding_said k)) four.1 ∙ sym (y.0 ∙ ap (λ k. status_said (finding_said k)) also.1),
  inr ((four.0, x.1 ∙ ap (λ k. said_text (finding_said k)) four.1), (also.0, y.1 ∙ ap (λ k. said_text (finding_said k)) also.1)),
)

found_or_unread : (text : List ℕ) (f : SolutionFinding) (e : GameTextRefusal) (out : List ℕ) → IsFoundIn text f
    → IsCheckRefusedBy text e
    → Some out ≡ game_refusal_line e
    → ⊥
found_or_unread text f e out x refused line = told_cause e out line (found_or_refused text f e x refused)

same_refusal : (e d : GameTextRefusal) (out more : List ℕ) → e ≡ d → Some out ≡ game_refusal_line e
    → Some more ≡ game_refusal_line d
    → out ≡ more
same_refusal e d out more same x y = let line = x ∙ ap game_refusal_line same ∙ sym y in cc

pub one_game_check : (text : List ℕ) (s t : Status) (out more : List ℕ)
    → IsGameChecked text s out
    → IsGameChecked text t more
    → Alike s t out more
one_game_check text s t out more (if_found f x said) (if_found h y also) =
    same_finding f h s t out more said also (one_found text f h x y)
one_game_check text s t out more (if_found f x said) (if_unread e refused is line) =
    absurd (found_or_unread text f e more x refused line)
one_game_check text s t out more (if_unread e refused is line) (if_found f x said) =
    absurd (found_or_unread text f e out x refused line)
one_game_check text s t out more (if_unread e x is line) (if_unread d y also other) = (
  is ∙ sym also,
  inl (same_refusal e d out more
      (one_check_refusal text e d (told_cause e out line) (told_cause d more other) x y) line other),
)

-- ---- some answer

pub on_checked_game : (text : List ℕ) → SomeAnswer CheckGame text
on_checked_game text =
    ⊎_elim
    (λ (found : (f : SolutionFinding) × IsFoundIn text f).
    let said = finding_said found.0 in
    (status_said said, (said_text said, if_found found.0 found.1 (refl, refl))))
    (λ (refused : (e : GameTextRefusal) × (e ≢ cause.NoMemory) × IsCheckRefusedBy text e).
    let line = game_line refused.0 refused.1 in
    (Text, (line.0, if_unread refused.0 refused.2 refl line.1)))
    (some_found text)

-- ---- what is due

pub solutions_are_accepted : SolutionsAreAccepted
solutions_are_accepted e text out (inr refused) = absurd (omega (arith, ap code_of refused.1.0))
solutions_are_accepted e text out (inl (within, x)) =
    let right = written_is_accepted text x.named x.solution x.is_read x.is_solution in
    let short = solution_short text x.named x.solution x.is_read in
    let long = ap length x.is_written in
    let all = length-append text out in
    let both : length (text ++ out) ≤ LONGEST_CHECKED_TEXT = omega (arith, within, short, long, all) in
    inl (
      both,
      if_found Accepted (subst (λ o. IsFoundIn (text ++ o) Accepted) (sym x.is_written) right.is_accepted) (refl, refl),
    )

pub one_check_due : OneCheckDue
one_check_due text s t out more x y =
    alike_due CheckGame text s t out more (Alike s t out more) (λ same line. (same, inl line))
    (one_game_check text s t out more) x y
