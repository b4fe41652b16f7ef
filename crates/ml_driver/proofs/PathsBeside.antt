-- What is due for `path`, beside what is due for `check-model`.
--
--   paths_show_what_holds == where a document has the sense of its path problem
--   paths_show_what_fails == where it has the other one
use Rattle.std.proofs.Common.{ℕ, ◌≡◌, ◌≢◌, ◌↔◌, ◌∙◌, List, inl, inr, refl, ap, sym, arith}
use Rattle.ml_model_check.specs.declared.checked.Checked.{Checked}
use Rattle.ml_model_check.specs.declared.checked.Checked.TheVariants as checked
use Rattle.ml_path_text.specs.Laws.{IsPath, NeitherIsLarge}
use Rattle.ml_path_text.specs.declared.finding.PathFinding.{PathFinding}
use Rattle.ml_path_text.specs.declared.finding.PathFinding.TheVariants.{ClosureTooLarge, NoPath, NotAWord, NotTotal, Path, Unreadable}
use Rattle.ml_path_text.proofs.BesideChecking.{found_where_it_fails, found_where_it_holds}
use Rattle.ml_driver.specs.Codes.{code_of}
use Rattle.ml_driver.specs.Laws.{PathsShowWhatFails, PathsShowWhatHolds}
use Rattle.ml_driver.specs.Paths.{IsPathTold, path_told}
use Rattle.ml_driver.specs.Run.{IsChecked}
use Rattle.ml_driver.specs.Said.{status_said}
use Rattle.ml_driver.specs.Statuses.{model_said}
use Rattle.ml_driver.specs.declared.status.Status.{Status}
use Rattle.ml_driver.specs.declared.status.Status.TheVariants.{Yes, No, Undecided, Text}

-- a status that goes with what is found tells it

path_yes : (x : PathFinding) (s : Status) → s ≡ (path_told x).0 → (s ≡ Yes) ↔ IsPath x
path_yes (Path written) s is = (λ yes. tt, λ path. is)
path_yes NoPath s is = (λ yes. absurd (omega (arith, ap code_of (sym is ∙ yes))), λ path. absurd path)
path_yes ClosureTooLarge s is = (λ yes. absurd (omega (arith, ap code_of (sym is ∙ yes))), λ path. absurd path)
path_yes (NotTotal state) s is = (λ yes. absurd (omega (arith, ap code_of (sym is ∙ yes))), λ path. absurd path)
path_yes (NotAWord state) s is = (λ yes. absurd (omega (arith, ap code_of (sym is ∙ yes))), λ path. absurd path)
path_yes (Unreadable fault) s is = (λ yes. absurd (omega (arith, ap code_of (sym is ∙ yes))), λ path. absurd path)

abbrev code_said : Checked → ℕ
code_said c = code_of (status_said (model_said c))

holds_said : (c : Checked) → code_said c ≡ 0 → c ≡ checked.Holds
holds_said checked.Holds is = refl
holds_said c is = absurd (omega (arith, is))

fails_said : (c : Checked) → code_said c ≡ 1 → c ≡ checked.Fails
fails_said checked.Fails is = refl
fails_said c is = absurd (omega (arith, is))

checked_yes : (c : Checked) (t : Status) → t ≡ status_said (model_said c) → (t ≡ Yes) ↔ (c ≡ checked.Holds)
checked_yes c t is = (
  λ yes. holds_said c (ap code_of (sym is ∙ yes)),
  λ holds. is ∙ ap (λ d. status_said (model_said d)) holds,
)

checked_no : (c : Checked) (t : Status) → t ≡ status_said (model_said c) → (t ≡ No) ↔ (c ≡ checked.Fails)
checked_no c t is = (
  λ no. fails_said c (ap code_of (sym is ∙ no)),
  λ fails. is ∙ ap (λ d. status_said (model_said d)) fails,
)

through : {A B C D : Type 0} → A ↔ B → B ↔ C → D ↔ C → A ↔ D
through a b c = (λ x. c.1 (b.0 (a.0 x)), λ y. a.1 (b.1 (c.0 y)))

neither_large : (text : List ℕ) (s t : Status) (out line : List ℕ) (x : IsPathTold text s out) (y : IsChecked text t line)
    → s ≢ Undecided
    → t ≢ Undecided
    → NeitherIsLarge x.finding y.finding
neither_large text s t out line x y known decided = record {
  few_found = λ large. known (x.status_is ∙ ap (λ f. (path_told f).0) large);
  few_checked = λ large. decided (y.is_said.0 ∙ ap (λ c. status_said (model_said c)) large);
}

-- an input that is too long is refused by both
both_refused : (s t u : Status) → u ≢ Text → s ≡ Text → t ≡ Text → (s ≡ Yes) ↔ (t ≡ u)
both_refused s t u other is also = (
  λ yes. absurd (omega (arith, ap code_of (sym is ∙ yes))),
  λ same. absurd (other (sym same ∙ also)),
)

pub paths_show_what_holds : PathsShowWhatHolds
paths_show_what_holds text p m start f negated s t out line asks same (inl x) (inl y) known decided =
    through (path_yes x.1.finding s x.1.status_is)
    (found_where_it_holds text p m start f negated x.1.finding y.1.finding asks x.1.is_found y.1.is_found
    (neither_large text s t out line x.1 y.1 known decided) same)
    (checked_yes y.1.finding t y.1.is_said.0)
paths_show_what_holds text p m start f negated s t out line asks same (inl x) (inr y) known decided = absurd (y.0 x.0)
paths_show_what_holds text p m start f negated s t out line asks same (inr x) (inl y) known decided = absurd (x.0 y.0)
paths_show_what_holds text p m start f negated s t out line asks same (inr x) (inr y) known decided =
    both_refused s t Yes (λ is. omega (arith, ap code_of is)) x.1.0 y.1.0

pub paths_show_what_fails : PathsShowWhatFails
paths_show_what_fails text p m start f negated s t out line asks other (inl x) (inl y) known decided =
    through (path_yes x.1.finding s x.1.status_is)
    (found_where_it_fails text p m start f negated x.1.finding y.1.finding asks x.1.is_found y.1.is_found
    (neither_large text s t out line x.1 y.1 known decided) other)
    (checked_no y.1.finding t y.1.is_said.0)
paths_show_what_fails text p m start f negated s t out line asks other (inl x) (inr y) known decided = absurd (y.0 x.0)
paths_show_what_fails text p m start f negated s t out line asks other (inr x) (inl y) known decided = absurd (x.0 y.0)
paths_show_what_fails text p m start f negated s t out line asks other (inr x) (inr y) known decided =
    both_refused s t No (λ is. omega (arith, ap code_of is)) x.1.0 y.1.0
