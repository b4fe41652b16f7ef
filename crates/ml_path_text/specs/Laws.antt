-- What is true of the paths that are found of documents.
--
--   AreAlike x y        == x and y are the same, or both are a path
--   SomeFinding, OneFinding == something is found of each text, and one thing at most, up to which path is shown
--   PathsAreConfirmed   == whoever checks documents finds that the one behind the lines of a path holds, if the path has fewer
--                          than 2 ^ 32 places
--   TextsAreConfirmed   == so it is of what is told, if that has fewer than 2 ^ 32 bytes
--   IsPath x            == x is a path
--   NeitherIsLarge x c  == neither is a word automaton too large, nor a closure to check the document
--   FoundWhereItHolds   == where a document has the sense of its path problem, a path is found exactly where checking the
--                          document finds that its problem holds
--   FoundWhereItFails   == where it has the other sense, exactly where checking finds that it doesn't
use Rattle.std.specs.Prelude.{ℕ, ◌≡◌, ◌≢◌, ◌<◌, ◌^◌, ◌↔◌, Bool, List, length}
use Rattle.ml_base.specs.Structure.{Structure}
use Rattle.ml_ctl.specs.Formula.{Formula}
use Rattle.ml_ctl.specs.Paths.{places}
use Rattle.ml_lists.specs.Lasso.{Lasso}
use Rattle.ml_front.specs.declared.problem.Problem.{Problem}
use Rattle.ml_model_check.specs.Checked.{IsCheckedAs}
use Rattle.ml_model_check.specs.declared.checked.Checked.{Checked}
use Rattle.ml_model_check.specs.declared.checked.Checked.TheVariants as checked
use Rattle.ml_paths.specs.Paths.{IsShown}
use Rattle.ml_path_text.specs.Found.{Asks, IsConfirmedText, IsFoundIn}
use Rattle.ml_path_text.specs.WrittenPath.{path_document}
use Rattle.ml_path_text.specs.declared.finding.PathFinding.{PathFinding}
use Rattle.ml_path_text.specs.declared.finding.PathFinding.TheVariants.{ClosureTooLarge, Path}

abbrev pub AreAlike : PathFinding → PathFinding → Type 0
AreAlike (Path a) (Path b) = Unit {0}
AreAlike x y = x ≡ y

abbrev pub SomeFinding : Type 0
SomeFinding = (text : List ℕ) → (x : PathFinding) × IsFoundIn text x

abbrev pub OneFinding : Type 0
OneFinding = (text : List ℕ) (x y : PathFinding) → IsFoundIn text x → IsFoundIn text y → AreAlike x y

abbrev pub PathsAreConfirmed : Type 0
PathsAreConfirmed = (text : List ℕ) (p : Problem) (m : Structure) (s : ℕ) (f : Formula) (negated : Bool) (l : Lasso)
    → Asks text p m s f negated
    → IsShown m s f negated l
    → places l < 2 ^ 32
    → IsCheckedAs (path_document m l f negated) checked.Holds

abbrev pub TextsAreConfirmed : Type 0
TextsAreConfirmed = (text out : List ℕ) → IsFoundIn text (Path out) → length out < 2 ^ 32 → IsConfirmedText out

-- ---- beside checking

abbrev pub IsPath : PathFinding → Type 0
IsPath (Path a) = Unit {0}
IsPath _ = ⊥

pub record NeitherIsLarge (x : PathFinding) (c : Checked) : Type 0 where
  pub few_found : x ≢ ClosureTooLarge
  pub few_checked : c ≢ checked.ClosureTooLarge

abbrev pub FoundWhereItHolds : Type 0
FoundWhereItHolds =
    (text : List ℕ) (p : Problem) (m : Structure) (s : ℕ) (f : Formula) (negated : Bool) (x : PathFinding) (c : Checked)
    → Asks text p m s f negated
    → IsFoundIn text x
    → IsCheckedAs text c
    → NeitherIsLarge x c
    → p.negated ≡ negated
    → IsPath x ↔ (c ≡ checked.Holds)

abbrev pub FoundWhereItFails : Type 0
FoundWhereItFails =
    (text : List ℕ) (p : Problem) (m : Structure) (s : ℕ) (f : Formula) (negated : Bool) (x : PathFinding) (c : Checked)
    → Asks text p m s f negated
    → IsFoundIn text x
    → IsCheckedAs text c
    → NeitherIsLarge x c
    → p.negated ≢ negated
    → IsPath x ↔ (c ≡ checked.Fails)
