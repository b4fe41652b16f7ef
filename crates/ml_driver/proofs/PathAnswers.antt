-- What is the answer to `path`: exactly one status, of those that are no fault.
--
--   one_path_told == one status is the answer at most
--   calm_path     == it is no fault, and no want of memory
--   on_path       == some status is, with some output
--   path_confirmed == the document behind the lines of a path is confirmed
use Rattle.std.proofs.Common.{◌≡◌, ℕ, ◌≤◌, List, Some, Result, Ok, Err, IfOk, refl, sym, ap, subst, ◌∙◌, arith}
use Rattle.ml_path_text.specs.Found.{IsConfirmed as IsFoundConfirmed}
use Rattle.ml_path_text.specs.Laws.{AreAlike}
use Rattle.ml_path_text.specs.declared.finding.PathFinding.{PathFinding}
use Rattle.ml_path_text.specs.declared.finding.PathFinding.TheVariants.{ClosureTooLarge, NoPath, NotAWord, NotTotal, Path, Unreadable}
use Rattle.ml_path_text.proofs.OneFinding.{one_finding, some_finding}
use Rattle.ml_driver.specs.Codes.{code_of}
use Rattle.ml_driver.specs.Confirmed.{IsConfirmed}
use Rattle.ml_driver.specs.Paths.{IsPathTold, path_told}
use Rattle.ml_driver.specs.declared.command.Command.TheVariants as command
use Rattle.ml_driver.specs.declared.status.Status.{Status}

alike_told : (x y : PathFinding) → AreAlike x y → (path_told x).0 ≡ (path_told y).0
alike_told (Path a) (Path b) alike = refl
alike_told x y alike = ap (λ z. (path_told z).0) alike

pub one_path_told : (text : List ℕ) (s t : Status) (out more : List ℕ) → IsPathTold text s out → IsPathTold text t more
    → s ≡ t
one_path_told text s t out more x y =
    x.status_is
    ∙ alike_told x.finding y.finding (one_finding text x.finding y.finding x.is_found y.is_found)
    ∙ sym y.status_is

pub calm_path : (x : PathFinding) (s : Status) → s ≡ (path_told x).0 → code_of s ≤ 4
calm_path (Path written) s is = omega (arith, ap code_of is)
calm_path NoPath s is = omega (arith, ap code_of is)
calm_path ClosureTooLarge s is = omega (arith, ap code_of is)
calm_path (NotTotal state) s is = omega (arith, ap code_of is)
calm_path (NotAWord state) s is = omega (arith, ap code_of is)
calm_path (Unreadable fault) s is = omega (arith, ap code_of is)

pub on_path : (text : List ℕ) → (s : Status) × ((out : List ℕ) × IsPathTold text s out)
on_path text =
    let x = some_finding text in
    let told = path_told x.0 in (
      told.0,
      (told.1, record { finding = x.0; is_found = x.1; status_is = refl; is_written = refl }),
    )

-- ---- what is confirmed

confirmed_as : (x : PathFinding) → IsFoundConfirmed x → IsConfirmed (Some command.Path) (path_told x).0 (path_told x).1
confirmed_as (Path written) (l, document, is, holds) = (l, record { document = document; stands = is; holds = holds })
confirmed_as NoPath x = tt
confirmed_as ClosureTooLarge x = tt
confirmed_as (NotTotal state) x = tt
confirmed_as (NotAWord state) x = tt
confirmed_as (Unreadable fault) x = tt

pub path_confirmed : (x : PathFinding) (s : Status) (out : List ℕ)
    → s ≡ (path_told x).0
    → out ≡ (path_told x).1
    → IsFoundConfirmed x
    → IsConfirmed (Some command.Path) s out
path_confirmed x s out status_is written confirmed =
    subst (λ t. IsConfirmed (Some command.Path) t out) (sym status_is)
    (subst (IsConfirmed (Some command.Path) (path_told x).0) (sym written) (confirmed_as x confirmed))

-- so it is of what comes of a call
pub confirmed_if_ok : {X Y : Type 0} (x : PathFinding) (r : Result X Y) (status : X → Status) (bytes : X → List ℕ)
    → IfOk r (λ o. status o ≡ (path_told x).0)
    → IfOk r (λ o. bytes o ≡ (path_told x).1)
    → IsFoundConfirmed x
    → IfOk r (λ o. IsConfirmed (Some command.Path) (status o) (bytes o))
confirmed_if_ok x (Ok o) status bytes is written confirmed =
    path_confirmed x (status o) (bytes o) is written confirmed
confirmed_if_ok x (Err e) status bytes is written confirmed = tt
