-- What is the answer to `check-machine`: exactly one status, of those that are no fault.
--
--   one_machine_told == one status is the answer at most
--   calm_machine     == it is no fault, and no want of memory
--   on_machine       == some status is, with some output
--   word_confirmed   == the document of a word behind the line is confirmed
use Rattle.std.proofs.Common.{◌≡◌, ℕ, ◌≤◌, List, Some, Result, Ok, Err, IfOk, refl, sym, ap, subst, ◌∙◌, arith}
use Rattle.ml_machine_text.specs.Found.{IsConfirmed as IsFoundConfirmed}
use Rattle.ml_machine_text.specs.Laws.{AreAlike}
use Rattle.ml_machine_text.specs.declared.finding.MachineFinding.{MachineFinding}
use Rattle.ml_machine_text.specs.declared.finding.MachineFinding.TheVariants.{ClosureTooLarge, Fails, Holds, Unreadable}
use Rattle.ml_machine_text.proofs.OneFinding.{one_finding, some_finding}
use Rattle.ml_driver.specs.Codes.{code_of}
use Rattle.ml_driver.specs.CheckedMachines.{IsMachineTold, machine_told}
use Rattle.ml_driver.specs.Confirmed.{IsConfirmed}
use Rattle.ml_driver.specs.declared.command.Command.TheVariants.{CheckMachine}
use Rattle.ml_driver.specs.declared.status.Status.{Status}

alike_told : (x y : MachineFinding) → AreAlike x y → (machine_told x).0 ≡ (machine_told y).0
alike_told (Fails a) (Fails b) alike = refl
alike_told x y alike = ap (λ z. (machine_told z).0) alike

pub one_machine_told : (text : List ℕ) (s t : Status) (out more : List ℕ)
    → IsMachineTold text s out
    → IsMachineTold text t more
    → s ≡ t
one_machine_told text s t out more x y =
    x.status_is
    ∙ alike_told x.finding y.finding (one_finding text x.finding y.finding x.is_found y.is_found)
    ∙ sym y.status_is

pub calm_machine : (x : MachineFinding) (s : Status) → s ≡ (machine_told x).0 → code_of s ≤ 4
calm_machine Holds s is = omega (arith, ap code_of is)
calm_machine (Fails document) s is = omega (arith, ap code_of is)
calm_machine ClosureTooLarge s is = omega (arith, ap code_of is)
calm_machine (Unreadable fault) s is = omega (arith, ap code_of is)

pub on_machine : (text : List ℕ) → (s : Status) × ((out : List ℕ) × IsMachineTold text s out)
on_machine text =
    let x = some_finding text in
    let told = machine_told x.0 in (
      told.0,
      (told.1, record { finding = x.0; is_found = x.1; status_is = refl; is_written = refl }),
    )

-- ---- what is confirmed

confirmed_as : (x : MachineFinding) → IsFoundConfirmed x → IsConfirmed (Some CheckMachine) (machine_told x).0 (machine_told x).1
confirmed_as Holds x = tt
confirmed_as (Fails document) x = record { document = document; stands = refl; holds = x }
confirmed_as ClosureTooLarge x = tt
confirmed_as (Unreadable fault) x = tt

pub word_confirmed : (x : MachineFinding) (s : Status) (out : List ℕ)
    → s ≡ (machine_told x).0
    → out ≡ (machine_told x).1
    → IsFoundConfirmed x
    → IsConfirmed (Some CheckMachine) s out
word_confirmed x s out status_is written confirmed =
    subst (λ t. IsConfirmed (Some CheckMachine) t out) (sym status_is)
    (subst (IsConfirmed (Some CheckMachine) (machine_told x).0) (sym written) (confirmed_as x confirmed))

-- so it is of what comes of a call
pub confirmed_if_ok : {X Y : Type 0} (x : MachineFinding) (r : Result X Y) (status : X → Status) (bytes : X → List ℕ)
    → IfOk r (λ o. status o ≡ (machine_told x).0)
    → IfOk r (λ o. bytes o ≡ (machine_told x).1)
    → IsFoundConfirmed x
    → IfOk r (λ o. IsConfirmed (Some CheckMachine) (status o) (bytes o))
confirmed_if_ok x (Ok o) status bytes is written confirmed =
    word_confirmed x (status o) (bytes o) is written confirmed
confirmed_if_ok x (Err e) status bytes is written confirmed = tt
