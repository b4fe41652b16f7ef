-- What `check-machine` answers of the documents that are due for `realize` and `make`.
--
--   make_is_checked    == of those of `make`
--   realize_is_checked == and of those of `realize`, which are due for `make` too
use Rattle.std.proofs.Common.{ℕ, ◌≡◌, ◌<◌, ◌^◌, false, List, Some, inl, inr, refl, sym, subst, arith}
use Rattle.ml_blocks.specs.Closures.{HasMoreThan}
use Rattle.ml_ctl.specs.WellFormed.{IsWellFormed}
use Rattle.ml_ctl.specs.declared.language.Language.TheVariants.{Ltl}
use Rattle.ml_ctl.proofs.Parsed.{parsed_well}
use Rattle.ml_machine_check.specs.Checked.{IsLarge, most_nodes}
use Rattle.ml_machine_text.specs.Found.{IsFoundIn}
use Rattle.ml_machine_text.specs.declared.finding.MachineFinding.{MachineFinding}
use Rattle.ml_machine_text.specs.declared.finding.MachineFinding.TheVariants.{ClosureTooLarge, Holds}
use Rattle.ml_machine_text.proofs.FewStates.{found_few}
use Rattle.ml_machine_text.proofs.RightOutcomes.{made_small, right_fits, right_holds}
use Rattle.ml_make.specs.Making.{IsAnswer}
use Rattle.ml_realize.specs.Realizing.{IsRight}
use Rattle.ml_realize_text.specs.ReadText.{states_of}
use Rattle.ml_realize_text.specs.RealizeText.{outcome_text}
use Rattle.ml_realize_text.proofs.WrittenDocuments.{written_reads_back}
use Rattle.ml_synthesis.specs.Machines.{MachineTable}
use Rattle.ml_synthesis.specs.declared.outcome.Outcome.{Outcome}
use Rattle.ml_synthesis.specs.declared.outcome.Outcome.TheVariants.{Defeated, Made}
use Rattle.ml_task.specs.Task.{IsTask, Task}
use Rattle.ml_task.specs.TaskText.{IsTaskText}
use Rattle.ml_task.proofs.OneAnswer.{one_task}
use Rattle.ml_word_automaton.specs.WordAutomaton.{start_block}
use Rattle.ml_driver.specs.CheckedMachines.{machine_told}
use Rattle.ml_driver.specs.Laws.{IsFoundToWork, IsLargeTask, IsLeftUnchecked, MakeIsChecked, RealizeIsChecked}
use Rattle.ml_driver.specs.Tasks.{IsMadeOf}
use Rattle.ml_driver.specs.Run.{IsDue, IsWhole}
use Rattle.ml_decide.specs.declared.way.Way.TheVariants.{Search}
use Rattle.ml_driver.specs.declared.command.Command.TheVariants.{CheckMachine, Make}
use Rattle.ml_driver.specs.declared.status.Status.TheVariants.{Yes, No}
use Rattle.ml_driver.proofs.InputLimits.{answer_due}
use Rattle.ml_driver.proofs.TaskAnswers.{makes_as_realized}

-- ---- the document of an outcome that is right

module _ (t : Task) (r : Outcome) (out : List ℕ)
    (is : IsTask t) (well : IsWellFormed Ltl t.formula) (right : IsRight t r) (few : states_of r < 2 ^ 32)
    (written : out ≡ outcome_text t r) (whole : IsWhole out) where
  told : (x : MachineFinding) → IsFoundIn (outcome_text t r) x → IsDue (Some CheckMachine) out (machine_told x).0 (machine_told x).1
  told x found =
      inl (
        whole,
        record {
          finding = x;
          is_found = subst (λ o. IsFoundIn o x) (sym written) found;
          status_is = refl;
          is_written = refl;
        },
      )

  works : ¬ (IsLarge t r) → IsFoundToWork out
  works small = told Holds (right_holds t r is well right few small)

  unchecked : IsLarge t r → IsLeftUnchecked out
  unchecked large = told ClosureTooLarge (t, r, written_reads_back t r is well (right_fits t r right) few, large)

-- ---- what is made

answer_few : (t : Task) (n : ℕ) (r : Outcome) → n < 2 ^ 32 → IsAnswer t n r → states_of r < 2 ^ 32
answer_few t n r low (inl confirmed) = confirmed.few
answer_few t n r low (inr found) = let few = found_few t n r found in omega (arith, low, few)

machine_small : (t : Task) (n : ℕ) (m : MachineTable) → IsAnswer t n (Made m) → ¬ (IsLarge t (Made m))
machine_small t n m (inl confirmed) = confirmed.holds.0
machine_small t n m (inr found) = made_small t n m found

formula_well : (text : List ℕ) (t : Task) → IsTaskText text t → IsWellFormed Ltl t.formula
formula_well text t x = parsed_well Ltl x.formula_text t.formula x.is_parsed

-- the document of an outcome that is made for the task of a text
module _ (n : ℕ) (text out : List ℕ) (low : n < 2 ^ 32) (whole : IsWhole out)
    (t : Task) (r : Outcome) (is : IsTaskText text t) (made : IsMadeOf Search t n r out) where
  made_works : ¬ (IsLarge t r) → IsFoundToWork out
  made_works =
      works t r out is.is_task (formula_well text t is) made.is_right (answer_few t n r low made.is_found) made.is_written whole

  made_unchecked : IsLarge t r → IsLeftUnchecked out
  made_unchecked =
      unchecked t r out is.is_task (formula_well text t is) made.is_right (answer_few t n r low made.is_found) made.is_written
      whole

pub make_is_checked : MakeIsChecked
make_is_checked n text out low whole = (with_machine, with_environment, too_large)
  where
    with_machine : IsDue (Some (Make n)) text Yes out → IsFoundToWork out
    with_machine due =
        let x = answer_due (Make n) text Yes out (λ is. cc) due in
        made_works n text out low whole x.meant (Made x.is_so.0) x.is_meant x.is_so.1
        (machine_small x.meant n x.is_so.0 x.is_so.1.is_found)

    with_environment : IsDue (Some (Make n)) text No out → ¬ (IsLargeTask text) → IsFoundToWork out
    with_environment due small =
        let x = answer_due (Make n) text No out (λ is. cc) due in
        made_works n text out low whole x.meant (Defeated x.is_so.0) x.is_meant x.is_so.1
        (λ large. small (record { meant = x.meant; is_meant = x.is_meant; is_so = large }))

    too_large : IsDue (Some (Make n)) text No out → IsLargeTask text → IsLeftUnchecked out
    too_large due large =
        let x = answer_due (Make n) text No out (λ is. cc) due in
        made_unchecked n text out low whole x.meant (Defeated x.is_so.0) x.is_meant x.is_so.1
        (subst (λ (t : Task). HasMoreThan (start_block t.formula false) most_nodes)
        (one_task text large.meant x.meant large.is_meant x.is_meant) large.is_so)

pub realize_is_checked : RealizeIsChecked
realize_is_checked n text out low whole =
    let made = make_is_checked n text out low whole in (
      λ due. made.0 ((makes_as_realized n text Yes out).0 due),
      λ due. made.1 ((makes_as_realized n text No out).0 due),
      λ due. made.2 ((makes_as_realized n text No out).0 due),
    )
