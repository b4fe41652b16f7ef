-- What is written of a right outcome is found right.
--
--   right_fits      == a right outcome has the inputs and outputs of its task
--   right_holds     == so what is written of it is found right
--   made_small      == for a machine that is found in the game of a task the automaton isn't too large
--   made_holds, defeated_holds == so what is found in the game of a task
use Rattle.std.proofs.Common.{ℕ, ◌≤◌, true, arith}
use Rattle.ml_graph.specs.Graph.{size}
use Rattle.ml_machine_check.specs.Checked.{IsLarge, most_nodes}
use Rattle.ml_machine_check.proofs.WordsRead.{not_large}
use Rattle.ml_realize.specs.Realizing.{IsRight}
use Rattle.ml_realize.specs.TaskGame.{IsFound}
use Rattle.ml_realize.proofs.RightOutcomes.{found_right}
use Rattle.ml_realize_text.specs.ReadText.{Fits}
use Rattle.ml_realize_text.proofs.WrittenDocuments.{written_reads_back}
use Rattle.ml_synthesis.specs.Machines.{MachineTable}
use Rattle.ml_synthesis.specs.declared.outcome.Outcome.{Outcome}
use Rattle.ml_synthesis.specs.declared.outcome.Outcome.TheVariants as outcome
use Rattle.ml_task.specs.Task.{Task}
use Rattle.ml_machine_text.specs.Laws.{DefeatedHolds, MadeHolds, RightHolds}
use Rattle.ml_machine_text.proofs.FewStates.{found_few}

pub right_fits : (t : Task) (r : Outcome) → IsRight t r → Fits t r
right_fits t (outcome.Made m) right = right.fits
right_fits t (outcome.Defeated e) right = right.fits

pub right_holds : RightHolds
right_holds t r is well right few small =
    (t, r, written_reads_back t r is well (right_fits t r right) few, (small, right))

-- the automaton of the game is that of the check, and has fewer nodes
pub made_small : (t : Task) (limit : ℕ) (m : MachineTable)
    → IsFound t limit (outcome.Made m)
    → ¬ (IsLarge t (outcome.Made m))
made_small t limit m found =
    let few : size found.reading.automaton.graph ≤ most_nodes = let low = found.few in omega (arith, low) in
    not_large t true found.reading.automaton found.reading.is_automaton few

pub made_holds : MadeHolds
made_holds t limit m is well found low =
    let few = found_few t limit (outcome.Made m) found in
    right_holds t (outcome.Made m) is well (found_right t limit (outcome.Made m) is found) (omega (arith, low, few))
    (made_small t limit m found)

pub defeated_holds : DefeatedHolds
defeated_holds t limit e is well found low small =
    let few = found_few t limit (outcome.Defeated e) found in
    right_holds t (outcome.Defeated e) is well (found_right t limit (outcome.Defeated e) is found) (omega (arith, low, few)) small
