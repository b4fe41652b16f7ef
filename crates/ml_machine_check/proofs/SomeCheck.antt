-- Something is found of each machine and each environment with the inputs and outputs of a task.
--
--   some_steps, some_replies == the moves from a state, listed
--   some_table    == so the moves from all states
--   some_found    == what is found of the words of a system
--   some_check    == so of a machine, and of an environment
use Rattle.std.proofs.Common.{ℕ, zero, suc, ◌≡◌, ◌+◌, ◌^◌, ◌<◌, ◌≤◌, ◌⊎◌, ⊎_elim, arith, Bool, true, false, List, [], ◌∷◌, ◌++◌, length, get_or}
use Rattle.std.proofs.Common.{refl, sym, ap, ◌∙◌, subst, length-append}
use Rattle.std.proofs.lemmas.Bool.{cases_lt}
use Rattle.ml_emptiness.specs.Emptiness.{IsAccepted, IsEmpty}
use Rattle.ml_emptiness.specs.Systems.{IsSystem, SystemTable}
use Rattle.ml_emptiness.specs.declared.systems.Move.{Move}
use Rattle.ml_emptiness.proofs.SomeLasso.{some_lasso}
use Rattle.ml_graph.specs.Graph.{size}
use Rattle.ml_word_automaton.proofs.Listed.{some_automaton}
use Rattle.ml_lists.specs.Lasso.{Lasso}
use Rattle.ml_realize.specs.Realizing.{inputs_of, outputs_of}
use Rattle.ml_realize.specs.TaskGame.{IsRowOf}
use Rattle.ml_realize.proofs.SomeReadings.{some_row}
use Rattle.ml_synthesis.specs.Machines.{EnvironmentFits, EnvironmentGoes, EnvironmentTable, MachineFits, MachineGoes, MachineTable, play_at, valuation}
use Rattle.ml_synthesis.specs.declared.machines.MachineStep.{MachineStep}
use Rattle.ml_synthesis.specs.declared.outcome.Outcome.TheVariants as outcome
use Rattle.ml_task.specs.Task.{IsTask, Task, names_of}
use Rattle.ml_trace.specs.WordAutomata.{WordLasso}
use Rattle.ml_trace.specs.declared.letters.Transition.{Transition}
use Rattle.ml_word_automaton.specs.Letters.{Automaton, IsAutomatonOf}
use Rattle.ml_word_automaton.proofs.BlockGraphs.{one_size}
use Rattle.ml_machine_check.specs.Checked.{most_nodes}
use Rattle.ml_machine_check.specs.Laws.{SomeCheck}
use Rattle.ml_machine_check.specs.declared.found.MachineVerdict.{MachineVerdict}
use Rattle.ml_machine_check.specs.declared.found.MachineVerdict.TheVariants.{ClosureTooLarge, Fails, Holds}
use Rattle.ml_machine_check.specs.private.AsSystems.{AreMoves, AreMovesOf, IsFoundIn, IsReply, IsStep, step_in}
use Rattle.ml_machine_check.proofs.AsSystems.{checked_environment, checked_machine, environment_is, machine_is, move, of_more, of_none, reply_goes, reply_more, reply_none, step_goes, step_more, step_none}
use Rattle.ml_machine_check.proofs.WordsRead.{found_sought, none_sought, not_large}

-- ---- systems

some_steps : (i : ℕ) (steps : List MachineStep) (n : ℕ) → (moves : List Move) × AreMoves (IsStep i steps n) moves
some_steps i steps zero = ([], step_none i steps)
some_steps i steps (suc n) =
    let before = some_steps i steps n in
    let new = move (valuation i n (step_in steps n).give) (step_in steps n).next in
    let one : n + 1 ≡ suc n = omega arith in (
      before.0 ++ new ∷ [],
      subst (λ k. AreMoves (IsStep i steps k) (before.0 ++ new ∷ [])) one
          (step_more i steps n before.0 new before.1 refl),
    )

some_replies : (i play : ℕ) (next : List ℕ) (n : ℕ) → (moves : List Move) × AreMoves (IsReply i play next n) moves
some_replies i play next zero = ([], reply_none i play next)
some_replies i play next (suc n) =
    let before = some_replies i play next n in
    let new = move (valuation i play n) (get_or next n 0) in
    let one : n + 1 ≡ suc n = omega arith in (
      before.0 ++ new ∷ [],
      subst (λ k. AreMoves (IsReply i play next k) (before.0 ++ new ∷ [])) one
          (reply_more i play next n before.0 new before.1 refl),
    )

some_table : (goes : ℕ → ℕ → ℕ → Type 0) (n : ℕ)
    → ((a : ℕ) → a < n → (moves : List Move) × AreMoves (goes a) moves)
    → (s : SystemTable) × AreMovesOf goes n s
some_table goes zero each = ([], of_none goes)
some_table goes (suc n) each =
    let before = some_table goes n (λ a low. each a (omega (arith, low))) in
    let here = each n (omega arith) in
    let one : n + 1 ≡ suc n = omega arith in (
      before.0 ++ here.0 ∷ [],
      subst (λ k. AreMovesOf goes k (before.0 ++ here.0 ∷ [])) one
          (of_more goes n before.0 here.0 before.1 here.1),
    )

machine_table : (i o : ℕ) (m : MachineTable) → MachineFits i o m
    → (s : SystemTable) × AreMovesOf (MachineGoes i m) (length m) s
machine_table i o m fits = some_table (MachineGoes i m) (length m) (λ a low.
    let steps = get_or m a [] in
    let x = some_steps i steps (length steps) in
    (x.0, step_goes i m a steps x.0 refl (fits.a_step_each a low) x.1))

environment_table : (i o : ℕ) (e : EnvironmentTable) → EnvironmentFits i o e
    → (s : SystemTable) × AreMovesOf (EnvironmentGoes i o e) (length e.plays) s
environment_table i o e fits = some_table (EnvironmentGoes i o e) (length e.plays) (λ a low.
    let next = get_or e.next a [] in
    let x = some_replies i (play_at e a) next (length next) in
    (x.0, reply_goes i o e a (play_at e a) next x.0 refl refl (fits.a_next_each a low) x.1))

-- ---- what is found

module _ (t : Task) (ok : IsTask t) (negated : Bool) (s : SystemTable)
    (sys : IsSystem (2 ^ (inputs_of t + outputs_of t)) s) where
  module _ (a : Automaton) (row : List (List Transition)) (is : IsAutomatonOf a t.formula negated)
      (is_row : IsRowOf (names_of t) a row) where
    in_row : IsSystem (length row) s
    in_row =
        subst (λ n. IsSystem n s) (sym (is_row.one_each ∙ ap (λ k. 2 ^ k) (length-append t.inputs t.outputs))) sys

    found_with : size a.graph ≤ most_nodes → (c : MachineVerdict) × IsFoundIn t negated s c
    found_with few =
        ⊎_elim
        (λ (found : (lasso : Lasso) × ((w : WordLasso ℕ) × IsAccepted row s lasso w)). (
          Fails found.1.0,
          (
            not_large t negated a is few,
            (
              found.0,
              found.1.1.is_word,
              found_sought t ok negated a row is is_row s sys found.0 found.1.0 found.1.1,
            ),
          ),
        ))
        (λ (empty : IsEmpty row s).
        (Holds, (not_large t negated a is few, none_sought t ok negated a row is is_row s sys empty)))
        (some_lasso row s in_row)

  some_found : (c : MachineVerdict) × IsFoundIn t negated s c
  some_found =
      let a = some_automaton t.formula negated in
      let row = some_row (names_of t) t.formula negated a.0 a.1 in
      ⊎_elim
      (λ (large : most_nodes < size a.0.graph).
      (ClosureTooLarge, (one_size t.formula negated a.0.graph most_nodes a.1.is_graph).1 large))
      (λ (few : size a.0.graph ≤ most_nodes). found_with a.0 row.0 a.1 row.1 few)
      (cases_lt most_nodes (size a.0.graph))

pub some_check : SomeCheck
some_check t (outcome.Made m) ok fits =
    let s = machine_table (inputs_of t) (outputs_of t) m fits in
    let x = some_found t ok true s.0 (machine_is (inputs_of t) (outputs_of t) m fits s.0 s.1) in
    (x.0, checked_machine t ok s.0 m fits s.1 x.0 x.1)
some_check t (outcome.Defeated e) ok fits =
    let s = environment_table (inputs_of t) (outputs_of t) e fits in
    let x = some_found t ok false s.0 (environment_is (inputs_of t) (outputs_of t) e fits s.0 s.1) in
    (x.0, checked_environment t ok s.0 e fits s.1 x.0 x.1)
