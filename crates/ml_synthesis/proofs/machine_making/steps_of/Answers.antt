-- One set of inputs more.
use Rattle.std.proofs.Common.{◌≡◌, ◌+◌, ◌++◌, ◌/◌, [], ◌∷◌, sym, subst}
use Rattle.std.proofs.lemmas.List.{map_push}
use Rattle.ml_synthesis.specs.Synthesis.{nexts}
use Rattle.ml_synthesis.specs.declared.machines.MachineStep.{MachineStep}
use Rattle.ml_synthesis.specs.private.Numbered.{AreStepsAt, IsRowMet}
use Rattle.ml_synthesis.proofs.Choices.{vertex_low}
use Rattle.ml_synthesis.proofs.MachineSteps.{rows_joined, steps_more, steps_none}
use Rattle.ml_synthesis.proofs.RowsMet.{row_none}
use Rattle.ml_synthesis.proofs.machine_making.steps_of.Goals as goal

pub loop-ins-init : goal.loop-ins-init
loop-ins-init c =
    let a = c.args.arena.now in
    let ks = c.args.states.now.keys in
    let none = sym c.in_ok-row.ensures.items in (
      subst (AreStepsAt a.input_sets a.base a.arrivals.keys a.game c.args.solution.now.choice ks c.args.state 0) none
          (steps_none a.input_sets a.base a.arrivals.keys a.game c.args.solution.now.choice ks c.args.state),
      subst (λ xs. IsRowMet 0 (a.base / a.input_sets) ks (nexts xs) ks) none
          (row_none 0 (a.base / a.input_sets) ks c.requires.numbers),
    )

pub step_at-requires-clause-numbers : goal.step_at-requires-clause-numbers
step_at-requires-clause-numbers c = c.loop-ins.invariant.1.numbers

pub step_at-requires-clause-vertex : goal.step_at-requires-clause-vertex
step_at-requires-clause-vertex c =
    let a = c.args.arena.now in
    vertex_low a.input_sets a.base a.arrivals.keys a.game c.args.solution.now c.requires.solved c.args.state
    c.loop-ins.ins c.requires.state c.loop-ins-test.true

pub loop-ins-preserved : goal.loop-ins-preserved
loop-ins-preserved c =
    let a = c.args.arena.now in
    let l = c.loop-ins in
    let ks = c.args.states.now.keys in
    let js = l.states.keys in
    let hs = c.step_at.new.states.keys in
    let x = c.in_ok-step_at.field-0 in
    let grown : c.push.new.self.items ≡ l.row.items ++ x ∷ [] = c.in_ok-push.ensures.items in
    let pushed = sym grown in (
      subst (AreStepsAt a.input_sets a.base a.arrivals.keys a.game c.args.solution.now.choice hs c.args.state
          (l.ins + 1)) pushed
          (steps_more a.input_sets a.base a.arrivals.keys a.game c.args.solution.now.choice (a.base / a.input_sets) js
          hs c.args.state l.ins l.row.items x l.invariant.0 c.in_ok-step_at.ensures.met c.in_ok-step_at.ensures.step),
      subst (λ xs. IsRowMet 0 (a.base / a.input_sets) ks (nexts xs) hs) pushed
          (subst (λ row. IsRowMet 0 (a.base / a.input_sets) ks row hs)
          (sym (map_push (λ (y : MachineStep). y.next) l.row.items x))
          (rows_joined 0 (a.base / a.input_sets) ks (nexts l.row.items) js (x.next ∷ []) hs l.invariant.1
          c.in_ok-step_at.ensures.met)),
    )
