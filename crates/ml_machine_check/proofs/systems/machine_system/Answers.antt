use Rattle.std.proofs.Common.{◌+◌, ◌∙◌, ap, length, sym, subst}
use Rattle.ml_emptiness.specs.Systems.{table_of}
use Rattle.ml_synthesis.specs.Machines.{MachineGoes}
use Rattle.ml_machine_check.specs.private.AsSystems.{AreMovesOf}
use Rattle.ml_machine_check.proofs.AsSystems.{of_more, step_goes}
use Rattle.ml_machine_check.proofs.ReadRows.{row_at, row_low, steps_give, steps_long, table_more}
use Rattle.ml_machine_check.proofs.systems.machine_system.Goals as goal

pub step_moves-requires-clause-long : goal.step_moves-requires-clause-long
step_moves-requires-clause-long c =
    let m = c.args.machine.now in
    let all = c.steps-steps-items.result.now in
    let a = c.loop-steps.steps-index in
    let v = c.steps-item.result in
    let at = row_at all m a v c.steps-steps-items.ensures c.loop-steps-test.true c.steps-item.is in
    let low = row_low all m a v c.steps-steps-items.ensures c.loop-steps-test.true c.steps-item.is in
    steps_long c.args.inputs c.args._outputs m a c.deref.result.now c.requires.few c.requires.fits low
    (at ∙ sym c.deref.ensures.value)

pub step_moves-requires-clause-gives : goal.step_moves-requires-clause-gives
step_moves-requires-clause-gives c =
    let m = c.args.machine.now in
    let all = c.steps-steps-items.result.now in
    let a = c.loop-steps.steps-index in
    let v = c.steps-item.result in
    let at = row_at all m a v c.steps-steps-items.ensures c.loop-steps-test.true c.steps-item.is in
    let low = row_low all m a v c.steps-steps-items.ensures c.loop-steps-test.true c.steps-item.is in
    steps_give c.args.inputs c.args._outputs m a c.deref.result.now c.requires.few c.requires.fits low
    (at ∙ sym c.deref.ensures.value)

pub loop-steps-preserved : goal.loop-steps-preserved
loop-steps-preserved c =
    let m = c.args.machine.now in
    let all = c.steps-steps-items.result.now in
    let a = c.loop-steps.steps-index in
    let v = c.steps-item.result in
    let system = c.loop-steps.system.items in
    let moves = c.in_ok-step_moves.field-0 in
    let at = row_at all m a v c.steps-steps-items.ensures c.loop-steps-test.true c.steps-item.is in
    let low = row_low all m a v c.steps-steps-items.ensures c.loop-steps-test.true c.steps-item.is in
    subst (AreMovesOf (MachineGoes c.args.inputs m) (a + 1))
    (sym (ap table_of c.in_ok-push.ensures.items ∙ table_more system moves))
    (of_more (MachineGoes c.args.inputs m) a (table_of system) moves.items c.loop-steps.invariant
    (step_goes c.args.inputs m a c.deref.result.now moves.items (at ∙ sym c.deref.ensures.value)
    (sym (ap length (at ∙ sym c.deref.ensures.value)) ∙ c.requires.fits.a_step_each a low) c.in_ok-step_moves.ensures))
