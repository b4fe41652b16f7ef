use Rattle.std.proofs.Common.{◌+◌, ◌∙◌, ap, get_or, sym, subst}
use Rattle.ml_emptiness.specs.Systems.{table_of}
use Rattle.ml_synthesis.specs.Machines.{EnvironmentGoes}
use Rattle.ml_machine_check.specs.private.AsSystems.{AreMovesOf}
use Rattle.ml_machine_check.proofs.AsSystems.{of_more, reply_goes}
use Rattle.ml_machine_check.proofs.ReadRows.{next_few, next_is, next_long, table_more}
use Rattle.ml_machine_check.proofs.systems.environment_system.Goals as goal

pub reply_moves-requires-clause-long : goal.reply_moves-requires-clause-long
reply_moves-requires-clause-long c =
    next_few c.args.inputs c.args.outputs c.args.environment.now c.requires.fits c.next-next.result.now
    c.plays-play-items.result.now c.loop-state.state c.index-next-state.result c.deref.result.now c.next-next.ensures
    c.plays-play-items.ensures c.loop-state-test.true c.index-next-state.is c.deref.ensures.value c.requires.few

pub loop-state-preserved : goal.loop-state-preserved
loop-state-preserved c =
    let e = c.args.environment.now in
    let i = c.args.inputs in
    let o = c.args.outputs in
    let a = c.loop-state.state in
    let plays = c.plays-play-items.result.now in
    let system = c.loop-state.system.items in
    let moves = c.in_ok-reply_moves.field-0 in
    let is = next_is i o e c.requires.fits c.next-next.result.now plays a c.index-next-state.result c.deref.result.now
    c.next-next.ensures c.plays-play-items.ensures c.loop-state-test.true c.index-next-state.is c.deref.ensures.value in
    let long = next_long i o e c.requires.fits c.next-next.result.now plays a c.index-next-state.result c.deref.result.now
    c.next-next.ensures c.plays-play-items.ensures c.loop-state-test.true c.index-next-state.is c.deref.ensures.value in
    subst (AreMovesOf (EnvironmentGoes i o e) (a + 1))
    (sym (ap table_of c.in_ok-push.ensures.items ∙ table_more system moves))
    (of_more (EnvironmentGoes i o e) a (table_of system) moves.items c.loop-state.invariant
    (reply_goes i o e a (get_or plays a 0) c.deref.result.now moves.items
    (ap (λ ps. get_or ps a 0) (sym c.plays-play-items.ensures)) is long c.in_ok-reply_moves.ensures))
