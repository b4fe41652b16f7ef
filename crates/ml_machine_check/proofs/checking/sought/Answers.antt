use Rattle.std.proofs.Common.{◌++◌, MatchOption, subst}
use Rattle.ml_emptiness.specs.Emptiness.{IsEmpty, IsFound}
use Rattle.ml_emptiness.specs.Systems.{table_of}
use Rattle.ml_realize.specs.TaskGame.{IsRowOf}
use Rattle.ml_task.specs.Task.{task_of}
use Rattle.ml_machine_check.proofs.WordsRead.{sought_of}
use Rattle.ml_machine_check.proofs.checking.sought.Goals as goal

pub returns : goal.returns
returns c =
    let t = task_of c.args.task.now.inputs.items c.args.task.now.outputs.items c.args.task.now.formula in
    let a = c.args.automaton.now in
    let s = table_of c.args.system.now in
    let row = c.in_ok-row.row.items in
    let is_row =
    subst (λ outs. IsRowOf (t.inputs ++ outs) a row) c.deref-2.ensures.value
    (subst (λ ins. IsRowOf (ins ++ c.deref-2.result.now) a row) c.deref.ensures.value c.in_ok-row.ensures) in
    sought_of t c.args.task.now.is_task c.args._negated a row c.requires.automaton is_row s c.requires.system
    c.in_ok-lasso.lasso
    (subst
    (λ all. MatchOption c.in_ok-lasso.lasso (IsEmpty all s)
    (λ l. IsFound all s l.states.items l.letters.items l.loop_start)) c.deref-3.ensures.value c.in_ok-lasso.ensures)
