use Rattle.std.proofs.Common.{◌<◌, ◌++◌, ◌∙◌, ap, length, sym, subst}
use Rattle.ml_determinise.specs.Histories.{StaysBelow}
use Rattle.ml_task.specs.Task.{names_of, task_of}
use Rattle.ml_word_automaton.proofs.RowsAccept.{lead_to_states}
use Rattle.ml_realize.specs.TaskGame.{IsRowOf}
use Rattle.ml_realize.proofs.Found.{found, passes, right}
use Rattle.ml_realize.proofs.RightOutcomes.{stays_below}
use Rattle.ml_realize.proofs.realizing.realize.Goals as goal

pub play-requires-clause-some : goal.play-requires-clause-some
play-requires-clause-some c =
    subst (λ states. 0 < length states) (sym c.states.ensures.value)
    (lead_to_states c.in-Ok.automaton c.in-Ok.ensures.automaton.states).has_state

pub play-requires-clause-stays : goal.play-requires-clause-stays
play-requires-clause-stays c =
    let t = task_of c.args.task.now.inputs.items c.args.task.now.outputs.items c.args.task.now.formula in
    let a = c.in-Ok.automaton in
    let is_row =
    subst (λ outs. IsRowOf (t.inputs ++ outs) a c.in_ok-row.row.items) c.deref-2.ensures.value
    (subst (λ ins. IsRowOf (ins ++ c.deref-2.result.now) a c.in_ok-row.row.items) c.deref.ensures.value c.in_ok-row.ensures) in
    subst (λ row. StaysBelow (length c.states.result.now) row) (sym c.deref-3.ensures.value)
    (subst (λ states. StaysBelow (length states) c.in_ok-row.row.items) (sym c.states.ensures.value)
    (stays_below (names_of t) a c.in_ok-row.row.items is_row))

pub returns-in-Ok-play-clause-right : goal.returns-in-Ok-play-clause-right
returns-in-Ok-play-clause-right c =
    let t = task_of c.args.task.now.inputs.items c.args.task.now.outputs.items c.args.task.now.formula in
    let a = c.in-Ok.automaton in
    let row = c.in_ok-row.row.items in
    let is_row =
    subst (λ outs. IsRowOf (t.inputs ++ outs) a row) c.deref-2.ensures.value
    (subst (λ ins. IsRowOf (ins ++ c.deref-2.result.now) a row) c.deref.ensures.value c.in_ok-row.ensures) in
    right t c.args.task.now.is_task a c.in-Ok.ensures.automaton c.in-Ok.ensures.fits row c.deref-3.result.now is_row
    c.deref-3.ensures.value (length c.states.result.now) c.len.result c.len-2.result c.args.limit
    (ap length c.states.ensures.value) (c.len.ensures ∙ c.args.task.now.inputs.ok.0)
    (c.len-2.ensures ∙ c.args.task.now.outputs.ok.0) c.in-Ok-play.outcome c.in-Ok-play.ensures.played

pub returns-in-Ok-play-clause-found : goal.returns-in-Ok-play-clause-found
returns-in-Ok-play-clause-found c =
    let t = task_of c.args.task.now.inputs.items c.args.task.now.outputs.items c.args.task.now.formula in
    let a = c.in-Ok.automaton in
    let row = c.in_ok-row.row.items in
    let is_row =
    subst (λ outs. IsRowOf (t.inputs ++ outs) a row) c.deref-2.ensures.value
    (subst (λ ins. IsRowOf (ins ++ c.deref-2.result.now) a row) c.deref.ensures.value c.in_ok-row.ensures) in
    found t c.args.task.now.is_task a c.in-Ok.ensures.automaton c.in-Ok.ensures.fits row c.deref-3.result.now is_row
    c.deref-3.ensures.value (length c.states.result.now) c.len.result c.len-2.result c.args.limit
    (ap length c.states.ensures.value) (c.len.ensures ∙ c.args.task.now.inputs.ok.0)
    (c.len-2.ensures ∙ c.args.task.now.outputs.ok.0) c.in-Ok-play.outcome c.in-Ok-play.ensures.played

pub returns-clause-passed : goal.returns-clause-passed
returns-clause-passed c = λ passed.
    let t = task_of c.args.task.now.inputs.items c.args.task.now.outputs.items c.args.task.now.formula in
    let a = c.in-Ok.automaton in
    let row = c.in_ok-row.row.items in
    let is_row =
    subst (λ outs. IsRowOf (t.inputs ++ outs) a row) c.deref-2.ensures.value
    (subst (λ ins. IsRowOf (ins ++ c.deref-2.result.now) a row) c.deref.ensures.value c.in_ok-row.ensures) in
    passes t c.args.task.now.is_task a c.in-Ok.ensures.automaton c.in-Ok.ensures.fits row c.deref-3.result.now is_row
    c.deref-3.ensures.value (length c.states.result.now) c.len.result c.len-2.result c.args.limit
    (ap length c.states.ensures.value) (c.len.ensures ∙ c.args.task.now.inputs.ok.0)
    (c.len-2.ensures ∙ c.args.task.now.outputs.ok.0) (c.in-Err-play.ensures.passed passed)
