use Rattle.std.proofs.Common.{◌+◌, ◌∷◌, [], map, ap, sym, subst, ◌∙◌, arith}
use Rattle.std.proofs.lemmas.List.{map-append}
use Rattle.ml_lines.specs.Reading.{lines_of, words_of}
use Rattle.ml_kripke.proofs.BodyReads.{AreRowsTo, row_read, rows_room}
use Rattle.ml_kripke.proofs.BodyFaults.{state_refused, state_missing}
use Rattle.ml_kripke.proofs.read.read_rows.Goals as goal

pub overflow_add-at : goal.overflow_add-at
overflow_add-at c =
    let rows = map (λ row. row.items) c.loop-state.rows.items in
    omega (arith, rows_room c.args.text.now rows c.loop-state.state c.loop-state.rest.now c.loop-state.invariant, c.from.ensures)

pub returns-in-Err-clause-refused : goal.returns-in-Err-clause-refused
returns-in-Err-clause-refused c =
    let rows = map (λ row. row.items) c.loop-state.rows.items in
    state_refused c.args.states c.args.line c.at_line.result c.ranges.states.fits c.loop-state.state (c.args.line + c.from.result)
    c.args.text.now c.loop-state.rest.now rows (ap (λ i. c.args.line + i) c.from.ensures) c.loop-state.invariant c.loop-state-test.true
    (words_of c.in-Some.words.now) (lines_of c.in-Some.behind.now) c.in-Err.refusal c.in-Some.ensures.lines
    (c.in-Err.ensures.refused c.args.states) c.at_line.ensures

pub returns-in-None-clause-refused : goal.returns-in-None-clause-refused
returns-in-None-clause-refused c =
    let rows = map (λ row. row.items) c.loop-state.rows.items in
    state_missing c.args.states c.args.line c.fault.result c.ranges.states.fits c.loop-state.state (c.args.line + c.from.result)
    c.args.text.now c.loop-state.rest.now rows (ap (λ i. c.args.line + i) c.from.ensures) c.loop-state.invariant c.loop-state-test.true
    c.in-None.ensures.lines c.fault.ensures

pub loop-state-preserved : goal.loop-state-preserved
loop-state-preserved c =
    let rows = map (λ row. row.items) c.loop-state.rows.items in
    let behind = c.in-Some.behind.now in
    let read =
    row_read c.args.text.now rows c.loop-state.state c.loop-state.rest.now behind (words_of c.in-Some.words.now) c.in-Ok.labels.items
    c.loop-state.invariant c.in-Some.ensures.lines c.in-Some.ensures.left c.in-Some.ensures.shorter c.in-Ok.ensures.read in
    let pushed = ap (map (λ row. row.items)) c.in_ok-push-in-Ok.ensures.items in
    subst (λ rs. AreRowsTo c.args.text.now rs (c.loop-state.state + 1) behind)
    (sym (map-append (λ row. row.items) c.loop-state.rows.items (c.in-Ok.labels ∷ [])) ∙ sym pushed) read
