use Rattle.std.proofs.Common.{◌≡◌, [], ◌++◌, get_or, map, sym, ap, ◌∙◌, arith}
use Rattle.std.proofs.lemmas.List.{get_or-map, length-map}
use Rattle.ml_labelled.specs.LabelledText.{state_text}
use Rattle.ml_labelled.specs.private.Views.{edge_of, edges_in, rows_of}
use Rattle.ml_lists.proofs.WrittenParts.{rows_done, rows_more}
use Rattle.ml_labelled.proofs.writing.write_states.Goals as goal

pub loop-state-preserved : goal.loop-state-preserved
loop-state-preserved c =
    let l = c.loop-state in
    let rows = rows_of c.args.rows.now in
    let long = length-map c.args.rows.now edges_in in
    let row : map edge_of c.deref.result.now ≡ get_or rows l.state [] =
    ap (map edge_of) c.deref.ensures.value ∙ ap edges_in c.index-rows-state.is
    ∙ sym (get_or-map edges_in c.args.rows.now l.state c.index-rows-state.result [] c.loop-state-test.true) in
    rows_more state_text rows l.state [] c.args.out.now.items l.out.items c.write_state.new.out.items
    (omega arith) l.invariant
    (c.in_ok-write_state.ensures ∙ ap (λ edges. l.out.items ++ state_text (l.state, edges)) row)

pub returns : goal.returns
returns c =
    let l = c.loop-state in
    let long = length-map c.args.rows.now edges_in in
    rows_done state_text (rows_of c.args.rows.now) l.state c.args.out.now.items l.out.items (omega arith) l.invariant
