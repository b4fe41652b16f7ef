use Rattle.std.proofs.Common.{◌≡◌, [], ◌++◌, get_or, sym, ap, ◌∙◌, arith}
use Rattle.std.proofs.lemmas.List.{get_or-map, length-map}
use Rattle.std.specs.Global.{Vec}
use Rattle.ml_determinise.specs.Numbering.{rows_of}
use Rattle.ml_determinise.specs.declared.moves.DetMove.{DetMove}
use Rattle.ml_buchi.specs.WrittenText.{state_text}
use Rattle.ml_lists.proofs.WrittenParts.{rows_done, rows_more}
use Rattle.ml_buchi.proofs.writing.write_states.Goals as goal

pub loop-state-preserved : goal.loop-state-preserved
loop-state-preserved c =
    let l = c.loop-state in
    let rows = rows_of c.args.rows.now in
    let long = length-map c.args.rows.now (λ (moves : Vec DetMove). moves.items) in
    let row : c.deref.result.now ≡ get_or rows l.state [] =
    c.deref.ensures.value ∙ ap (λ (moves : Vec DetMove). moves.items) c.index-rows-state.is
    ∙ sym (get_or-map (λ (moves : Vec DetMove). moves.items) c.args.rows.now l.state c.index-rows-state.result []
    c.loop-state-test.true) in
    rows_more (state_text c.args.props) rows l.state [] c.args.out.now.items l.out.items c.write_state.new.out.items
    (omega arith) l.invariant
    (c.in_ok-write_state.ensures ∙ ap (λ moves. l.out.items ++ state_text c.args.props (l.state, moves)) row)

pub returns : goal.returns
returns c =
    let l = c.loop-state in
    let long = length-map c.args.rows.now (λ (moves : Vec DetMove). moves.items) in
    rows_done (state_text c.args.props) (rows_of c.args.rows.now) l.state c.args.out.now.items l.out.items (omega arith)
    l.invariant
