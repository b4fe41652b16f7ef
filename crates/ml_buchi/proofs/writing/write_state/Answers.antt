use Rattle.std.proofs.Common.{◌++◌, ◌∙◌, append_assoc}
use Rattle.std.specs.List.{flat_map, enumerate_from}
use Rattle.ml_lines.specs.Lines.{line_text}
use Rattle.ml_hoa.specs.WrittenLines.{state_line}
use Rattle.ml_buchi.specs.WrittenText.{move_text}
use Rattle.ml_lists.proofs.WrittenParts.{rows_done, rows_more}
use Rattle.ml_buchi.proofs.writing.write_state.Goals as goal

pub loop-valuation-preserved : goal.loop-valuation-preserved
loop-valuation-preserved c =
    let l = c.loop-valuation in
    let start = line_text (state_line c.args.state) in
    rows_more (move_text c.args.props) c.args.moves.now l.valuation (record { priority = 0; to = 0 })
    (c.args.out.now.items ++ start) l.out.items c.write_move.new.out.items c.loop-valuation-test.true l.invariant
    c.in_ok-write_move.ensures

pub returns : goal.returns
returns c =
    let l = c.loop-valuation in
    let start = line_text (state_line c.args.state) in
    rows_done (move_text c.args.props) c.args.moves.now l.valuation (c.args.out.now.items ++ start) l.out.items
    c.loop-valuation-test.false l.invariant
    ∙ append_assoc c.args.out.now.items start (flat_map (move_text c.args.props) (enumerate_from 0 c.args.moves.now))
