use Rattle.std.proofs.Common.{take}
use Rattle.std.proofs.lemmas.List.{take_all}
use Rattle.std.proofs.lemmas.Result.{on_ok_weaker}
use Rattle.ml_path_text.proofs.WrittenLines.{path_written}
use Rattle.ml_path_text.proofs.writing.write_path.Goals as goal

pub returns : goal.returns
returns c =
    let states = c.args.states.now in
    let taken = take c.loop-state.state-index states in
    on_ok_weaker c.end_line.result
    (path_written c.args.out.now.items c.loop-state.out.items c.end_line.new.out.items states taken c.loop-state.invariant
    (take_all c.loop-state.state-index states c.loop-state-test.false))
    c.end_line.ensures.ok
