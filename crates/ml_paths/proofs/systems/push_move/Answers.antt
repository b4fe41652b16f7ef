use Rattle.ml_paths.proofs.Moves.{table_push}
use Rattle.ml_paths.proofs.systems.push_move.Goals as goal

pub returns : goal.returns
returns c =
    table_push c.args.system.now.items c.args.from c.push.new.self c.index_mut.result.now c.index_mut.result.now
    c.args.step c.requires c.index_mut.ensures.value c.in_ok-push.ensures.items
