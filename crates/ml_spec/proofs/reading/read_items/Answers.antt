use Rattle.ml_spec.specs.Scan.{items_at}
use Rattle.ml_spec.proofs.reading.read_items.Goals as goal

pub returns-in-Ok : goal.returns-in-Ok
returns-in-Ok c =
    let read = c.in-Ok.ensures.read in
    c.items_of.ensures c.args.logic (items_at c.args.text.now c.args.from) read.statements read.is_read read.is_context.are_meant

pub returns-in-Err : goal.returns-in-Err
returns-in-Err c = c.in-Err.ensures.refused
