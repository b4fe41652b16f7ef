-- The flag tells.
use Rattle.std.proofs.Common.{arith}
use Rattle.ml_progress.proofs.FlatTables.{low_top, top_read}
use Rattle.ml_progress.proofs.table.Table.is_top.Goals as goal

pub index-requires : goal.index-requires
index-requires c =
    let low = low_top c.self.inside.width c.self.inside.numbers.items c.self.inside.tops.items c.args.self.now
    (record { is = c.self.view_is; long = c.self.invariant }) c.args.vertex c.requires in
    omega arith

pub returns : goal.returns
returns c =
    top_read c.self.inside.width c.self.inside.numbers.items c.self.inside.tops.items c.args.self.now
    (record { is = c.self.view_is; long = c.self.invariant }) c.args.vertex c.requires c.index.result.now c.index.ensures
