-- The flag tells, and is set.
use Rattle.std.proofs.Common.{arith, refl}
use Rattle.ml_progress.proofs.FlatTables.{low_top, top_below, listed_below, top_written}
use Rattle.ml_progress.proofs.table.Table.raise_to_top.Goals as goal

pub index-requires : goal.index-requires
index-requires c =
    let low = low_top c.self.inside.width c.self.inside.numbers.items c.self.inside.tops.items c.args.self.now
    (record { is = c.self.view_is; long = c.self.invariant }) c.args.vertex c.requires in
    omega arith

pub index_mut-requires : goal.index_mut-requires
index_mut-requires c =
    let low = low_top c.self.inside.width c.self.inside.numbers.items c.self.inside.tops.items c.args.self.now
    (record { is = c.self.view_is; long = c.self.invariant }) c.args.vertex c.requires in
    omega arith

pub returns-then-index-clause-raised : goal.returns-then-index-clause-raised
returns-then-index-clause-raised c = (
  top_below c.self.inside.width c.self.inside.numbers.items c.self.inside.tops.items c.args.self.now
      (record { is = c.self.view_is; long = c.self.invariant }) c.args.vertex c.requires c.index.result.now
      c.index.ensures c.if-index.true,
  refl,
)

pub returns-clause-raised : goal.returns-clause-raised
returns-clause-raised c = (
  listed_below c.self.inside.width c.self.inside.numbers.items c.self.inside.tops.items c.args.self.now
      (record { is = c.self.view_is; long = c.self.invariant }) c.args.vertex c.requires c.index.result.now
      c.index.ensures c.if-index.false,
  top_written c.self.inside.width c.self.inside.numbers.items c.self.inside.tops.items c.args.self.now
      (record { is = c.self.view_is; long = c.self.invariant }) c.args.vertex c.requires,
)
