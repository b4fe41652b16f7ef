-- The row is within the numbers, and is what the vertex has.
use Rattle.std.proofs.Common.{◌∙◌, arith, length-take, length-drop, take, drop, Some, ap, sym, ◌*◌, length}
use Rattle.ml_progress.proofs.FlatTables.{row_within, row_read, wide_is}
use Rattle.ml_progress.proofs.table.Table.row.Goals as goal

pub overflow_mul-vertex : goal.overflow_mul-vertex
overflow_mul-vertex c =
    let within = row_within c.self.inside.width c.self.inside.numbers.items c.self.inside.tops.items c.args.self.now
    (record { is = c.self.view_is; long = c.self.invariant }) c.args.vertex c.requires.low in
    omega (arith, c.deref.ensures.len)

pub row_from-requires : goal.row_from-requires
row_from-requires c =
    let within = row_within c.self.inside.width c.self.inside.numbers.items c.self.inside.tops.items c.args.self.now
    (record { is = c.self.view_is; long = c.self.invariant }) c.args.vertex c.requires.low in
    omega (arith, ap length c.deref.ensures.value)

pub returns-clause-row : goal.returns-clause-row
returns-clause-row c =
    row_read c.self.inside.width c.self.inside.numbers.items c.self.inside.tops.items c.args.self.now
    (record { is = c.self.view_is; long = c.self.invariant }) c.args.vertex c.requires.low c.requires.listed
    ∙ ap (λ xs. Some (take c.self.inside.width (drop (c.args.vertex * c.self.inside.width) xs))) (sym c.deref.ensures.value)
    ∙ ap Some (sym c.row_from.ensures)

pub returns-clause-long : goal.returns-clause-long
returns-clause-long c =
    let within = row_within c.self.inside.width c.self.inside.numbers.items c.self.inside.tops.items c.args.self.now
    (record { is = c.self.view_is; long = c.self.invariant }) c.args.vertex c.requires.low in
    omega (
      arith,
      ap length c.row_from.ensures,
      ap length c.deref.ensures.value,
      length-take c.self.inside.width (drop (c.args.vertex * c.self.inside.width) c.deref.result.now),
      length-drop (c.args.vertex * c.self.inside.width) c.deref.result.now,
      wide_is c.self.inside.width c.self.inside.numbers.items c.self.inside.tops.items c.args.self.now
          (record { is = c.self.view_is; long = c.self.invariant }) c.args.vertex c.requires.low,
    )
