-- The row is written at its place.
use Rattle.std.proofs.Common.{◌*◌, ◌++◌, ◌∙◌, Some, ap, arith, drop, length, sym, subst, take}
use Rattle.ml_progress.specs.Measure.{IsBelow}
use Rattle.ml_progress.proofs.FlatTables.{row_within, row_handed, wide_is}
use Rattle.ml_progress.proofs.table.Table.raise.Goals as goal

pub overflow_mul-start : goal.overflow_mul-start
overflow_mul-start c =
    let within = row_within c.self.inside.width c.self.inside.numbers.items c.self.inside.tops.items c.args.self.now
    (record { is = c.self.view_is; long = c.self.invariant }) c.args.vertex c.requires.low in
    omega arith

pub write_row-requires : goal.write_row-requires
write_row-requires c =
    let within = row_within c.self.inside.width c.self.inside.numbers.items c.self.inside.tops.items c.args.self.now
    (record { is = c.self.view_is; long = c.self.invariant }) c.args.vertex c.requires.low in
    omega (
      arith,
      ap length c.deref_mut.ensures.value,
      c.requires.long,
      wide_is c.self.inside.width c.self.inside.numbers.items c.self.inside.tops.items c.args.self.now
          (record { is = c.self.view_is; long = c.self.invariant }) c.args.vertex c.requires.low,
    )

pub returns-clause-raised : goal.returns-clause-raised
returns-clause-raised c = (
  subst (λ o. IsBelow o (Some c.args.row.now)) (sym c.row.ensures.row)
      (c.comes_before.ensures.0 c.if-not-comes_before.false),
  row_handed c.self.inside.width c.self.inside.numbers.items c.self.inside.tops.items c.args.self.now
      (record { is = c.self.view_is; long = c.self.invariant }) c.args.vertex c.requires.low
      c.self.inside.numbers.len c.write_row.new.numbers c.args.row.now c.self.inside.numbers.ok.0
      (c.write_row.ensures
      ∙ ap (λ xs. take (c.args.vertex * c.self.inside.width) xs
      ++ (c.args.row.now ++ drop (length c.args.row.now) (drop (c.args.vertex * c.self.inside.width) xs)))
      c.deref_mut.ensures.value)
      c.requires.long
      (λ top. let is = c.is_top.ensures.1 top in let isnt = c.if-is_top.false in absurd (cc)),
)
