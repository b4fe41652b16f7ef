-- The top comes behind all lists, and lists are compared by their first numbers.
use Rattle.ml_progress.specs.Measure.{measure_at}
use Rattle.ml_progress.proofs.CutLevels.{top_first, top_second, both_rows}
use Rattle.ml_progress.proofs.lifting.is_cut_before.Goals as goal

pub returns-then-is_top : goal.returns-then-is_top
returns-then-is_top c = λ bs fits.
    top_first c.args.cut bs (measure_at c.args.table.now.rows c.args.first) (measure_at c.args.table.now.rows c.args.second)
    (c.is_top.ensures.0 c.if-is_top.true) (fits c.args.second c.requires.second)

pub returns-then-is_top-2 : goal.returns-then-is_top-2
returns-then-is_top-2 c = λ bs fits.
    top_second c.args.cut bs (measure_at c.args.table.now.rows c.args.first)
    (measure_at c.args.table.now.rows c.args.second)
    (λ top. let is = c.is_top.ensures.1 top in let isnt = c.if-is_top.false in absurd (cc))
    (c.is_top-2.ensures.0 c.if-is_top-2.true) (fits c.args.first c.requires.first)

pub returns : goal.returns
returns c = λ bs fits.
    both_rows c.args.cut bs (measure_at c.args.table.now.rows c.args.first)
    (measure_at c.args.table.now.rows c.args.second) c.row.result.now c.row-2.result.now c.comes_before.result
    c.row.ensures.row c.row-2.ensures.row (fits c.args.first c.requires.first) (fits c.args.second c.requires.second)
    c.comes_before.ensures
