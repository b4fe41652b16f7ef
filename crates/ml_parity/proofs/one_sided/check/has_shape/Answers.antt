-- The rows are read one by one.
use Rattle.std.proofs.Common.{ap, sym, ◌∙◌, ◌/◌, ◌+◌}
use Rattle.ml_parity.specs.OneSided.{OneSidedGraph}
use Rattle.ml_parity.proofs.HeightRows.{row_more, no_shape_by_row}
use Rattle.ml_parity.proofs.one_sided.check.has_shape.Goals as goal

pub returns-then-len-count : goal.returns-then-len-count
returns-then-len-count c = (
  (λ h. absurd (cc)),
  (λ shape. absurd (no_shape_by_row c.args.graph.now c.args.rows.now c.loop-row.row-index c.row-item.result
      c.loop-row-test.true c.row-item.is
      (λ e. c.if-len-count.true (c.len.ensures ∙ e ∙ sym (ap (λ (g : OneSidedGraph). g.top / 2 + 1) c.graph.view_is)))
      shape)),
)

pub loop-row-preserved : goal.loop-row-preserved
loop-row-preserved c = row_more c.args.rows.now (c.graph.inside.top / 2 + 1) c.loop-row.row-index c.row-item.result
    c.loop-row-test.true c.row-item.is (sym c.len.ensures ∙ c.if-len-count.false) c.loop-row.invariant
