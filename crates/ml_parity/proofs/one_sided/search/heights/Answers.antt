-- Each turn adds one number to each row; rows with all numbers are heights, and where there are heights there is no even
-- cycle.
use Rattle.std.proofs.Common.{arith, ap, subst, refl}
use Rattle.ml_parity.specs.OneSided.{OneSidedGraph, IsOneSided, AreLongest}
use Rattle.ml_parity.specs.Refusal.{lists_of}
use Rattle.ml_parity.proofs.HeightTables.{longest_turn, longest_done, longest_heights, longest_low, heights_refuse}
use Rattle.ml_parity.proofs.one_sided.search.heights.Goals as goal

pub loop-half-preserved : goal.loop-half-preserved
loop-half-preserved c =
    longest_turn c.args.graph.now c.loop-half.half c.loop-half.rows.len c.loop-half.rows.items c.deref_mut.result.now
    c.append_column.new.rows _ c.in-Ok.column.items c.deref.result.now c.loop-half.rows.ok.0
    c.deref_mut.ensures.value c.deref.ensures.value c.loop-half.invariant (rw c.in-Ok.is at c.in_ok-column.ensures)
    c.in_ok-append_column-in-Ok.ensures

-- the rows have all numbers
done : (c : goal.After-drop-ends-5) → AreLongest c.args.graph.now (lists_of c.loop-half.rows.items)
done c =
    longest_done c.args.graph.now c.loop-half.half (lists_of c.loop-half.rows.items)
    (let top = ap (λ (g : OneSidedGraph). g.top) c.graph.view_is in
    omega (arith, top, c.loop-half-test.false, c.loop-half.auto.half-end)) c.loop-half.invariant

pub returns-clause-heights : goal.returns-clause-heights
returns-clause-heights c = longest_heights c.args.graph.now (lists_of c.loop-half.rows.items)
    (subst IsOneSided c.graph.view_is c.graph.invariant) (done c)

pub returns-clause-low : goal.returns-clause-low
returns-clause-low c = longest_low c.args.graph.now (lists_of c.loop-half.rows.items)
    (subst IsOneSided c.graph.view_is c.graph.invariant) (done c)

pub returns-clause-where_no_cycle : goal.returns-clause-where_no_cycle
returns-clause-where_no_cycle c = (
  (λ ok cycle. heights_refuse c.args.graph.now (lists_of c.loop-half.rows.items)
      (longest_heights c.args.graph.now (lists_of c.loop-half.rows.items)
      (subst IsOneSided c.graph.view_is c.graph.invariant) (done c)) cycle.arcs cycle.is_even),
  (λ none. refl),
)

pub returns-clause-where_a_cycle : goal.returns-clause-where_a_cycle
returns-clause-where_a_cycle c = (
  (λ wrong. absurd (cc)),
  (λ cycle. absurd (heights_refuse c.args.graph.now (lists_of c.loop-half.rows.items)
      (longest_heights c.args.graph.now (lists_of c.loop-half.rows.items)
      (subst IsOneSided c.graph.view_is c.graph.invariant) (done c)) cycle.arcs cycle.is_even)),
)
