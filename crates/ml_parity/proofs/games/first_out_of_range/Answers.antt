-- The test of one vertex is about the vector that stands there.
use Rattle.std.proofs.Common.{arith, below_more, sym, ◌∙◌}
use Rattle.std.proofs.lemmas.Bool.{false≢true}
use Rattle.ml_parity.proofs.Refusals.{leaves-from, leaves-to}
use Rattle.ml_parity.proofs.games.first_out_of_range.Goals as goal

pub returns-then-has_entry_from : goal.returns-then-has_entry_from
returns-then-has_entry_from c = record {
  below = c.loop-vertex-test.true;
  holds = leaves-from c.args.successors.now c.loop-vertex.vertex c.args.size c.index-successors-vertex.result
      c.deref.result.now c.loop-vertex-test.true c.index-successors-vertex.is c.deref.ensures.value
      (c.has_entry_from.ensures.0 c.if-has_entry_from.true);
  before = c.loop-vertex.invariant;
}

pub loop-vertex-preserved : goal.loop-vertex-preserved
loop-vertex-preserved c =
    below_more _ _ c.loop-vertex.invariant
    (λ leaves. false≢true (sym c.if-has_entry_from.false
    ∙ c.has_entry_from.ensures.1 (leaves-to c.args.successors.now c.loop-vertex.vertex c.args.size
    c.index-successors-vertex.result c.deref.result.now c.loop-vertex-test.true c.index-successors-vertex.is
    c.deref.ensures.value leaves)))

pub returns : goal.returns
returns c = λ v low. c.loop-vertex.invariant v (omega arith)
