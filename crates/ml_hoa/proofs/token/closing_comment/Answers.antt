use Rattle.std.proofs.Common.{sym, ◌∙◌, arith}
use Rattle.ml_hoa.proofs.Closings.{comment_closes, comment_opens, comment_more, comment_none}
use Rattle.ml_hoa.proofs.token.closing_comment.Goals as goal

pub loop-at-preserved : goal.loop-at-preserved
loop-at-preserved c = record {
  within = omega arith;
  few = omega arith;
  same = c.loop-at.invariant.same
      ∙ comment_more c.args.text.now c.loop-at.at c.loop-at.open c.loop-at-test.true
      (sym c.is_pair.ensures ∙ c.if-is_pair.false) (sym c.is_pair-in-loop-at.ensures ∙ c.if-is_pair-2.false);
}

pub returns-clause-value : goal.returns-clause-value
returns-clause-value c = sym (c.loop-at.invariant.same ∙ comment_none c.args.text.now c.loop-at.open c.loop-at.at c.loop-at-test.false)

pub loop-at-preserved-then-is_pair : goal.loop-at-preserved-then-is_pair
loop-at-preserved-then-is_pair c = record {
  within = omega arith;
  few = omega arith;
  same = c.loop-at.invariant.same
      ∙ comment_closes c.args.text.now c.loop-at.at c.loop-at.open c.loop-at-test.true
      (sym c.is_pair.ensures ∙ c.if-is_pair.true) c.if-open-eq0.false;
}

pub loop-at-preserved-then-is_pair-2 : goal.loop-at-preserved-then-is_pair-2
loop-at-preserved-then-is_pair-2 c = record {
  within = omega arith;
  few = omega arith;
  same = c.loop-at.invariant.same
      ∙ comment_opens c.args.text.now c.loop-at.at c.loop-at.open c.loop-at-test.true
      (sym c.is_pair.ensures ∙ c.if-is_pair.false) (sym c.is_pair-in-loop-at.ensures ∙ c.if-is_pair-2.true);
}
