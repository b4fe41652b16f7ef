use Rattle.std.proofs.Common.{◌<◌, ◌∙◌, length, subst, sym}
use Rattle.ml_word_check.specs.private.Truths.{at, next_in}
use Rattle.ml_word_check.proofs.ValuesAround.{known_there, next_low, none_left, unknown_there}
use Rattle.ml_word_check.proofs.cycles.ahead.Goals as goal

pub returns-then-low-step : goal.returns-then-low-step
returns-then-low-step c =
    known_there c.args.cycle (next_in _ c.args.start) (at c.args.left.now) (at c.args.right.now) _ _ c.loop-looked._looked
    c.loop-looked.here c.loop-looked.invariant.same_value c.loop-looked-test.true c.step-low.result c.step.result
    c.step-low.ensures c.step.ensures c.if-low-step.true

pub loop-looked-preserved : goal.loop-looked-preserved
loop-looked-preserved c = record {
  inside = subst (λ i. i < length c.args.right.now) (sym c.next-here.ensures)
      (next_low (length c.args.right.now) c.args.start c.requires.start c.loop-looked.here c.loop-looked.invariant.inside);
  same_value =
      unknown_there c.args.cycle (next_in _ c.args.start) (at c.args.left.now) (at c.args.right.now) _ _
      c.loop-looked._looked c.loop-looked.here c.loop-looked.invariant.same_value c.loop-looked-test.true
      c.step-low.result c.step.result c.step-low.ensures c.step.ensures c.if-low-step.false c.next-here.result
      c.next-here.ensures;
}

pub returns : goal.returns
returns c =
    c.base.ensures
    ∙ none_left c.args.cycle (next_in _ c.args.start) (at c.args.left.now) (at c.args.right.now) _ _ c.loop-looked._looked
    c.loop-looked.here c.loop-looked.invariant.same_value c.loop-looked-test.false
