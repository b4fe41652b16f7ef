use Rattle.std.proofs.Common.{ℕ, ◌∙◌, ap, arith}
use Rattle.ml_word_graph.proofs.Values.{connective_value}
use Rattle.ml_word_check.specs.private.Truths.{at}
use Rattle.ml_word_check.proofs.Changes.{one_changed}
use Rattle.ml_word_check.proofs.truths.join.Goals as goal

pub loop-i-preserved : goal.loop-i-preserved
loop-i-preserved c =
    let value = λ (i : ℕ). connective_value c.args.operator (at c.args.left.now i) (at c.args.right.now i) in
    one_changed value c.args.left.now c.loop-i.left c.loop-i.i c.joined.result c.loop-i.invariant c.loop-i-test.true
    (c.joined.ensures
    ∙ ap (λ x. connective_value c.args.operator x (at c.args.right.now c.loop-i.i))
    (c.loop-i.invariant.rest c.loop-i.i (omega arith)))
