use Rattle.std.proofs.Common.{◌<◌}
use Rattle.ml_lists.proofs.Member.{All-member}
use Rattle.ml_lists.proofs.Members.{All-read, next_holds}
use Rattle.ml_labelled.specs.declared.labelled.Literal.{Literal}
use Rattle.ml_labelled.proofs.fitting.is_below.Goals as goal

pub returns : goal.returns
returns c = λ _ l m.
    All-member (λ (x : Literal). x.prop < c.args.props) c.args.cube.now
    (All-read (λ (x : Literal). x.prop < c.args.props) c.args.cube.now c.loop-literal.literal-index c.loop-literal-test.false
    c.loop-literal.invariant) l m

pub loop-literal-preserved : goal.loop-literal-preserved
loop-literal-preserved c =
    next_holds (λ (x : Literal). x.prop < c.args.props) c.args.cube.now c.loop-literal.literal-index _ c.loop-literal-test.true
    c.if-literal-props.false c.loop-literal.invariant
