use Rattle.ml_lists.specs.Member.{IsMember}
use Rattle.ml_lists.proofs.Member.{All-member}
use Rattle.ml_lists.proofs.Members.{All-read, next_holds}
use Rattle.ml_labelled.specs.declared.labelled.Literal.{Literal}
use Rattle.ml_labelled.proofs.trimming.has_all.Goals as goal

pub loop-literal-preserved : goal.loop-literal-preserved
loop-literal-preserved c =
    next_holds (λ (x : Literal). IsMember x c.args.cube.now) c.args.part.now c.loop-literal.literal-index _
    c.loop-literal-test.true (c.has.ensures c.if-not-has.false) c.loop-literal.invariant

pub returns : goal.returns
returns c = λ _ l m.
    All-member (λ (x : Literal). IsMember x c.args.cube.now) c.args.part.now
    (All-read (λ (x : Literal). IsMember x c.args.cube.now) c.args.part.now c.loop-literal.literal-index c.loop-literal-test.false
    c.loop-literal.invariant) l m
