use Rattle.ml_labelled.proofs.ReachedParts.{parts_joined}
use Rattle.ml_labelled.proofs.reducing.settled.Goals as goal

pub loop-next-preserved : goal.loop-next-preserved
loop-next-preserved c =
    parts_joined c.args.automaton c.loop-next.small c.in_ok-small-2.small c.loop-next.invariant
    (record {
      labelled = c.in_ok-small-2.ensures.labelled;
      same = c.in_ok-small-2.ensures.same;
      props = c.in_ok-small-2.ensures.props;
      reached = c.in_ok-small-2.ensures.reached;
      few = c.in_ok-small-2.ensures.few;
    })
