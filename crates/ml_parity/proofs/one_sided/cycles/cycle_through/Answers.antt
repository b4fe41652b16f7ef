-- The walk back and the arc are the cycle.
use Rattle.std.proofs.Common.{sym, subst, refl}
use Rattle.ml_parity.specs.OneSided.{IsEvenCycle}
use Rattle.ml_parity.proofs.HeightSearches.{cycle_push}
use Rattle.ml_parity.proofs.one_sided.cycles.cycle_through.Goals as goal

pub returns : goal.returns
returns c =
    subst (IsEvenCycle c.args.graph.now) (sym c.in_ok-push.ensures.items)
    (cycle_push c.args.graph.now c.args.arc.priority c.args.arc c.in-Some.cycle.items c.requires.even
    c.requires.member refl (rw c.in-Some.is at c.in_ok-cycle.ensures))
