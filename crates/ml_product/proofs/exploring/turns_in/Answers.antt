use Rattle.std.proofs.Common.{[], sym, subst}
use Rattle.ml_product.specs.private.Exploring.{AreWaiting}
use Rattle.ml_product.proofs.exploring.turns_in.Goals as goal

pub turns-requires-clause-waiting : goal.turns-requires-clause-waiting
turns-requires-clause-waiting c =
    subst (λ g. AreWaiting g c.args.pool.now [] []) (sym c.in_ok-branch.ensures.graph) c.requires.waiting
