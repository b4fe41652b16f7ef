use Rattle.std.proofs.Common.{arith}
use Rattle.ml_search.proofs.Reached.{reached_first}
use Rattle.ml_search.proofs.checking_models.all_reached.Goals as goal

pub reach-requires-clause-reached : goal.reach-requires-clause-reached
reach-requires-clause-reached c =
    reached_first c.args.structure.now c.args.start c.deref_mut.result.now
    (λ t flagged. grind (arith, c.in_ok-flags.ensures.one t))
