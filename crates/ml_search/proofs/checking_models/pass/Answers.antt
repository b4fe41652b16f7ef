use Rattle.std.proofs.Common.{arith}
use Rattle.std.proofs.lemmas.Grind.{common_steps}
use Rattle.ml_search.proofs.Reached.{reached_more}
use Rattle.ml_search.proofs.checking_models.pass.Goals as goal

pub returns-then-flags-edge-clause-reached : goal.returns-then-flags-edge-clause-reached
returns-then-flags-edge-clause-reached c =
    reached_more c.args._structure.now c.args._start c.args.flags.now _ c.args.edge.now c.requires.reached
    c.requires.member c.if-flags-edge.true (λ t other. grind (arith, common_steps))
