use Rattle.std.proofs.Common.{◌≡◌, get_or, arith}
use Rattle.ml_sequent.specs.declared.parts.Stage.TheVariants.{New}
use Rattle.ml_sequent.proofs.Firsts.{none_of}
use Rattle.ml_sequent.proofs.parts.renew.Goals as goal

pub returns-clause-fresh : goal.returns-clause-fresh
returns-clause-fresh c =
    none_of c.args.nodes.now (λ n. get_or c.loop-node.stages.items n New ≡ New) c.loop-node.node-index (omega arith) c.loop-node.invariant.fresh
