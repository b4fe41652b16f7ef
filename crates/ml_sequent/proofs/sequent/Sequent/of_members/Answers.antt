use Rattle.std.proofs.Common.{sym, subst}
use Rattle.ml_lists.specs.Ascending.{IsAscending}
use Rattle.ml_lists.proofs.Ascending.{ascending-is}
use Rattle.ml_sequent.proofs.sequent.Sequent.of_members.Goals as goal

pub invariant_of-result : goal.invariant_of-result
invariant_of-result c = subst IsAscending (sym c.ascending.ensures) (ascending-is c.args.nodes.items)
