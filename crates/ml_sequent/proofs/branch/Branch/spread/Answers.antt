use Rattle.std.proofs.Common.{sym, subst}
use Rattle.ml_lists.specs.Ascending.{IsAscending}
use Rattle.ml_lists.proofs.Ascending.{ascending-is}
use Rattle.ml_sequent.proofs.branch.Branch.spread.Goals as goal

pub of-requires : goal.of-requires
of-requires c = subst IsAscending (sym c.in_ok-nodes.ensures) (ascending-is c.self.inside.trail.nodes)
