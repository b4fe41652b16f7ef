use Rattle.std.proofs.Common.{subst}
use Rattle.ml_history.specs.History.{IsSmallHistory}
use Rattle.ml_history.specs.private.Vertices.{joined}
use Rattle.ml_history.proofs.trees.SmallTrees.{kept_is_plain}
use Rattle.ml_history.proofs.tree.TreeHistory.keeps.Goals as goal

pub returns : goal.returns
returns c = subst IsSmallHistory c.self.view_is (kept_is_plain (joined c.self.inside.roots.items) c.self.invariant)
