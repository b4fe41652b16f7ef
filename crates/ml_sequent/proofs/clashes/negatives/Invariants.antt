use Rattle.std.proofs.Common.{ℕ, ◌≡◌, length, get_or, take, None}
use Rattle.ml_sequent.specs.private.Tests.{HasNegatives}
use Rattle.ml_sequent.proofs.clashes.negatives.Given as goal

abbrev pub invariant-loop : goal.invariant-loop
invariant-loop l = record { sized : length l.firsts.items ≡ l.index; none : (p : ℕ) → get_or l.firsts.items p None ≡ None }

abbrev pub invariant-loop-node : goal.invariant-loop-node
invariant-loop-node l = HasNegatives l.graph (take l.node-index l.nodes) l.firsts.items
