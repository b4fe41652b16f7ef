use Rattle.std.proofs.Common.{◌≡◌, ◌++◌, map}
use Rattle.ml_parity.specs.Refusal.{lists_of}
use Rattle.ml_refutation.specs.Views.{decision_of}
use Rattle.ml_refute.specs.private.PutTogether.{ArePut}
use Rattle.ml_refute.specs.private.Tables.{AreNamedIn, entries_in}
use Rattle.ml_refute.proofs.making.entries_of.Given as goal

abbrev pub invariant-loop-decision : goal.invariant-loop-decision
invariant-loop-decision l =
    (goal.iterator-loop-decision).can_next l.decision-iterator
    × (goal.iterator-loop-decision).is_finite l.decision-iterator
    × ArePut l.game.graph.now l.game.arena.now l.found.vertices.keys (lists_of l.rows) (map decision_of l.yielded)
    (entries_in l.tables)
    × (l.yielded ++ l.decision-iterator.rest.items ≡ l.fn.found.decisions.items)
    × AreNamedIn l.tables
