-- A walk, which meets one node more or has one less to meet at each turn.
use Rattle.std.proofs.Common.{◌+◌, ◌*◌, length}
use Rattle.ml_word_automaton.specs.private.Walking.{IsWalk, moves, onward, unseen}
use Rattle.ml_word_automaton.proofs.letters.walk_from.Given as goal

abbrev pub invariant-loop-n : goal.invariant-loop-n
invariant-loop-n l =
    IsWalk (onward l.reading.graph.now l.reading.present.now) (moves l.reading.graph.now l.reading.numbers.now l.state)
    l.state l.start l.initial.seen.items l.initial.transitions.items l.seen.items l.waiting.items l.transitions.items

abbrev pub decreases-loop-n : goal.decreases-loop-n
decreases-loop-n l = 2 * unseen l.state l.seen.items + length l.waiting.items
