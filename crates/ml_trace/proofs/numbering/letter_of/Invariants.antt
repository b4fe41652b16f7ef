use Rattle.std.proofs.Common.{◌-◌, ◌≤◌, length, take}
use Rattle.ml_trace.specs.Automaton.{IsLetterOf}
use Rattle.ml_trace.proofs.numbering.letter_of.Given as goal

abbrev pub invariant-loop-done : goal.invariant-loop-done
invariant-loop-done l =
    (l.done ≤ length l.triples.items) × IsLetterOf l.odds (take l.done l.triples.items) l.transitions.items

abbrev pub decreases-loop-done : goal.decreases-loop-done
decreases-loop-done l = length l.triples.items - l.done
