use Rattle.std.proofs.Common.{◌≡◌, ◌++◌, take}
use Rattle.std.specs.List.{flat_map}
use Rattle.ml_trace.specs.private.LetterMoves.{move_at}
use Rattle.ml_trace.proofs.numbering.push_row.Given as goal

abbrev pub invariant-loop-triple : goal.invariant-loop-triple
invariant-loop-triple l =
    l.transitions.items ≡ l.fn.transitions.items ++ flat_map (move_at l.odds l.j) (take l.triple-index l.triples)
