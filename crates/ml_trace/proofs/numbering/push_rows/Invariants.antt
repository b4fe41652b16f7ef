use Rattle.std.proofs.Common.{◌≡◌, ◌++◌, map, take}
use Rattle.ml_trace.specs.private.LetterMoves.{plain_move, rows_below}
use Rattle.ml_trace.proofs.numbering.push_rows.Given as goal

abbrev pub invariant-loop-triple : goal.invariant-loop-triple
invariant-loop-triple l =
    l.transitions.items ≡ l.fn.transitions.items ++ map (plain_move l.odds) (take l.triple-index l.triples)

abbrev pub invariant-loop-j : goal.invariant-loop-j
invariant-loop-j l = l.transitions.items ≡ l.fn.transitions.items ++ rows_below l.odds l.triples l.j
