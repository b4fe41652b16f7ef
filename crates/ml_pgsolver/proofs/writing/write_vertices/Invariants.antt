use Rattle.std.proofs.Common.{◌≡◌, ◌++◌, drop}
use Rattle.ml_pgsolver.specs.SolutionText.{vertex_line}
use Rattle.ml_pgsolver.proofs.WrittenLines.{lines_from}
use Rattle.ml_pgsolver.proofs.writing.write_vertices.Given as goal

abbrev pub invariant-loop-place : goal.invariant-loop-place
invariant-loop-place l =
    let line = vertex_line l.ids l.owners (record { winner = l.winners; choice = l.choices }) in
    l.out.items ++ lines_from line l.place (drop l.place l.ids) ≡ l.fn.out.items ++ lines_from line 0 l.ids
