-- What the program holds, as plain values.
--
--   edge_of e     == the edge that e holds
--   rows_of rows  == the edges of each state
--   held props rows == the automaton that is held
use Rattle.std.specs.Prelude.{ℕ, List, map}
use Rattle.std.specs.Global.{Vec}
use Rattle.ml_labelled.specs.Labelled.{Automaton, Edge}
use Rattle.ml_labelled.specs.declared.labelled.CubeEdge.{CubeEdge}

abbrev pub edge_of : CubeEdge → Edge
edge_of e = record { cube = e.cube.items; to = e.to; accepting = e.accepting }

abbrev pub edges_in : Vec CubeEdge → List Edge
edges_in row = map edge_of row.items

abbrev pub rows_of : List (Vec CubeEdge) → List (List Edge)
rows_of rows = map edges_in rows

abbrev pub held : List (List ℕ) → List (Vec CubeEdge) → Automaton
held props rows = record { props = props; edges = rows_of rows }
