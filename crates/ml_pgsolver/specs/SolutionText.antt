-- The text of a solution.
--
--   paritysol N;     with N the greatest id
--   id w;            for each vertex, in ascending order of ids: its winner w, which is 0 for Even and 1 for Odd
--   id w m;          in place of this where the owner is the winner: m is the id of the vertex to move to
--
-- Each line ends with one LF; numbers are written without leading zeros.
--
--   player_number p             == 0 for Even, 1 for Odd
--   move_text o w m             == the part of a line that names the move to m, where the owner o is the winner w
--   line_of id o w m            == the line of a vertex
--   vertex_line ids owners s v  == the line of a vertex, given by its place and its id
--   head_line ids               == the first line
--   solution_text named s       == all lines
use Rattle.std.specs.Prelude.{ℕ, ◌-◌, List, [], ◌∷◌, ◌++◌, length, codes, get_or}
use Rattle.std.specs.List.{flat_map, enumerate_from}
use Rattle.ml_lines.specs.Lines.{number, next}
use Rattle.ml_parity.specs.declared.players.Player.{Player}
use Rattle.ml_parity.specs.declared.players.Player.TheVariants.{Even, Odd}
use Rattle.ml_parity.specs.Solution.{GameSolution, winner_at, choice_at}
use Rattle.ml_pgsolver.specs.GameText.{NamedGame, id_at}

abbrev pub player_number : Player → ℕ
player_number Even = 0
player_number Odd = 1

-- 59 is `;`, 10 the LF
abbrev pub line_end : List ℕ
line_end = 59 ∷ 10 ∷ []

abbrev pub move_text : Player → Player → ℕ → List ℕ
move_text Even Even m = next (number m)
move_text Odd Odd m = next (number m)
move_text owner winner m = []

abbrev pub line_of : ℕ → Player → Player → ℕ → List ℕ
line_of id owner winner m =
    number id ++ next (number (player_number winner)) ++ move_text owner winner m ++ line_end

abbrev pub vertex_line : List ℕ → List Player → GameSolution → ℕ × ℕ → List ℕ
vertex_line ids owners s v =
    line_of v.1 (get_or owners v.0 Even) (winner_at s.winner v.0) (id_at ids (choice_at s.choice v.0))

abbrev pub head_line : List ℕ → List ℕ
head_line ids = codes "paritysol" ++ next (number (id_at ids (length ids - 1))) ++ line_end

abbrev pub solution_text : NamedGame → GameSolution → List ℕ
solution_text named s =
    head_line named.ids ++ flat_map (vertex_line named.ids named.game.owner s) (enumerate_from 0 named.ids)
