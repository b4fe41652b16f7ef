-- Positions that Even's moves win, and where these moves end. Only private contracts cite this.
--
--   IsWon a s v        == v is the number of a position from which Even's moves win
--   sides_at a v       == how many sides are chosen at the position v
--   IsEnd g a v        == no or-node is open at the position v
--   GoesOn g a s v w   == an or-node is open at v, and Even's move leads to w, where one side more is chosen
--   IsChosenEnd g a s v w == from v Even's moves choose until no or-node is open, and come to w
--   AreBehind g a v ws == the positions to which the diamonds of the spread at v lead are ws
use Rattle.std.specs.Prelude.{ℕ, ◌≡◌, ◌≤◌, ◌+◌, List, [], length, get_or, map}
use Rattle.std.specs.List.{zip}
use Rattle.ml_parity.specs.declared.players.Player.TheVariants.{Even}
use Rattle.ml_parity.specs.Solution.{GameSolution, choice_at}
use Rattle.ml_parity.specs.Winner.{WinsFrom}
use Rattle.ml_graph.specs.Graph.{Graph, size}
use Rattle.ml_sequent.specs.Spread.{SpreadList, IsOpenOr}
use Rattle.ml_product.specs.Position.{Position}
use Rattle.ml_product.specs.DecisionGame.{diamonds_of}
use Rattle.ml_product.specs.Arena.{Arena, game_of}
use Rattle.ml_extract.specs.Model.{PositionAt, SpreadAt, Chooses}

pub record IsWon (a : Arena) (s : GameSolution) (v : ℕ) : Type 0 where
  pub position : Position
  pub stands : PositionAt a v position
  pub won : WinsFrom (game_of a) Even (choice_at s.choice) v

-- past the last position, where nobody asks, none
abbrev pub sides_at : Arena → ℕ → ℕ
sides_at a v =
    let nowhere : Position = record { sequent = []; history = []; priority = 0; choice = [] } in
    length (get_or a.positions v nowhere).choice

abbrev pub IsEnd : Graph → Arena → ℕ → Type 0
IsEnd g a v = (sp : SpreadList) → SpreadAt g a v sp → (n : ℕ) → ¬ (IsOpenOr g sp n)

pub record GoesOn (g : Graph) (a : Arena) (s : GameSolution) (v w : ℕ) : Type 0 where
  pub spread : SpreadList
  pub here : SpreadAt g a v spread
  pub open_or : ℕ
  pub is_open : IsOpenOr g spread open_or
  pub next_is : w ≡ choice_at s.choice v
  pub won : IsWon a s w
  pub longer : sides_at a w ≡ sides_at a v + 1
  pub few : sides_at a w ≤ size g

pub record IsChosenEnd (g : Graph) (a : Arena) (s : GameSolution) (v w : ℕ) : Type 0 where
  pub won : IsWon a s w
  pub is_end : IsEnd g a w
  pub chosen : (sp : SpreadList) → SpreadAt g a w sp → Chooses g a s v w sp

abbrev pub AreBehind : Graph → Arena → ℕ → List ℕ → Type 0
AreBehind g a v ws =
    (sp : SpreadList) → SpreadAt g a v sp → ws ≡ map (λ next. next.1) (zip (diamonds_of g sp) (get_or a.moves v []))
