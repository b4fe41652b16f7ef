-- The entries as they are found. Only private contracts cite this.
--
-- An entry is found as a vertex of the arena, and vertices are numbered in the order in which they are found.
--
--   OddWins g a s         == a is the arena of the graph g, s a solution of its game, and Odd wins vertex 0
--   position_at g a v     == the position of the vertex v
--   IsWon a s v           == v is a vertex from which Odd's moves win
--   IsSpreadAt g a v sp   == sp is the spread of the position of v
--   LeavesTo g a s v sp d == Odd's choice at v, where the spread is sp, leads along the diamond d, which is the least one
--   IsTurnAt g a s v t    == t is what is done at the vertex v
--   AreSides g a s v o l r == l and r are the vertices to which the sides of the or-node o lead from v
--   IsNumberOf g a s vs ws v n == n is the number of the vertex v, where vs were numbered before, and ws then
--   AreNumbered g a s vs  == the vertices vs, of which 0 is the first, are different positions without a choice, won by Odd
--   IsDecided g a s vs ws v d == d is the decision from the vertex v on, where vs were numbered before, and ws then
--   AreLooked g a s vs ds == ds are the decisions at the first vertices of vs, and lead to the others
use Rattle.std.specs.Prelude.{ℕ, ◌≡◌, ◌<◌, ◌≤◌, List, [], ◌∷◌, ◌++◌, length, map, get_or, slice_get, Some}
use Rattle.std.specs.List.{flat_map}
use Rattle.ml_lists.specs.InTurn.{RunsOn}
use Rattle.ml_lists.specs.Member.{IsMember}
use Rattle.ml_graph.specs.Graph.{Graph}
use Rattle.ml_parity.specs.declared.players.Player.TheVariants.{Odd}
use Rattle.ml_parity.specs.Solution.{GameSolution, IsSolution, choice_at, winner_at}
use Rattle.ml_parity.specs.Winner.{WinsFrom}
use Rattle.ml_product.specs.Arena.{Arena, IsArenaOf, game_of}
use Rattle.ml_product.specs.DecisionGame.{Open, IsResolved, IsVerdictOf, AreDifferent}
use Rattle.ml_product.specs.Position.{Position, start_of, neutral, with_chosen}
use Rattle.ml_refutation.specs.Acceptance.{OfSpread}
use Rattle.ml_refutation.specs.Refutation.{Decision}
use Rattle.ml_sequent.specs.declared.choice.Side.TheVariants.{Left, Right}
use Rattle.ml_sequent.specs.Spread.{SpreadList, IsSpread, IsSpreadOf}
use Rattle.ml_sequent.specs.FirstCause.{IsFirstCause}
use Rattle.ml_trace.specs.declared.marks.Mark.{Mark}
use Rattle.ml_trace.specs.Marks.{priority}
use Rattle.ml_trace.specs.MarkOrder.{FitsBelow}
use Rattle.ml_refute.specs.declared.lost_game.LostTurn.{LostTurn}
use Rattle.ml_refute.specs.declared.lost_game.LostTurn.TheVariants as turn
use Rattle.ml_refute.specs.Extracted.{IsDecisionAt, IsLeastTo, leads_to}

pub record OddWins (g : Graph) (a : Arena) (s : GameSolution) : Type 0 where
  pub arena : IsArenaOf g a
  pub solution : IsSolution (game_of a) s
  pub wins : winner_at s.winner 0 ≡ Odd

-- past the last vertex, where nobody asks, the start
abbrev pub position_at : Graph → Arena → ℕ → Position
position_at g a v = get_or a.positions v (start_of g)

pub record IsWon (a : Arena) (s : GameSolution) (v : ℕ) : Type 0 where
  pub low : v < length a.positions
  pub wins : WinsFrom (game_of a) Odd (choice_at s.choice) v

-- ---- what is done at a vertex

pub record IsSpreadAt (g : Graph) (a : Arena) (v : ℕ) (sp : SpreadList) : Type 0 where
  pub is : IsSpread g sp
  pub of : IsSpreadOf g (position_at g a v).sequent (position_at g a v).choice sp

pub record LeavesTo (g : Graph) (a : Arena) (s : GameSolution) (v : ℕ) (sp : SpreadList) (d : ℕ) : Type 0 where
  pub won : IsWon a s (choice_at s.choice v)
  pub is_diamond : IsLeastTo g (position_at g a v) sp (position_at g a (choice_at s.choice v)) d
  pub mark : Mark
  pub marked : (position_at g a (choice_at s.choice v)).priority ≡ priority (neutral g) mark
  pub is_mark : FitsBelow (neutral g) mark
  pub unchosen : (position_at g a (choice_at s.choice v)).choice ≡ []

abbrev pub IsTurnAt : Graph → Arena → GameSolution → ℕ → LostTurn → Type 0
IsTurnAt g a s v (turn.Clash x) =
    OfSpread g (position_at g a v).sequent (position_at g a v).choice (λ sp. IsFirstCause g sp x)
IsTurnAt g a s v (turn.Open o) =
    OfSpread g (position_at g a v).sequent (position_at g a v).choice (λ sp. IsVerdictOf g sp (Open o))
IsTurnAt g a s v (turn.Leave d) =
    OfSpread g (position_at g a v).sequent (position_at g a v).choice (λ sp. IsResolved g sp × LeavesTo g a s v sp d)

pub record AreSides (g : Graph) (a : Arena) (s : GameSolution) (v o l r : ℕ) : Type 0 where
  pub left : position_at g a l ≡ with_chosen g (position_at g a v) o Left
  pub right : position_at g a r ≡ with_chosen g (position_at g a v) o Right
  pub left_won : IsWon a s l
  pub right_won : IsWon a s r

-- ---- numbers

pub record AreNumbered (g : Graph) (a : Arena) (s : GameSolution) (vs : List ℕ) : Type 0 where
  pub starts : slice_get vs 0 ≡ Some 0
  pub are_different : AreDifferent (map (position_at g a) vs)
  pub won : (v : ℕ) → IsMember v vs → IsWon a s v
  pub unchosen : (v : ℕ) → IsMember v vs → (position_at g a v).choice ≡ []

pub record IsNumberOf (g : Graph) (a : Arena) (s : GameSolution) (vs ws : List ℕ) (v n : ℕ) : Type 0 where
  pub more : List ℕ
  pub grown : ws ≡ vs ++ more
  pub numbered : AreNumbered g a s ws
  pub stands : slice_get ws n ≡ Some v
  pub runs_on : RunsOn (length vs) (n ∷ []) (length ws)

pub record IsDecided (g : Graph) (a : Arena) (s : GameSolution) (vs ws : List ℕ) (v : ℕ) (d : Decision) : Type 0 where
  pub more : List ℕ
  pub grown : ws ≡ vs ++ more
  pub numbered : AreNumbered g a s ws
  pub is_decision : IsDecisionAt g a s (map (position_at g a) ws) (position_at g a v) d
  pub runs_on : RunsOn (length vs) (leads_to d) (length ws)

pub record AreLooked (g : Graph) (a : Arena) (s : GameSolution) (vs : List ℕ) (ds : List Decision) : Type 0 where
  pub numbered : AreNumbered g a s vs
  pub few : length ds ≤ length vs
  pub are_decisions : (e : ℕ) (d : Decision)
      → slice_get ds e ≡ Some d
      → IsDecisionAt g a s (map (position_at g a) vs) (position_at g a (get_or vs e 0)) d
  pub runs_on : RunsOn 0 (0 ∷ flat_map (λ r. r) (map leads_to ds)) (length vs)
  pub from_earlier : (k : ℕ) → 0 < k → k < length vs → (j : ℕ) × (j < k) × IsMember k (get_or (map leads_to ds) j [])
