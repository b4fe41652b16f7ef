-- Games with sinks, in which the induction of the determinacy law goes.
--
-- A vertex is live, or a sink. A sink has no moves, and is won at once by the player whom the map `over` names. Who
-- wins is a map `win` from vertices to players, and one map s from vertices to vertices serves both players, since s v
-- matters only where the owner of v wins v. Everything is a function or a relation on all numbers, so that there is
-- nothing to say of lengths; a vertex may be without moves, and a player who cannot move loses. Loops are sequences,
-- and all that is said of them is said of their places below m.
--
--   Board                  == owners, priorities and moves, of all numbers
--   SomeMove, EveryMove    == some move from v leads to where p wins; every move does
--   Holds b win p w v      == p, who moves to w if v is p's, keeps to where p wins by win
--   Step                   == a move from a live vertex of p's that respects s
--   Loop p c m             == the first m steps of the sequence c are steps of p's, and lead back
--   GoodFor p c m          == the lowest priority on the loop is good for p
--   Solves live over win s == win and s solve the game with these live vertices and these sinks
--   Solution               == a pair that solves it
use Rattle.std.specs.Prelude.{ℕ, ◌≡◌, ◌+◌, ◌<◌, ◌≤◌, Bool, true, false}
use Rattle.ml_parity.specs.declared.players.Player.{Player}
use Rattle.ml_parity.specs.Player.{opponent, side}

-- owners, priorities and moves, of all numbers
pub record Board : Type 1 where
  pub owner : ℕ → Player
  pub priority : ℕ → ℕ
  pub Move : ℕ → ℕ → Type 0

-- some move from v leads to where p wins
pub record SomeMove (b : Board) (win : ℕ → Player) (p : Player) (v : ℕ) : Type 0 where
  pub to : ℕ
  pub move : b.Move v to
  pub wins : win to ≡ p

-- every move from v leads to where p wins
abbrev pub EveryMove : Board → (ℕ → Player) → Player → ℕ → Type 0
EveryMove b win p v = (x : ℕ) → b.Move v x → win x ≡ p

-- from v there is a move to w, where p wins
pub record GoodMove (b : Board) (win : ℕ → Player) (p : Player) (w v : ℕ) : Type 0 where
  pub move : b.Move v w
  pub wins : win w ≡ p

-- p, who moves to w if v is p's, keeps to where p wins by win
pub record Holds (b : Board) (win : ℕ → Player) (p : Player) (w v : ℕ) : Type 0 where
  pub own : b.owner v ≡ p → GoodMove b win p w v
  pub other : b.owner v ≡ opponent p → EveryMove b win p v

-- a move from v to w, where v is live and p wins it by win; if v is p's own, w is the choice of s
pub record Step (b : Board) (live : ℕ → Bool) (win : ℕ → Player) (s : ℕ → ℕ) (p : Player) (v w : ℕ) : Type 0 where
  pub alive : live v ≡ true
  pub mine : win v ≡ p
  pub move : b.Move v w
  pub chosen : b.owner v ≡ p → w ≡ s v

-- the first m steps of the sequence c are steps of p's, and lead back to where it began
pub record Loop (b : Board) (live : ℕ → Bool) (win : ℕ → Player) (s : ℕ → ℕ) (p : Player) (c : ℕ → ℕ) (m : ℕ) : Type 0 where
  pub long : 0 < m
  pub closed : c m ≡ c 0
  pub steps : (k : ℕ) → k < m → Step b live win s p (c k) (c (k + 1))

-- the lowest priority among the first m vertices of the sequence c is good for p
pub record GoodFor (b : Board) (p : Player) (c : ℕ → ℕ) (m : ℕ) : Type 0 where
  pub place : ℕ
  pub below : place < m
  pub least : (j : ℕ) → j < m → b.priority (c place) ≤ b.priority (c j)
  pub right : side (b.priority (c place)) ≡ p

-- win and s solve the game: sinks go to whom over names, each winner keeps to where that player wins, and each loop of
-- a player is good for that player
pub record Solves (b : Board) (live : ℕ → Bool) (over : ℕ → Player) (win : ℕ → Player) (s : ℕ → ℕ) : Type 0 where
  pub ends : (v : ℕ) → live v ≡ false → win v ≡ over v
  pub keeps : (v : ℕ) → live v ≡ true → Holds b win (win v) (s v) v
  pub loops : (p : Player) (c : ℕ → ℕ) (m : ℕ) → Loop b live win s p c m → GoodFor b p c m

-- winners and choices that solve the game
pub record Solution (b : Board) (live : ℕ → Bool) (over : ℕ → Player) : Type 0 where
  pub win : ℕ → Player
  pub choice : ℕ → ℕ
  pub solves : Solves b live over win choice
