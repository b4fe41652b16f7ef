-- Claims about a parity game, and when they are right.
--
-- A claim names the player who is said to win a vertex, and maybe a move, which means something only where that player owns
-- the vertex. A vertex may be without a claim. A *way* from a vertex claimed for a player is the move of the claim where the
-- player owns the vertex, and else each successor. Claims are right if each keeps these rules:
--
--   1  where the player owns the vertex, a move stands
--   2  where the player owns the vertex, the move is a successor
--   3  each way leads to a vertex that is claimed for the same player
--   4  the vertex lies on no cycle of ways whose lowest priority is bad for the player and is that of the vertex
--
-- A way begins at a vertex that is claimed for the player, so all vertices of such a cycle are.
--
--   claim p to            == the claim that p wins, with this move or none
--   Claims                == for each vertex a claim or none
--   IsClaimed cs p v      == the vertex v is claimed for p, with some move or none
--   IsMoved cs p v w      == the vertex v is claimed for p, with the move w
--   IsWay g cs p v w      == there is a way from v, claimed for p, to w
--   IsBadCycle g cs p v   == v lies on a cycle of ways whose lowest priority is bad for p and is that of v
--   BreaksOne, .., BreaksFour == the claim of v for p breaks the rule 1, .., 4
--   KeepsAll g cs p v     == the claim of v for p, if there is one, breaks none
--   AreRight g cs         == there is a place for a claim at each vertex, and no claim breaks a rule
use Rattle.std.specs.Prelude.{ℕ, ◌≡◌, ◌≢◌, ◌<◌, ◌≤◌, ◌⊎◌, List, length, get_or, Option, Some, None}
use Rattle.ml_lists.specs.Lasso.{Lasso, IsLassoOf, entry, lowest_on_loop}
use Rattle.ml_parity.specs.declared.players.Player.{Player}
use Rattle.ml_parity.specs.Game.{ParityGame, HasMove, owner_of, priority_of, size}
use Rattle.ml_parity.specs.Player.{opponent, side}
use Rattle.ml_game_check.specs.declared.claims.Claim.{Claim}

abbrev pub claim : Player → Option ℕ → Claim
claim p to = record { winner = p; move_to = to }

abbrev pub Claims : Type 0
Claims = List (Option Claim)

abbrev pub claim_at : Claims → ℕ → Option Claim
claim_at cs v = get_or cs v None

abbrev pub IsClaimed : Claims → Player → ℕ → Type 0
IsClaimed cs p v = (to : Option ℕ) × (claim_at cs v ≡ Some (claim p to))

abbrev pub IsMoved : Claims → Player → ℕ → ℕ → Type 0
IsMoved cs p v w = claim_at cs v ≡ Some (claim p (Some w))

-- the move of the claim where p owns the vertex, and else each successor
abbrev pub IsWay : ParityGame → Claims → Player → ℕ → ℕ → Type 0
IsWay g cs p v w =
    IsClaimed cs p v × (((owner_of g v ≡ p) × IsMoved cs p v w) ⊎ ((owner_of g v ≢ p) × HasMove g v w))

-- a cycle as a lasso on whose loop the vertex stands: what comes before the loop doesn't matter
pub record IsBadCycle (g : ParityGame) (cs : Claims) (p : Player) (v : ℕ) : Type 0 where
  pub cycle : Lasso
  pub ways : IsLassoOf (IsWay g cs p) cycle
  pub place : ℕ
  pub on_loop : cycle.start ≤ place
  pub in_list : place < length cycle.entries
  pub here : entry cycle place ≡ v
  pub lowest : lowest_on_loop (priority_of g) cycle ≡ priority_of g v
  pub bad : side (priority_of g v) ≡ opponent p

abbrev pub BreaksOne : ParityGame → Claims → Player → ℕ → Type 0
BreaksOne g cs p v = (owner_of g v ≡ p) × (claim_at cs v ≡ Some (claim p None))

abbrev pub BreaksTwo : ParityGame → Claims → Player → ℕ → Type 0
BreaksTwo g cs p v = (owner_of g v ≡ p) × ((w : ℕ) × IsMoved cs p v w × (¬ (HasMove g v w)))

abbrev pub BreaksThree : ParityGame → Claims → Player → ℕ → Type 0
BreaksThree g cs p v = (w : ℕ) × IsWay g cs p v w × (¬ (IsClaimed cs p w))

abbrev pub BreaksFour : ParityGame → Claims → Player → ℕ → Type 0
BreaksFour g cs p v = IsClaimed cs p v × IsBadCycle g cs p v

pub record KeepsAll (g : ParityGame) (cs : Claims) (p : Player) (v : ℕ) : Type 0 where
  pub one : ¬ (BreaksOne g cs p v)
  pub two : ¬ (BreaksTwo g cs p v)
  pub three : ¬ (BreaksThree g cs p v)
  pub four : ¬ (BreaksFour g cs p v)

abbrev pub AreRight : ParityGame → Claims → Type 0
AreRight g cs = (length cs ≡ size g) × ((p : Player) (v : ℕ) → KeepsAll g cs p v)
