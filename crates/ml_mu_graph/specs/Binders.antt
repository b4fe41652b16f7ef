-- Fixpoints in parity games: the vertices by which a formula's binder recurs.
--
-- Where a formula with a binder becomes a game, the binder has a vertex for each state of a structure, which leads to
-- the body at that state; a play recurs by coming back to such a vertex. Say that recurring for ever is bad for a player
-- p: that p loses each play whose loop meets one of these vertices. Then the states at which p wins are a least set. To
-- say of which map of sets, write verdicts into the game: with the verdicts of a set U, the binder's vertex at a state
-- leads to a sink that p wins if the state is in U, and to one that p loses if it isn't. A set U makes the set of the
-- states at whose body p wins with the verdicts of U; and the states at which p wins the binder's vertex are the least
-- set that contains what it makes.
--
-- Nothing is said of vertices outside a region that no move leaves, and verdicts may change the game there.
--
--   Binder g p R n at body ours theirs == the vertices `at s`, for the states s below n, are those of a binder in the region R
--                            of the game g: each leads to `body s`, and recurring is bad for p; ours and theirs are sinks, won
--                            by p and by the opponent
--   verdict U ours theirs s  == the sink to which the vertex at s leads with the verdicts of U
--   HasVerdicts g h R n at ours theirs U == the game h is g in R, but for the verdicts of U; whose move it is there is free
--   MakesWithin h p n body U == the set that U makes, by the game h with its verdicts, lies within U
--   BinderIsLeast       == the set of the states at which p wins contains what it makes, and each set does that contains
--                          what it makes contains it
use Rattle.std.specs.Prelude.{ℕ, ◌≡◌, ◌≢◌, ◌<◌, ◌≤◌, ◌↔◌, Bool, true, if◌then◌else◌, [], ◌∷◌, length}
use Rattle.ml_lists.specs.Lasso.{Lasso, entry}
use Rattle.ml_parity.specs.declared.players.Player.{Player}
use Rattle.ml_parity.specs.Player.{opponent, side}
use Rattle.ml_parity.specs.Game.{ParityGame, IsGame, HasMove, owner_of, priority_of, moves_of, size}
use Rattle.ml_parity.specs.Winner.{IsPlay, winner, Wins}

-- a vertex of the region that leads to itself alone, with a priority that is good for the player, and is no binder's
pub record IsSinkOf (g : ParityGame) (p : Player) (R : ℕ → Type 0) (n : ℕ) (at : ℕ → ℕ) (v : ℕ) : Type 0 where
  pub inside : R v
  pub stays : moves_of g v ≡ v ∷ []
  pub good : side (priority_of g v) ≡ p
  pub apart : (s : ℕ) → s < n → at s ≢ v

pub record Binder (g : ParityGame) (p : Player) (R : ℕ → Type 0) (n : ℕ) (at body : ℕ → ℕ) (ours theirs : ℕ) : Type 0 where
  pub is_game : IsGame g
  pub below : (v : ℕ) → R v → v < size g
  pub closed : (v w : ℕ) → R v → HasMove g v w → R w
  pub inside : (s : ℕ) → s < n → R (at s)
  pub leads : (s : ℕ) → s < n → (w : ℕ) → HasMove g (at s) w → w ≡ body s
  pub recurs : (l : Lasso) → IsPlay g l → (k : ℕ) → l.start ≤ k → k < length l.entries → (s : ℕ) → s < n
      → entry l k ≡ at s → winner g l ≡ opponent p
  pub ours_is : IsSinkOf g p R n at ours
  pub theirs_is : IsSinkOf g (opponent p) R n at theirs

abbrev pub verdict : (ℕ → Bool) → ℕ → ℕ → ℕ → ℕ
verdict U ours theirs s = if U s then ours else theirs

pub record HasVerdicts (g h : ParityGame) (R : ℕ → Type 0) (n : ℕ) (at : ℕ → ℕ) (ours theirs : ℕ) (U : ℕ → Bool) : Type 0 where
  pub is_game : IsGame h
  pub sizes : size h ≡ size g
  pub priorities : (v : ℕ) → R v → priority_of h v ≡ priority_of g v
  pub owners : (v : ℕ) → R v → ((s : ℕ) → s < n → at s ≢ v) → owner_of h v ≡ owner_of g v
  pub others : (v : ℕ) → R v → ((s : ℕ) → s < n → at s ≢ v) → moves_of h v ≡ moves_of g v
  pub told : (s : ℕ) → s < n → moves_of h (at s) ≡ verdict U ours theirs s ∷ []

-- the set that U makes lies within U: the states at whose body p wins with the verdicts of U
abbrev pub MakesWithin : ParityGame → Player → ℕ → (ℕ → ℕ) → (ℕ → Bool) → Type 0
MakesWithin h p n body U = (s : ℕ) → s < n → Wins h p (body s) → U s ≡ true

pub record IsLeast (g : ParityGame) (p : Player) (R : ℕ → Type 0) (n : ℕ) (at body : ℕ → ℕ) (ours theirs : ℕ) : Type 0 where
  -- the states at which p wins are a set W that contains what it makes
  pub contains : (W : ℕ → Bool) (h : ParityGame) → ((s : ℕ) → s < n → (W s ≡ true) ↔ Wins g p (at s))
      → HasVerdicts g h R n at ours theirs W → MakesWithin h p n body W
  -- and each set U that contains what it makes contains these states
  pub within : (U : ℕ → Bool) (h : ParityGame) → HasVerdicts g h R n at ours theirs U → MakesWithin h p n body U
      → (s : ℕ) → s < n → Wins g p (at s) → U s ≡ true

abbrev pub BinderIsLeast : Type 0
BinderIsLeast =
    (g : ParityGame) (p : Player) (R : ℕ → Bool) (n : ℕ) (at body : ℕ → ℕ) (ours theirs : ℕ)
    → Binder g p (λ v. R v ≡ true) n at body ours theirs → IsLeast g p (λ v. R v ≡ true) n at body ours theirs
