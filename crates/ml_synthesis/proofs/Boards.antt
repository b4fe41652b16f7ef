-- The game over an automaton, by what is asked of it.
--
--   IsState g n x q p        == x is a vertex of the state q with the priority p
--   reply g n q ins outs     == the vertex to which the outputs lead from q with the inputs
--   IsBoard g d n m states neutral base == g is the game over the automaton d, and begins at base
use Rattle.std.proofs.Common.{ℕ, ◌≡◌, ◌+◌, ◌*◌, ◌%◌, ◌<◌, ◌≤◌}
use Rattle.std.proofs.Common.{get_or}
use Rattle.ml_parity.specs.declared.players.Player.TheVariants.{Even, Odd}
use Rattle.ml_parity.specs.Game.{ParityGame, HasMove, owner_of, priority_of, moves_of}
use Rattle.ml_trace.specs.WordAutomata.{DetAutomaton}

pub record IsState (g : ParityGame) (n x q p : ℕ) : Type 0 where
  pub owner : owner_of g x ≡ Odd
  pub priority : priority_of g x ≡ p
  pub sets : (ins : ℕ) → ins < n → HasMove g x (q * n + ins)

abbrev pub reply : ParityGame → ℕ → ℕ → ℕ → ℕ → ℕ
reply g n q ins outs = get_or (moves_of g (q * n + ins)) outs 0

pub record IsBoard (g : ParityGame) (d : DetAutomaton ℕ ℕ) (n m states neutral base : ℕ) : Type 0 where
  pub starts : 0 < states
  pub some : 0 < n
  pub begins : IsState g n base 0 neutral
  pub owner : (q ins : ℕ) → q < states → ins < n → owner_of g (q * n + ins) ≡ Even
  pub priority : (q ins : ℕ) → q < states → ins < n → priority_of g (q * n + ins) ≡ neutral
  pub replies : (q ins outs : ℕ) → q < states → ins < n → outs < m → HasMove g (q * n + ins) (reply g n q ins outs)
  pub leads : (q ins outs : ℕ) → q < states → ins < n → outs < m
      → IsState g n (reply g n q ins outs) (d.next q (ins + n * outs)) (d.priority q (ins + n * outs))
  pub stays : (q v : ℕ) → q < states → v < n * m → d.next q v < states
  pub low : (q v : ℕ) → q < states → v < n * m → d.priority q v ≤ neutral
  pub even : neutral % 2 ≡ 0
