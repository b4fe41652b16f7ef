-- From the solution of the game to its outcome.
--
--   arena_is_over == the game with these numbers of sets is the game over the automaton
--   few_positions, too_many == it has more than so many positions exactly if it has more vertices
--   is_solved     == with a solution, it is a game that is solved
--   made          == where Even wins the start, the machine of the choices is right
--   defeated      == where Odd does, the environment of the choices defeats all machines
use Rattle.std.proofs.Common.{ℕ, ◌≡◌, ◌*◌, ◌^◌, ◌<◌, ◌≤◌, List, length, refl, sym, ap, ◌∙◌, subst, subst₂}
use Rattle.ml_parity.specs.declared.players.Player.{Player}
use Rattle.ml_parity.specs.declared.players.Player.TheVariants.{Even, Odd}
use Rattle.ml_parity.specs.Game.{ParityGame, size}
use Rattle.ml_parity.specs.Solution.{GameSolution, IsSolution, choice_at, winner_at}
use Rattle.ml_parity.specs.Winner.{WinsFrom}
use Rattle.ml_parity.proofs.SolutionFacts.{solution_wins_from}
use Rattle.ml_determinise.specs.Numbering.{automaton_of}
use Rattle.ml_determinise.specs.declared.moves.DetMove.{DetMove}
use Rattle.ml_synthesis.specs.Game.{HasMorePositions}
use Rattle.ml_synthesis.specs.Machines.{EnvironmentTable, MachineTable}
use Rattle.ml_synthesis.specs.Synthesis.{IsAccessible, IsAutomaton, IsDefeat, IsMade}
use Rattle.ml_synthesis.specs.declared.arrival.Arrival.{Arrival}
use Rattle.ml_synthesis.specs.private.Arena.{IsArena}
use Rattle.ml_synthesis.specs.private.Numbered.{IsEnvironment, IsMachine}
use Rattle.ml_synthesis.specs.private.Solved.{IsArenaOver, IsSolved}
use Rattle.ml_synthesis.proofs.Arenas.{arena_is_game, moves_at_most}
use Rattle.ml_synthesis.proofs.Automata.{accessible_by, are_moves}
use Rattle.ml_synthesis.proofs.Choices.{base_is_vertex}
use Rattle.ml_synthesis.proofs.MadeEnvironments.{is_defeat}
use Rattle.ml_synthesis.proofs.MadeMachines.{is_made}
use Rattle.ml_synthesis.proofs.Positions.{more_positions, no_more_positions}

-- the game with these numbers of sets
pub arena_is_over : (i o neutral : ℕ) (moves : List (List DetMove)) (n m base : ℕ) (ks : List Arrival) (g : ParityGame)
    → IsAutomaton i o neutral moves
    → n ≡ 2 ^ i
    → m ≡ 2 ^ o
    → n ≤ 256
    → m ≤ 256
    → base ≡ length moves * n
    → IsArena n m neutral moves ks g
    → IsArenaOver i o neutral moves n base ks g
arena_is_over i o neutral moves n m base ks g automaton n_is m_is few_inputs few_outputs base_is arena = record {
  automaton = automaton;
  sets_are = n_is;
  base_is = base_is;
  arena = arena_for;
  few_moves =
      moves_at_most (2 ^ i) (2 ^ o) neutral moves ks g (are_moves i o neutral moves automaton) arena_for 256
      (subst (λ p. p ≤ 256) n_is few_inputs) (subst (λ p. p ≤ 256) m_is few_outputs);
}
  where
    arena_for : IsArena (2 ^ i) (2 ^ o) neutral moves ks g
    arena_for = subst₂ (λ p q. IsArena p q neutral moves ks g) n_is m_is arena

module _ (i o neutral : ℕ) (moves : List (List DetMove)) (n base : ℕ) (ks : List Arrival) (g : ParityGame)
    (over : IsArenaOver i o neutral moves n base ks g) where
  module _ (limit : ℕ) (accessible : IsAccessible i o moves) where
    pub few_positions : size g ≤ limit → HasMorePositions (automaton_of moves) 0 neutral i o limit → ⊥
    few_positions few =
        no_more_positions i o neutral moves (are_moves i o neutral moves over.automaton)
        (accessible_by i o moves accessible) ks g over.arena limit few

    pub too_many : limit < size g → HasMorePositions (automaton_of moves) 0 neutral i o limit
    too_many more =
        more_positions i o neutral moves (are_moves i o neutral moves over.automaton)
        (accessible_by i o moves accessible) ks g over.arena limit more

  module _ (s : GameSolution) (solution : IsSolution g s) where
    base_for : base ≡ length moves * 2 ^ i
    base_for = over.base_is ∙ ap (λ p. length moves * p) over.sets_are

    abbrev solved : IsSolved (2 ^ i) base ks g s
    solved = record {
      output_sets = 2 ^ o;
      neutral = neutral;
      moves = moves;
      base_is = base_for;
      are_moves = are_moves i o neutral moves over.automaton;
      arena = over.arena;
      solution = solution;
    }

    pub is_solved : IsSolved n base ks g s
    is_solved = subst (λ p. IsSolved p base ks g s) (sym over.sets_are) solved

    pub base_inside : base < size g
    base_inside = base_is_vertex (2 ^ i) base ks g s solved

    wins : (p : Player) → winner_at s.winner base ≡ p → WinsFrom g p (choice_at s.choice) base
    wins p is =
        solution_wins_from g
        (arena_is_game (2 ^ i) (2 ^ o) neutral moves ks g (are_moves i o neutral moves over.automaton) over.arena) s
        solution p base base_inside is

    pub made : (t : MachineTable)
        → winner_at s.winner base ≡ Even
        → IsMachine n base ks g s.choice t
        → IsMade i o moves t
    made t even machine =
        is_made i o neutral moves ks g s.choice (are_moves i o neutral moves over.automaton) over.arena t
        (subst₂ (λ p b. IsMachine p b ks g s.choice t) over.sets_are base_for machine)
        (subst (WinsFrom g Even (choice_at s.choice)) base_for (wins Even even))

    pub defeated : (e : EnvironmentTable) → winner_at s.winner base ≡ Odd → IsEnvironment n base g s.choice e
        → IsDefeat i o neutral moves e
    defeated e odd environment =
        is_defeat i o base ks g s solved refl e
        (subst (λ p. IsEnvironment p base g s.choice e) over.sets_are environment) (wins Odd odd)
