-- Each automaton has an outcome, and never both.
--
--   some_outcome      == an automaton has an outcome
--   never_both        == no automaton has both a machine that is right and an environment that defeats all
--   more_or_few       == more than so many positions are reached, or they aren't
use Rattle.std.proofs.Common.{ℕ, ◌≡◌, ◌*◌, ◌^◌, ◌<◌, ◌≤◌, ◌⊎◌, inl, inr, ⊎_elim}
use Rattle.std.proofs.Common.{length, refl}
use Rattle.std.proofs.lemmas.Bool.{cases_lt}
use Rattle.ml_parity.specs.declared.players.Player.{Player}
use Rattle.ml_parity.specs.declared.players.Player.TheVariants.{Even, Odd}
use Rattle.ml_parity.specs.Game.{IsGame, size}
use Rattle.ml_parity.specs.Solution.{GameSolution, IsSolution, choice_at, winner_at}
use Rattle.ml_parity.specs.Winner.{WinsFrom}
use Rattle.ml_parity.proofs.Opponents.{cases_player}
use Rattle.ml_parity.proofs.SolutionFacts.{solution_wins_from}
use Rattle.ml_product.proofs.SomeSolution.{some_solution}
use Rattle.ml_synthesis.specs.Laws.{MoreOrFew, NeverBoth, SomeOutcome}
use Rattle.ml_synthesis.specs.Synthesis.{IsOutcome}
use Rattle.ml_synthesis.specs.declared.outcome.Outcome.{Outcome}
use Rattle.ml_synthesis.specs.declared.outcome.Outcome.TheVariants as outcome
use Rattle.ml_synthesis.specs.private.Solved.{IsSolved}
use Rattle.ml_synthesis.proofs.Arenas.{arena_is_game}
use Rattle.ml_synthesis.proofs.Automata.{accessible_by, are_moves}
use Rattle.ml_synthesis.proofs.Choices.{base_is_vertex}
use Rattle.ml_synthesis.proofs.CommonWords.{common_word}
use Rattle.ml_synthesis.proofs.MadeEnvironments.{is_defeat}
use Rattle.ml_synthesis.proofs.MadeMachines.{is_made}
use Rattle.ml_synthesis.proofs.Positions.{more_positions, no_more_positions}
use Rattle.ml_synthesis.proofs.SomeGames.{SomeArena, some_arena}
use Rattle.ml_synthesis.proofs.SomeEnvironments.{some_environment}
use Rattle.ml_synthesis.proofs.SomeMachines.{some_machine}

pub some_outcome : SomeOutcome
some_outcome i o neutral moves automaton = by_winner (cases_player (winner_at s.winner base) Even)
  where
    arena : SomeArena (2 ^ i) (2 ^ o) neutral moves (are_moves i o neutral moves automaton)
    arena = some_arena (2 ^ i) (2 ^ o) neutral moves (are_moves i o neutral moves automaton)

    base : ℕ
    base = length moves * 2 ^ i

    is_game : IsGame arena.game
    is_game =
        arena_is_game (2 ^ i) (2 ^ o) neutral moves arena.arrivals arena.game (are_moves i o neutral moves automaton)
        arena.is

    s : GameSolution
    s = (some_solution arena.game is_game).0

    solves : IsSolution arena.game s
    solves = (some_solution arena.game is_game).1

    solved : IsSolved (2 ^ i) (length moves * 2 ^ i) arena.arrivals arena.game s
    solved = record {
      output_sets = 2 ^ o;
      neutral = neutral;
      moves = moves;
      base_is = refl;
      are_moves = are_moves i o neutral moves automaton;
      arena = arena.is;
      solution = solves;
    }

    wins : (p : Player) → winner_at s.winner (length moves * 2 ^ i) ≡ p
        → WinsFrom arena.game p (choice_at s.choice) (length moves * 2 ^ i)
    wins p is =
        solution_wins_from arena.game is_game s solves p (length moves * 2 ^ i)
        (base_is_vertex (2 ^ i) (length moves * 2 ^ i) arena.arrivals arena.game s solved) is

    by_winner : (winner_at s.winner (length moves * 2 ^ i) ≡ Even) ⊎ (winner_at s.winner (length moves * 2 ^ i) ≡ Odd)
        → (r : Outcome) × IsOutcome i o neutral moves r
    by_winner (inl even) =
        let t = some_machine (2 ^ i) (length moves * 2 ^ i) arena.arrivals arena.game s solved in (
          outcome.Made t.0,
          is_made i o neutral moves arena.arrivals arena.game s.choice (are_moves i o neutral moves automaton) arena.is
              t.0 t.1 (wins Even even),
        )
    by_winner (inr odd) =
        let e = some_environment (2 ^ i) (length moves * 2 ^ i) arena.arrivals arena.game s solved in (
          outcome.Defeated e.0,
          is_defeat i o (length moves * 2 ^ i) arena.arrivals arena.game s solved refl e.0 e.1 (wins Odd odd),
        )

pub never_both : NeverBoth
never_both i o neutral moves m e made defeat =
    let common = common_word i o m e made.fits defeat.fits in
    made.right common.0 common.1 (defeat.defeats common.0 common.2)

pub more_or_few : MoreOrFew
more_or_few i o neutral moves limit automaton accessible =
    ⊎_elim
    (λ (more : limit < size arena.game).
    inl (more_positions i o neutral moves (are_moves i o neutral moves automaton) (accessible_by i o moves accessible)
    arena.arrivals arena.game arena.is limit more))
    (λ (few : size arena.game ≤ limit).
    inr (no_more_positions i o neutral moves (are_moves i o neutral moves automaton)
    (accessible_by i o moves accessible) arena.arrivals arena.game arena.is limit few))
    (cases_lt limit (size arena.game))
  where
    arena : SomeArena (2 ^ i) (2 ^ o) neutral moves (are_moves i o neutral moves automaton)
    arena = some_arena (2 ^ i) (2 ^ o) neutral moves (are_moves i o neutral moves automaton)
