-- From an answer on the board of a game to a solution of the game.
--
-- The choices at vertices whose owners do not win them are filled up with first successors, so that there is a move
-- at each vertex.
--
--   solution_of_lists   == with all vertices live, an answer on the board, filled up, is a solution of the game
use Rattle.std.proofs.Common.{ℕ, ◌≡◌, ◌<◌, ◌≤◌, ◌⊎◌, inl, inr, arith, Bool, true, false, List, length, replicate, subst, sym, ap, ◌∙◌, lt-ltb, le-ltb}
use Rattle.std.proofs.lemmas.Bool.{cases_lt}
use Rattle.std.proofs.lemmas.List.{get_or-replicate, get_or_past, length-replicate}
use Rattle.std.proofs.Math.Path.{fun_ext}
use Rattle.ml_parity.specs.declared.players.Player.{Player}
use Rattle.ml_parity.specs.Game.{ParityGame, IsGame, HasMove, owner_of, size}
use Rattle.ml_parity.specs.Winner.{WinsFrom}
use Rattle.ml_parity.specs.Solution.{IsSolution, FirstElsewhere, winner_at, choice_at}
use Rattle.ml_parity.specs.private.Sinks.{Holds, Solves}
use Rattle.ml_parity.specs.private.SinkGame.{board_of, flag_at, FilledBelow, SolvesLists}
use Rattle.ml_parity.proofs.Opponents.{is_or_not}
use Rattle.ml_parity.proofs.Boards.{all_live, first_move, solution_wins}

-- flags that are all set are those of all vertices
pub all_set : (g : ParityGame) (live : List Bool) → live ≡ replicate (size g) true → flag_at live ≡ all_live g
all_set g live is = ap flag_at is ∙ fun_ext (λ v. by_place v (cases_lt v (size g)))
  where
    by_place : (v : ℕ) → (v < size g) ⊎ (size g ≤ v) → flag_at (replicate (size g) true) v ≡ all_live g v
    by_place v (inl low) = get_or-replicate (size g) v true false low ∙ sym (lt-ltb v (size g) low)
    by_place v (inr past) = get_or_past (replicate (size g) true) v false
        (omega (arith, length-replicate (size g) true)) ∙ sym (le-ltb v (size g) past)

-- with all vertices live, an answer on the board, filled up, is a solution of the game
module _ (g : ParityGame) (ok : IsGame g) (live : List Bool) (sinks win : List Player) (old choice : List ℕ) (n : ℕ)
    (all : live ≡ replicate (size g) true) (long : size g ≤ n)
    (winners : length win ≡ size g) (choices : length old ≡ size g)
    (solves : SolvesLists g live sinks win old) (filled : FilledBelow g win old choice n) where
  board_solved : Solves (board_of g) (all_live g) (winner_at sinks) (winner_at win) (choice_at old)
  board_solved = subst (λ (l : ℕ → Bool). Solves (board_of g) l (winner_at sinks) (winner_at win) (choice_at old))
      (all_set g live all) solves

  -- there is a move at each vertex
  moves : (v : ℕ) → v < size g → HasMove g v (choice_at choice v)
  moves v low = by_owner (is_or_not (owner_of g v) (winner_at win v))
    where
      held : Holds (board_of g) (winner_at win) (winner_at win v) (choice_at old v) v
      held = board_solved.keeps v (lt-ltb v (size g) low)

      by_owner : (owner_of g v ≡ winner_at win v) ⊎ (owner_of g v ≡ winner_at win v → ⊥)
          → HasMove g v (choice_at choice v)
      by_owner (inl own) = subst (HasMove g v) (sym (filled.own v (omega arith) own)) (held.own own).move
      by_owner (inr other) = subst (HasMove g v) (sym (filled.other v (omega arith) other)) (first_move g ok v low)

  wins : (v : ℕ) → v < size g → WinsFrom g (winner_at win v) (choice_at choice) v
  wins = solution_wins g ok (winner_at sinks) (winner_at win) (choice_at old) (choice_at choice) board_solved
      (λ v low own. filled.own v (omega arith) own)

  pub solution_of_lists : IsSolution g (record { winner = win; choice = choice })
  solution_of_lists = record {
    winners = winners;
    choices = filled.size ∙ choices;
    strategies = λ p v low own. moves v low;
    right = λ v low. record {
      strategy = choice_at choice;
      is_strategy = λ x below own. moves x below;
      wins = wins v low;
    };
    wins = wins;
  }

  pub first_elsewhere : FirstElsewhere g (record { winner = win; choice = choice })
  first_elsewhere = λ v low other. filled.other v (omega arith) other
