-- Each parity game has a solution. (General: it belongs to `ml_parity`.)
--
-- The map of winners of the determinacy law, with its one choice for both players, written out as two lists.
--
--   some_solution == a game has a solution
use Rattle.std.proofs.Common.{ℕ, ◌≡◌, ◌+◌, ◌<◌, ◌≤◌, ◌⊎◌, inl, inr, arith, List, [], map, get_or, subst, sym, ◌∙◌}
use Rattle.std.specs.List.{range_with_len, Contains}
use Rattle.std.proofs.lemmas.Bool.{cases_lt}
use Rattle.std.proofs.lemmas.List.{get_or_past}
use Rattle.std.proofs.lemmas.List.FromFn.{length-map-range_with_len, get_or-map-range_with_len}
use Rattle.ml_lists.proofs.Members.{contains_none}
use Rattle.ml_lists.specs.Lasso.{round}
use Rattle.ml_parity.specs.declared.players.Player.{Player}
use Rattle.ml_parity.specs.declared.players.Player.TheVariants.{Even}
use Rattle.ml_parity.specs.Game.{ParityGame, IsGame, HasMove, size}
use Rattle.ml_parity.specs.Solution.{GameSolution, IsSolution, winner_at, choice_at}
use Rattle.ml_parity.specs.Winner.{WinsFrom}
use Rattle.ml_parity.proofs.Winners.{Winners, winners}

module _ (g : ParityGame) (ok : IsGame g) where
  -- a move begins at a vertex
  from_vertex : (v w : ℕ) → HasMove g v w → v < size g
  from_vertex v w move = by_place (cases_lt v (size g))
    where
      by_place : (v < size g) ⊎ (size g ≤ v) → v < size g
      by_place (inl low) = low
      by_place (inr past) = absurd (contains_none w (subst (λ (ws : List ℕ). Contains ws w)
          (get_or_past g.successors v [] (omega (arith, ok.lists))) move))

  -- a choice that is the same at each vertex wins as well
  same_choice : (p : Player) (s t : ℕ → ℕ) → ((v : ℕ) → v < size g → t v ≡ s v) → (v : ℕ) → WinsFrom g p s v
      → WinsFrom g p t v
  same_choice p s t same v wins = λ l play starts follows. wins l play starts (λ k below own.
      follows k below own ∙ same (get_or (round l) k 0)
      (from_vertex (get_or (round l) k 0) (get_or (round l) (k + 1) 0) (play.joined k below)))

  module _ (w : Winners g) where
    abbrev listed : GameSolution
    listed = record {
      winner = map w.win (range_with_len 0 (size g));
      choice = map w.choice (range_with_len 0 (size g));
    }

    winner_listed : (v : ℕ) → v < size g → winner_at listed.winner v ≡ w.win v
    winner_listed v low = get_or-map-range_with_len w.win 0 (size g) v v Even low (omega arith)

    choice_listed : (v : ℕ) → v < size g → choice_at listed.choice v ≡ w.choice v
    choice_listed v low = get_or-map-range_with_len w.choice 0 (size g) v v 0 low (omega arith)

    moves : (v : ℕ) → v < size g → HasMove g v (choice_at listed.choice v)
    moves v low = subst (HasMove g v) (sym (choice_listed v low)) (w.moves v low)

    wins : (v : ℕ) → v < size g → WinsFrom g (winner_at listed.winner v) (choice_at listed.choice) v
    wins v low = subst (λ q. WinsFrom g q (choice_at listed.choice) v) (sym (winner_listed v low))
        (same_choice (w.win v) w.choice (choice_at listed.choice) choice_listed v (w.wins v low))

    is_solution : IsSolution g listed
    is_solution = record {
      winners = length-map-range_with_len w.win 0 (size g);
      choices = length-map-range_with_len w.choice 0 (size g);
      strategies = λ p v low own. moves v low;
      right = λ v low. record {
        strategy = choice_at listed.choice;
        is_strategy = λ x below own. moves x below;
        wins = wins v low;
      };
      wins = wins;
    }

-- a game has a solution
pub some_solution : (g : ParityGame) → IsGame g → (s : GameSolution) × IsSolution g s
some_solution g ok = (listed g ok (winners g ok), is_solution g ok (winners g ok))
