-- Automata over valuations, with the numbers of sets of inputs and of outputs.
--
--   are_moves     == the moves of an automaton are moves for these numbers
--   accessible_by == each state is reached by letters below their product
use Rattle.std.proofs.Common.{ℕ, ◌≡◌, ◌+◌, ◌*◌, ◌^◌, ◌<◌, List, length, sym, ◌∙◌, subst}
use Rattle.std.proofs.lemmas.Nat.{pow-add, pow_pos}
use Rattle.ml_lists.specs.Member.{IsMember}
use Rattle.ml_lists.proofs.Member.{All-member}
use Rattle.ml_trace.specs.WordAutomata.{state_behind}
use Rattle.ml_determinise.specs.Numbering.{automaton_of}
use Rattle.ml_determinise.specs.declared.moves.DetMove.{DetMove}
use Rattle.ml_synthesis.specs.Synthesis.{IsAccessible, IsAutomaton}
use Rattle.ml_synthesis.specs.private.Arena.{AreMoves}

module _ (i o : ℕ) where
  letters : 2 ^ (i + o) ≡ 2 ^ i * 2 ^ o
  letters = pow-add 2 i o

  pub are_moves : (neutral : ℕ) (moves : List (List DetMove)) → IsAutomaton i o neutral moves
      → AreMoves (2 ^ i) (2 ^ o) neutral moves
  are_moves neutral moves a = record {
    some = a.some;
    sets = pow_pos i;
    answers = pow_pos o;
    a_move_each = λ q low. a.a_move_each q low ∙ letters;
    leads = λ q v low letter. a.leads q v low (subst (λ k. v < k) (sym letters) letter);
    low = λ q v low letter. a.low q v low (subst (λ k. v < k) (sym letters) letter);
    neutral_even = a.neutral_even;
  }

  pub accessible_by : (moves : List (List DetMove)) → IsAccessible i o moves → (q : ℕ) → q < length moves
      → (word : List ℕ) × ((v : ℕ) → IsMember v word → v < 2 ^ i * 2 ^ o) ×
      (state_behind (automaton_of moves) 0 word ≡ q)
  accessible_by moves a q low =
      let r = a q low in (
        r.0,
        λ v m. subst (λ k. v < k) letters (All-member (λ l. l < 2 ^ (i + o)) r.0 r.1 v m),
        r.2,
      )
