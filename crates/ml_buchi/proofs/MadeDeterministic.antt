-- What is made of the letters that stand for those of an automaton.
--
--   made_stays        == their transitions stay among its states
--   made_determinised == the moves of a numbering along them are those of its deterministic automaton
--   made_many, made_few == along them as many histories are reached as along its own letters
use Rattle.std.proofs.Common.{ℕ, ◌≡◌, ◌+◌, ◌*◌, List, sym, subst, ap, ◌∙◌}
use Rattle.ml_trace.specs.declared.letters.Transition.{Transition}
use Rattle.ml_hoa.specs.Automaton.{Automaton, IsAutomaton}
use Rattle.ml_determinise.specs.Histories.{StaysBelow}
use Rattle.ml_determinise.specs.Numbering.{HasMoreThan, IsNumbered}
use Rattle.ml_determinise.specs.declared.moves.DetMove.{DetMove}
use Rattle.ml_buchi.specs.Deterministic.{Deterministic, IsDeterminised}
use Rattle.ml_buchi.specs.Valuations.{SameLetters, letters_of}
use Rattle.ml_buchi.proofs.EdgesTaken.{letters_stay}
use Rattle.ml_buchi.proofs.SameRows.{many_of_made, many_of_row, same_numbered, same_stays}

module _ (a : Automaton) (letters made : List (List Transition)) (states start : ℕ)
    (same : SameLetters (letters_of a) letters)
    (made_is : made ≡ letters)
    (states_is : states ≡ a.states)
    (start_is : start ≡ a.start) where
  these : SameLetters (letters_of a) made
  these = subst (SameLetters (letters_of a)) (sym made_is) same

  pub made_stays : IsAutomaton a → StaysBelow states made
  made_stays automaton =
      subst (λ n. StaysBelow n made) (sym states_is) (same_stays a.states (letters_of a) made these (letters_stay a automaton))

  pub made_determinised : (props : List (List ℕ)) (moves : List (List DetMove)) (d : Deterministic)
      → props ≡ a.props
      → IsNumbered states made start moves
      → d ≡ record { props = props; top = 2 * states + 3; moves = moves }
      → IsDeterminised a d
  made_determinised props moves d props_are numbered is =
      let here = subst (λ n. IsNumbered n made a.start moves) states_is
      (subst (λ q. IsNumbered states made q moves) start_is numbered) in
      record {
        same_props = ap (λ (e : Deterministic). e.props) is ∙ props_are;
        top_is = ap (λ (e : Deterministic). e.top) is ∙ ap (λ n. 2 * n + 3) states_is;
        numbered =
            subst (IsNumbered a.states (letters_of a) a.start) (sym (ap (λ (e : Deterministic). e.moves) is))
            (same_numbered (letters_of a) made a.start these a.states moves here);
      }

  pub made_many : (n : ℕ) → HasMoreThan made start n → HasMoreThan (letters_of a) a.start n
  made_many n many =
      many_of_row (letters_of a) made a.start these n (subst (λ q. HasMoreThan made q n) start_is many)

  pub made_few : (n : ℕ) → ¬ (HasMoreThan made start n) → ¬ (HasMoreThan (letters_of a) a.start n)
  made_few n few many =
      few (subst (λ q. HasMoreThan made q n) (sym start_is) (many_of_made (letters_of a) made a.start these n many))
