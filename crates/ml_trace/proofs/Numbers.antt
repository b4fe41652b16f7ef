-- The numbering of the states is one-to-one.
--
--   guess_place-le      == the place of a guess is among those of a node
--   guess_at-place      == the guess at the place of a guess is this guess
--   guess_place-at      == the place of the guess at a place is this place
--   state_of-number     == the state with the number of a state is this state
--   number-state_of     == the number of the state with a number is this number
--   numbers_are_states  == both, for all ascending lists of odd priorities
use Rattle.std.proofs.Common.{ℕ, zero, suc, ◌≡◌, ◌+◌, ◌*◌, ◌/◌, ◌%◌, ◌<◌, arith, eqb, Option, Some, None, List, get_or, refl, sym, ap, ◌∙◌}
use Rattle.std.proofs.lemmas.Nat.{div-mul-add, mod-mul-add}
use Rattle.std.proofs.lemmas.Option.{slice_get-get_or}
use Rattle.std.specs.List.{position_or_len, slice_get}
use Rattle.ml_lists.specs.Ascending.{IsAscending}
use Rattle.ml_lists.proofs.Member.{member-place}
use Rattle.ml_trace.specs.declared.letters.AutomatonState.{AutomatonState}
use Rattle.ml_trace.specs.Automaton.{states_per_node, guess_place, number, IsGuess, IsState}
use Rattle.ml_trace.specs.AutomatonNumbers.{guess_at, state_of, NumbersAreStates}
use Rattle.ml_trace.proofs.LetterLemmas.{odd_place}

-- the place of a guess is among those of a node
pub guess_place-le : (odds : List ℕ) (g : Option ℕ)
    → IsAscending odds
    → IsGuess odds g
    → guess_place odds g < states_per_node odds
guess_place-le odds None a is = omega arith
guess_place-le odds (Some d) a is =
    let p = member-place d odds is in
    let at : position_or_len (λ e. eqb e d) odds ≡ p.place =
    ap (λ v. position_or_len (λ e. eqb e v) odds) (sym (p.holds 0)) ∙ odd_place odds p.place a p.below
    in
    omega (arith, at, p.below)

-- the guess at the place of a guess is this guess
pub guess_at-place : (odds : List ℕ) (g : Option ℕ)
    → IsAscending odds
    → IsGuess odds g
    → guess_at odds (guess_place odds g) ≡ g
guess_at-place odds None a is = refl
guess_at-place odds (Some d) a is =
    let p = member-place d odds is in
    let at : position_or_len (λ e. eqb e d) odds ≡ p.place =
    ap (λ v. position_or_len (λ e. eqb e v) odds) (sym (p.holds 0)) ∙ odd_place odds p.place a p.below
    in
    let e : position_or_len (λ e. eqb e d) odds + 1 ≡ suc p.place = omega (arith, at) in
    ap (guess_at odds) e ∙ slice_get-get_or odds p.place 0 p.below ∙ ap Some (p.holds 0)

-- the place of the guess at a place is this place
pub guess_place-at : (odds : List ℕ) (j : ℕ)
    → IsAscending odds
    → j < states_per_node odds
    → guess_place odds (guess_at odds j) ≡ j
guess_place-at odds zero a low = refl
guess_place-at odds (suc j) a low =
    let is : slice_get odds j ≡ Some (get_or odds j 0) = slice_get-get_or odds j 0 (omega arith) in
    let at = odd_place odds j a (omega arith) in
    let e : position_or_len (λ e. eqb e (get_or odds j 0)) odds + 1 ≡ suc j = omega (arith, at) in
    ap (guess_place odds) is ∙ e

-- two states with the same parts are one
same_state : (s : AutomatonState) (n : ℕ) (g : Option ℕ) → n ≡ s.node → g ≡ s.odd → record { node = n; odd = g } ≡ s
same_state s n g e f = λ i. record { node = e i; odd = f i }

-- the state with the number of a state is this state
pub state_of-number : (odds : List ℕ) (s : AutomatonState)
    → IsAscending odds
    → IsState odds s
    → state_of odds (number odds s) ≡ s
state_of-number odds s a is =
    let low = guess_place-le odds s.odd a is in
    same_state s (number odds s / states_per_node odds) (guess_at odds (number odds s % states_per_node odds))
    (div-mul-add s.node (states_per_node odds) (guess_place odds s.odd) low)
    (ap (guess_at odds) (mod-mul-add s.node (states_per_node odds) (guess_place odds s.odd) low) ∙ guess_at-place odds s.odd a is)

-- the number of the state with a number is this number
pub number-state_of : (odds : List ℕ) (n : ℕ) → IsAscending odds → number odds (state_of odds n) ≡ n
number-state_of odds n a =
    let low : n % states_per_node odds < states_per_node odds = omega arith in
    let at = guess_place-at odds (n % states_per_node odds) a low in
    let whole : n / states_per_node odds * states_per_node odds + n % states_per_node odds ≡ n = omega arith in
    ap (λ v. n / states_per_node odds * states_per_node odds + v) at ∙ whole

-- the numbering is one-to-one
pub numbers_are_states : NumbersAreStates
numbers_are_states odds a = ((λ s is. state_of-number odds s a is), (λ n. number-state_of odds n a))
