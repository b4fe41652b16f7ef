-- Numbers of automaton states, and lists of transitions by them.
--
--   state_of odds n                == the state with the number n
--   NumbersAreStates               == numbers and states are one-to-one, where the odd priorities ascend
--   HasRoom odds n                 == all states of the node n have numbers below 2^30
--   HasSmallEnds letter            == all ends of transitions are below 2^30
--   RiseByTarget letter            == the targets of its transitions do not descend
--   IsLetter letter                == what the program's letters keep: small ends, and targets that do not descend
use Rattle.std.specs.Prelude.{◌≡◌, ℕ, zero, suc, ◌+◌, ◌*◌, ◌/◌, ◌%◌, ◌^◌, ◌<◌, ◌≤◌, Option, None, List, slice_get, All}
use Rattle.std.specs.List.Sorted.{IsNonDecreasingBy}
use Rattle.ml_lists.specs.Ascending.{IsAscending}
use Rattle.ml_trace.specs.declared.letters.AutomatonState.{AutomatonState}
use Rattle.ml_trace.specs.declared.letters.Transition.{Transition}
use Rattle.ml_trace.specs.declared.letters.Triple.{Triple}
use Rattle.ml_trace.specs.Automaton.{IsState, number, states_per_node}

-- the guess at a place
abbrev pub guess_at : List ℕ → ℕ → Option ℕ
guess_at odds zero = None
guess_at odds (suc j) = slice_get odds j

-- the state with a number
abbrev pub state_of : List ℕ → ℕ → AutomatonState
state_of odds n = record { node = n / states_per_node odds; odd = guess_at odds (n % states_per_node odds) }

-- numbers and states are one-to-one, whichever odd priorities ascend
abbrev pub NumbersAreStates : Type 0
NumbersAreStates =
    (odds : List ℕ) → IsAscending odds → ((s : AutomatonState) → IsState odds s → state_of odds (number odds s) ≡ s) × ((n : ℕ) → number odds (state_of odds n) ≡ n)

-- all states of the node have numbers below 2^30
abbrev pub HasRoom : List ℕ → ℕ → Type 0
HasRoom odds n = (n + 1) * states_per_node odds ≤ 2 ^ 30

-- all states of both nodes of each triple have
abbrev pub AllHaveRoom : List ℕ → List Triple → Type 0
AllHaveRoom odds traces = All (λ (t : Triple). HasRoom odds t.from × HasRoom odds t.to) traces

-- all ends of transitions are below 2^30
abbrev pub HasSmallEnds : List Transition → Type 0
HasSmallEnds letter = All (λ (m : Transition). (m.from < 2 ^ 30) × (m.to < 2 ^ 30)) letter

-- the targets do not descend
abbrev pub RiseByTarget : List Transition → Type 0
RiseByTarget letter = IsNonDecreasingBy (λ (m : Transition). m.to) letter

-- what the program's letters keep
pub record IsLetter (letter : List Transition) : Type 0 where
  pub small_ends : HasSmallEnds letter
  pub by_target : RiseByTarget letter
