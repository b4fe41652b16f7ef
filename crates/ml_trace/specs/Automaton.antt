-- The trace automaton, with its states numbered.
--
-- Its states are the nodes n of a graph, and the pairs (n, d) of a node and an odd priority d of the graph: a run in
-- (n, d) has guessed that d is the lowest priority that it meets infinitely often. The odd priorities stand in an
-- ascending list d_1, .., d_o; the state n has the number n * (1 + o), and (n, d_j) the number n * (1 + o) + j. A
-- local trace from n to n' with the lowest priority k leads from n to n' and, not accepting, to (n', d) for each d; and from
-- (n, d) to (n', d) for each d at most k, accepting exactly if k is d. Lists of triples and of transitions stand for
-- sets.
--
--   states_per_node odds           == how many states each node has: 1 + o
--   number odds s                  == the number of the state s
--   IsState odds s                 == the odd priority of s, if it has one, is one of the list
--   Leads odds k g g' accepting    == a triple with the lowest priority k leads from the guess g to the guess g'
--   Gives odds t m                 == the triple t gives the transition m
--   IsLetterOf odds traces letter  == the letter has exactly the transitions that some triple of the traces gives
use Rattle.std.specs.Prelude.{◌≡◌, ◌↔◌, ℕ, ◌+◌, ◌*◌, ◌≤◌, Bool, false, ◌==◌, Option, Some, None, List, length}
use Rattle.std.specs.List.{position_or_len}
use Rattle.ml_lists.specs.Member.{IsMember}
use Rattle.ml_trace.specs.declared.letters.AutomatonState.{AutomatonState}
use Rattle.ml_trace.specs.declared.letters.Transition.{Transition}
use Rattle.ml_trace.specs.declared.letters.Triple.{Triple}

-- ---- states and their numbers

-- how many states each node has: itself, and one with each odd priority
abbrev pub states_per_node : List ℕ → ℕ
states_per_node odds = length odds + 1

-- the place of a guess among the states of a node: 0 for none, j for d_j
abbrev pub guess_place : List ℕ → Option ℕ → ℕ
guess_place odds None = 0
guess_place odds (Some d) = position_or_len (λ e. e == d) odds + 1

-- the number of a state
abbrev pub number : List ℕ → AutomatonState → ℕ
number odds s = s.node * states_per_node odds + guess_place odds s.odd

-- the guess is one of the odd priorities, or none
abbrev pub IsGuess : List ℕ → Option ℕ → Type 0
IsGuess odds None = Unit {0}
IsGuess odds (Some d) = IsMember d odds

-- the odd priority of the state, if it has one, is one of the list
abbrev pub IsState : List ℕ → AutomatonState → Type 0
IsState odds s = IsGuess odds s.odd

-- ---- transitions

-- a triple with the lowest priority k leads from one guess to another, accepting or not
abbrev pub Leads : List ℕ → ℕ → Option ℕ → Option ℕ → Bool → Type 0
Leads odds k None None accepting = accepting ≡ false
Leads odds k None (Some d) accepting = IsMember d odds × (accepting ≡ false)
Leads odds k (Some d) None accepting = ⊥
Leads odds k (Some d) (Some e) accepting = (e ≡ d) × IsMember d odds × (d ≤ k) × (accepting ≡ (d == k))

-- the triple gives the transition
pub record Gives (odds : List ℕ) (t : Triple) (m : Transition) : Type 0 where
  pub before : Option ℕ
  pub behind : Option ℕ
  pub leads : Leads odds t.lowest before behind m.accepting
  pub from_is : m.from ≡ number odds (record { node = t.from; odd = before })
  pub to_is : m.to ≡ number odds (record { node = t.to; odd = behind })

-- the letter has exactly the transitions that some triple of the traces gives
abbrev pub IsLetterOf : List ℕ → List Triple → List Transition → Type 0
IsLetterOf odds traces letter = (m : Transition) → IsMember m letter ↔ ((t : Triple) × IsMember t traces × Gives odds t m)
