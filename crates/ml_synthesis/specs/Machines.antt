-- Machines and environments, and the words that they make.
--
-- There are some inputs and some outputs, each of which is on or off at each moment. A set of inputs, or of outputs, is
-- a number, whose bit j tells whether the j-th one is on; and a valuation, a set of inputs with a set of outputs, is
-- one number too: the bits of the inputs, and above them those of the outputs.
--
-- A machine answers inputs: for each of its states and each set of inputs it gives a set of outputs and goes to a next
-- state. An environment moves first: each of its states plays a set of inputs, and for each set of outputs that comes
-- back it goes to a next state. (So it is a Moore machine, and a machine is a Mealy machine.) The states are numbered
-- from 0, where both begin. The words of either are those of the valuations along lassos of its states from state 0: ultimately
-- periodic words, of a machine one or more for each such way of inputs, of an environment for each such way of outputs.
--
--   valuation i ins outs      == the valuation of these inputs, of which there are i, and outputs
--   MachineTable              == for each state the steps, one for each set of inputs
--   step_at m s ins           == the step of m from s with this set of inputs
--   MachineFits i o m         == m is a machine with i inputs and o outputs
--   MachineGoes i m s v t     == m goes from s to t, and v is the valuation on the way
--   EnvironmentTable          == for each state the set that is played, and the next states, one for each set of
--                                outputs
--   EnvironmentFits i o e     == e is an environment with i inputs and o outputs
--   EnvironmentGoes i o e s v t == e goes from s to t, and v is the valuation on the way
--   IsWordAlong goes w        == w is the word lasso of the valuations along some lasso of states from 0
--   IsMachineWord i m w, IsEnvironmentWord i o e w == w is a word of m, or of e
use Rattle.std.specs.Prelude.{ℕ, ◌≡◌, ◌+◌, ◌*◌, ◌^◌, ◌<◌, List, [], length, get_or}
use Rattle.ml_lists.specs.Lasso.{Lasso, entry, round}
use Rattle.ml_trace.specs.WordAutomata.{WordLasso}
use Rattle.ml_synthesis.specs.declared.machines.MachineStep.{MachineStep}

-- the bits of the inputs, and above them those of the outputs
abbrev pub valuation : ℕ → ℕ → ℕ → ℕ
valuation i ins outs = ins + 2 ^ i * outs

-- ---- machines

-- for each state the steps, one for each set of inputs
abbrev pub MachineTable : Type 0
MachineTable = List (List MachineStep)

abbrev pub step_at : MachineTable → ℕ → ℕ → MachineStep
step_at m s ins = get_or (get_or m s []) ins (record { give = 0; next = 0 })

pub record MachineFits (i o : ℕ) (m : MachineTable) : Type 0 where
  pub some : 0 < length m
  pub a_step_each : (s : ℕ) → s < length m → length (get_or m s []) ≡ 2 ^ i
  pub gives : (s ins : ℕ) → s < length m → ins < 2 ^ i → (step_at m s ins).give < 2 ^ o
  pub leads : (s ins : ℕ) → s < length m → ins < 2 ^ i → (step_at m s ins).next < length m

-- with some set of inputs m goes from s to t, and v is the valuation on the way
pub record MachineGoes (i : ℕ) (m : MachineTable) (s v t : ℕ) : Type 0 where
  pub ins : ℕ
  pub is_set : ins < 2 ^ i
  pub valuation_is : v ≡ valuation i ins (step_at m s ins).give
  pub next_is : t ≡ (step_at m s ins).next

-- ---- environments

-- for each state the set that is played, and the next states, one for each set of outputs
pub record EnvironmentTable : Type 0 where
  pub plays : List ℕ
  pub next : List (List ℕ)

abbrev pub play_at : EnvironmentTable → ℕ → ℕ
play_at e s = get_or e.plays s 0

abbrev pub next_at : EnvironmentTable → ℕ → ℕ → ℕ
next_at e s outs = get_or (get_or e.next s []) outs 0

pub record EnvironmentFits (i o : ℕ) (e : EnvironmentTable) : Type 0 where
  pub some : 0 < length e.plays
  pub a_row_each : length e.next ≡ length e.plays
  pub a_next_each : (s : ℕ) → s < length e.plays → length (get_or e.next s []) ≡ 2 ^ o
  pub plays_sets : (s : ℕ) → s < length e.plays → play_at e s < 2 ^ i
  pub leads : (s outs : ℕ) → s < length e.plays → outs < 2 ^ o → next_at e s outs < length e.plays

-- with some set of outputs e goes from s to t, and v is the valuation on the way
pub record EnvironmentGoes (i o : ℕ) (e : EnvironmentTable) (s v t : ℕ) : Type 0 where
  pub outs : ℕ
  pub is_set : outs < 2 ^ o
  pub valuation_is : v ≡ valuation i (play_at e s) outs
  pub next_is : t ≡ next_at e s outs

-- ---- words

-- w has the letters along some lasso of states from 0, and its loop is where the lasso's is
pub record IsWordAlong (goes : ℕ → ℕ → ℕ → Type 0) (w : WordLasso ℕ) : Type 0 where
  pub states : Lasso
  pub begins : entry states 0 ≡ 0
  pub one_length : length states.entries ≡ length w.word
  pub one_loop : states.start ≡ w.loop_start
  pub loops : w.loop_start < length w.word
  pub goes_on : (k : ℕ)
      → k < length w.word
      → goes (get_or (round states) k 0) (get_or w.word k 0) (get_or (round states) (k + 1) 0)

abbrev pub IsMachineWord : ℕ → MachineTable → WordLasso ℕ → Type 0
IsMachineWord i m = IsWordAlong (MachineGoes i m)

abbrev pub IsEnvironmentWord : ℕ → ℕ → EnvironmentTable → WordLasso ℕ → Type 0
IsEnvironmentWord i o e = IsWordAlong (EnvironmentGoes i o e)
