-- States that are numbered as they are met, and what is made of them.
--
--   AreNumbers first bound ks      == different numbers below a bound
--   IsRowMet first bound ks row js == the numbers of a row were met: ks are then js
--   AreMet first bound ks rows == rows were met, the first ones of the states ks, of which the first is `first`
--   IsChosen g choice v outs == at vertex v the choice is the move number outs
--   IsStepAt, AreStepsAt     == the step of a machine at a vertex, and those of a state
--   IsMachineMet, IsMachine  == the steps of the first states were made, or those of all
--   AreNumbersOf ks row ns   == ns are the numbers of the states of a row
--   IsAnswerAt               == what an environment plays at a vertex, and its next states
--   IsEnvironmentMet, IsEnvironment == so it was done for the first states, or for all
use Rattle.std.specs.Prelude.{ℕ, ◌≡◌, ◌+◌, ◌*◌, ◌/◌, ◌%◌, ◌<◌, ◌≤◌, List, [], ◌∷◌, ◌++◌, length, get_or, map}
use Rattle.std.specs.Prelude.{slice_get, Some}
use Rattle.std.specs.List.{flat_map}
use Rattle.ml_lists.specs.Added.{HasOnePlace}
use Rattle.ml_lists.specs.InTurn.{RunsOn}
use Rattle.ml_lists.proofs.RowsInTurn.{AreFromEarlier}
use Rattle.ml_parity.specs.Game.{ParityGame, moves_of, size}
use Rattle.ml_parity.specs.Solution.{choice_at}
use Rattle.ml_synthesis.specs.Machines.{MachineTable, EnvironmentTable, play_at}
use Rattle.ml_synthesis.specs.Synthesis.{nexts}
use Rattle.ml_synthesis.specs.declared.arrival.Arrival.{Arrival}
use Rattle.ml_synthesis.specs.declared.machines.MachineStep.{MachineStep}
use Rattle.ml_synthesis.specs.private.Arena.{IsNumberOf}

pub record AreNumbers (first bound : ℕ) (ks : List ℕ) : Type 0 where
  pub once : HasOnePlace ks
  pub from_first : (k x : ℕ) → slice_get ks k ≡ Some x → first ≤ x
  pub low : (k x : ℕ) → slice_get ks k ≡ Some x → x < bound

pub record IsRowMet (first bound : ℕ) (ks row js : List ℕ) : Type 0 where
  pub more : List ℕ
  pub grown : js ≡ ks ++ more
  pub numbers : AreNumbers first bound js
  pub runs : RunsOn (length ks) row (length js)

pub record AreMet (first bound : ℕ) (ks : List ℕ) (rows : List (List ℕ)) : Type 0 where
  pub begins : slice_get ks 0 ≡ Some first
  pub numbers : AreNumbers first bound ks
  pub runs : RunsOn 0 (0 ∷ flat_map (λ (r : List ℕ). r) rows) (length ks)
  pub earlier : AreFromEarlier rows (length ks)
  pub within : length rows ≤ length ks

-- ---- machines

pub record IsChosen (g : ParityGame) (choice : List ℕ) (v outs : ℕ) : Type 0 where
  pub is_move : outs < length (moves_of g v)
  pub chosen : get_or (moves_of g v) outs 0 ≡ choice_at choice v

pub record IsStepAt (base : ℕ) (arrivals : List Arrival) (g : ParityGame) (choice ks : List ℕ) (v : ℕ) (x : MachineStep)
    : Type 0 where
  pub gives : IsChosen g choice v x.give
  pub arrival : Arrival
  pub comes : IsNumberOf base arrivals arrival (choice_at choice v)
  pub next_is : slice_get ks x.next ≡ Some arrival.state

pub record AreStepsAt (n base : ℕ) (arrivals : List Arrival) (g : ParityGame) (choice ks : List ℕ) (q count : ℕ)
    (row : List MachineStep) : Type 0 where
  pub one_each : length row ≡ count
  pub steps : (ins : ℕ) → ins < count
      → IsStepAt base arrivals g choice ks (q * n + ins) (get_or row ins (record { give = 0; next = 0 }))

-- steps were made for the first of the states ks
pub record IsMachineMet (n base : ℕ) (arrivals : List Arrival) (g : ParityGame) (choice ks : List ℕ) (m : MachineTable)
    : Type 0 where
  pub met : AreMet 0 (base / n) ks (map nexts m)
  pub steps : (s q : ℕ)
      → s < length m
      → slice_get ks s ≡ Some q
      → AreStepsAt n base arrivals g choice ks q n (get_or m s [])

-- steps were made for all states
pub record IsMachine (n base : ℕ) (arrivals : List Arrival) (g : ParityGame) (choice : List ℕ) (m : MachineTable)
    : Type 0 where
  pub states : List ℕ
  pub met : IsMachineMet n base arrivals g choice states m
  pub all : length m ≡ length states

-- ---- environments

-- ns are the numbers of these states
pub record AreNumbersOf (ks row ns : List ℕ) : Type 0 where
  pub one_each : length ns ≡ length row
  pub stand : (k : ℕ) → k < length row → slice_get ks (get_or ns k 0) ≡ Some (get_or row k 0)

-- the play at the vertex v, and its next states
pub record IsAnswerAt (n : ℕ) (g : ParityGame) (choice ks : List ℕ) (v play : ℕ) (row : List ℕ) : Type 0 where
  pub play_is : play ≡ choice_at choice v % n
  pub numbers : AreNumbersOf ks (moves_of g (choice_at choice v)) row

pub record IsEnvironmentMet (n base : ℕ) (g : ParityGame) (choice ks : List ℕ) (e : EnvironmentTable) : Type 0 where
  pub met : AreMet base (size g) ks e.next
  pub a_play_each : length e.plays ≡ length e.next
  pub answers : (s v : ℕ) → s < length e.plays → slice_get ks s ≡ Some v
      → IsAnswerAt n g choice ks v (play_at e s) (get_or e.next s [])

pub record IsEnvironment (n base : ℕ) (g : ParityGame) (choice : List ℕ) (e : EnvironmentTable) : Type 0 where
  pub states : List ℕ
  pub met : IsEnvironmentMet n base g choice states e
  pub all : length e.plays ≡ length states
