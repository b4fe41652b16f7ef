-- Rows of machines and environments that fit. Private contracts and proofs cite this.
--
--   StepFits o n x    == the step x gives a set below o, and leads to a state below n
--   StepsFit i o n xs == there are i steps, each of which fits
--   NextsFit o n xs   == there are o next states, all below n
use Rattle.std.specs.Prelude.{ℕ, ◌≡◌, ◌<◌, List, length, All}
use Rattle.ml_synthesis.specs.declared.machines.MachineStep.{MachineStep}

abbrev pub StepFits : ℕ → ℕ → MachineStep → Type 0
StepFits o n x = (x.give < o) × (x.next < n)

pub record StepsFit (i o n : ℕ) (xs : List MachineStep) : Type 0 where
  pub a_step_each : length xs ≡ i
  pub fit : All (StepFits o n) xs

pub record NextsFit (o n : ℕ) (xs : List ℕ) : Type 0 where
  pub a_next_each : length xs ≡ o
  pub lead : All (λ x. x < n) xs
