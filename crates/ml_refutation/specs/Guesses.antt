-- Guesses of automaton states whose numbers fit 32 bits.
use Rattle.std.specs.Prelude.{ℕ, Option, IfSome}
use Rattle.ml_refutation.specs.Refutation.{Fits}

abbrev pub FitsGuess : Option ℕ → Type 0
FitsGuess guess = IfSome guess Fits
