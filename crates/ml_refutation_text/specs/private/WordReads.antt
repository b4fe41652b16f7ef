-- What the reader knows of words. Private contracts and proofs cite this.
--
--   FitsAGuess w   == w is a number or `-`
use Rattle.std.specs.Prelude.{◌≡◌, ◌⊎◌, codes}
use Rattle.ml_lines.specs.Lines.{Word}
use Rattle.ml_lines.specs.Reading.{IsNumber}

abbrev pub FitsAGuess : Word → Type 0
FitsAGuess w = (w ≡ codes "-") ⊎ IsNumber w
