-- A text that begins with lines that were read. Private contracts and proofs cite this.
--
--   GoesOn text lines rest    == the text is these lines and then the rest
use Rattle.std.specs.Prelude.{ℕ, ◌+◌, ◌≤◌, ◌≡◌, List, ◌++◌, length}
use Rattle.ml_lines.specs.Lines.{Line}
use Rattle.ml_lines.specs.Reading.{lines_of, left_of}

pub record GoesOn (text : List ℕ) (lines : List Line) (rest : List ℕ) : Type 0 where
  pub lines_are : lines_of text ≡ lines ++ lines_of rest
  pub left_is : left_of text ≡ left_of rest
  pub shorter : length rest + length lines ≤ length text
