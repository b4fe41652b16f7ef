-- Texts by their items.
--
--   IsTextOf text f  == the text is one of f by the grammar
use Rattle.std.specs.Prelude.{ℕ, List}
use Rattle.ml_text.specs.Refusals.{signs_of}
use Rattle.ml_bounded.specs.Formula.{Formula}
use Rattle.ml_bounded.specs.Grammar.{IsReadAs}
use Rattle.ml_bounded.specs.Text.{items}

abbrev pub IsTextOf : List ℕ → Formula → Type 0
IsTextOf text f = IsReadAs (signs_of (items text)) f
