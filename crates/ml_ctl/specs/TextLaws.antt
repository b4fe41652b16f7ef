-- Texts by their items.
--
--   IsTextOf w text f  == the text is one of f by the grammar, in the logic w
use Rattle.std.specs.Prelude.{ℕ, List}
use Rattle.ml_text.specs.declared.token.Placed.{Placed}
use Rattle.ml_text.specs.Items as text_items
use Rattle.ml_text.specs.Refusals.{Item, signs_of}
use Rattle.ml_ctl.specs.Formula.{Formula}
use Rattle.ml_ctl.specs.declared.language.Language.{Language}
use Rattle.ml_ctl.specs.Signs.{Sign}
use Rattle.ml_ctl.specs.Grammar.{IsReadAs}
use Rattle.ml_ctl.specs.Text.{ctl_signs, items}

abbrev pub items_from : List ℕ → List Placed → List (Item Sign)
items_from text ps = text_items.items_from ctl_signs text tt ps

abbrev pub IsTextOf : Language → List ℕ → Formula → Type 0
IsTextOf w text f = IsReadAs w (signs_of (items text)) f
