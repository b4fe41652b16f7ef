-- Texts by their items.
--
--   IsTextOf text f      == the text is one of f by the grammar
use Rattle.std.specs.Prelude.{ℕ, Bool, List}
use Rattle.ml_text.specs.declared.token.Placed.{Placed}
use Rattle.ml_text.specs.Items as text_items
use Rattle.ml_text.specs.Refusals.{Item, signs_of}
use Rattle.ml_mu.specs.Formula.{Formula}
use Rattle.ml_mu.specs.Signs.{Sign}
use Rattle.ml_mu.specs.Grammar.{IsReadAs}
use Rattle.ml_mu.specs.Text.{items, mu_signs}

abbrev pub item_by : List ℕ → Bool → Placed → Item Sign
item_by text silent p = text_items.item_at mu_signs text silent p

abbrev pub items_from : List ℕ → Bool → List Placed → List (Item Sign)
items_from text silent ps = text_items.items_from mu_signs text silent ps

abbrev pub IsTextOf : List ℕ → Formula → Type 0
IsTextOf text f = IsReadAs (signs_of (items text)) f
