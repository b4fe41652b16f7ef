-- Texts by their items.
--
--   IsTextOf text f      == the text is one of f by the grammar
--   MarksAreOfTexts      == the law that the signs of a text are those of its tokens, marked as `Marks.antt` says
use Rattle.std.specs.Prelude.{ℕ, ◌≡◌, Bool, List, map}
use Rattle.ml_text.specs.declared.token.WordStart.TheVariants.{AnyLetter}
use Rattle.ml_text.specs.declared.token.Placed.{Placed}
use Rattle.ml_text.specs.Tokens.{tokens}
use Rattle.ml_text.specs.Items as text_items
use Rattle.ml_text.specs.Refusals.{Item, signs_of}
use Rattle.ml_pdl.specs.Formula.{Formula}
use Rattle.ml_pdl.specs.Signs.{Sign}
use Rattle.ml_pdl.specs.MarkLaws.{marked}
use Rattle.ml_pdl.specs.Grammar.{IsReadAs}
use Rattle.ml_pdl.specs.Text.{items, pdl_signs, sign_by}

abbrev pub items_from : List ℕ → Bool → List Placed → List (Item Sign)
items_from text b ps = text_items.items_from pdl_signs text b ps

abbrev pub IsTextOf : List ℕ → Formula → Type 0
IsTextOf text f = IsReadAs (signs_of (items text)) f

abbrev pub MarksAreOfTexts : Type 0
MarksAreOfTexts = (text : List ℕ) → signs_of (items text) ≡ marked (map (sign_by text) (tokens AnyLetter text))
