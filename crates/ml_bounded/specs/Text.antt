-- Texts of LTL with bounds: their items, with what each counts. A bounded operator is counted once, at its letter; its numbers
-- and what stands round them count nothing.
--
--   weight_of s        == as how many occurrences a sign counts
--   sign_by text p     == the sign that a token is by itself
--   sign_at text p     == the sign that a token of the text is: a digit with the number that begins there
--   bounded_signs      == the signs of texts
--   items text         == the items of a text
use Rattle.std.specs.Prelude.{ℕ, false, List, drop}
use Rattle.ml_text.specs.declared.token.WordStart.TheVariants.{LowerCase}
use Rattle.ml_text.specs.declared.token.Placed.{Placed}
use Rattle.ml_text.specs.Items as text_items
use Rattle.ml_text.specs.Items.{SignTable, bytes_of}
use Rattle.ml_text.specs.Refusals.{Item}
use Rattle.ml_text.specs.Signs.{bracket_of}
use Rattle.ml_text.specs.Operators.{weight}
use Rattle.ml_text.specs.declared.named_signs.Sign.TheVariants.{Not, Connective, Const, Lower, Upper, Added}
use Rattle.ml_bounded.specs.Numbers.{begins_number, number_at}
use Rattle.ml_bounded.specs.Signs.{Sign, numbered, own, sign_of}
use Rattle.ml_bounded.specs.declared.signs.Own.TheVariants.{Tensed, Pairs}

abbrev pub weight_of : Sign → ℕ
weight_of Not = 1
weight_of (Connective o) = weight o
weight_of (Const b) = 1
weight_of (Lower p) = 1
weight_of (Upper p) = 1
weight_of (Added (Tensed t)) = 1
weight_of (Added (Pairs p)) = 1
weight_of _ = 0

abbrev pub sign_by : List ℕ → Placed → Sign
sign_by text p = sign_of p.token (bytes_of text p)

abbrev pub sign_at : List ℕ → Placed → Sign
sign_at text p = numbered (begins_number text p.start) (number_at (drop p.start text)) (sign_by text p)

abbrev pub bounded_signs : SignTable Sign (Unit {0})
bounded_signs = record {
  words = LowerCase;
  sign_at = sign_at;
  first = tt;
  behind = λ s. tt;
  weight = λ c s. weight_of s;
  bracket = bracket_of own;
  is_noted = λ c s. false;
}

abbrev pub items : List ℕ → List (Item Sign)
items text = text_items.items bounded_signs text
