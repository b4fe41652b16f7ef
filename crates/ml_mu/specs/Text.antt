-- Mu texts: their items, with what each counts, and the places of their variables.
--
-- The sign directly behind `<`, `[`, `mu` or `nu` is an action or the variable of a binder: it counts as no occurrence,
-- since the modality and the binder are counted at their first sign, and it is no place of a variable.
--
--   weight_of s          == as how many occurrences a sign counts
--   silences s           == the sign behind s counts nothing
--   is_variable_at ..    == a sign is a variable that isn't silent
--   mu_signs             == the signs of mu texts; the context of a sign is whether it is silent
--   items text           == the items of a text
--   variable_places is   == the offsets of the variables among the items, in the order of the text
use Rattle.std.specs.Prelude.{ℕ, Bool, true, false, if◌then◌else◌, List}
use Rattle.ml_text.specs.declared.token.WordStart.TheVariants.{AnyLetter}
use Rattle.ml_text.specs.declared.token.Placed.{Placed}
use Rattle.ml_text.specs.Items as text_items
use Rattle.ml_text.specs.Items.{SignTable, bytes_of}
use Rattle.ml_text.specs.Refusals.{Item}
use Rattle.ml_text.specs.Signs.{bracket_of}
use Rattle.ml_text.specs.Operators.{weight}
use Rattle.ml_text.specs.declared.named_signs.Sign.TheVariants.{Not, Connective, Const, Lower, Upper, Added}
use Rattle.ml_mu.specs.Signs.{Sign, own, sign_of}
use Rattle.ml_mu.specs.declared.signs.Own.TheVariants.{Begins, Binds}

abbrev pub weight_of : Sign → ℕ
weight_of Not = 1
weight_of (Connective o) = weight o
weight_of (Const b) = 1
weight_of (Added (Begins m)) = 1
weight_of (Added (Binds q)) = 1
weight_of (Lower p) = 1
weight_of (Upper x) = 1
weight_of _ = 0

abbrev pub silences : Sign → Bool
silences (Added (Begins m)) = true
silences (Added (Binds q)) = true
silences _ = false

abbrev pub sign_at : List ℕ → Placed → Sign
sign_at text p = sign_of p.token (bytes_of text p)

abbrev pub is_variable_at : Bool → Sign → Bool
is_variable_at false (Upper x) = true
is_variable_at _ _ = false

abbrev pub mu_signs : SignTable Sign Bool
mu_signs = record {
  words = AnyLetter;
  sign_at = sign_at;
  first = false;
  behind = silences;
  weight = λ silent s. if silent then 0 else weight_of s;
  bracket = bracket_of own;
  is_noted = is_variable_at;
}

abbrev pub items : List ℕ → List (Item Sign)
items text = text_items.items mu_signs text

abbrev pub places_from : Bool → List (Item Sign) → List ℕ
places_from silent is = text_items.noted_from mu_signs silent is

abbrev pub variable_places : List (Item Sign) → List ℕ
variable_places is = places_from false is
