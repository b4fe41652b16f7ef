-- PDL texts: their items, with what each counts, and the marks of their parentheses.
--
-- A modality is counted at its first sign, a test at its `?`, a repetition at its word, and each other symbol at its own
-- sign; the action `_` of a modality without a program is counted where the modality's program ends. Which parentheses
-- are marked is told from the whole text, before anything is read: a `(` whose partner is directly followed by `?`.
--
--   weight_of b s        == as how many occurrences a sign counts; b says whether it stands directly behind `<` or `[`
--   begins_modality s    == is s `<` or `[`?
--   sign_by text p       == the sign that a token is by itself
--   signs_behind text i  == the same, of all tokens from the byte i on
--   sign_at text p       == the sign that a token of the text is: a `(` with its mark
--   pdl_signs            == the signs of PDL texts; the context of a sign is whether it stands directly behind `<` or `[`
--   items text           == the items of a text
use Rattle.std.specs.Prelude.{ℕ, Bool, true, false, if◌then◌else◌, List, map}
use Rattle.ml_text.specs.declared.token.WordStart.TheVariants.{AnyLetter}
use Rattle.ml_text.specs.declared.token.Placed.{Placed}
use Rattle.ml_text.specs.Tokens.{tokens_from}
use Rattle.ml_text.specs.Items as text_items
use Rattle.ml_text.specs.Items.{SignTable, bytes_of}
use Rattle.ml_text.specs.Refusals.{Item}
use Rattle.ml_text.specs.Signs.{bracket_of}
use Rattle.ml_text.specs.Operators.{weight}
use Rattle.ml_text.specs.declared.named_signs.Sign.TheVariants.{Connective, Open, Close, Unknown, Added}
use Rattle.ml_pdl.specs.Signs.{Sign, own, sign_of}
use Rattle.ml_pdl.specs.declared.signs.Own.TheVariants.{Begins, Ends, Paren}
use Rattle.ml_pdl.specs.Marks.{is_test_behind, with_mark}

abbrev pub weight_of : Bool → Sign → ℕ
weight_of b (Connective o) = weight o
weight_of b (Added (Ends m)) = if b then 1 else 0
weight_of b (Added (Paren k)) = 0
weight_of b Open = 0
weight_of b Close = 0
weight_of b Unknown = 0
weight_of b _ = 1

abbrev pub begins_modality : Sign → Bool
begins_modality (Added (Begins m)) = true
begins_modality _ = false

abbrev pub sign_by : List ℕ → Placed → Sign
sign_by text p = sign_of p.token (bytes_of text p)

abbrev pub signs_behind : List ℕ → ℕ → List Sign
signs_behind text i = map (sign_by text) (tokens_from AnyLetter text i)

abbrev pub sign_at : List ℕ → Placed → Sign
sign_at text p = with_mark (is_test_behind 0 (signs_behind text p.end)) (sign_by text p)

abbrev pub pdl_signs : SignTable Sign Bool
pdl_signs = record {
  words = AnyLetter;
  sign_at = sign_at;
  first = false;
  behind = begins_modality;
  weight = weight_of;
  bracket = bracket_of own;
  is_noted = λ b s. false;
}

abbrev pub items : List ℕ → List (Item Sign)
items text = text_items.items pdl_signs text
