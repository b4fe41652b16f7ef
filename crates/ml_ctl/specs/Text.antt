-- CTL* and LTL texts: their items, with what each counts. Each symbol is counted at its own sign.
--
--   weight_of s        == as how many occurrences a sign counts
--   sign_at text p     == the sign that a token of the text is
--   ctl_signs          == the signs of texts; nothing is to be known of those before
--   items text         == the items of a text
use Rattle.std.specs.Prelude.{ℕ, false, List}
use Rattle.ml_text.specs.declared.token.WordStart.TheVariants.{LowerCase}
use Rattle.ml_text.specs.declared.token.Placed.{Placed}
use Rattle.ml_text.specs.Items as text_items
use Rattle.ml_text.specs.Items.{SignTable, bytes_of}
use Rattle.ml_text.specs.Refusals.{Item}
use Rattle.ml_text.specs.Signs.{bracket_of}
use Rattle.ml_text.specs.Operators.{weight}
use Rattle.ml_text.specs.declared.named_signs.Sign.TheVariants.{Connective, Open, Close, Unknown}
use Rattle.ml_ctl.specs.Signs.{Sign, own, sign_of}

abbrev pub weight_of : Sign → ℕ
weight_of (Connective o) = weight o
weight_of Open = 0
weight_of Close = 0
weight_of Unknown = 0
weight_of _ = 1

abbrev pub sign_at : List ℕ → Placed → Sign
sign_at text p = sign_of p.token (bytes_of text p)

abbrev pub ctl_signs : SignTable Sign (Unit {0})
ctl_signs = record {
  words = LowerCase;
  sign_at = sign_at;
  first = tt;
  behind = λ s. tt;
  weight = λ c s. weight_of s;
  bracket = bracket_of own;
  is_noted = λ c s. false;
}

abbrev pub items : List ℕ → List (Item Sign)
items text = text_items.items ctl_signs text
