-- Texts as items: which signs the tokens of a text are, and what each of them counts.
--
-- Which sign a token is may depend on the whole text, as where a parenthesis is marked by what stands behind its
-- partner. What a sign counts may depend on the signs before it, as where a word is the action of a modality: a logic
-- says what it keeps of them, the context of the next sign.
--
--   SignTable             == what a logic says of its signs
--   bytes_of text p       == the bytes of a token
--   is_long_word p        == is the token a word with more bytes than a name may have?
--   item_at t text c p    == the item that a token of the text is, in the context c
--   items t text          == the items of a text
use Rattle.std.specs.Prelude.{ℕ, ◌-◌, ◌&&◌, Bool, true, false, nat_lt, if◌then◌else◌, List, [], ◌∷◌, take, drop}
use Rattle.ml_base.specs.Name.{longest_name}
use Rattle.ml_text.specs.Refusals.{Item}
use Rattle.ml_text.specs.declared.limits.Bracket.{Bracket}
use Rattle.ml_text.specs.Tokens.{tokens}
use Rattle.ml_text.specs.declared.token.Token.{Token}
use Rattle.ml_text.specs.declared.token.Token.TheVariants as token
use Rattle.ml_text.specs.declared.token.WordStart.{WordStart}
use Rattle.ml_text.specs.declared.token.Placed.{Placed}

pub record SignTable (Sign Context : Type 0) : Type 0 where
  -- which letters begin a word
  pub words : WordStart
  -- the sign that a token of a text is
  pub sign_at : List ℕ → Placed → Sign
  -- the context of the first sign, and that behind a sign
  pub first : Context
  pub behind : Sign → Context
  -- as how many occurrences a sign counts
  pub weight : Context → Sign → ℕ
  -- which parenthesis it is, if it is one
  pub bracket : Sign → Bracket
  -- is its place wanted?
  pub is_noted : Context → Sign → Bool

abbrev pub bytes_of : List ℕ → Placed → List ℕ
bytes_of text p = take (p.end - p.start) (drop p.start text)

abbrev pub is_word : Token → Bool
is_word token.Word = true
is_word _ = false

abbrev pub is_long_word : Placed → Bool
is_long_word p = is_word p.token && nat_lt longest_name (p.end - p.start)

abbrev pub item_at : {Sign Context : Type 0} → SignTable Sign Context → List ℕ → Context → Placed → Item Sign
item_at t text c p = record {
  sign = t.sign_at text p;
  at = p.start;
  weight = t.weight c (t.sign_at text p);
  bracket = t.bracket (t.sign_at text p);
  is_long = is_long_word p;
}

abbrev pub items_from : {Sign Context : Type 0}
    → SignTable Sign Context
    → List ℕ
    → Context
    → List Placed
    → List (Item Sign)
items_from t text c [] = []
items_from t text c (p ∷ ps) = item_at t text c p ∷ items_from t text (t.behind (t.sign_at text p)) ps

abbrev pub items : {Sign Context : Type 0} → SignTable Sign Context → List ℕ → List (Item Sign)
items t text = items_from t text t.first (tokens t.words text)

abbrev pub noted_from : {Sign Context : Type 0} → SignTable Sign Context → Context → List (Item Sign) → List ℕ
noted_from t c [] = []
noted_from t c (i ∷ is) =
    if t.is_noted c i.sign then i.at ∷ noted_from t (t.behind i.sign) is else noted_from t (t.behind i.sign) is
