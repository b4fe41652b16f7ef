-- The signs of PDL texts: what PDL adds to those that all logics have.
--
-- `repeat` is reserved. A name that begins with a lower-case letter may be a proposition, and each name an action. `_` is an
-- action. An opening parenthesis has a mark in a text, and is then a sign of PDL's own; which mark is said of whole texts
-- (`Marks.antt`).
--
--   Mark            == of `(`: marked as the one of a test, or not
--   Own             == `(` with its mark, the brackets of modalities, the word `repeat`, and `+`, `;`, `*`, `?`, `_`
--   own             == the table of those that a token is by itself
--   Sign            == a sign of the grammar, a name with its bytes
--   sign_of t bytes == the sign that a token with these bytes is by itself
--   action_of s     == the action that a sign is, if it is one
use Rattle.std.specs.Prelude.{ℕ, List, [], ◌∷◌, Option, Some, codes}
use Rattle.ml_text.specs.Signs as signs
use Rattle.ml_text.specs.Signs.{Named, OwnSigns, name_of}
use Rattle.ml_text.specs.declared.limits.Bracket.{Bracket}
use Rattle.ml_text.specs.declared.limits.Bracket.TheVariants.{Opening, Neither}
use Rattle.ml_text.specs.declared.named_signs.Sign.TheVariants.{Added}
use Rattle.ml_text.specs.declared.token.Token.{Token}
use Rattle.ml_text.specs.declared.token.WordStart.TheVariants.{AnyLetter}
use Rattle.ml_pdl.specs.declared.signs.Own.{Own}
use Rattle.ml_pdl.specs.declared.signs.Own.TheVariants.{Paren, Begins, Ends, Repeats, Plus, Semicolon, Star, Question, Blank}
use Rattle.ml_pdl.specs.declared.term.Modality.TheVariants.{Diamond, Square}

abbrev pub bracket_of_own : Own → Bracket
bracket_of_own (Paren k) = Opening
bracket_of_own _ = Neither

abbrev pub own : OwnSigns Own
own = record {
  starts = AnyLetter;
  words = (codes "repeat", Repeats) ∷ [];
  bytes =
      -- < > [ ]
      (60, Begins Diamond)
      ∷ (62, Ends Diamond)
      ∷ (91, Begins Square)
      ∷ (93, Ends Square)
      -- + ; * ? _
      ∷ (43, Plus)
      ∷ (59, Semicolon)
      ∷ (42, Star)
      ∷ (63, Question)
      ∷ (95, Blank)
      ∷ [];
  bracket = bracket_of_own;
}

abbrev pub Sign : Type 0
Sign = Named Own

abbrev pub sign_of : Token → List ℕ → Sign
sign_of t bytes = signs.sign_of own t bytes

abbrev pub action_of : Sign → Option (List ℕ)
action_of (Added Blank) = Some (codes "_")
action_of s = name_of s
