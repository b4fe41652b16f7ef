-- The signs of CTL* and LTL texts: what they add to those that all logics have.
--
-- A word begins with a lower-case letter; an upper-case letter outside a word is a token by itself. No words are reserved
-- but those of the constants.
--
--   Own            == the letters of tenses, of pairings and of quantifiers
--   own            == their table
--   Sign           == a sign of the grammar, a name with its bytes
--   sign_of t bytes == the sign that a token with these bytes is
use Rattle.std.specs.Prelude.{ℕ, List, [], ◌∷◌}
use Rattle.ml_text.specs.Signs as signs
use Rattle.ml_text.specs.Signs.{Named, OwnSigns}
use Rattle.ml_text.specs.declared.limits.Bracket.TheVariants.{Neither}
use Rattle.ml_text.specs.declared.token.Token.{Token}
use Rattle.ml_text.specs.declared.token.WordStart.TheVariants.{LowerCase}
use Rattle.ml_ctl.specs.declared.signs.Own.{Own}
use Rattle.ml_ctl.specs.declared.signs.Own.TheVariants.{Tensed, Pairs, Quantifies}
use Rattle.ml_ctl.specs.declared.term.Pairing.TheVariants.{Until, Release, Weak}
use Rattle.ml_ctl.specs.declared.term.Quantifier.TheVariants.{Exists, Forall}
use Rattle.ml_ctl.specs.declared.term.Tense.TheVariants.{Next, Finally, Globally}

abbrev pub own : OwnSigns Own
own = record {
  starts = LowerCase;
  words = [];
  bytes =
      -- X F G
      (88, Tensed Next)
      ∷ (70, Tensed Finally)
      ∷ (71, Tensed Globally)
      -- U R W
      ∷ (85, Pairs Until)
      ∷ (82, Pairs Release)
      ∷ (87, Pairs Weak)
      -- E A
      ∷ (69, Quantifies Exists)
      ∷ (65, Quantifies Forall)
      ∷ [];
  bracket = λ x. Neither;
}

abbrev pub Sign : Type 0
Sign = Named Own

abbrev pub sign_of : Token → List ℕ → Sign
sign_of t bytes = signs.sign_of own t bytes
