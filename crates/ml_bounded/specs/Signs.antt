-- The signs of texts of LTL with bounds: what they add to those that all logics have.
--
-- A word begins with a lower-case letter; an upper-case letter outside a word is a token by itself. No words are reserved
-- but those of the constants. A digit outside a word is a token by itself: the first digit of a number stands for the whole
-- number, and the others say nothing more. Which digits are first is said of whole texts (`Numbers.antt`).
--
--   Own              == letters of tenses and of pairings, `[`, `]`, `:` or `,`, a number at its first digit, another digit
--   own              == the table of those that a token is by itself
--   Sign             == a sign of the grammar, a name with its bytes
--   sign_of t bytes  == the sign that a token with these bytes is by itself
--   numbered b n s   == the sign s, where it is a digit, and b says whether the number n begins there
use Rattle.std.specs.Prelude.{ℕ, Bool, List, [], ◌∷◌, if◌then◌else◌}
use Rattle.ml_text.specs.Signs as signs
use Rattle.ml_text.specs.Signs.{Named, OwnSigns}
use Rattle.ml_text.specs.declared.limits.Bracket.TheVariants.{Neither}
use Rattle.ml_text.specs.declared.named_signs.Sign.TheVariants.{Added}
use Rattle.ml_text.specs.declared.token.Token.{Token}
use Rattle.ml_text.specs.declared.token.WordStart.TheVariants.{LowerCase}
use Rattle.ml_ctl.specs.declared.term.Pairing.TheVariants.{Until, Release, Weak}
use Rattle.ml_ctl.specs.declared.term.Tense.TheVariants.{Next, Finally, Globally}
use Rattle.ml_bounded.specs.declared.signs.Own.{Own}
use Rattle.ml_bounded.specs.declared.signs.Own.TheVariants.{Tensed, Pairs, Opening, Closing, Between, Number, Digit}

abbrev pub own : OwnSigns Own
own = record {
  starts = LowerCase;
  words = [];
  bytes =
      -- X F G
      (88, Tensed Next)
      ∷ (70, Tensed Finally)
      ∷ (71, Tensed Globally)
      -- U R W
      ∷ (85, Pairs Until)
      ∷ (82, Pairs Release)
      ∷ (87, Pairs Weak)
      -- [ ] : ,
      ∷ (91, Opening)
      ∷ (93, Closing)
      ∷ (58, Between)
      ∷ (44, Between)
      -- 0 to 9
      ∷ (48, Digit)
      ∷ (49, Digit)
      ∷ (50, Digit)
      ∷ (51, Digit)
      ∷ (52, Digit)
      ∷ (53, Digit)
      ∷ (54, Digit)
      ∷ (55, Digit)
      ∷ (56, Digit)
      ∷ (57, Digit)
      ∷ [];
  bracket = λ x. Neither;
}

abbrev pub Sign : Type 0
Sign = Named Own

abbrev pub sign_of : Token → List ℕ → Sign
sign_of t bytes = signs.sign_of own t bytes

abbrev pub numbered : Bool → ℕ → Sign → Sign
numbered b n (Added Digit) = if b then Added (Number n) else Added Digit
numbered b n s = s
