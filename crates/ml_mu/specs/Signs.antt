-- The signs of mu texts: what the mu-calculus adds to those that all logics have.
--
-- `mu` and `nu` are reserved. A name that begins with a lower-case letter may be a proposition, one that begins with an
-- upper-case letter a variable, and either an action. `_` is an action.
--
--   Own             == the brackets of modalities, the words of binders, `.` and `_`
--   own             == their table
--   Sign            == a sign of the grammar, a name with its bytes
--   sign_of t bytes == the sign that a token with these bytes is
--   action_of s     == the action that a sign is, if it is one
use Rattle.std.specs.Prelude.{ℕ, List, [], ◌∷◌, Option, Some, codes}
use Rattle.ml_text.specs.Signs as signs
use Rattle.ml_text.specs.Signs.{Named, OwnSigns, name_of}
use Rattle.ml_text.specs.declared.limits.Bracket.TheVariants.{Neither}
use Rattle.ml_text.specs.declared.named_signs.Sign.TheVariants.{Added}
use Rattle.ml_text.specs.declared.token.Token.{Token}
use Rattle.ml_text.specs.declared.token.WordStart.TheVariants.{AnyLetter}
use Rattle.ml_mu.specs.Formula.{Diamond, Square, Least, Greatest}
use Rattle.ml_mu.specs.declared.signs.Own.{Own}
use Rattle.ml_mu.specs.declared.signs.Own.TheVariants.{Begins, Ends, Binds, Dot, Blank}

abbrev pub own : OwnSigns Own
own = record {
  starts = AnyLetter;
  words = (codes "mu", Binds Least) ∷ (codes "nu", Binds Greatest) ∷ [];
  bytes =
      -- < > [ ]
      (60, Begins Diamond)
      ∷ (62, Ends Diamond)
      ∷ (91, Begins Square)
      ∷ (93, Ends Square)
      -- . _
      ∷ (46, Dot)
      ∷ (95, Blank)
      ∷ [];
  bracket = λ x. Neither;
}

abbrev pub Sign : Type 0
Sign = Named Own

abbrev pub sign_of : Token → List ℕ → Sign
sign_of t bytes = signs.sign_of own t bytes

abbrev pub action_of : Sign → Option (List ℕ)
action_of (Added Blank) = Some (codes "_")
action_of s = name_of s
