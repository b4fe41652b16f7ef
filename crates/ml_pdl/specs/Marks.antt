-- Which opening parentheses of a text are marked: those whose partner is directly followed by `?`.
--
-- Partners are found by counting parentheses, whatever else stands there: between a `(` and its partner as many are
-- closed as are opened, and on the way never more. A `(` that has no partner is not marked.
--
--   is_test_behind n ts == the same as a test, where n further parentheses are open
--   with_mark b t       == the sign t, marked where b is true if it is a `(`
use Rattle.std.specs.Prelude.{ℕ, zero, suc, Bool, true, false, List, [], ◌∷◌}
use Rattle.ml_text.specs.declared.named_signs.Sign.TheVariants.{Close, Open, Added}
use Rattle.ml_pdl.specs.Signs.{Sign}
use Rattle.ml_pdl.specs.declared.signs.Own.TheVariants.{Paren, Question}
use Rattle.ml_pdl.specs.declared.signs.Mark.{Mark}
use Rattle.ml_pdl.specs.declared.signs.Mark.TheVariants.{Marked, Unmarked}

abbrev pub asks : List Sign → Bool
asks (Added Question ∷ ts) = true
asks _ = false

abbrev pub is_test_behind : ℕ → List Sign → Bool
is_test_behind n [] = false
is_test_behind n (Open ∷ ts) = is_test_behind (suc n) ts
is_test_behind zero (Close ∷ ts) = asks ts
is_test_behind (suc n) (Close ∷ ts) = is_test_behind n ts
is_test_behind n (_ ∷ ts) = is_test_behind n ts

abbrev pub mark_of : Bool → Mark
mark_of true = Marked
mark_of false = Unmarked

abbrev pub with_mark : Bool → Sign → Sign
with_mark b Open = Added (Paren (mark_of b))
with_mark b t = t
