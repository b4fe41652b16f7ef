-- That marks are those of tests.
--
--   open_behind n ts    == of n open parentheses and those of ts, how many are open behind ts; none where ts close one too many
--   IsTestBehind ts     == behind a `(` stand signs whose parentheses are partners of one another, then `)` and `?`
--   marked ts           == the signs ts with the marks that they have as a text
--   MarksAreOfTests     == the law that the test says so
use Rattle.std.specs.Prelude.{◌≡◌, ℕ, zero, suc, List, [], ◌∷◌, ◌++◌, Option, Some, None, IsTrue, ◌↔◌}
use Rattle.ml_text.specs.declared.named_signs.Sign.TheVariants.{Close, Open, Added}
use Rattle.ml_pdl.specs.Signs.{Sign}
use Rattle.ml_pdl.specs.declared.signs.Own.TheVariants.{Question}
use Rattle.ml_pdl.specs.Marks.{is_test_behind, with_mark}

abbrev pub open_behind : ℕ → List Sign → Option ℕ
open_behind n [] = Some n
open_behind n (Open ∷ ts) = open_behind (suc n) ts
open_behind zero (Close ∷ ts) = None
open_behind (suc n) (Close ∷ ts) = open_behind n ts
open_behind n (_ ∷ ts) = open_behind n ts

abbrev pub IsTestBehind : List Sign → Type 0
IsTestBehind ts = (inside : List Sign) × (after : List Sign) × (ts ≡ inside ++ Close ∷ Added Question ∷ after) × (open_behind 0 inside ≡ Some 0)

abbrev pub marked : List Sign → List Sign
marked [] = []
marked (t ∷ ts) = with_mark (is_test_behind 0 ts) t ∷ marked ts

abbrev pub MarksAreOfTests : Type 0
MarksAreOfTests = (ts : List Sign) → IsTrue (is_test_behind 0 ts) ↔ IsTestBehind ts
