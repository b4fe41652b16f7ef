-- Which parentheses of a text are marked, told from its bytes. Behind each byte is said of each number of open
-- parentheses whether the one that closes the last of them is directly followed by `?`.
--
--   asks_at bytes     == is `?` the first byte that is no blank?
--   test_at n bytes   == where n further parentheses are open, is there a partner in the bytes, and `?` directly behind it?
--   told tests n      == what a list of such answers says of n, which is no where it ends
--   Tells tests bytes == the list, read from its end, says of each n what the bytes do
--   AreMarks marks text == of each `(` of the text the flag at its place says whether it is marked
use Rattle.std.specs.Prelude.{ℕ, zero, suc, ◌==◌, ◌+◌, ◌<◌, ◌≡◌, Bool, false, if◌then◌else◌, List, [], ◌∷◌, length, get_or, reverse}
use Rattle.ml_text.specs.Bytes.{is_blank}
use Rattle.ml_pdl.specs.Marks.{is_test_behind}
use Rattle.ml_pdl.specs.Text.{signs_behind}

abbrev pub asks_at : List ℕ → Bool
asks_at [] = false
asks_at (b ∷ bytes) = if is_blank b then asks_at bytes else b == 63

abbrev pub closes : ℕ → Bool → (ℕ → Bool) → Bool
closes zero asks more = asks
closes (suc n) asks more = more n

abbrev pub test_at : ℕ → List ℕ → Bool
test_at n [] = false
test_at n (b ∷ bytes) =
    if b == 40 then test_at (suc n) bytes
    else (if b == 41 then closes n (asks_at bytes) (λ m. test_at m bytes) else test_at n bytes)

abbrev pub told : List Bool → ℕ → Bool
told [] n = false
told (t ∷ tests) zero = t
told (t ∷ tests) (suc n) = told tests n

abbrev pub Tells : List Bool → List ℕ → Type 0
Tells tests bytes = (n : ℕ) → told (reverse tests) n ≡ test_at n bytes

abbrev pub AreMarks : List Bool → List ℕ → Type 0
AreMarks marks text =
    (length marks ≡ length text)
    × ((i : ℕ) → i < length text → get_or text i 0 ≡ 40 → get_or marks i false ≡ is_test_behind 0 (signs_behind text (i + 1)))
