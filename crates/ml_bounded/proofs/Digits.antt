-- Numbers in texts.
--
--   short_has_none, first_has_none == a text without a first digit begins with no number
use Rattle.std.proofs.Common.{◌≡◌, ℕ, ◌+◌, ◌<◌, false, if◌then◌else◌, List, [], ◌∷◌, length, take, slice_index, refl, sym, ap, arith}
use Rattle.std.specs.List.{prefix_len}
use Rattle.ml_text.specs.Bytes.{is_digit}
use Rattle.ml_bounded.specs.Numbers.{number_at, value_of}

pub short_has_none : (text : List ℕ) → length text < 1 → 0 ≡ number_at text
short_has_none [] short = refl
short_has_none (b ∷ text) short = absurd (omega (arith, short))

pub first_has_none : (text : List ℕ) → is_digit (slice_index text 0) ≡ false → 0 ≡ number_at text
first_has_none [] is = refl
first_has_none (b ∷ text) is =
    sym (ap (λ x. value_of 0 (take (if x then 1 + prefix_len is_digit (take 2 text) else 0) (b ∷ take 2 text))) is)
