-- The kinds of bytes that texts are made of, as tests. A byte is a number below 256; the tests are about ASCII
-- alone, so no byte from 128 on passes any of them.
--
--   is_blank b      == b is a space, a tab, a CR or a LF
--   is_lower b      == b is one of a to z
--   is_upper b      == b is one of A to Z
--   is_letter b     == b is one of these
--   is_digit b      == b is one of 0 to 9
--   is_word_byte b  == b may stand in a word behind its first letter: a letter, a digit or `_`
use Rattle.std.specs.Prelude.{ℕ, Bool, ◌==◌, ◌&&◌, ◌||◌, nat_le}

abbrev pub is_blank : ℕ → Bool
is_blank b = (b == 32) || (b == 9) || (b == 13) || (b == 10)

abbrev pub is_lower : ℕ → Bool
is_lower b = nat_le 97 b && nat_le b 122

abbrev pub is_upper : ℕ → Bool
is_upper b = nat_le 65 b && nat_le b 90

abbrev pub is_letter : ℕ → Bool
is_letter b = is_lower b || is_upper b

abbrev pub is_digit : ℕ → Bool
is_digit b = nat_le 48 b && nat_le b 57

abbrev pub is_word_byte : ℕ → Bool
is_word_byte b = is_letter b || is_digit b || (b == 95)
