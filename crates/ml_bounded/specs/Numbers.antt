-- Numbers in texts: NUM is one to three digits, the longest such token. So of a run of digits outside a word the first three
-- are a number, the next three the next one, and what is left is the last: `1000` is the numbers `100` and `0`.
--
--   value_of n ds          == the number with the digits ds behind those of n
--   number_at text         == the number with which the text begins
--   digits_before text i   == how many digits stand directly before the byte i
--   begins_number text i   == does a number begin at the byte i, if it is a digit outside a word?
use Rattle.std.specs.Prelude.{ℕ, ◌==◌, ◌+◌, ◌-◌, ◌*◌, ◌%◌, Bool, List, [], ◌∷◌, length, take, reverse}
use Rattle.std.specs.List.{take_while}
use Rattle.ml_text.specs.Bytes.{is_digit}

abbrev pub value_of : ℕ → List ℕ → ℕ
value_of n [] = n
value_of n (d ∷ ds) = value_of (10 * n + (d - 48)) ds

abbrev pub number_at : List ℕ → ℕ
number_at text = value_of 0 (take_while is_digit (take 3 text))

abbrev pub digits_before : List ℕ → ℕ → ℕ
digits_before text i = length (take_while is_digit (reverse (take i text)))

abbrev pub begins_number : List ℕ → ℕ → Bool
begins_number text i = digits_before text i % 3 == 0
