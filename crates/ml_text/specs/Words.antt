-- Words, and the words that every logic reserves for the two constants. Words are lists of bytes.
--
--   IsWordOf w word  == a byte that begins words as w says, and then letters, digits and `_`
--   IsWord word      == a letter, and then letters, digits and `_`
--   is_word_from t w == is it a byte that passes the test t, and then letters, digits and `_`?
--   true_words       == the words for truth
--   false_words      == the words for falsity
--   constant_of word == which constant this word stands for, if it is one of these
use Rattle.std.specs.Prelude.{◌≡◌, ℕ, Bool, true, false, ◌&&◌, List, [], ◌∷◌, Option, Some, None, if◌then◌else◌, codes, bytes_eq}
use Rattle.std.specs.List.{AllPass, list_any, list_all}
use Rattle.ml_text.specs.Bytes.{is_word_byte}
use Rattle.ml_text.specs.Tokens.{begins_word}
use Rattle.ml_text.specs.declared.token.WordStart.{WordStart}
use Rattle.ml_text.specs.declared.token.WordStart.TheVariants.{AnyLetter}

abbrev pub IsWordOf : WordStart → List ℕ → Type 0
IsWordOf w [] = ⊥
IsWordOf w (b ∷ rest) = (begins_word w b ≡ true) × AllPass is_word_byte rest

abbrev pub IsWord : List ℕ → Type 0
IsWord word = IsWordOf AnyLetter word

abbrev pub is_word_from : (ℕ → Bool) → List ℕ → Bool
is_word_from begins [] = false
is_word_from begins (b ∷ rest) = begins b && list_all is_word_byte rest

abbrev pub true_words : List (List ℕ)
true_words = codes "tt" ∷ codes "true" ∷ []

abbrev pub false_words : List (List ℕ)
false_words = codes "ff" ∷ codes "false" ∷ []

unfoldable pub constant_of : List ℕ → Option Bool
constant_of word =
    if list_any (bytes_eq word) true_words then Some true
    else (if list_any (bytes_eq word) false_words then Some false else None)
