-- What the words of written lines are read as.
--
--   is_number, are_numbers        == a number's word is a number, and so are those of numbers
--   words_first, words_number, words_numbers == words with numbers among them have bytes
--   value_back, values_back       == the values of the words for numbers
--   no_dash                       == no number is written `-`
--   guess_back, guess_word_fits, guess_is_word == the odd priority of an item, or none, and that its word is as it must be
--   differ                        == words that differ aren't equal
--   spelt_is_word                 == a word that spells a number has a byte
--   same_word, other_word         == words that were compared with fixed ones
--   words_are, first_word, some_word == the words of a line, by its first one
use Rattle.std.proofs.Common.{◌≡◌, ℕ, ◌<◌, Bool, true, false, cond, List, [], ◌∷◌, length, Option, None, Some, All, codes, refl, sym, ap, ◌∙◌, inl, inr, arith}
use Rattle.std.specs.List.{list_all}
use Rattle.std.specs.Str.{bytes_eq, all_ascii_digits}
use Rattle.std.proofs.lemmas.Bool.{true≢false, and_from}
use Rattle.std.proofs.lemmas.Slice.Eq.{bytes_eq-Decides}
use Rattle.std.proofs.lemmas.List.Elements.{All-nil, All-cons, All-head, All-tail}
use Rattle.ml_lines.specs.Lines.{Word, Line, number}
use Rattle.ml_lines.specs.Reading.{AreWords, IsNumber, is_word, is_blank, value, words_of, words_behind}
use Rattle.ml_lines.proofs.Cuts.{some_part}
use Rattle.ml_lines.proofs.Numbers.{value-number, digits-number}
use Rattle.ml_lines.proofs.WordBytes.{number-is_word}
use Rattle.ml_refutation.specs.Refutation.{Fits}
use Rattle.ml_refutation.specs.Guesses.{FitsGuess}
use Rattle.ml_refutation_text.specs.RefutationText.{numbers, guess_word}
use Rattle.ml_refutation_text.specs.LineKinds.{Spells}
use Rattle.ml_refutation_text.specs.LineKinds.{FitsSlot, AGuess}
use Rattle.ml_refutation_text.specs.BodyRules.{values, guess_of}

pub is_number : (n : ℕ) → Fits n → IsNumber (number n)
is_number n fits = (n, fits, refl)

pub are_numbers : (ns : List ℕ) → All Fits ns → All IsNumber (numbers ns)
are_numbers [] fit = All-nil IsNumber
are_numbers (n ∷ ns) fit =
    All-cons IsNumber (number n) (numbers ns) (is_number n (All-head Fits n ns fit))
    (are_numbers ns (All-tail Fits n ns fit))

pub words_first : (w : Word) (line : Line) → is_word w ≡ true → AreWords line → AreWords (w ∷ line)
words_first w line is words = and_from (is_word w) (list_all is_word line) is words

pub words_number : (n : ℕ) (line : Line) → Fits n → AreWords line → AreWords (number n ∷ line)
words_number n line fits words = words_first (number n) line (number-is_word n (omega (arith, fits))) words

pub words_numbers : (ns : List ℕ) → All Fits ns → AreWords (numbers ns)
words_numbers [] fit = refl
words_numbers (n ∷ ns) fit =
    words_number n (numbers ns) (All-head Fits n ns fit) (words_numbers ns (All-tail Fits n ns fit))

pub value_back : (n : ℕ) → Fits n → value (number n) ≡ n
value_back n fits = value-number n (omega (arith, fits))

pub values_back : (ns : List ℕ) → All Fits ns → values (numbers ns) ≡ ns
values_back [] fit = refl
values_back (n ∷ ns) fit =
    let first = value_back n (All-head Fits n ns fit) in
    let others = values_back ns (All-tail Fits n ns fit) in
    λ i. first i ∷ others i

-- no number is written `-`
pub no_dash : (n : ℕ) → Fits n → bytes_eq (number n) (codes "-") ≡ false
no_dash n fits = go (bytes_eq (number n) (codes "-")) refl
  where
    go : (b : Bool) → bytes_eq (number n) (codes "-") ≡ b → bytes_eq (number n) (codes "-") ≡ false
    go false is = is
    go true is =
        let same = (bytes_eq-Decides (number n) (codes "-")).0 is in
        absurd (true≢false (sym (digits-number n (omega (arith, fits))) ∙ ap all_ascii_digits same))

pub guess_back : (odd : Option ℕ) → FitsGuess odd → guess_of (guess_word odd) ≡ odd
guess_back None fits = refl
guess_back (Some d) fits =
    ap (λ b. cond b None (Some (value (number d)))) (no_dash d fits) ∙ ap Some (value_back d fits)

pub guess_word_fits : (odd : Option ℕ) → FitsGuess odd → FitsSlot AGuess (guess_word odd)
guess_word_fits None fits = inl refl
guess_word_fits (Some d) fits = inr (is_number d fits)

pub guess_is_word : (odd : Option ℕ) → FitsGuess odd → is_word (guess_word odd) ≡ true
guess_is_word None fits = refl
guess_is_word (Some d) fits = number-is_word d (omega (arith, fits))

pub spelt_is_word : (w : Word) (n : ℕ) → Spells w n → is_word w ≡ true
spelt_is_word [] n spells = absurd (omega (arith, spells.some))
spelt_is_word (b ∷ bs) n spells = refl

pub differ : (a b : Word) → bytes_eq a b ≡ false → a ≡ b → ⊥
differ a b no_test same = true≢false (sym ((bytes_eq-Decides a b).1 same) ∙ no_test)

-- ---- words that were compared with fixed ones

pub same_word : (a b k : Word) → true ≡ bytes_eq a b → b ≡ k → a ≡ k
same_word a b k test is = (bytes_eq-Decides a b).0 (sym test) ∙ is

pub other_word : (a b k : Word) → false ≡ bytes_eq a b → b ≡ k → bytes_eq a k ≡ false
other_word a b k test is = ap (bytes_eq a) (sym is) ∙ sym test

-- the words of a line, by its first one and what stands behind it
pub words_are : (words : Line) (w : Word) (behind : Option (List ℕ)) (rest : List ℕ) → words ≡ w ∷ words_behind behind
    → behind ≡ Some rest → words ≡ w ∷ words_of rest
words_are words w behind rest is behind_is = is ∙ ap (λ b. w ∷ words_behind b) behind_is

-- where that one was compared with a fixed one
pub first_word : (words : Line) (w b k : Word) (behind : Option (List ℕ)) (rest : List ℕ)
    → words ≡ w ∷ words_behind behind
    → behind ≡ Some rest
    → true ≡ bytes_eq w b
    → b ≡ k → words ≡ k ∷ words_of rest
first_word words w b k behind rest is behind_is test same =
    words_are words w behind rest is behind_is ∙ ap (λ v. v ∷ words_of rest) (same_word w b k test same)

-- a line has a word
pub some_word : (line : List ℕ) → 0 < length (words_of line)
some_word line = some_part is_blank line
