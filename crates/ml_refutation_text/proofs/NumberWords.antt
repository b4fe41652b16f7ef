-- Words that are numbers, word by word.
--
--   AreNumbersTo all ns rest  == of the words `all`, the numbers ns were read, and the rest is left
--   size_left                 == how much is left
--   number_read, numbers_done == one more number; at the end all words are numbers
--   not_number                == a word that is none
--   IsAnyTo word i n          == of the word, i digits were read, whose value, but no more than 64 bits, is n
--   any_begin, any_read, any_done, any_refused, any_empty, any_zero == the same of a number of any size
use Rattle.std.proofs.Common.{◌≡◌, ℕ, ◌+◌, ◌-◌, ◌*◌, ◌^◌, ◌<◌, ◌≤◌, min, true, false, ◌&&◌, List, [], ◌∷◌, ◌++◌, length, get_or}
use Rattle.std.proofs.Common.{drop, Option, None, Some, All, refl, sym, ap, subst, ◌∙◌, append_assoc, arith}
use Rattle.std.specs.Str.{all_ascii_digits}
use Rattle.std.specs.Char.{is_ascii_digit}
use Rattle.std.proofs.lemmas.Bool.{true≢false}
use Rattle.std.proofs.lemmas.List.{append-nil, map-append, drop_more, drop_all}
use Rattle.std.proofs.lemmas.List.Elements.{All-nil, All-push, All-head, All-tail}
use Rattle.ml_lines.specs.Lines.{Word, Line, number}
use Rattle.ml_lines.specs.Reading.{words_of, words_behind, IsNumber, value, value_on}
use Rattle.ml_refutation.specs.Refutation.{Fits}
use Rattle.ml_refutation_text.specs.RefutationText.{numbers}
use Rattle.ml_refutation_text.specs.LineKinds.{Spells}
use Rattle.ml_refutation_text.specs.LineKinds.{IsSpelt}

pub record AreNumbersTo (all : Line) (ns : List ℕ) (rest : Option (List ℕ)) : Type 0 where
  pub whole : all ≡ numbers ns ++ words_behind rest
  pub fit : All Fits ns

pub numbers_begin : (rest : Option (List ℕ)) → AreNumbersTo (words_behind rest) [] rest
numbers_begin rest = record { whole = refl; fit = All-nil Fits }

abbrev pub size_left : Option (List ℕ) → ℕ
size_left None = 0
size_left (Some text) = length text + 1

number_at : (ns : List ℕ) (w : Word) (others : Line) → All IsNumber (numbers ns ++ w ∷ others) → IsNumber w
number_at [] w others all = All-head IsNumber w others all
number_at (n ∷ ns) w others all = number_at ns w others (All-tail IsNumber (number n) (numbers ns ++ w ∷ others) all)

module _ (all : Line) (ns : List ℕ) (text : List ℕ) (w : Word) (behind : Option (List ℕ))
    (so_far : AreNumbersTo all ns (Some text)) (is : words_of text ≡ w ∷ words_behind behind) where
  whole_is : all ≡ numbers ns ++ w ∷ words_behind behind
  whole_is = so_far.whole ∙ ap (λ rest. numbers ns ++ rest) is

  pub number_read : (n : ℕ) → w ≡ number n → n < 2 ^ 32 → AreNumbersTo all (ns ++ n ∷ []) behind
  number_read n is_n fits = record {
    whole =
        whole_is ∙ ap (λ v. numbers ns ++ v ∷ words_behind behind) is_n
        ∙ sym (append_assoc (numbers ns) (number n ∷ []) (words_behind behind))
        ∙ ap (λ ws. ws ++ words_behind behind) (sym (map-append number ns (n ∷ [])));
    fit = All-push Fits ns n so_far.fit fits;
  }

  pub not_number : ¬ (IsNumber w) → ¬ (All IsNumber all)
  not_number none are = none (number_at ns w (words_behind behind) (subst (All IsNumber) whole_is are))

pub numbers_done : (all : Line) (ns : List ℕ) → AreNumbersTo all ns None → (all ≡ numbers ns) × All Fits ns
numbers_done all ns so_far = (so_far.whole ∙ append-nil (numbers ns), so_far.fit)

-- ---- numbers of any size

pub record IsAnyTo (word : Word) (i n : ℕ) : Type 0 where
  pub m : ℕ
  pub value_left : value word ≡ value_on m (drop i word)
  pub capped : n ≡ min m (2 ^ 64 - 1)
  pub digits_left : all_ascii_digits word ≡ all_ascii_digits (drop i word)

pub any_begin : (word : Word) → IsAnyTo word 0 0
any_begin word = record { m = 0; value_left = refl; capped = omega arith; digits_left = refl }

pub any_read : (word : Word) (i n k : ℕ) → i < length word → is_ascii_digit (get_or word i 0) ≡ true → IsAnyTo word i n
    → k ≡ min (min (n * 10) (2 ^ 64 - 1) + (get_or word i 0 - 48)) (2 ^ 64 - 1)
    → IsAnyTo word (i + 1) k
any_read word i n k here digit so_far is = record {
  m = 10 * so_far.m + (get_or word i 0 - 48);
  value_left = so_far.value_left ∙ ap (value_on so_far.m) (drop_more word i 0 here);
  capped = omega (arith, is, so_far.capped);
  digits_left =
      so_far.digits_left ∙ ap all_ascii_digits (drop_more word i 0 here)
      ∙ ap (λ first. first && all_ascii_digits (drop (i + 1) word)) digit;
}

pub any_refused : (word : Word) (i n : ℕ)
    → i < length word
    → IsAnyTo word i n
    → is_ascii_digit (get_or word i 0) ≡ false
    → ¬ (IsSpelt word)
any_refused word i n here so_far other (k, spells) =
    true≢false
    (sym spells.digits ∙ so_far.digits_left ∙ ap all_ascii_digits (drop_more word i 0 here)
    ∙ ap (λ first. first && all_ascii_digits (drop (i + 1) word)) other)

pub any_empty : (word : Word) → length word ≡ 0 → ¬ (IsSpelt word)
any_empty word none (k, spells) = absurd (omega (arith, none, spells.some))

pub any_zero : (word : Word) → get_or word 0 0 ≡ 48 → 1 < length word → ¬ (IsSpelt word)
any_zero word first long (k, spells) = absurd (omega (arith, long, spells.no_zero_leads first))

pub any_done : (word : Word) (i n : ℕ) → length word ≤ i → 0 < length word → (get_or word 0 0 ≡ 48 → length word ≡ 1)
    → IsAnyTo word i n → Spells word (value word) × (n ≡ min (value word) (2 ^ 64 - 1))
any_done word i n past some no_zero so_far =
    let none = drop_all i word past in
    let is : value word ≡ so_far.m = so_far.value_left ∙ ap (value_on so_far.m) none in (
      record {
        digits = so_far.digits_left ∙ ap all_ascii_digits none;
        some = some;
        no_zero_leads = no_zero;
        is_value = refl;
      },
      so_far.capped ∙ ap (λ m. min m (2 ^ 64 - 1)) (sym is),
    )
