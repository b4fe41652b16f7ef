-- Where a list of bytes is cut.
--
--   cut_none   == where no place passes the test, the list is the one part
--   cut_at     == the first part ends at the first place that does
--   byte_place == a search for a byte gives its first place
--   slice_end  == a list from a place on, up to the list's end
--   words_none, words_at == a line without a blank is one word; up to its first blank it is its first word
--   line_none  == a text without an LF has no line
--   line_at    == a text up to its first LF is its first line
use Rattle.std.proofs.Common.{◌≡◌, ℕ, ◌+◌, ◌-◌, ◌<◌, ◌≤◌, Bool, true, false, cond, not, nat_lt, List, [], ◌∷◌, Option, None}
use Rattle.std.proofs.Common.{Some, length, map, get_or, take, drop, position, refl, sym, ap, subst, ◌∙◌, arith}
use Rattle.std.specs.List.{slice_split, position_or_len, onto_first}
use Rattle.std.proofs.lemmas.List.Splits.{slice_split_first, length-slice_split}
use Rattle.std.proofs.lemmas.Bool.{false_from_ne_true}
use Rattle.std.proofs.lemmas.Bool.Decides.{nat_tests}
use Rattle.std.proofs.lemmas.List.{length-drop}
use Rattle.std.proofs.lemmas.List.Sums.{position_or_len_is}
use Rattle.std.proofs.Math.Seq.{take-length}
use Rattle.std.proofs.lemmas.Option.{cond_some}
use Rattle.memchr.specs.Find.{IsFirstByte, is_byte}
use Rattle.ml_lines.specs.Reading.{words_of, lines_of, left_of, fronts, last_part, is_blank, is_line_end}
use Rattle.ml_lists.proofs.Entries.{cond-none}

module _ (p : ℕ → Bool) where
  cut_past : (xs : List ℕ) → length xs ≤ position_or_len p xs → slice_split p xs ≡ xs ∷ []
  cut_past [] past = refl
  cut_past (x ∷ xs) past = go (p x) past (cut_past xs)
    where
      go : (b : Bool) → length (x ∷ xs) ≤ cond (not b) (1 + position_or_len p xs) 0
          → (length xs ≤ position_or_len p xs → slice_split p xs ≡ xs ∷ [])
          → cond b ([] ∷ slice_split p xs) (onto_first x (slice_split p xs)) ≡ (x ∷ xs) ∷ []
      go true past rest = absurd (omega arith)
      go false past rest = ap (onto_first x) (rest (omega arith))

  pub cut_none : (xs : List ℕ) → position p xs ≡ None → slice_split p xs ≡ xs ∷ []
  cut_none xs none =
      let past : nat_lt (position_or_len p xs) (length xs) ≡ false =
      (cond-none (nat_lt (position_or_len p xs) (length xs)) (position_or_len p xs) None none).0 in
      cut_past xs (grind (arith, nat_tests))

  pub cut_at : (xs : List ℕ) (i : ℕ)
      → position p xs ≡ Some i
      → (i < length xs) × (slice_split p xs ≡ take i xs ∷ slice_split p (drop (i + 1) xs))
  cut_at xs i some =
      let parts = cond_some (nat_lt (position_or_len p xs) (length xs)) (position_or_len p xs) i some in
      let below : position_or_len p xs < length xs = grind (arith, nat_tests) in (
        omega (arith, parts.1),
        subst (λ k. slice_split p xs ≡ take k xs ∷ slice_split p (drop (k + 1) xs)) parts.1
            (slice_split_first p xs 0 below),
      )

-- the first place of a list, and none
placed : (n i : ℕ) → i < n → Some i ≡ cond (nat_lt i n) (Some i) None
placed n i below = let yes : nat_lt i n ≡ true = grind (arith, nat_tests) in sym (ap (λ b. cond b (Some i) None) yes)

unplaced : (n : ℕ) → None ≡ cond (nat_lt n n) (Some n) None
unplaced n = let no : nat_lt n n ≡ false = grind (arith, nat_tests) in sym (ap (λ b. cond b (Some n) None) no)

pub byte_place : (b : ℕ) (xs : List ℕ) (r : Option ℕ) → IsFirstByte (is_byte b) xs r → r ≡ position (is_byte b) xs
byte_place b xs None none =
    let at = position_or_len_is (is_byte b) xs (length xs) 0 (omega arith)
    (λ k below. false_from_ne_true (is_byte b (get_or xs k 0)) (none k (omega arith) below))
    (λ below. absurd (omega arith)) in
    unplaced (length xs) ∙ ap (λ n. cond (nat_lt n (length xs)) (Some n) None) (sym at)
byte_place b xs (Some i) (first, is) =
    let at = position_or_len_is (is_byte b) xs i 0 (omega (arith, first.high))
    (λ k below. false_from_ne_true (is_byte b (get_or xs k 0)) (first.before k (omega arith) below)) (λ below. is) in
    placed (length xs) i first.high ∙ ap (λ n. cond (nat_lt n (length xs)) (Some n) None) (sym at)

pub fronts_more : (part : List ℕ) (parts : List (List ℕ))
    → 0 < length parts
    → fronts (part ∷ parts) ≡ part ∷ fronts parts
fronts_more part [] some = absurd (omega arith)
fronts_more part (second ∷ parts) some = refl

pub last_more : (part : List ℕ) (parts : List (List ℕ)) → 0 < length parts → last_part (part ∷ parts) ≡ last_part parts
last_more part [] some = absurd (omega arith)
last_more part (second ∷ parts) some = refl

pub some_part : (p : ℕ → Bool) (xs : List ℕ) → 0 < length (slice_split p xs)
some_part p xs = omega (arith, length-slice_split p xs)

pub words_at : (line : List ℕ) (i : ℕ)
    → position is_blank line ≡ Some i
    → words_of line ≡ take i line ∷ words_of (drop (i + 1) line)
words_at line i some = (cut_at is_blank line i some).1

pub words_none : (line : List ℕ) → position is_blank line ≡ None → words_of line ≡ line ∷ []
words_none line none = cut_none is_blank line none

pub line_none : (text : List ℕ) → position is_line_end text ≡ None → (lines_of text ≡ []) × (left_of text ≡ text)
line_none text none =
    let is = cut_none is_line_end text none in
    (ap (λ parts. map words_of (fronts parts)) is, ap last_part is)

pub line_at : (text : List ℕ) (i : ℕ) → position is_line_end text ≡ Some i
    → (lines_of text ≡ words_of (take i text) ∷ lines_of (drop (i + 1) text))
    × (left_of text ≡ left_of (drop (i + 1) text))
line_at text i some =
    let is = (cut_at is_line_end text i some).1 in
    let rest = slice_split is_line_end (drop (i + 1) text) in
    let some_rest = some_part is_line_end (drop (i + 1) text) in (
      ap (λ parts. map words_of (fronts parts)) is ∙ ap (map words_of) (fronts_more (take i text) rest some_rest),
      ap last_part is ∙ last_more (take i text) rest some_rest,
    )

pub slice_end : (xs : List ℕ) (i : ℕ) → drop i xs ≡ take (length xs - i) (drop i xs)
slice_end xs i = sym (ap (λ n. take n (drop i xs)) (sym (length-drop i xs)) ∙ take-length (drop i xs))
