-- Words that a logic doesn't reserve, as its propositions and its actions. Whether a word is reserved is a truth value r.
--
--   is_proposition w r   == does w begin with a lower-case letter, and is it not reserved?
--   is_action w r        == is w `_`, or a word that isn't reserved?
--   proposition_free, proposition_letters == a proposition isn't reserved, and begins with a letter
--   proposition_from     == a word that begins in lower case and isn't reserved is one
--   upper_no_proposition == a word that begins in upper case is none
--   proposition_action, upper_action      == both are actions
--   of_action            == what holds of both holds of each action other than `_`
use Rattle.std.proofs.Common.{◌≡◌, ℕ, Bool, true, false, ◌&&◌, ◌||◌, not, List, codes, bytes_eq, ⊎_elim}
use Rattle.std.proofs.lemmas.Bool.{and_from, and_left, and_parts, not_from_false, not-true, or_right}
use Rattle.ml_text.specs.Bytes.{is_lower, is_upper, is_letter}
use Rattle.ml_text.specs.Words.{is_word_from}
use Rattle.ml_text.proofs.FirstLetters.{lower_letters, upper_letters, lower_or_upper, upper_no_lower}

abbrev pub is_proposition : List ℕ → Bool → Bool
is_proposition w r = is_word_from is_lower w && not r

abbrev pub is_action : List ℕ → Bool → Bool
is_action w r = bytes_eq w (codes "_") || (is_word_from is_letter w && not r)

pub proposition_free : (w : List ℕ) (r : Bool) → is_proposition w r ≡ true → r ≡ false
proposition_free w r is = not-true r (and_parts (is_word_from is_lower w) (not r) is).1

pub proposition_letters : (w : List ℕ) (r : Bool) → is_proposition w r ≡ true → is_word_from is_letter w ≡ true
proposition_letters w r is = lower_letters w (and_parts (is_word_from is_lower w) (not r) is).0

pub proposition_from : (w : List ℕ) (r : Bool) → is_word_from is_lower w ≡ true → r ≡ false → is_proposition w r ≡ true
proposition_from w r lower free = and_from (is_word_from is_lower w) (not r) lower (not_from_false r free)

pub upper_no_proposition : (w : List ℕ) (r : Bool) → is_word_from is_upper w ≡ true → is_proposition w r ≡ false
upper_no_proposition w r upper = and_left (is_word_from is_lower w) (not r) (upper_no_lower w upper)

word_action : (w : List ℕ) (r : Bool) → is_word_from is_letter w ≡ true → r ≡ false → is_action w r ≡ true
word_action w r word free =
    or_right (bytes_eq w (codes "_")) (is_word_from is_letter w && not r)
    (and_from (is_word_from is_letter w) (not r) word (not_from_false r free))

pub proposition_action : (w : List ℕ) (r : Bool) → is_proposition w r ≡ true → is_action w r ≡ true
proposition_action w r is = word_action w r (proposition_letters w r is) (proposition_free w r is)

pub upper_action : (w : List ℕ) (r : Bool) → is_word_from is_upper w ≡ true → r ≡ false → is_action w r ≡ true
upper_action w r upper free = word_action w r (upper_letters w upper) free

pub of_action : (P : Type 0) (w : List ℕ) (r : Bool)
    → is_action w r ≡ true
    → bytes_eq w (codes "_") ≡ false
    → (is_proposition w r ≡ true → P)
    → (is_word_from is_upper w ≡ true → P)
    → (is_word_from is_letter w ≡ true) × P
of_action P w r is other low up =
    let parts =
    and_parts (is_word_from is_letter w) (not r)
    (second (bytes_eq w (codes "_")) (is_word_from is_letter w && not r) is other)
    in (
      parts.0,
      ⊎_elim
          (λ (lower : is_word_from is_lower w ≡ true). low (proposition_from w r lower (not-true r parts.1)))
          (λ (upper : is_word_from is_upper w ≡ true). up upper)
          (lower_or_upper w parts.0),
    )
  where
    second : (x y : Bool) → (x || y) ≡ true → x ≡ false → y ≡ true
    second true y is other = absurd (cc)
    second false y is other = is
