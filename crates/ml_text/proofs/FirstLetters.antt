-- Words by their first letter.
--
--   begins_so                    == a word begins as words do
--   lower_word, upper_word       == a word begins in lower case, or else in upper case
--   lower_letters, upper_letters == a word that begins so begins with a letter
--   lower_or_upper               == a word begins in one of the two cases
--   upper_no_lower               == and in no more than one
--   none_of                      == a word that begins so is none of those that don't
use Rattle.std.proofs.Common.{◌≡◌, ℕ, ◌⊎◌, Bool, true, false, List, [], ◌∷◌, refl, sym, ◌∙◌, ap, ⊎_elim, inl, inr, bytes_eq, slice_index}
use Rattle.std.specs.List.{list_all, list_any}
use Rattle.std.proofs.lemmas.Bool.{cases_Bool, and_from, and_left, and_parts, false≢true, or_cases, or_from, or_left, or_parts, or_right}
use Rattle.std.proofs.lemmas.List.Sums.{list_all-from_AllPass}
use Rattle.std.proofs.lemmas.Slice.Eq.{bytes_eq-Decides}
use Rattle.ml_text.specs.Bytes.{is_letter, is_lower, is_upper, is_word_byte}
use Rattle.ml_text.specs.Tokens.{begins_word}
use Rattle.ml_text.specs.Words.{IsWord, IsWordOf, is_word_from}
use Rattle.ml_text.specs.declared.token.WordStart.{WordStart}
use Rattle.ml_text.proofs.ByteKinds.{other-upper, upper-no_lower}

pub begins_so : (s : WordStart) (w : List ℕ) → IsWordOf s w → is_word_from (begins_word s) w ≡ true
begins_so s [] word = absurd word
begins_so s (b ∷ bs) word =
    and_from (begins_word s b) (list_all is_word_byte bs) word.0 (list_all-from_AllPass is_word_byte bs word.1)

pub lower_word : (w : List ℕ) → IsWord w → is_lower (slice_index w 0) ≡ true → is_word_from is_lower w ≡ true
lower_word [] word lower = absurd word
lower_word (b ∷ bs) word lower =
    and_from (is_lower b) (list_all is_word_byte bs) lower (list_all-from_AllPass is_word_byte bs word.1)

pub upper_word : (w : List ℕ) → IsWord w → is_lower (slice_index w 0) ≡ false → is_word_from is_upper w ≡ true
upper_word [] word other = absurd word
upper_word (b ∷ bs) word other =
    and_from (is_upper b) (list_all is_word_byte bs) (other-upper b word.0 other)
    (list_all-from_AllPass is_word_byte bs word.1)

pub lower_letters : (w : List ℕ) → is_word_from is_lower w ≡ true → is_word_from is_letter w ≡ true
lower_letters [] is = absurd (cc)
lower_letters (b ∷ bs) is =
    let parts = and_parts (is_lower b) (list_all is_word_byte bs) is in
    and_from (is_letter b) (list_all is_word_byte bs) (or_left (is_lower b) (is_upper b) parts.0) parts.1

pub upper_letters : (w : List ℕ) → is_word_from is_upper w ≡ true → is_word_from is_letter w ≡ true
upper_letters [] is = absurd (cc)
upper_letters (b ∷ bs) is =
    let parts = and_parts (is_upper b) (list_all is_word_byte bs) is in
    and_from (is_letter b) (list_all is_word_byte bs) (or_right (is_lower b) (is_upper b) parts.0) parts.1

pub lower_or_upper : (w : List ℕ)
    → is_word_from is_letter w ≡ true
    → (is_word_from is_lower w ≡ true) ⊎ (is_word_from is_upper w ≡ true)
lower_or_upper [] is = absurd (cc)
lower_or_upper (b ∷ bs) is =
    let parts = and_parts (is_letter b) (list_all is_word_byte bs) is in
    ⊎_elim
    (λ (lower : is_lower b ≡ true). inl (and_from (is_lower b) (list_all is_word_byte bs) lower parts.1))
    (λ (upper : is_upper b ≡ true). inr (and_from (is_upper b) (list_all is_word_byte bs) upper parts.1))
    (or_cases (is_lower b) (is_upper b) parts.0)

pub upper_no_lower : (w : List ℕ) → is_word_from is_upper w ≡ true → is_word_from is_lower w ≡ false
upper_no_lower [] is = absurd (cc)
upper_no_lower (b ∷ bs) is =
    and_left (is_lower b) (list_all is_word_byte bs)
    (upper-no_lower b (and_parts (is_upper b) (list_all is_word_byte bs) is).0)

other_word : (t : ℕ → Bool) (w x : List ℕ)
    → is_word_from t w ≡ true
    → is_word_from t x ≡ false
    → bytes_eq w x ≡ false
other_word t w x is other =
    ⊎_elim
    (λ (same : bytes_eq w x ≡ true).
    absurd (false≢true (sym other ∙ sym (ap (is_word_from t) ((bytes_eq-Decides w x).0 same)) ∙ is)))
    (λ (differs : bytes_eq w x ≡ false). differs)
    (cases_Bool (bytes_eq w x))

pub none_of : (t : ℕ → Bool) (w : List ℕ) (others : List (List ℕ))
    → is_word_from t w ≡ true
    → list_any (is_word_from t) others ≡ false
    → list_any (bytes_eq w) others ≡ false
none_of t w [] is none = refl
none_of t w (x ∷ others) is none =
    let parts = or_parts (is_word_from t x) (list_any (is_word_from t) others) none in
    or_from (bytes_eq w x) (list_any (bytes_eq w) others) (other_word t w x is parts.0) (none_of t w others is parts.1)
