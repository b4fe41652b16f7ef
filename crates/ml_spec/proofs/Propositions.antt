-- Propositions as names of items, and the propositions of the values of an enumeration.
--
--   proposition_named   == a proposition may be the name of an item
--   proposition_name    == it is a name in formulas
--   value_proposition   == the proposition of a value is a proposition of the logic, if the enumeration's name is
use Rattle.std.proofs.Common.{◌≡◌, ℕ, Bool, true, false, not, ◌&&◌, ◌||◌, ◌==◌, nat_le, List, [], ◌∷◌, ◌++◌, length, bytes_eq, codes, refl, sym, ap, ◌∙◌}
use Rattle.std.specs.List.{list_all, list_any, AllByRecursion}
use Rattle.std.proofs.lemmas.Bool.{and_from, and_parts, leb-true, or_left, or_right, true≢false}
use Rattle.std.proofs.lemmas.List.Folds.{list_any-append}
use Rattle.std.proofs.lemmas.Slice.Eq.{bytes_eq-Decides}
use Rattle.ml_base.specs.Name as base
use Rattle.ml_base.specs.Name.{longest_name}
use Rattle.ml_text.specs.Bytes.{is_digit, is_letter, is_lower, is_word_byte}
use Rattle.ml_text.specs.Words.{is_word_from}
use Rattle.ml_text.proofs.WordNames.{word_is_name}
use Rattle.ml_front.specs.declared.logic.Logic.{Logic}
use Rattle.ml_front.specs.declared.logic.Logic.TheVariants as logic
use Rattle.ml_spec.specs.Items.{is_name, is_name_byte}
use Rattle.ml_spec.specs.Statements.{is_value, is_word, value_name}
use Rattle.ml_written.specs.Propositions.{is_proposition, is_reserved, is_spelled}

name_bytes : (bs : List ℕ) → list_all is_word_byte bs ≡ true → list_all is_name_byte bs ≡ true
name_bytes [] all = refl
name_bytes (b ∷ bs) all =
    let parts = and_parts (is_word_byte b) (list_all is_word_byte bs) all in
    and_from (is_name_byte b) (list_all is_name_byte bs) (word_name b parts.0) (name_bytes bs parts.1)
  where
    more : (x y z : Bool) → x ≡ true → ((x || y) || z) ≡ true
    more true y z e = refl
    more false y z e = cc

    word_name : (b : ℕ) → is_word_byte b ≡ true → is_name_byte b ≡ true
    word_name b is = more (is_word_byte b) (b == 45) (b == 46) is

pub proposition_named : (l : Logic) (n : List ℕ) → is_proposition l n ≡ true → is_name n ≡ true
proposition_named l [] is = cc
proposition_named l (b ∷ bs) is =
    let parts = and_parts (is_spelled l (b ∷ bs)) (nat_le (length (b ∷ bs)) longest_name) is in
    let word = and_parts (is_word_from is_lower (b ∷ bs)) (not (is_reserved l (b ∷ bs))) parts.0 in
    let letters = and_parts (is_lower b) (list_all is_word_byte bs) word.0 in
    and_from (is_letter b && list_all is_name_byte bs) (nat_le (length (b ∷ bs)) longest_name)
    (and_from (is_letter b) (list_all is_name_byte bs) (or_left (is_lower b) _ letters.0) (name_bytes bs letters.1))
    parts.1

-- ---- as names in formulas

word_part : (l : Logic) (n : List ℕ) → is_proposition l n ≡ true → is_word_from is_lower n ≡ true
word_part l n is =
    (and_parts (is_word_from is_lower n) (not (is_reserved l n))
    (and_parts (is_spelled l n) (nat_le (length n) longest_name) is).0).0

pub proposition_name : (l : Logic) (n : List ℕ) → is_proposition l n ≡ true → base.is_name n ≡ true
proposition_name l [] is = cc
proposition_name l (b ∷ bs) is =
    let letters = and_parts (is_lower b) (list_all is_word_byte bs) (word_part l (b ∷ bs) is) in
    word_is_name b bs (or_left (is_lower b) _ letters.0) letters.1
    (leb-true (length (b ∷ bs)) longest_name (and_parts (is_spelled l (b ∷ bs)) (nat_le (length (b ∷ bs)) longest_name) is).1)

-- ---- the propositions of values

all_append : (p : ℕ → Bool) (xs ys : List ℕ) → list_all p xs ≡ true → list_all p ys ≡ true → list_all p (xs ++ ys) ≡ true
all_append p [] ys one other = other
all_append p (x ∷ xs) ys one other =
    let parts = and_parts (p x) (list_all p xs) one in
    and_from (p x) (list_all p (xs ++ ys)) parts.0 (all_append p xs ys parts.1 other)

word_bytes : (v : List ℕ) → is_word v ≡ true → list_all is_word_byte (95 ∷ v) ≡ true
word_bytes [] is = cc
word_bytes (b ∷ bs) is =
    let parts = and_parts (is_letter b || is_digit b) (list_all is_word_byte bs) is in
    and_from (is_word_byte b) (list_all is_word_byte bs) (or_left (is_letter b || is_digit b) (b == 95) parts.0) parts.1

-- a word with the byte `_` is none without it
not_this : (m v w : List ℕ) → list_any (λ b. b == 95) w ≡ false → bytes_eq (value_name m v) w ≡ false
not_this m v w none = by (bytes_eq (value_name m v) w) refl
  where
    line : list_any (λ b. b == 95) (value_name m v) ≡ true
    line = list_any-append (λ b. b == 95) m (95 ∷ v) ∙ or_right (list_any (λ b. b == 95) m) _ refl

    by : (t : Bool) → bytes_eq (value_name m v) w ≡ t → bytes_eq (value_name m v) w ≡ false
    by false e = e
    by true e =
        let same : value_name m v ≡ w = (bytes_eq-Decides (value_name m v) w).0 e in
        absurd (true≢false (sym line ∙ ap (λ u. list_any (λ b. b == 95) u) same ∙ none))

none_of : (w : List ℕ) (ws : List (List ℕ)) → AllByRecursion (λ u. bytes_eq w u ≡ false) ws → list_any (bytes_eq w) ws ≡ false
none_of w [] all = refl
none_of w (u ∷ us) all = ap (λ t. t || list_any (bytes_eq w) us) all.0 ∙ none_of w us all.1

not_reserved : (l : Logic) (m v : List ℕ) → is_reserved l (value_name m v) ≡ false
not_reserved logic.Mu m v =
    none_of (value_name m v) (codes "tt" ∷ codes "true" ∷ codes "ff" ∷ codes "false" ∷ codes "mu" ∷ codes "nu" ∷ [])
    (other (codes "tt") refl, (other (codes "true") refl, (other (codes "ff") refl, (other (codes "false") refl, (other (codes "mu") refl, (other (codes "nu") refl, tt))))))
  where
    other : (w : List ℕ) → list_any (λ b. b == 95) w ≡ false → bytes_eq (value_name m v) w ≡ false
    other w none = not_this m v w none
not_reserved logic.Pdl m v =
    none_of (value_name m v) (codes "tt" ∷ codes "true" ∷ codes "ff" ∷ codes "false" ∷ codes "repeat" ∷ [])
    (other (codes "tt") refl, (other (codes "true") refl, (other (codes "ff") refl, (other (codes "false") refl, (other (codes "repeat") refl, tt)))))
  where
    other : (w : List ℕ) → list_any (λ b. b == 95) w ≡ false → bytes_eq (value_name m v) w ≡ false
    other w none = not_this m v w none
not_reserved logic.Ctl m v =
    none_of (value_name m v) (codes "tt" ∷ codes "true" ∷ codes "ff" ∷ codes "false" ∷ [])
    (other (codes "tt") refl, (other (codes "true") refl, (other (codes "ff") refl, (other (codes "false") refl, tt))))
  where
    other : (w : List ℕ) → list_any (λ b. b == 95) w ≡ false → bytes_eq (value_name m v) w ≡ false
    other w none = not_this m v w none
not_reserved logic.Ltl m v =
    none_of (value_name m v) (codes "tt" ∷ codes "true" ∷ codes "ff" ∷ codes "false" ∷ [])
    (other (codes "tt") refl, (other (codes "true") refl, (other (codes "ff") refl, (other (codes "false") refl, tt))))
  where
    other : (w : List ℕ) → list_any (λ b. b == 95) w ≡ false → bytes_eq (value_name m v) w ≡ false
    other w none = not_this m v w none
not_reserved logic.Word m v =
    none_of (value_name m v) (codes "tt" ∷ codes "true" ∷ codes "ff" ∷ codes "false" ∷ [])
    (other (codes "tt") refl, (other (codes "true") refl, (other (codes "ff") refl, (other (codes "false") refl, tt))))
  where
    other : (w : List ℕ) → list_any (λ b. b == 95) w ≡ false → bytes_eq (value_name m v) w ≡ false
    other w none = not_this m v w none

pub value_proposition : (l : Logic) (m v : List ℕ)
    → is_proposition l m ≡ true
    → is_value m v ≡ true
    → is_proposition l (value_name m v) ≡ true
value_proposition l [] v named is = cc
value_proposition l (b ∷ bs) v named is =
    let letters = and_parts (is_lower b) (list_all is_word_byte bs) (word_part l (b ∷ bs) named) in
    let value = and_parts (is_word v) (nat_le (length (value_name (b ∷ bs) v)) longest_name) is in
    let word : is_word_from is_lower (value_name (b ∷ bs) v) ≡ true =
    and_from (is_lower b) (list_all is_word_byte (bs ++ 95 ∷ v)) letters.0
    (all_append is_word_byte bs (95 ∷ v) letters.1 (word_bytes v value.0)) in
    let spelled : is_spelled l (value_name (b ∷ bs) v) ≡ true =
    and_from (is_word_from is_lower (value_name (b ∷ bs) v)) (not (is_reserved l (value_name (b ∷ bs) v))) word
    (ap not (not_reserved l (b ∷ bs) v)) in
    and_from (is_spelled l (value_name (b ∷ bs) v)) (nat_le (length (value_name (b ∷ bs) v)) longest_name) spelled value.1
