-- Words as names: which words are names, and of which bytes of a token a name is made.
--
--   word_is_name, word_name == a word that is no longer than a name may be is one
--   cut_is_name, cut_word   == so are the first bytes of a longer word
--   name_length     == a name is no longer than a name may be
--   token_size      == how many bytes a token within the text has
--   name_bytes_by   == what holds of the first bytes of each token, and of all bytes of one that is not too long, holds of
--                      the bytes of which its name is made
use Rattle.std.proofs.Common.{◌≡◌, ℕ, zero, suc, ◌-◌, ◌≤◌, Bool, true, false, ◌&&◌, ◌||◌, ◌==◌, nat_le, nat_lt, List, [], ◌∷◌, length, take, drop}
use Rattle.std.proofs.Common.{cond, refl, sym, ◌∙◌, ap, subst, ⊎_elim, arith, le-leb, leb-true, ltb-true, length-take, length-drop}
use Rattle.std.specs.List.{list_all}
use Rattle.std.specs.Char.{is_ascii_alphabetic}
use Rattle.std.proofs.Math.Path.{fun_ext}
use Rattle.std.proofs.lemmas.Bool.{cases_Bool, and_parts, and_from, or_cases, or_left, or_right}
use Rattle.std.proofs.lemmas.List.{take-take}
use Rattle.ml_base.specs.Name.{is_name, is_name_byte, longest_name}
use Rattle.ml_text.specs.Bytes.{is_lower, is_upper, is_letter, is_digit, is_word_byte}
use Rattle.ml_text.specs.Words.{is_word_from}
use Rattle.ml_text.specs.Items.{is_word, is_long_word, bytes_of}
use Rattle.ml_text.specs.NotedItems.{name_bytes}
use Rattle.ml_text.specs.declared.token.Placed.{Placed}
use Rattle.ml_text.proofs.ItemSteps.{short_bytes}

-- ---- words that are names

-- a letter, a digit or `_`, in words and in names
word_byte : (l u d x : Bool) → ((l || u) || d || x) ≡ (((d || u) || l) || x)
word_byte true true true x = refl
word_byte true true false x = refl
word_byte true false true x = refl
word_byte true false false x = refl
word_byte false true true x = refl
word_byte false true false x = refl
word_byte false false true x = refl
word_byte false false false x = refl

same_bytes : (bs : List ℕ) → list_all is_word_byte bs ≡ list_all is_name_byte bs
same_bytes bs = ap (λ p. list_all p bs) (fun_ext (λ b. word_byte (is_lower b) (is_upper b) (is_digit b) (b == 95)))

name_letter : (b : ℕ) → is_letter b ≡ true → is_ascii_alphabetic b ≡ true
name_letter b letter =
    ⊎_elim (or_right (is_upper b) (is_lower b)) (or_left (is_upper b) (is_lower b)) (or_cases (is_lower b) (is_upper b) letter)

pub word_is_name : (b : ℕ) (bs : List ℕ)
    → is_letter b ≡ true
    → list_all is_word_byte bs ≡ true
    → length (b ∷ bs) ≤ longest_name
    → is_name (b ∷ bs) ≡ true
word_is_name b bs letter all short =
    and_from (is_ascii_alphabetic b && list_all is_name_byte bs) (nat_le (length (b ∷ bs)) longest_name)
    (and_from (is_ascii_alphabetic b) (list_all is_name_byte bs) (name_letter b letter) (sym (same_bytes bs) ∙ all))
    (le-leb (length (b ∷ bs)) longest_name short)

bytes_cut : (n : ℕ) (bs : List ℕ) → list_all is_word_byte bs ≡ true → list_all is_word_byte (take n bs) ≡ true
bytes_cut zero bs all = refl
bytes_cut (suc n) [] all = refl
bytes_cut (suc n) (b ∷ bs) all =
    let parts = and_parts (is_word_byte b) (list_all is_word_byte bs) all in
    and_from (is_word_byte b) (list_all is_word_byte (take n bs)) parts.0 (bytes_cut n bs parts.1)

cut_by : (n : ℕ) (b : ℕ) (bs : List ℕ)
    → 1 ≤ n
    → n ≤ longest_name
    → is_letter b ≡ true
    → list_all is_word_byte bs ≡ true
    → is_name (take n (b ∷ bs)) ≡ true
cut_by zero b bs some short letter all = absurd (omega arith)
cut_by (suc n) b bs some short letter all =
    word_is_name b (take n bs) letter (bytes_cut n bs all) (omega (arith, length-take n bs))

pub cut_is_name : (b : ℕ) (bs : List ℕ)
    → is_letter b ≡ true
    → list_all is_word_byte bs ≡ true
    → is_name (take longest_name (b ∷ bs)) ≡ true
cut_is_name b bs letter all = cut_by longest_name b bs (omega arith) (omega arith) letter all

pub word_name : (w : List ℕ) → is_word_from is_letter w ≡ true → length w ≤ longest_name → is_name w ≡ true
word_name [] word short = absurd (cc)
word_name (b ∷ bs) word short =
    let parts = and_parts (is_letter b) (list_all is_word_byte bs) word in
    word_is_name b bs parts.0 parts.1 short

pub cut_word : (w : List ℕ) → is_word_from is_letter w ≡ true → is_name (take longest_name w) ≡ true
cut_word [] word = absurd (cc)
cut_word (b ∷ bs) word =
    let parts = and_parts (is_letter b) (list_all is_word_byte bs) word in
    cut_is_name b bs parts.0 parts.1

pub name_length : (name : List ℕ) → is_name name ≡ true → length name ≤ longest_name
name_length [] is = absurd (cc)
name_length (b ∷ bs) is =
    leb-true (length (b ∷ bs)) longest_name
    (and_parts (is_ascii_alphabetic b && list_all is_name_byte bs) (nat_le (length (b ∷ bs)) longest_name) is).1

-- ---- the bytes of tokens

pub token_size : (text : List ℕ) (p : Placed)
    → p.start ≤ p.end
    → p.end ≤ length text
    → length (bytes_of text p) ≡ p.end - p.start
token_size text p before within =
    omega (arith, length-take (p.end - p.start) (drop p.start text), length-drop p.start text)

long_bytes : (text : List ℕ) (p : Placed)
    → is_long_word p ≡ true
    → name_bytes text p ≡ take longest_name (bytes_of text p)
long_bytes text p long =
    let parts = and_parts (is_word p.token) (nat_lt longest_name (p.end - p.start)) long in
    let more = ltb-true longest_name (p.end - p.start) parts.1 in
    ap (λ b. take (cond b longest_name (p.end - p.start)) (drop p.start text)) long
    ∙ sym (take-take longest_name (p.end - p.start) (drop p.start text) (omega (arith, more)))

pub name_bytes_by : (P : List ℕ → Type 0) (text : List ℕ) (p : Placed)
    → P (take longest_name (bytes_of text p))
    → (is_long_word p ≡ false → P (bytes_of text p))
    → P (name_bytes text p)
name_bytes_by P text p cut whole =
    ⊎_elim
    (λ (long : is_long_word p ≡ true). subst P (sym (long_bytes text p long)) cut)
    (λ (short : is_long_word p ≡ false). subst P (sym (short_bytes text p short)) (whole short))
    (cases_Bool (is_long_word p))
