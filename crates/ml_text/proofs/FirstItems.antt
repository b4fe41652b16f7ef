-- The first items of a text, and one more.
--
--   take_all, take_one             == the first items that were split off
--   counted-last, open_from-last   == what is counted, and what is open, behind one item more
--   is_long_at-last, offset-last   == the item that follows the first ones
--   offset-end                     == the end of a text
--   long_within                    == a name that is too long is an item
use Rattle.std.proofs.Common.{◌≡◌, ℕ, zero, suc, ◌+◌, ◌<◌, true, List, [], ◌∷◌, ◌++◌, length, take, refl, sym, ◌∙◌, ap, arith, length-append, append_assoc}
use Rattle.std.proofs.lemmas.List.Sums.{sum_by-append, sum_by-cons}
use Rattle.std.proofs.Math.Seq.{take-append_seam}
use Rattle.ml_text.specs.Refusals.{Item, counted, open_behind_one, open_from, is_long_at, offset_of}

pub take_all : {A : Type 0} (items before rest : List A) → items ≡ before ++ rest → take (length before) items ≡ before
take_all items before rest is = ap (take (length before)) is ∙ take-append_seam before rest

pub take_one : {A : Type 0} (items before : List A) (i : A) (rest : List A)
    → items ≡ before ++ i ∷ rest
    → take (length before + 1) items ≡ before ++ i ∷ []
take_one items before i rest is =
    let longer : length (before ++ i ∷ []) ≡ length before + 1 = length-append before (i ∷ []) in
    ap (λ n. take n items) (sym longer)
    ∙ take_all items (before ++ i ∷ []) rest (is ∙ sym (append_assoc before (i ∷ []) rest))

pub counted-last : {Sign : Type 0} (before : List (Item Sign)) (i : Item Sign)
    → counted (before ++ i ∷ []) ≡ counted before + i.weight
counted-last {Sign} before i =
    let weigh : Item Sign → ℕ = λ j. j.weight in
    let split = sum_by-append weigh before (i ∷ []) in
    let one = sum_by-cons weigh i [] in
    let none : counted {Sign = Sign} [] ≡ 0 = refl in
    omega (arith, split, one)

pub open_from-last : {Sign : Type 0} (n : ℕ) (before : List (Item Sign)) (i : Item Sign)
    → open_from n (before ++ i ∷ []) ≡ open_behind_one i.bracket (open_from n before)
open_from-last n [] i = refl
open_from-last n (j ∷ before) i = open_from-last (open_behind_one j.bracket n) before i

pub is_long_at-last : {Sign : Type 0} (before : List (Item Sign)) (i : Item Sign) (rest : List (Item Sign))
    → is_long_at (before ++ i ∷ rest) (length before) ≡ i.is_long
is_long_at-last [] i rest = refl
is_long_at-last (j ∷ before) i rest = is_long_at-last before i rest

pub offset-last : {Sign : Type 0} (before : List (Item Sign)) (i : Item Sign) (rest : List (Item Sign)) (end : ℕ)
    → offset_of (before ++ i ∷ rest) end (length before) ≡ i.at
offset-last [] i rest end = refl
offset-last (j ∷ before) i rest end = offset-last before i rest end

pub offset-end : {Sign : Type 0} (items : List (Item Sign)) (end : ℕ) → offset_of items end (length items) ≡ end
offset-end [] end = refl
offset-end (i ∷ items) end = offset-end items end

pub long_within : {Sign : Type 0} (items : List (Item Sign)) (k : ℕ) → is_long_at items k ≡ true → k < length items
long_within [] k is = absurd (cc)
long_within (i ∷ items) zero is = omega arith
long_within (i ∷ items) (suc k) is = let later = long_within items k is in omega arith
