-- Lists that are written part by part.
--
--   both                   == one part, and another one behind it
--   parts_more, parts_done == of parts for the numbers of a range: what is written and what is left are the whole
--   rows_more, rows_done   == of parts for the entries of a list, with their places: so far all of them are written
use Rattle.std.proofs.Common.{ℕ, suc, ◌≡◌, ◌+◌, ◌-◌, ◌<◌, ◌≤◌, List, [], ◌∷◌, ◌++◌, length, take, get_or, sym, ap, ◌∙◌, arith, append_assoc}
use Rattle.std.specs.List.{flat_map, enumerate_from, range_with_len}
use Rattle.std.proofs.lemmas.Grind.{flat_map-append}
use Rattle.std.proofs.lemmas.List.{append-nil, take_more, take_all}
use Rattle.std.proofs.lemmas.List.FromFn.{get_or-enumerate_from, length-enumerate_from}

-- ---- one behind the other

-- two parts behind x
pub both : {Y : Type 0} (x a b : List Y) {y z : List Y} → y ≡ x ++ a → z ≡ y ++ b → z ≡ x ++ (a ++ b)
both x a b first second = second ∙ ap (λ front. front ++ b) first ∙ append_assoc x a b

-- ---- ranges

module _ {Y : Type 0} (f : ℕ → List Y) (n b : ℕ) (written all : List Y) where
  abbrev left_from : ℕ → List Y
  left_from n = flat_map f (range_with_len n (b - n))

  pub parts_more : (more : List Y)
      → n < b
      → written ++ left_from n ≡ all
      → more ≡ written ++ f n
      → more ++ left_from (n + 1) ≡ all
  parts_more more low so_far wrote =
      let next : b - n ≡ suc (b - (n + 1)) = omega arith in
      ap (λ front. front ++ left_from (n + 1)) wrote
      ∙ append_assoc written (f n) (left_from (n + 1))
      ∙ ap (λ m. written ++ flat_map f (range_with_len n m)) (sym next)
      ∙ so_far

  pub parts_done : b ≤ n → written ++ left_from n ≡ all → written ≡ all
  parts_done past so_far =
      let none : b - n ≡ 0 = omega arith in
      sym (append-nil written) ∙ ap (λ m. written ++ flat_map f (range_with_len n m)) (sym none) ∙ so_far

-- ---- entries with their places

module _ {X Y : Type 0} (f : ℕ × X → List Y) (xs : List X) where
  abbrev pub rows_to : ℕ → List Y
  rows_to i = flat_map f (take i (enumerate_from 0 xs))

  one_more : (i : ℕ) (d : X) → i < length xs → rows_to (i + 1) ≡ rows_to i ++ f (i, get_or xs i d)
  one_more i d low =
      let place : 0 + i ≡ i = omega arith in
      let here : get_or (enumerate_from 0 xs) i (0, d) ≡ (i, get_or xs i d) =
      get_or-enumerate_from 0 xs i (0, d) low ∙ (λ j. (place j, get_or xs i d)) in
      let long = length-enumerate_from 0 xs in
      ap (flat_map f) (take_more (enumerate_from 0 xs) i (0, d) (omega arith))
      ∙ flat_map-append f (take i (enumerate_from 0 xs)) (get_or (enumerate_from 0 xs) i (0, d) ∷ [])
      ∙ ap (λ e. rows_to i ++ (f e ++ [])) here
      ∙ ap (λ part. rows_to i ++ part) (append-nil (f (i, get_or xs i d)))

  pub rows_more : (i : ℕ) (d : X) (before written more : List Y)
      → i < length xs
      → written ≡ before ++ rows_to i
      → more ≡ written ++ f (i, get_or xs i d)
      → more ≡ before ++ rows_to (i + 1)
  rows_more i d before written more low so_far wrote =
      wrote
      ∙ ap (λ front. front ++ f (i, get_or xs i d)) so_far
      ∙ append_assoc before (rows_to i) (f (i, get_or xs i d))
      ∙ ap (λ rest. before ++ rest) (sym (one_more i d low))

  pub rows_done : (i : ℕ) (before written : List Y)
      → length xs ≤ i
      → written ≡ before ++ rows_to i
      → written ≡ before ++ flat_map f (enumerate_from 0 xs)
  rows_done i before written past so_far =
      let long = length-enumerate_from 0 xs in
      so_far ∙ ap (λ es. before ++ flat_map f es) (take_all i (enumerate_from 0 xs) (omega arith))
