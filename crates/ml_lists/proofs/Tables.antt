-- Tables: lists with one entry for each of the numbers 0 to n - 1, as `map f (range_with_len 0 n)`.
--
--   table_const  == a table of one value
--   table_set    == a write changes one entry
--   table_same   == tables of functions that agree below n
--   table_zip    == two lists of n entries, joined entry by entry, are a table
use Rattle.std.proofs.Common.{◌≡◌, ◌≢◌, ℕ, zero, suc, ◌+◌, ◌<◌, List, ◌∷◌, length, map, replicate, get_or, set, refl, sym, ap, ◌∙◌, ⊎_elim, arith}
use Rattle.std.specs.List.{range_with_len, zip}
use Rattle.std.proofs.lemmas.Bool.{cases_eq}
use Rattle.std.proofs.lemmas.List.{length-map, length-set, get_or-set_same, get_or-set_other, get_or-map, same_lists}
use Rattle.std.proofs.lemmas.List.FromFn.{length-map-range_with_len, get_or-map-range_with_len}
use Rattle.std.proofs.lemmas.Slice.Zip.{get_or-zip, length-zip}

pub table_const : {X : Type 0} (x : X) (a n : ℕ) → replicate n x ≡ map (λ _. x) (range_with_len a n)
table_const x a zero = refl
table_const x a (suc n) = ap (λ xs. x ∷ xs) (table_const x (a + 1) n)

pub table_set : {X : Type 0} (f g : ℕ → X) (n k : ℕ) (v : X) → k < n → g k ≡ v → ((s : ℕ) → s ≢ k → g s ≡ f s)
    → set (map f (range_with_len 0 n)) k v ≡ map g (range_with_len 0 n)
table_set f g n k v below here elsewhere = same_lists _ _ lengths places
  where
    long : length (map f (range_with_len 0 n)) ≡ n
    long = length-map-range_with_len f 0 n

    lengths : length (set (map f (range_with_len 0 n)) k v) ≡ length (map g (range_with_len 0 n))
    lengths = length-set (map f (range_with_len 0 n)) k v ∙ long ∙ sym (length-map-range_with_len g 0 n)

    places : (s : ℕ) (d : _) → s < length (set (map f (range_with_len 0 n)) k v)
        → get_or (set (map f (range_with_len 0 n)) k v) s d ≡ get_or (map g (range_with_len 0 n)) s d
    places s d h =
        let within : s < n = omega (arith, length-set (map f (range_with_len 0 n)) k v, long) in
        let after = get_or-map-range_with_len g 0 n s s d within (omega arith) in
        ⊎_elim
        (λ (e : s ≡ k).
        ap (λ i. get_or (set (map f (range_with_len 0 n)) k v) i d) e
        ∙ get_or-set_same (map f (range_with_len 0 n)) k v d (omega (arith, long))
        ∙ sym here ∙ ap g (sym e) ∙ sym after)
        (λ (ne : s ≡ k → ⊥).
        get_or-set_other (map f (range_with_len 0 n)) k s v d ne
        ∙ get_or-map-range_with_len f 0 n s s d within (omega arith)
        ∙ sym (elsewhere s ne) ∙ sym after)
        (cases_eq s k)

pub table_same : {X : Type 0} (f g : ℕ → X) (a n : ℕ)
    → ((s : ℕ) → f s ≡ g s)
    → map f (range_with_len a n) ≡ map g (range_with_len a n)
table_same f g a n same = ap (λ h. map h (range_with_len a n)) (λ i s. same s i)

pub table_zip : {X Y : Type 0} (h : X → X → Y) (xs ys : List X) (d : X) (n : ℕ) → length xs ≡ n → length ys ≡ n
    → map (λ (p : X × X). h p.0 p.1) (zip xs ys) ≡ map (λ s. h (get_or xs s d) (get_or ys s d)) (range_with_len 0 n)
table_zip {X} {Y} h xs ys d n xs_long ys_long = same_lists _ _ lengths places
  where
    joined : X × X → Y
    joined p = h p.0 p.1

    entry : ℕ → Y
    entry s = h (get_or xs s d) (get_or ys s d)

    long : length (zip xs ys) ≡ n
    long = omega (arith, length-zip xs ys, xs_long, ys_long)

    lengths : length (map joined (zip xs ys)) ≡ length (map entry (range_with_len 0 n))
    lengths = length-map (zip xs ys) joined ∙ long ∙ sym (length-map-range_with_len entry 0 n)

    places : (s : ℕ) (e : Y)
        → s < length (map joined (zip xs ys))
        → get_or (map joined (zip xs ys)) s e ≡ get_or (map entry (range_with_len 0 n)) s e
    places s e h' =
        let within : s < n = omega (arith, length-map (zip xs ys) joined, long) in
        get_or-map joined (zip xs ys) s (d, d) e (omega (arith, long))
        ∙ ap joined (get_or-zip xs ys s (d, d) (omega arith) (omega arith))
        ∙ sym (get_or-map-range_with_len entry 0 n s s e within (omega arith))
