-- Lists one behind the other in one list of numbers: what stands at a place, and one list more.
--
--   ends_low        == a place where lists end is not behind the last one
--   row_bounds      == a list begins where the one before it ends, or earlier than it ends itself, and ends within all numbers
--   row_at          == the list at a place is the part between two ends
--   ends_more, rows_more, pushed == one list more
use Rattle.std.proofs.Common.{ℕ, zero, suc, ◌≡◌, ◌+◌, ◌-◌, ◌<◌, ◌≤◌, List, [], ◌∷◌, ◌++◌, length, get_or, take, drop, refl, sym, ap, ◌∙◌, subst, arith}
use Rattle.std.proofs.lemmas.List.{drop-append-le, take-append-le, length-append, length-drop, take_all}
use Rattle.std.proofs.Math.Seq.{drop-append_seam}
use Rattle.ml_refutation.specs.private.Rows.{part, rows, AreEnds}

pub ends_low : (i : ℕ) (ends : List ℕ) (n : ℕ) → AreEnds i ends n → i ≤ n
ends_low i [] n is = omega (arith, is)
ends_low i (j ∷ ends) n (rises, others) = omega (arith, rises, ends_low j ends n others)

pub row_bounds : (i : ℕ) (ends : List ℕ) (n k : ℕ) → AreEnds i ends n → k < length ends
    → (get_or (i ∷ ends) k 0 ≤ get_or ends k 0) × (get_or ends k 0 ≤ n)
row_bounds i [] n k are low = absurd (omega (arith, low))
row_bounds i (j ∷ ends) n zero (rises, others) low = (rises, ends_low j ends n others)
row_bounds i (j ∷ ends) n (suc k) (rises, others) low = row_bounds j ends n k others (omega (arith, low))

pub row_at : (i : ℕ) (ends ns : List ℕ) (k : ℕ) → k < length ends
    → get_or (rows i ends ns) k [] ≡ part ns (get_or (i ∷ ends) k 0) (get_or ends k 0)
row_at i [] ns k low = absurd (omega (arith, low))
row_at i (j ∷ ends) ns zero low = refl
row_at i (j ∷ ends) ns (suc k) low = row_at j ends ns k (omega (arith, low))

pub rows_length : (i : ℕ) (ends ns : List ℕ) → length (rows i ends ns) ≡ length ends
rows_length i [] ns = refl
rows_length i (j ∷ ends) ns = ap suc (rows_length j ends ns)

-- the parts of the numbers before a place are those of more numbers
part_front : (i j : ℕ) (ns more : List ℕ) → i ≤ j → j ≤ length ns → part (ns ++ more) i j ≡ part ns i j
part_front i j ns more rises fits =
    ap (take (j - i)) (drop-append-le i ns more (omega (arith, rises, fits)))
    ∙ take-append-le (j - i) (drop i ns) more (omega (arith, length-drop i ns, fits))

part_behind : (ns more : List ℕ) → part (ns ++ more) (length ns) (length ns + length more) ≡ more
part_behind ns more =
    ap (take (length ns + length more - length ns)) (drop-append_seam ns more)
    ∙ take_all (length ns + length more - length ns) more (omega arith)

pub ends_more : (i : ℕ) (ends : List ℕ) (n k : ℕ) → AreEnds i ends n → AreEnds i (ends ++ (n + k) ∷ []) (n + k)
ends_more i [] n k is = (omega (arith, is), refl)
ends_more i (j ∷ ends) n k (rises, others) = (rises, ends_more j ends n k others)

pub rows_more : (i : ℕ) (ends ns more : List ℕ) → AreEnds i ends (length ns)
    → rows i (ends ++ (length ns + length more) ∷ []) (ns ++ more) ≡ rows i ends ns ++ more ∷ []
rows_more i [] ns more is =
    ap (λ k. part (ns ++ more) k (length ns + length more) ∷ []) is ∙ ap (λ xs. xs ∷ []) (part_behind ns more)
rows_more i (j ∷ ends) ns more (rises, others) =
    (λ k. part_front i j ns more rises (ends_low j ends (length ns) others) k ∷ rows_more j ends ns more others k)

pub pushed : (ends ends2 ns ns2 more : List ℕ) (k : ℕ)
    → ends2 ≡ ends ++ k ∷ [] → ns2 ≡ ns ++ more → k ≡ length ns2 → AreEnds 0 ends (length ns)
    → AreEnds 0 ends2 (length ns2) × (rows 0 ends2 ns2 ≡ rows 0 ends ns ++ more ∷ [])
pushed ends ends2 ns ns2 more k one_more behind last are =
    let size : length ns2 ≡ length ns + length more = ap length behind ∙ length-append ns more in
    let now : ends2 ≡ ends ++ (length ns + length more) ∷ [] = one_more ∙ ap (λ n. ends ++ n ∷ []) (last ∙ size) in (
      subst (λ es. AreEnds 0 es (length ns2)) (sym now)
          (subst (AreEnds 0 (ends ++ (length ns + length more) ∷ [])) (sym size) (ends_more 0 ends (length ns) (length more) are)),
      (λ i. rows 0 (now i) (behind i)) ∙ rows_more 0 ends ns more are,
    )
