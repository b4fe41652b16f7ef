-- Rows that stand behind each other in one list.
--
--   rows_count      == how many rows there are
--   row_at, lies_between == where a row lies
--   laid_more, rows_more == one row more at the end
use Rattle.std.proofs.Common.{ℕ, zero, suc, ◌≡◌, ◌+◌, ◌-◌, ◌<◌, ◌≤◌, arith, List, [], ◌∷◌, ◌++◌, length, get_or, take, drop, subst, sym, ap, ap₂, ◌∙◌, refl, add-one}
use Rattle.std.proofs.Math.Seq.{drop-append_seam}
use Rattle.std.proofs.lemmas.List.{get_or_default, drop-append-le, take-append-le, take_all, length-drop, length-append}
use Rattle.ml_parity.specs.private.FlatRows.{rows_from, rows_of, Ascends, IsLaid}

-- what ascends to n begins at n or below
ends_low : (a : ℕ) (ends : List ℕ) (n : ℕ) → Ascends a ends n → a ≤ n
ends_low a [] n up = omega (arith, up)
ends_low a (b ∷ ends) n up = omega (arith, up.0, ends_low b ends n up.1)

rows_count_from : (a : ℕ) (ends xs : List ℕ) → length (rows_from a ends xs) ≡ length ends
rows_count_from a [] xs = refl
rows_count_from a (b ∷ ends) xs = ap suc (rows_count_from b ends xs)

-- how many rows there are
pub rows_count : (starts xs : List ℕ) → IsLaid starts xs → length (rows_of starts xs) + 1 ≡ length starts
rows_count [] xs laid = absurd laid
rows_count (a ∷ ends) xs laid = omega (arith, rows_count_from a ends xs)

-- where a row lies
pub record LiesAt (row xs : List ℕ) (start end : ℕ) : Type 0 where
  pub up : start ≤ end
  pub fits : end ≤ length xs
  pub is : row ≡ take (end - start) (drop start xs)

row_from : (a : ℕ) (ends xs : List ℕ) (v : ℕ) → Ascends a ends (length xs) → v < length ends
    → LiesAt (get_or (rows_from a ends xs) v []) xs (get_or (a ∷ ends) v 0) (get_or ends v 0)
row_from a [] xs v up low = absurd (omega arith)
row_from a (b ∷ ends) xs zero up low = record { up = up.0; fits = ends_low b ends (length xs) up.1; is = refl }
row_from a (b ∷ ends) xs (suc v) up low = row_from b ends xs v up.1 (omega arith)

pub row_at : (starts xs : List ℕ) (v : ℕ) → IsLaid starts xs → v < length (rows_of starts xs)
    → LiesAt (get_or (rows_of starts xs) v []) xs (get_or starts v 0) (get_or starts (v + 1) 0)
row_at [] xs v laid low = absurd laid
row_at (a ∷ ends) xs v laid low =
    subst (λ j. LiesAt (get_or (rows_from a ends xs) v []) xs (get_or (a ∷ ends) v 0) (get_or (a ∷ ends) j 0))
    (sym (add-one v)) (row_from a ends xs v laid (omega (arith, rows_count_from a ends xs)))

-- the same, as the program reads the starts
pub lies_between : (starts xs : List ℕ) (rows : List (List ℕ)) (v start end : ℕ)
    → IsLaid starts xs
    → rows_of starts xs ≡ rows
    → v < length rows
    → start ≡ get_or starts v start
    → end ≡ get_or starts (v + 1) end
    → LiesAt (get_or rows v []) xs start end
lies_between starts xs rows v start end laid is low first second =
    let count = rows_count starts xs laid in
    let same = ap length is in
    let at = row_at starts xs v laid (omega arith) in
    let begins : get_or starts v 0 ≡ start = get_or_default starts v 0 start (omega arith) ∙ sym first in
    let ends : get_or starts (v + 1) 0 ≡ end = get_or_default starts (v + 1) 0 end (omega arith) ∙ sym second in
    record {
      up = omega (arith, at.up);
      fits = omega (arith, at.fits);
      is = ap (λ (rs : List (List ℕ)). get_or rs v []) (sym is) ∙ at.is
          ∙ ap₂ (λ (a b : ℕ). take (b - a) (drop a xs)) begins ends;
    }

-- one row more at the end
laid_from : (a : ℕ) (ends : List ℕ) (n m : ℕ) → Ascends a ends n → n ≤ m → Ascends a (ends ++ m ∷ []) m
laid_from a [] n m up more = (omega (arith, up), refl)
laid_from a (b ∷ ends) n m up more = (up.0, laid_from b ends n m up.1 more)

pub laid_more : (starts xs ys : List ℕ) → IsLaid starts xs → IsLaid (starts ++ length (xs ++ ys) ∷ []) (xs ++ ys)
laid_more [] xs ys laid = absurd laid
laid_more (a ∷ ends) xs ys laid =
    laid_from a ends (length xs) (length (xs ++ ys)) laid (omega (arith, length-append xs ys))

-- the last row is what was added
last_row : (a : ℕ) (xs ys : List ℕ) → a ≡ length xs → take (length (xs ++ ys) - a) (drop a (xs ++ ys)) ≡ ys
last_row a xs ys here =
    subst (λ j. take (length (xs ++ ys) - j) (drop j (xs ++ ys)) ≡ ys) (sym here)
    (ap (take (length (xs ++ ys) - length xs)) (drop-append_seam xs ys)
    ∙ take_all (length (xs ++ ys) - length xs) ys (omega (arith, length-append xs ys)))

-- and the others are as before
old_row : (a b : ℕ) (xs ys : List ℕ) → a ≤ b → b ≤ length xs
    → take (b - a) (drop a (xs ++ ys)) ≡ take (b - a) (drop a xs)
old_row a b xs ys up fits =
    ap (take (b - a)) (drop-append-le a xs ys (omega arith))
    ∙ take-append-le (b - a) (drop a xs) ys (omega (arith, length-drop a xs))

rows_more_from : (a : ℕ) (ends xs ys : List ℕ) → Ascends a ends (length xs)
    → rows_from a (ends ++ length (xs ++ ys) ∷ []) (xs ++ ys) ≡ rows_from a ends xs ++ ys ∷ []
rows_more_from a [] xs ys up = ap (λ (r : List ℕ). r ∷ []) (last_row a xs ys up)
rows_more_from a (b ∷ ends) xs ys up =
    ap₂ (λ (r : List ℕ) (rs : List (List ℕ)). r ∷ rs)
    (old_row a b xs ys up.0 (ends_low b ends (length xs) up.1)) (rows_more_from b ends xs ys up.1)

pub rows_more : (starts xs ys : List ℕ) → IsLaid starts xs
    → rows_of (starts ++ length (xs ++ ys) ∷ []) (xs ++ ys) ≡ rows_of starts xs ++ ys ∷ []
rows_more [] xs ys laid = absurd laid
rows_more (a ∷ ends) xs ys laid = rows_more_from a ends xs ys laid
