-- Rows of one width, one behind the other.
--
--   length-even_rows == so many rows of the width w have so many times w entries
--   get_or-even_row  == entry j of row i is entry i * w + j of them all
use Rattle.std.proofs.Common.{ℕ, zero, suc, ◌≡◌, ◌+◌, ◌*◌, ◌<◌, List, [], ◌∷◌, ◌++◌, length, get_or, ap, ◌∙◌, arith, length-append}
use Rattle.std.specs.List.{flat_map}
use Rattle.std.proofs.lemmas.List.{get_or_append_left, get_or-append-add}

module _ {X A : Type 0} (f : X → List A) (w : ℕ) (even : (x : X) → length (f x) ≡ w) where
  pub length-even_rows : (xs : List X) → length (flat_map f xs) ≡ length xs * w
  length-even_rows [] = omega arith
  length-even_rows (x ∷ xs) =
      omega (arith, length-append (f x) (flat_map f xs), even x, length-even_rows xs)

  pub get_or-even_row : (xs : List X) (i j : ℕ) (e : X) (d : A) → i < length xs → j < w
      → get_or (flat_map f xs) (i * w + j) d ≡ get_or (f (get_or xs i e)) j d
  get_or-even_row [] i j e d low short = absurd (omega arith)
  get_or-even_row (x ∷ xs) zero j e d low short =
      let at : zero * w + j ≡ j = omega arith in
      ap (λ k. get_or (f x ++ flat_map f xs) k d) at
      ∙ get_or_append_left (f x) (flat_map f xs) d j (omega (arith, even x))
  get_or-even_row (x ∷ xs) (suc i) j e d low short =
      let at : suc i * w + j ≡ length (f x) + (i * w + j) = omega (arith, even x) in
      ap (λ k. get_or (f x ++ flat_map f xs) k d) at
      ∙ get_or-append-add (f x) (flat_map f xs) (i * w + j) d
      ∙ get_or-even_row xs i j e d (omega arith) short
