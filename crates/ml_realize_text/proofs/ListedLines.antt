-- Lists that are read item by item, each with its place.
--
--   lines_more, rows_more   == the lines of one more item stand behind those of the others
use Rattle.std.proofs.Common.{◌≡◌, ℕ, ◌+◌, List, [], ◌∷◌, ◌++◌, length, map, sym, ap, ◌∙◌, append_assoc, arith}
use Rattle.std.specs.List.{enumerate_from, flat_map}
use Rattle.std.proofs.lemmas.List.{append-nil}
use Rattle.ml_lines.specs.Lines.{Line}

module _ {X : Type 0} where
  pub lines_more : (f : ℕ × X → Line) (s j : ℕ) (xs : List X) (x : X)
      → s + length xs ≡ j
      → map f (enumerate_from s (xs ++ x ∷ [])) ≡ map f (enumerate_from s xs) ++ f (j, x) ∷ []
  lines_more f s j [] x long = let e : s ≡ j = omega (arith, long) in ap (λ k. f (k, x) ∷ []) e
  lines_more f s j (y ∷ ys) x long = ap (λ ls. f (s, y) ∷ ls) (lines_more f (s + 1) j ys x (omega (arith, long)))

  pub rows_more : (f : ℕ × X → List Line) (s j : ℕ) (xs : List X) (x : X)
      → s + length xs ≡ j
      → flat_map f (enumerate_from s (xs ++ x ∷ [])) ≡ flat_map f (enumerate_from s xs) ++ f (j, x)
  rows_more f s j [] x long =
      let e : s ≡ j = omega (arith, long) in append-nil (f (s, x)) ∙ ap (λ k. f (k, x)) e
  rows_more f s j (y ∷ ys) x long =
      ap (λ ls. f (s, y) ++ ls) (rows_more f (s + 1) j ys x (omega (arith, long)))
      ∙ sym (append_assoc (f (s, y)) (flat_map f (enumerate_from (s + 1) ys)) (f (j, x)))
