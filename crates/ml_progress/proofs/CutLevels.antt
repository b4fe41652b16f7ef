-- Cut levels, compared as the program does it, and the extreme one of some vertices.
--
--   top_first, top_second, both_rows == whether one cut level is below another one, by cases
--   Extreme                          == the extreme one of the first k vertices
use Rattle.std.proofs.Common.{ℕ, ◌≡◌, ◌≢◌, ◌<◌, ◌≤◌, ◌↔◌, arith, Bool, true, false, IsTrue, List, length, get_or, take, Option, Some, None, Contains, refl, ap, subst}
use Rattle.ml_progress.specs.Measure.{Measure, ComesBefore, measure_at}
use Rattle.ml_progress.specs.private.Codes.{space, code, Fits, FitsIn, cut_level}
use Rattle.ml_progress.specs.private.Lifting.{AreFitting, Furthest}
use Rattle.ml_progress.proofs.Codes.{code_low, fits_take, before_code, code_before}

module _ (c : ℕ) (bs : List ℕ) where
  cut_top : (o : Option (List ℕ)) → FitsIn bs o → cut_level c bs o ≤ space (take c bs)
  cut_top None f = omega arith
  cut_top (Some xs) f = omega (arith, code_low (take c bs) (take c xs) (fits_take c bs xs f))

  pub top_first : (a b : Option (List ℕ))
      → a ≡ None
      → FitsIn bs b
      → IsTrue false ↔ (cut_level c bs a < cut_level c bs b)
  top_first a b top f = (
    λ e. absurd (cc),
    λ low. let is = ap (cut_level c bs) top in absurd (omega (arith, cut_top b f)),
  )

  pub top_second : (a b : Option (List ℕ)) → a ≢ None → b ≡ None → FitsIn bs a
      → IsTrue true ↔ (cut_level c bs a < cut_level c bs b)
  top_second None b listed top f = absurd (listed refl)
  top_second (Some xs) b listed top f = (
    λ e. let is = ap (cut_level c bs) top in omega (arith, code_low (take c bs) (take c xs) (fits_take c bs xs f)),
    λ low. refl,
  )

  pub both_rows : (a b : Option (List ℕ)) (xs ys : List ℕ) (r : Bool)
      → a ≡ Some xs
      → b ≡ Some ys
      → FitsIn bs a
      → FitsIn bs b
      → IsTrue r ↔ ComesBefore (take c xs) (take c ys)
      → IsTrue r ↔ (cut_level c bs a < cut_level c bs b)
  both_rows a b xs ys r is_a is_b f h told = (
    λ t. let low = before_code (take c bs) (take c xs) (take c ys) fits_xs fits_ys (told.0 t) in omega (arith, at_a, at_b),
    λ low. told.1 (code_before (take c bs) (take c xs) (take c ys) fits_xs fits_ys (omega (arith, at_a, at_b))),
  )
    where
      fits_xs : Fits (take c bs) (take c xs)
      fits_xs = fits_take c bs xs (subst (FitsIn bs) is_a f)

      fits_ys : Fits (take c bs) (take c ys)
      fits_ys = fits_take c bs ys (subst (FitsIn bs) is_b h)

      at_a : cut_level c bs a ≡ code (take c bs) (take c xs)
      at_a = ap (cut_level c bs) is_a

      at_b : cut_level c bs b ≡ code (take c bs) (take c ys)
      at_b = ap (cut_level c bs) is_b

-- ---- the extreme one

-- `best` is the extreme one of the first k vertices, and one of them all
pub record Extreme (least : Bool) (c : ℕ) (m : Measure) (vertices : List ℕ) (k best : ℕ) : Type 0 where
  pub low : best < length m
  pub member : Contains vertices best
  pub extreme : (bs : List ℕ) → AreFitting bs m → (j : ℕ) → j < k
      → Furthest least (cut_level c bs (measure_at m best)) (cut_level c bs (measure_at m (get_or vertices j 0)))
