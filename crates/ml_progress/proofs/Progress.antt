-- Progress, said of lists and of their codes.
--
--   fits_of_bounded, bounded_of_fits == the lists of a measure are those within its bounds
--   measure_fits                     == so what a measure gives a vertex is within the bounds
--   progress_steps, steps_progress   == a move progresses exactly if it does in the codes
--   below_level                      == what is below has the lower level
use Rattle.std.proofs.Common.{ℕ, zero, suc, ◌≡◌, ◌+◌, ◌<◌, ◌≤◌, ◌⊎◌, inl, inr, arith, Bool, true, false, List, [], ◌∷◌, length, get_or, map, take, Option, Some, None, refl, ◌∙◌}
use Rattle.std.proofs.lemmas.Bool.{cases_lt}
use Rattle.std.proofs.lemmas.List.{length-map}
use Rattle.ml_parity.specs.declared.players.Player.{Player}
use Rattle.ml_parity.specs.Game.{ParityGame, priority_of, size}
use Rattle.ml_progress.specs.Measure.{Measure, Bounded, IsMeasure, IsBelow, Falls, ProgressesFrom, is_bad, bad_priorities, how_many, measure_at}
use Rattle.ml_progress.specs.private.Codes.{code, Fits, FitsIn, level, step_of, Steps}
use Rattle.ml_progress.specs.private.Bounds.{bounds_of, cut_length}
use Rattle.ml_progress.proofs.Codes.{code_low, fits_take, fits_long, before_code, code_before}

-- ---- lists within bounds

fits_from : (f : ℕ → ℕ) (ks xs : List ℕ)
    → length xs ≡ length ks
    → ((i : ℕ) → i < length xs → get_or xs i 0 ≤ f (get_or ks i 0))
    → Fits (map f ks) xs
fits_from f [] [] long low = tt
fits_from f [] (x ∷ xs) long low = absurd (omega arith)
fits_from f (k ∷ ks) [] long low = absurd (omega arith)
fits_from f (k ∷ ks) (x ∷ xs) long low =
    (low 0 (omega arith), fits_from f ks xs (omega arith) (λ i less. low (suc i) (omega arith)))

fits_low : (f : ℕ → ℕ) (ks xs : List ℕ) → Fits (map f ks) xs → (i : ℕ) → i < length xs
    → get_or xs i 0 ≤ f (get_or ks i 0)
fits_low f [] [] fits i low = absurd (omega arith)
fits_low f [] (x ∷ xs) fits i low = absurd fits
fits_low f (k ∷ ks) [] fits i low = absurd fits
fits_low f (k ∷ ks) (x ∷ xs) fits zero low = fits.0
fits_low f (k ∷ ks) (x ∷ xs) fits (suc i) low = fits_low f ks xs fits.1 i (omega arith)

module _ (g : ParityGame) (p : Player) where
  pub fits_of_bounded : (xs : List ℕ) → Bounded g p xs → Fits (bounds_of g p) xs
  fits_of_bounded xs b = fits_from (how_many g) (bad_priorities g p) xs b.long b.low

  pub bounded_of_fits : (xs : List ℕ) → Fits (bounds_of g p) xs → Bounded g p xs
  bounded_of_fits xs f = record {
    long = fits_long (bounds_of g p) xs f ∙ length-map (bad_priorities g p) (how_many g);
    low = fits_low (how_many g) (bad_priorities g p) xs f;
  }

  -- what a measure gives a vertex is within the bounds
  pub measure_fits : (m : Measure) → IsMeasure g p m → (v : ℕ) → v < size g → FitsIn (bounds_of g p) (measure_at m v)
  measure_fits m measure v low = from (measure_at m v) refl
    where
      from : (o : Option (List ℕ)) → measure_at m v ≡ o → FitsIn (bounds_of g p) o
      from None is = tt
      from (Some xs) is = fits_of_bounded xs (measure.lists v xs low is)

-- ---- progress

falls_steps : (t : Bool) (bs xs ys : List ℕ)
    → Fits bs xs
    → Fits bs ys
    → Falls t xs ys
    → code bs ys + step_of t ≤ code bs xs
falls_steps true bs xs ys f h falls = omega (arith, before_code bs ys xs h f falls)
falls_steps false bs xs ys f h falls = by_case (cases_lt (code bs xs) (code bs ys))
  where
    by_case : (code bs xs < code bs ys) ⊎ (code bs ys ≤ code bs xs) → code bs ys + 0 ≤ code bs xs
    by_case (inl low) = absurd (falls (code_before bs xs ys f h low))
    by_case (inr high) = omega arith

steps_falls : (t : Bool) (bs xs ys : List ℕ)
    → Fits bs xs
    → Fits bs ys
    → code bs ys + step_of t ≤ code bs xs
    → Falls t xs ys
steps_falls true bs xs ys f h steps = code_before bs ys xs h f (omega arith)
steps_falls false bs xs ys f h steps = λ b. omega (arith, before_code bs xs ys f h b)

module _ (g : ParityGame) (p : Player) (v : ℕ) where
  pub progress_steps : (a b : Option (List ℕ)) → FitsIn (bounds_of g p) a → FitsIn (bounds_of g p) b
      → ProgressesFrom g p v a b → Steps (cut_length g p v) (bounds_of g p) (is_bad p (priority_of g v)) a b
  progress_steps None b f h goes = tt
  progress_steps (Some xs) None f h goes = absurd goes
  progress_steps (Some xs) (Some ys) f h goes =
      falls_steps (is_bad p (priority_of g v)) (take (cut_length g p v) (bounds_of g p)) (take (cut_length g p v) xs)
      (take (cut_length g p v) ys) (fits_take (cut_length g p v) (bounds_of g p) xs f)
      (fits_take (cut_length g p v) (bounds_of g p) ys h) goes

  pub steps_progress : (a b : Option (List ℕ)) → FitsIn (bounds_of g p) a → FitsIn (bounds_of g p) b
      → Steps (cut_length g p v) (bounds_of g p) (is_bad p (priority_of g v)) a b → ProgressesFrom g p v a b
  steps_progress None b f h steps = tt
  steps_progress (Some xs) None f h steps =
      absurd (omega (
        arith,
        code_low (take (cut_length g p v) (bounds_of g p)) (take (cut_length g p v) xs)
            (fits_take (cut_length g p v) (bounds_of g p) xs f),
      ))
  steps_progress (Some xs) (Some ys) f h steps =
      steps_falls (is_bad p (priority_of g v)) (take (cut_length g p v) (bounds_of g p)) (take (cut_length g p v) xs)
      (take (cut_length g p v) ys) (fits_take (cut_length g p v) (bounds_of g p) xs f)
      (fits_take (cut_length g p v) (bounds_of g p) ys h) steps

-- what is below has the lower level
pub below_level : (bs : List ℕ) (a b : Option (List ℕ)) → FitsIn bs a → FitsIn bs b → IsBelow a b
    → level bs a < level bs b
below_level bs None b f h below = absurd below
below_level bs (Some xs) None f h below = code_low bs xs f
below_level bs (Some xs) (Some ys) f h below = before_code bs xs ys f h below
