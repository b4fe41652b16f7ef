-- Levels of lists and of the top, and the least value with which a move progresses.
--
--   level_top                  == no level is above the top
--   level_from, level_to       == the level lies among those with its cut level
--   cut_mono                   == of two levels the lower one has no higher cut level
--   target_fits                == the least value is within the bounds
--   target_least               == it is at most what progresses to something no lower
--   target_steps               == and what is no lower progresses to all that is no higher
use Rattle.std.proofs.Common.{ℕ, suc, ◌+◌, ◌*◌, ◌<◌, ◌≤◌, arith, Bool, List, take, drop, Option, Some, None}
use Rattle.std.proofs.Math.Nat.{mul-le-mul_right, add-mul, lt_of_mul-lt-mul_right}
use Rattle.ml_progress.specs.private.Codes.{space, code, FitsIn, level, cut_level, step_of, Steps, IsTarget}
use Rattle.ml_progress.proofs.Codes.{code_low, space_some, fits_take, fits_drop, space_parts, code_parts}

-- no level is above the top
pub level_top : (bs : List ℕ) (o : Option (List ℕ)) → FitsIn bs o → level bs o ≤ space bs
level_top bs None f = omega arith
level_top bs (Some xs) f = omega (arith, code_low bs xs f)

module _ (c : ℕ) (bs : List ℕ) where
  -- the level lies among those with its cut level
  pub level_from : (o : Option (List ℕ)) → FitsIn bs o → cut_level c bs o * space (drop c bs) ≤ level bs o
  level_from None f = omega (arith, space_parts c bs)
  level_from (Some xs) f = omega (arith, code_parts c bs xs f)

  pub level_to : (o : Option (List ℕ)) → FitsIn bs o → level bs o < suc (cut_level c bs o) * space (drop c bs)
  level_to None f = omega (
    arith,
    space_parts c bs,
    space_some (drop c bs),
    add-mul 1 (space (take c bs)) (space (drop c bs)),
  )
  level_to (Some xs) f = omega (
    arith,
    code_parts c bs xs f,
    code_low (drop c bs) (drop c xs) (fits_drop c bs xs f),
    add-mul 1 (code (take c bs) (take c xs)) (space (drop c bs)),
  )

  -- of two levels the lower one has no higher cut level
  pub cut_mono : (a b : Option (List ℕ))
      → FitsIn bs a
      → FitsIn bs b
      → level bs a ≤ level bs b
      → cut_level c bs a ≤ cut_level c bs b
  cut_mono a b f h low =
      let less : cut_level c bs a * space (drop c bs) < suc (cut_level c bs b) * space (drop c bs) =
      omega (arith, level_from a f, level_to b h) in
      omega (arith, lt_of_mul-lt-mul_right (space (drop c bs)) less)

  module _ (t : Bool) where
    pub target_fits : (b o : Option (List ℕ)) → IsTarget c bs t b o → FitsIn bs o
    target_fits b None target = tt
    target_fits b (Some ys) target = target.0

    -- the least value is at most what progresses to something no lower
    pub target_least : (b o d a : Option (List ℕ))
        → IsTarget c bs t b o
        → FitsIn bs a
        → cut_level c bs b ≤ cut_level c bs d
        → Steps c bs t a d
        → level bs o ≤ level bs a
    target_least b o d None target f low steps = level_top bs o (target_fits b o target)
    target_least b None d (Some xs) target f low steps =
        absurd (omega (arith, code_low (take c bs) (take c xs) (fits_take c bs xs f)))
    target_least b (Some ys) d (Some xs) target f low steps =
        let whole : (cut_level c bs b + step_of t) * space (drop c bs) ≤ code (take c bs) (take c xs) * space (drop c bs) =
        mul-le-mul_right (space (drop c bs)) (omega arith) in
        omega (arith, target.1, code_parts c bs xs f)

    -- what is no lower than the least value progresses to all that is no higher
    pub target_steps : (b o d a : Option (List ℕ))
        → IsTarget c bs t b o
        → FitsIn bs a
        → cut_level c bs d ≤ cut_level c bs b
        → level bs o ≤ level bs a
        → Steps c bs t a d
    target_steps b o d None target f low up = tt
    target_steps b None d (Some xs) target f low up = absurd (omega (arith, code_low bs xs f))
    target_steps b (Some ys) d (Some xs) target f low up =
        let less : (cut_level c bs b + step_of t) * space (drop c bs)
        < suc (code (take c bs) (take c xs)) * space (drop c bs) =
        omega (arith, target.1, level_to (Some xs) f) in
        omega (arith, lt_of_mul-lt-mul_right (space (drop c bs)) less)
