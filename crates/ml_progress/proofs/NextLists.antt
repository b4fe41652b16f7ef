-- The list that comes next, within bounds: one number changed, and the code that the list has then.
--
--   code_front, fits_front  == the first numbers of a list, with zeros behind them
--   take_front              == they are still the first ones
--   count_more              == one more at a place that has room, with zeros behind it
--   count_carry             == zero at a place that has none, and one still to be counted in front of it
--   count_over              == there is no place left
use Rattle.std.proofs.Common.{ℕ, zero, suc, ◌≡◌, ◌+◌, ◌-◌, ◌*◌, ◌<◌, ◌≤◌, arith, Bool, true, false, List, [], ◌∷◌, ◌++◌, length, get_or, set, take, drop, replicate, not, Some, refl, sym, ap, ◌∙◌, subst}
use Rattle.std.proofs.Math.Nat.{add-mul, mul_assoc, le_of_mul-le-mul_right}
use Rattle.ml_progress.specs.private.Codes.{space, code, Fits, IsTarget, listed}
use Rattle.ml_progress.proofs.Codes.{fits_long, space_parts, space_some}

-- ---- zeros

pub fits_zeros : (bs : List ℕ) (n : ℕ) → n ≡ length bs → Fits bs (replicate n 0)
fits_zeros [] zero long = tt
fits_zeros [] (suc n) long = absurd (omega arith)
fits_zeros (b ∷ bs) zero long = absurd (omega arith)
fits_zeros (b ∷ bs) (suc n) long = (omega arith, fits_zeros bs n (omega arith))

pub code_zeros : (bs : List ℕ) (n : ℕ) → code bs (replicate n 0) ≡ 0
code_zeros [] n = refl
code_zeros (b ∷ bs) zero = refl
code_zeros (b ∷ bs) (suc n) = omega (arith, code_zeros bs n)

pub code_front : (c : ℕ) (bs xs : List ℕ) (n : ℕ) → Fits bs xs
    → code bs (take c xs ++ replicate n 0) ≡ code (take c bs) (take c xs) * space (drop c bs)
code_front zero bs xs n f = omega (arith, code_zeros bs n)
code_front (suc c) [] [] n f = omega arith
code_front (suc c) [] (x ∷ xs) n f = absurd f
code_front (suc c) (b ∷ bs) [] n f = absurd f
code_front (suc c) (b ∷ bs) (x ∷ xs) n f =
    let product : x * space bs ≡ x * space (take c bs) * space (drop c bs) =
    ap (λ k. x * k) (space_parts c bs) ∙ sym (mul_assoc x (space (take c bs)) (space (drop c bs))) in
    omega (
      arith,
      code_front c bs xs n f.1,
      add-mul (x * space (take c bs)) (code (take c bs) (take c xs)) (space (drop c bs)),
    )

pub fits_front : (c : ℕ) (bs xs : List ℕ) (n : ℕ)
    → Fits bs xs
    → n ≡ length bs - c
    → Fits bs (take c xs ++ replicate n 0)
fits_front zero bs xs n f long = fits_zeros bs n (omega arith)
fits_front (suc c) [] [] n f long = fits_zeros [] n (omega arith)
fits_front (suc c) [] (x ∷ xs) n f long = absurd f
fits_front (suc c) (b ∷ bs) [] n f long = absurd f
fits_front (suc c) (b ∷ bs) (x ∷ xs) n f long = (f.0, fits_front c bs xs n f.1 (omega arith))

pub take_front : (c : ℕ) (xs ys : List ℕ) → c ≤ length xs → take c (take c xs ++ ys) ≡ take c xs
take_front zero xs ys low = refl
take_front (suc c) [] ys low = absurd (omega arith)
take_front (suc c) (x ∷ xs) ys low = ap (λ zs. x ∷ zs) (take_front c xs ys (omega arith))

-- ---- one number changed

pub get_low : (bs xs : List ℕ) (i : ℕ) → Fits bs xs → get_or xs i 0 ≤ get_or bs i 0
get_low [] [] i f = omega arith
get_low [] (x ∷ xs) i f = absurd f
get_low (b ∷ bs) [] i f = absurd f
get_low (b ∷ bs) (x ∷ xs) zero f = f.0
get_low (b ∷ bs) (x ∷ xs) (suc i) f = get_low bs xs i f.1

pub fits_set : (bs xs : List ℕ) (i y : ℕ) → Fits bs xs → y ≤ get_or bs i 0 → Fits bs (set xs i y)
fits_set [] [] i y f low = tt
fits_set [] (x ∷ xs) i y f low = absurd f
fits_set (b ∷ bs) [] i y f low = absurd f
fits_set (b ∷ bs) (x ∷ xs) zero y f low = (low, f.1)
fits_set (b ∷ bs) (x ∷ xs) (suc i) y f low = (f.0, fits_set bs xs i y f.1 low)

code_set : (bs xs : List ℕ) (i y : ℕ) → Fits bs xs → i < length bs
    → code bs (set xs i y) + get_or xs i 0 * space (drop (suc i) bs) ≡ code bs xs + y * space (drop (suc i) bs)
code_set [] xs i y f low = absurd (omega arith)
code_set (b ∷ bs) [] i y f low = absurd f
code_set (b ∷ bs) (x ∷ xs) zero y f low = omega arith
code_set (b ∷ bs) (x ∷ xs) (suc i) y f low = omega (arith, code_set bs xs i y f.1 (omega arith))

space_at : (bs : List ℕ) (i : ℕ) → i < length bs → space (drop i bs) ≡ suc (get_or bs i 0) * space (drop (suc i) bs)
space_at [] i low = absurd (omega arith)
space_at (b ∷ bs) zero low = refl
space_at (b ∷ bs) (suc i) low = space_at bs i (omega arith)

module _ (bs xs : List ℕ) (p q t : ℕ) (f : Fits bs xs) (low : p < length bs) (next : suc p ≡ q)
    (so_far : code bs xs + space (drop q bs) ≡ t) where
  rest : ℕ
  rest = space (drop (suc p) bs)

  so_far_at : code bs xs + space (drop (suc p) bs) ≡ t
  so_far_at = subst (λ k. code bs xs + space (drop k bs) ≡ t) (sym next) so_far

  -- one more at a place that has room
  pub count_more : get_or xs p 0 < get_or bs p 0
      → Fits bs (set xs p (get_or xs p 0 + 1)) × (code bs (set xs p (get_or xs p 0 + 1)) ≡ t)
  count_more room = (
    fits_set bs xs p (get_or xs p 0 + 1) f (omega arith),
    omega (
      arith,
      so_far_at,
      code_set bs xs p (get_or xs p 0 + 1) f low,
      add-mul (get_or xs p 0) 1 (space (drop (suc p) bs)),
    ),
  )

  -- zero at a place that has none
  pub count_carry : get_or bs p 0 ≤ get_or xs p 0
      → Fits bs (set xs p 0) × (code bs (set xs p 0) + space (drop p bs) ≡ t)
  count_carry full =
      let same : get_or bs p 0 ≡ get_or xs p 0 = omega (arith, get_low bs xs p f) in
      let product : get_or bs p 0 * space (drop (suc p) bs) ≡ get_or xs p 0 * space (drop (suc p) bs) =
      ap (λ k. k * space (drop (suc p) bs)) same in (
        fits_set bs xs p 0 f (omega arith),
        omega (
          arith,
          so_far_at,
          code_set bs xs p 0 f low,
          space_at bs p low,
          add-mul 1 (get_or bs p 0) (space (drop (suc p) bs)),
        ),
      )

-- there is no place left
pub count_over : (bs xs : List ℕ) (c n q : ℕ) → q ≤ 0 → code bs xs + space (drop q bs) ≡ n * space (drop c bs)
    → space (take c bs) ≤ n
count_over bs xs c n q none is = le_of_mul-le-mul_right whole (space_some (drop c bs))
  where
    at_front : code bs xs + space bs ≡ n * space (drop c bs)
    at_front =
        let e : q ≡ 0 = omega arith in subst (λ k. code bs xs + space (drop k bs) ≡ n * space (drop c bs)) e is

    whole : space (take c bs) * space (drop c bs) ≤ n * space (drop c bs)
    whole = omega (arith, space_parts c bs, at_front)

-- ---- the least list with which a move progresses

module _ (c : ℕ) (bs xs ys : List ℕ) (f : Fits bs xs) (low : c ≤ length bs) (is : ys ≡ take c xs ++ replicate (length xs - c) 0) where
  same_front : take c ys ≡ take c xs
  same_front = ap (take c) is ∙ take_front c xs (replicate (length xs - c) 0) (omega (arith, fits_long bs xs f))

  -- the copied list is within the bounds
  pub copied_fits : Fits bs ys
  copied_fits = subst (Fits bs) (sym is)
      (fits_front c bs xs (length xs - c) f (omega (arith, fits_long bs xs f)))

  -- and nothing counts behind the cut
  pub copied_zeros : code bs ys ≡ code (take c bs) (take c ys) * space (drop c bs)
  copied_zeros = ap (code bs) is ∙ code_front c bs xs (length xs - c) f
      ∙ ap (λ zs. code (take c bs) zs * space (drop c bs)) (sym same_front)

  -- it is the least list where the priority isn't bad
  pub copied_target : (t : Bool) → t ≡ false → IsTarget c bs t (Some xs) (listed (not t) ys)
  copied_target true good = absurd (cc)
  copied_target false good = (
    copied_fits,
    subst (λ n. code bs ys ≡ n * space (drop c bs))
        (let e : code (take c bs) (take c xs) ≡ code (take c bs) (take c xs) + 0 = omega arith in e)
        (copied_zeros ∙ ap (λ zs. code (take c bs) zs * space (drop c bs)) same_front),
  )
