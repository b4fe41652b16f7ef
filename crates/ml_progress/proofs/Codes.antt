-- Lists within bounds, compared as lists and as numbers.
--
--   Less                       == the order of the lists, by recursion
--   before_less, less_before   == it is that at the first difference
--   code_low                   == each list within the bounds has a code below their space
--   before_code, code_before   == the order of the lists is that of their codes
--   fits_take, fits_drop       == the parts of a list within bounds
--   space_parts, code_parts    == space and code of a list, by those of its parts
use Rattle.std.proofs.Common.{ℕ, zero, suc, ◌≡◌, ◌+◌, ◌*◌, ◌<◌, ◌≤◌, ◌⊎◌, inl, inr, arith, List, [], ◌∷◌, length, get_or, take, drop, refl, sym, ap, ◌∙◌}
use Rattle.std.proofs.Math.Nat.{mul-le-mul_right, add-mul, mul_assoc}
use Rattle.std.proofs.lemmas.Bool.{cases_order}
use Rattle.ml_progress.specs.Measure.{ComesBefore}
use Rattle.ml_progress.specs.private.Codes.{space, code, Fits}

-- ---- the order of the lists

-- the first number is smaller, or it is the same and the rest comes before
abbrev pub Less : List ℕ → List ℕ → Type 0
Less [] ys = ⊥
Less (x ∷ xs) [] = ⊥
Less (x ∷ xs) (y ∷ ys) = (x < y) ⊎ ((x ≡ y) × Less xs ys)

less_at : (xs ys : List ℕ) (k : ℕ)
    → length xs ≡ length ys
    → k < length xs
    → ((i : ℕ) → i < k → get_or xs i 0 ≡ get_or ys i 0)
    → get_or xs k 0 < get_or ys k 0
    → Less xs ys
less_at [] ys k long low same smaller = absurd (omega arith)
less_at (x ∷ xs) [] k long low same smaller = absurd (omega arith)
less_at (x ∷ xs) (y ∷ ys) zero long low same smaller = inl smaller
less_at (x ∷ xs) (y ∷ ys) (suc k) long low same smaller = inr (
  same 0 (omega arith),
  less_at xs ys k (omega arith) (omega arith) (λ i less. same (suc i) (omega arith)) smaller,
)

pub before_less : (xs ys : List ℕ) → length xs ≡ length ys → ComesBefore xs ys → Less xs ys
before_less xs ys long b = less_at xs ys b.place long b.within b.same b.smaller

pub less_before : (xs ys : List ℕ) → Less xs ys → ComesBefore xs ys
less_before [] ys l = absurd l
less_before (x ∷ xs) [] l = absurd l
less_before (x ∷ xs) (y ∷ ys) (inl low) =
    record { place = 0; within = omega arith; same = λ i less. absurd (omega arith); smaller = low }
less_before (x ∷ xs) (y ∷ ys) (inr l) = from (less_before xs ys l.1)
  where
    from : ComesBefore xs ys → ComesBefore (x ∷ xs) (y ∷ ys)
    from b = record { place = suc b.place; within = omega (arith, b.within); same = same; smaller = b.smaller }
      where
        same : (i : ℕ) → i < suc b.place → get_or (x ∷ xs) i 0 ≡ get_or (y ∷ ys) i 0
        same zero less = l.0
        same (suc i) less = b.same i (omega arith)

pub compared : (xs ys : List ℕ) → length xs ≡ length ys → Less xs ys ⊎ ((xs ≡ ys) ⊎ Less ys xs)
compared [] [] long = inr (inl refl)
compared [] (y ∷ ys) long = absurd (omega arith)
compared (x ∷ xs) [] long = absurd (omega arith)
compared (x ∷ xs) (y ∷ ys) long = by_case (cases_order x y) (compared xs ys (omega arith))
  where
    by_case : (x ≡ y) ⊎ ((x < y) ⊎ (y < x)) → Less xs ys ⊎ ((xs ≡ ys) ⊎ Less ys xs)
        → Less (x ∷ xs) (y ∷ ys) ⊎ ((x ∷ xs ≡ y ∷ ys) ⊎ Less (y ∷ ys) (x ∷ xs))
    by_case (inr (inl low)) rest = inl (inl low)
    by_case (inr (inr high)) rest = inr (inr (inl high))
    by_case (inl same) (inl l) = inl (inr (same, l))
    by_case (inl same) (inr (inl e)) = inr (inl (λ i. same i ∷ e i))
    by_case (inl same) (inr (inr l)) = inr (inr (inr (sym same, l)))

-- ---- codes

pub fits_long : (bs xs : List ℕ) → Fits bs xs → length xs ≡ length bs
fits_long [] [] f = refl
fits_long [] (x ∷ xs) f = absurd f
fits_long (b ∷ bs) [] f = absurd f
fits_long (b ∷ bs) (x ∷ xs) f = omega (arith, fits_long bs xs f.1)

-- each list within the bounds has a code below their space
pub code_low : (bs xs : List ℕ) → Fits bs xs → code bs xs < space bs
code_low [] [] f = omega arith
code_low [] (x ∷ xs) f = absurd f
code_low (b ∷ bs) [] f = absurd f
code_low (b ∷ bs) (x ∷ xs) f =
    let rest = code_low bs xs f.1 in
    let whole : suc x * space bs ≤ suc b * space bs = mul-le-mul_right (space bs) (omega (arith, f.0)) in
    omega (arith, add-mul 1 x (space bs))

pub space_some : (bs : List ℕ) → 0 < space bs
space_some [] = omega arith
space_some (b ∷ bs) = omega (arith, space_some bs, add-mul 1 b (space bs))

less_code : (bs xs ys : List ℕ) → Fits bs xs → Fits bs ys → Less xs ys → code bs xs < code bs ys
less_code [] [] [] f h l = absurd l
less_code [] [] (y ∷ ys) f h l = absurd h
less_code [] (x ∷ xs) ys f h l = absurd f
less_code (b ∷ bs) [] ys f h l = absurd f
less_code (b ∷ bs) (x ∷ xs) [] f h l = absurd h
less_code (b ∷ bs) (x ∷ xs) (y ∷ ys) f h (inl low) =
    let rest = code_low bs xs f.1 in
    let whole : suc x * space bs ≤ y * space bs = mul-le-mul_right (space bs) (omega arith) in
    omega (arith, add-mul 1 x (space bs))
less_code (b ∷ bs) (x ∷ xs) (y ∷ ys) f h (inr l) =
    let rest = less_code bs xs ys f.1 h.1 l.1 in
    let same : x * space bs ≡ y * space bs = ap (λ k. k * space bs) l.0 in
    omega arith

module _ (bs xs ys : List ℕ) (f : Fits bs xs) (h : Fits bs ys) where
  -- what comes before has the smaller code
  pub before_code : ComesBefore xs ys → code bs xs < code bs ys
  before_code b = less_code bs xs ys f h (before_less xs ys (fits_long bs xs f ∙ sym (fits_long bs ys h)) b)

  -- and what has the smaller code comes before
  pub code_before : code bs xs < code bs ys → ComesBefore xs ys
  code_before low = by_case (compared xs ys (fits_long bs xs f ∙ sym (fits_long bs ys h)))
    where
      by_case : Less xs ys ⊎ ((xs ≡ ys) ⊎ Less ys xs) → ComesBefore xs ys
      by_case (inl l) = less_before xs ys l
      by_case (inr (inl e)) = let same = ap (code bs) e in absurd (omega arith)
      by_case (inr (inr l)) = let high = less_code bs ys xs h f l in absurd (omega arith)

-- ---- parts

pub fits_take : (c : ℕ) (bs xs : List ℕ) → Fits bs xs → Fits (take c bs) (take c xs)
fits_take zero bs xs f = tt
fits_take (suc c) [] [] f = tt
fits_take (suc c) [] (x ∷ xs) f = absurd f
fits_take (suc c) (b ∷ bs) [] f = absurd f
fits_take (suc c) (b ∷ bs) (x ∷ xs) f = (f.0, fits_take c bs xs f.1)

pub fits_drop : (c : ℕ) (bs xs : List ℕ) → Fits bs xs → Fits (drop c bs) (drop c xs)
fits_drop zero bs xs f = f
fits_drop (suc c) [] [] f = tt
fits_drop (suc c) [] (x ∷ xs) f = absurd f
fits_drop (suc c) (b ∷ bs) [] f = absurd f
fits_drop (suc c) (b ∷ bs) (x ∷ xs) f = fits_drop c bs xs f.1

pub space_parts : (c : ℕ) (bs : List ℕ) → space bs ≡ space (take c bs) * space (drop c bs)
space_parts zero bs = omega arith
space_parts (suc c) [] = refl
space_parts (suc c) (b ∷ bs) =
    ap (λ k. suc b * k) (space_parts c bs) ∙ sym (mul_assoc (suc b) (space (take c bs)) (space (drop c bs)))

pub code_parts : (c : ℕ) (bs xs : List ℕ) → Fits bs xs
    → code bs xs ≡ code (take c bs) (take c xs) * space (drop c bs) + code (drop c bs) (drop c xs)
code_parts zero bs xs f = omega arith
code_parts (suc c) [] [] f = refl
code_parts (suc c) [] (x ∷ xs) f = absurd f
code_parts (suc c) (b ∷ bs) [] f = absurd f
code_parts (suc c) (b ∷ bs) (x ∷ xs) f =
    let rest = code_parts c bs xs f.1 in
    let first : x * space bs ≡ x * space (take c bs) * space (drop c bs) =
    ap (λ k. x * k) (space_parts c bs) ∙ sym (mul_assoc x (space (take c bs)) (space (drop c bs))) in
    omega (arith, add-mul (x * space (take c bs)) (code (take c bs) (take c xs)) (space (drop c bs)))
