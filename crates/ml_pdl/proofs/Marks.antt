-- The test of marks says what a mark means.
--
--   marks_are_of_tests == the law
use Rattle.std.proofs.Common.{◌≡◌, ℕ, zero, suc, true, List, [], ◌∷◌, ◌++◌, Some, refl, ◌∙◌, ap}
use Rattle.ml_text.specs.declared.named_signs.Sign.TheVariants.{Close, Open, Added}
use Rattle.ml_pdl.specs.Signs.{Sign}
use Rattle.ml_pdl.specs.declared.signs.Own.TheVariants.{Question}
use Rattle.ml_pdl.specs.Marks.{asks, is_test_behind}
use Rattle.ml_pdl.specs.MarkLaws.{open_behind, MarksAreOfTests}

-- where n further parentheses are open
abbrev pub TestBehind : ℕ → List Sign → Type 0
TestBehind n ts = (inside : List Sign) × (after : List Sign) × (ts ≡ inside ++ Close ∷ Added Question ∷ after) × (open_behind n inside ≡ Some 0)

-- one sign more stands inside
inside_one : (t : Sign) (n m : ℕ) (ts : List Sign)
    → ((us : List Sign) → open_behind n (t ∷ us) ≡ open_behind m us)
    → TestBehind m ts
    → TestBehind n (t ∷ ts)
inside_one t n m ts is b = (t ∷ b.0, b.1, ap (λ us. t ∷ us) b.2, is b.0 ∙ b.3)

asked : (ts : List Sign) → asks ts ≡ true → (after : List Sign) × (ts ≡ Added Question ∷ after)
asked [] is = absurd (cc)
asked (Added Question ∷ ts) is = (ts, refl)
asked (_ ∷ ts) is = absurd (cc)

ends_here : (ts : List Sign) → asks ts ≡ true → TestBehind zero (Close ∷ ts)
ends_here ts is = let a = asked ts is in ([], a.0, ap (λ us. Close ∷ us) a.1, refl)

tested : (n : ℕ) (ts : List Sign) → is_test_behind n ts ≡ true → TestBehind n ts
tested n [] is = absurd (cc)
tested n (Open ∷ ts) is = inside_one Open n (suc n) ts (λ us. refl) (tested (suc n) ts is)
tested zero (Close ∷ ts) is = ends_here ts is
tested (suc n) (Close ∷ ts) is = inside_one Close (suc n) n ts (λ us. refl) (tested n ts is)
tested n (t ∷ ts) is = inside_one t n n ts (λ us. refl) (tested n ts is)

-- the other way, by what stands inside
none_open : (n : ℕ) (after : List Sign) → open_behind n [] ≡ Some 0 → is_test_behind n (Close ∷ Added Question ∷ after) ≡ true
none_open zero after is = refl
none_open (suc n) after is = absurd (cc)

found : (n : ℕ) (inside after : List Sign)
    → open_behind n inside ≡ Some 0
    → is_test_behind n (inside ++ Close ∷ Added Question ∷ after) ≡ true
found n [] after is = none_open n after is
found n (Open ∷ ts) after is = found (suc n) ts after is
found zero (Close ∷ ts) after is = absurd (cc)
found (suc n) (Close ∷ ts) after is = found n ts after is
found n (t ∷ ts) after is = found n ts after is

pub marks_are_of_tests : MarksAreOfTests
marks_are_of_tests ts =
    (λ is. tested 0 ts is, λ b. ap (is_test_behind 0) b.2 ∙ found 0 b.0 b.1 b.3)
