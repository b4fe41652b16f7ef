-- A spread has one first cause.
--
--   one_first_cause == of two first causes neither comes before the other, so they are one
use Rattle.std.proofs.Common.{◌≡◌, ◌<◌, ◌≤◌, ◌⊎◌, inl, inr, ap, sym, arith}
use Rattle.std.proofs.lemmas.Bool.{cases_lt, cases_eq}
use Rattle.ml_graph.specs.Graph.{Graph}
use Rattle.ml_sequent.specs.declared.clashes.ClashCause.{ClashCause}
use Rattle.ml_sequent.specs.declared.clashes.ClashCause.TheVariants as cause
use Rattle.ml_sequent.specs.Spread.{SpreadList}
use Rattle.ml_sequent.specs.FirstCause.{IsFirstCause, comes_before}

-- causes of which neither comes before the other are one
apart : (x y : ClashCause) → (comes_before x y → ⊥) → (comes_before y x → ⊥) → x ≡ y
apart (cause.False n) (cause.False m) early late = ap cause.False (omega (arith, early, late))
apart (cause.False n) (cause.Pair p q) early late = absurd (early tt)
apart (cause.False n) (cause.Cycle m) early late = absurd (early tt)
apart (cause.Pair p q) (cause.False m) early late = absurd (late tt)
apart (cause.Pair p q) (cause.Pair r s) early late = by_first (cases_eq p r)
  where
    by_second : p ≡ r → (q ≡ s) ⊎ (q ≡ s → ⊥) → cause.Pair p q ≡ cause.Pair r s
    by_second same (inl other) = λ i. cause.Pair (same i) (other i)
    by_second same (inr differ) = absurd (by_order (cases_lt q s))
      where
        by_order : (q < s) ⊎ (s ≤ q) → ⊥
        by_order (inl less) = early (inr (same, less))
        by_order (inr le) = late (inr (sym same, omega (arith, differ)))

    by_first : (p ≡ r) ⊎ (p ≡ r → ⊥) → cause.Pair p q ≡ cause.Pair r s
    by_first (inl same) = by_second same (cases_eq q s)
    by_first (inr differ) = absurd (by_order (cases_lt p r))
      where
        by_order : (p < r) ⊎ (r ≤ p) → ⊥
        by_order (inl less) = early (inl less)
        by_order (inr le) = late (inl (omega (arith, differ)))
apart (cause.Pair p q) (cause.Cycle m) early late = absurd (early tt)
apart (cause.Cycle n) (cause.False m) early late = absurd (late tt)
apart (cause.Cycle n) (cause.Pair p q) early late = absurd (late tt)
apart (cause.Cycle n) (cause.Cycle m) early late = ap cause.Cycle (omega (arith, early, late))

pub one_first_cause : (g : Graph) (sp : SpreadList) (x y : ClashCause)
    → IsFirstCause g sp x
    → IsFirstCause g sp y
    → x ≡ y
one_first_cause g sp x y first other = apart x y (λ early. other.first x first.is_cause early)
    (λ late. first.first y other.is_cause late)
