-- Formulas written out: how large they are, and that they are formulas of LTL which a program may hold.
--
--   one_next, one_place   == one X more in front, and one place more
--   next_counted, reach_counted == how many occurrences a bounded operator has, written out
--   meant_grows           == no fewer than its operand
--   written_well          == a well-formed formula is one of LTL, written out, where it is small enough
use Rattle.std.proofs.Common.{◌≡◌, ℕ, zero, suc, ◌+◌, ◌-◌, ◌*◌, ◌≤◌, true, List, [], ◌∷◌, refl, sym, subst, arith}
use Rattle.std.proofs.lemmas.Bool.{and_from, and_parts}
use Rattle.std.proofs.Math.Nat.{suc-mul}
use Rattle.std.proofs.Math.Numerals.{add-one}
use Rattle.std.specs.List.{AllByRecursion}
use Rattle.ml_lists.proofs.AllOf.{all_both, all_parts}
use Rattle.ml_text.specs.Limits.{most_occurrences}
use Rattle.ml_text.specs.Names.{KindedName, IsShortName, are_spelled, is_spelled_name}
use Rattle.ml_text.proofs.Names.{IsSpelledName, spelled_all}
use Rattle.ml_ctl.specs.Formula as ltl
use Rattle.ml_ctl.specs.FormulaNames as ltl_names
use Rattle.ml_ctl.specs.Signs as ltl_signs
use Rattle.ml_ctl.specs.Sorts.{is_linear}
use Rattle.ml_ctl.specs.WellFormed as ltl_well
use Rattle.ml_ctl.specs.declared.language.Language.TheVariants.{Ltl}
use Rattle.ml_bounded.specs.Formula.{Binary, Bounded, Const, Formula, Not, Paired, Prop, Temporal}
use Rattle.ml_bounded.specs.FormulaNames.{names}
use Rattle.ml_bounded.specs.Signs.{own}
use Rattle.ml_bounded.specs.WellFormed.{IsWellFormed}
use Rattle.ml_bounded.specs.WrittenOut.{meant, next, nexts, within, written_out, connective}
use Rattle.ml_bounded.specs.declared.term.Bound.{Bound}
use Rattle.ml_bounded.specs.declared.term.Bound.TheVariants.{Next, Within}
use Rattle.ml_bounded.specs.declared.term.Reach.{Reach}
use Rattle.ml_bounded.specs.declared.term.Reach.TheVariants.{Eventually, Always}

-- ---- one more

pub one_next : (n : ℕ) (f : ltl.Formula) → nexts (n + 1) f ≡ next (nexts n f)
one_next n f = subst (λ k. nexts k f ≡ next (nexts n f)) (sym (add-one n)) refl

pub one_place : (r : Reach) (k : ℕ) (f : ltl.Formula)
    → within r (k + 1) f ≡ ltl.Binary (connective r) f (next (within r k f))
one_place r k f = subst (λ n. within r n f ≡ ltl.Binary (connective r) f (next (within r k f))) (sym (add-one k)) refl

-- ---- sizes

pub next_size : (n : ℕ) (f : ltl.Formula) → ltl.occurrences (nexts n f) ≡ n + ltl.occurrences f
next_size zero f = omega arith
next_size (suc n) f = omega (arith, next_size n f)

within_size : (r : Reach) (k : ℕ) (f : ltl.Formula)
    → ltl.occurrences (within r k f) ≡ ltl.occurrences f + k * (ltl.occurrences f + 2)
within_size r zero f = omega arith
within_size Eventually (suc k) f =
    omega (arith, within_size Eventually k f, suc-mul k (ltl.occurrences f + 2))
within_size Always (suc k) f =
    omega (arith, within_size Always k f, suc-mul k (ltl.occurrences f + 2))

reach_size : (r : Reach) (m n : ℕ) (f : ltl.Formula)
    → ltl.occurrences (meant (Within r m n) f) ≡ m + ltl.occurrences f + (n - m) * (ltl.occurrences f + 2)
reach_size r m n f = omega (arith, next_size m (within r (n - m) f), within_size r (n - m) f)

-- the sizes that a program finds
pub next_counted : (b : Bound) (n k : ℕ) (f : ltl.Formula)
    → b ≡ Next n
    → ltl.occurrences f ≡ k
    → n + k ≡ ltl.occurrences (meant b f)
next_counted b n k f is same =
    subst (λ x. n + k ≡ ltl.occurrences (meant x f)) (sym is) (omega (arith, next_size n f, same))

pub reach_counted : (b : Bound) (r : Reach) (m n k more : ℕ) (f : ltl.Formula)
    → b ≡ Within r m n
    → more ≡ n - m
    → ltl.occurrences f ≡ k
    → m + k + more * (k + 2) ≡ ltl.occurrences (meant b f)
reach_counted b r m n k more f is ahead same =
    subst (λ x. m + k + more * (k + 2) ≡ ltl.occurrences (meant x f)) (sym is)
    (subst (λ y. m + k + y * (k + 2) ≡ ltl.occurrences (meant (Within r m n) f)) (sym ahead)
    (subst (λ x. m + x + (n - m) * (x + 2) ≡ ltl.occurrences (meant (Within r m n) f)) same (sym (reach_size r m n f))))

within_grows : (r : Reach) (k : ℕ) (f : ltl.Formula) → ltl.occurrences f ≤ ltl.occurrences (within r k f)
within_grows r zero f = omega arith
within_grows Eventually (suc k) f = omega arith
within_grows Always (suc k) f = omega arith

pub meant_grows : (b : Bound) (f : ltl.Formula) → ltl.occurrences f ≤ ltl.occurrences (meant b f)
meant_grows (Next n) f = omega (arith, next_size n f)
meant_grows (Within r m n) f = omega (arith, next_size m (within r (n - m) f), within_grows r (n - m) f)

-- ---- names

module _ (P : KindedName → Type 0) where
  abbrev Holds : ltl.Formula → Type 0
  Holds f = AllByRecursion P (ltl_names.names f)

  nexts_hold : (n : ℕ) (f : ltl.Formula) → Holds f → Holds (nexts n f)
  nexts_hold zero f is = is
  nexts_hold (suc n) f is = nexts_hold n f is

  within_hold : (r : Reach) (k : ℕ) (f : ltl.Formula) → Holds f → Holds (within r k f)
  within_hold r zero f is = is
  within_hold r (suc k) f is =
      all_both P (ltl_names.names f) (ltl_names.names (within r k f)) is (within_hold r k f is)

  meant_hold : (b : Bound) (f : ltl.Formula) → Holds f → Holds (meant b f)
  meant_hold (Next n) f is = nexts_hold n f is
  meant_hold (Within r m n) f is = nexts_hold m (within r (n - m) f) (within_hold r (n - m) f is)

  -- what holds of the names of a formula holds of those that stand in it, written out
  written_hold : (f : Formula) → AllByRecursion P (names f) → Holds (written_out f)
  written_hold (Const b) is = tt
  written_hold (Prop p) is = is
  written_hold (Not f) is = written_hold f is
  written_hold (Binary o f g) is =
      let parts = all_parts P (names f) (names g) is in
      all_both P (ltl_names.names (written_out f)) (ltl_names.names (written_out g))
      (written_hold f parts.0) (written_hold g parts.1)
  written_hold (Temporal t f) is = written_hold f is
  written_hold (Paired p f g) is =
      let parts = all_parts P (names f) (names g) is in
      all_both P (ltl_names.names (written_out f)) (ltl_names.names (written_out g))
      (written_hold f parts.0) (written_hold g parts.1)
  written_hold (Bounded b f) is = meant_hold b (written_out f) (written_hold f is)

spelled_each : (xs : List KindedName) → are_spelled own xs ≡ true → AllByRecursion (IsSpelledName own) xs
spelled_each [] is = tt
spelled_each (x ∷ xs) is =
    let parts = and_parts (is_spelled_name own x) (are_spelled own xs) is in (parts.0, spelled_each xs parts.1)

-- ---- no quantifiers

nexts_linear : (n : ℕ) (f : ltl.Formula) → is_linear f ≡ true → is_linear (nexts n f) ≡ true
nexts_linear zero f is = is
nexts_linear (suc n) f is = nexts_linear n f is

within_linear : (r : Reach) (k : ℕ) (f : ltl.Formula) → is_linear f ≡ true → is_linear (within r k f) ≡ true
within_linear r zero f is = is
within_linear r (suc k) f is = and_from (is_linear f) (is_linear (within r k f)) is (within_linear r k f is)

meant_linear : (b : Bound) (f : ltl.Formula) → is_linear f ≡ true → is_linear (meant b f) ≡ true
meant_linear (Next n) f is = nexts_linear n f is
meant_linear (Within r m n) f is = nexts_linear m (within r (n - m) f) (within_linear r (n - m) f is)

written_linear : (f : Formula) → is_linear (written_out f) ≡ true
written_linear (Const b) = refl
written_linear (Prop p) = refl
written_linear (Not f) = written_linear f
written_linear (Binary o f g) =
    and_from (is_linear (written_out f)) (is_linear (written_out g)) (written_linear f) (written_linear g)
written_linear (Temporal t f) = written_linear f
written_linear (Paired p f g) =
    and_from (is_linear (written_out f)) (is_linear (written_out g)) (written_linear f) (written_linear g)
written_linear (Bounded b f) = meant_linear b (written_out f) (written_linear f)

pub written_well : (f : Formula)
    → IsWellFormed f
    → ltl.occurrences (written_out f) ≤ most_occurrences
    → ltl_well.IsWellFormed Ltl (written_out f)
written_well f well small = record {
  is_small = small;
  names_are_short = written_hold IsShortName f well.names_are_short;
  names_are_spelled =
      spelled_all ltl_signs.own (ltl_names.names (written_out f))
      (written_hold (IsSpelledName own) f (spelled_each (names f) well.names_are_spelled));
  is_of_logic = written_linear f;
}
