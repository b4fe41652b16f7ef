-- How many occurrences joined formulas have.
--
--   requirements_in == requirements among items of a logic are of it
--   asked_logic, asked_sound == what an item asks for is of its formula's logic, and sound where that is
--   joined_size    == formulas that are joined have one occurrence less than their total
--   long_joined, long_total == so they are too long exactly where that is
use Rattle.std.proofs.Common.{◌≡◌, ◌+◌, ◌<◌, Bool, true, false, cond, List, [], ◌∷◌, filter, map, refl, sym, ◌∙◌, arith}
use Rattle.std.specs.List.{AllByRecursion}
use Rattle.std.proofs.lemmas.List.Sums.{sum_by-cons}
use Rattle.ml_text.specs.Limits.{most_occurrences}
use Rattle.ml_front.specs.Connectives.{all_of, both, joined, occurrences, truth, AreOf}
use Rattle.ml_front.specs.Logics.{logic_of}
use Rattle.ml_front.specs.declared.logic.Logic.{Logic}
use Rattle.ml_front.specs.declared.logic.Logic.TheVariants as logic
use Rattle.ml_front.specs.declared.problem.AnyFormula.{AnyFormula}
use Rattle.ml_front.specs.private.Sound.{IsSound}
use Rattle.ml_front.proofs.Connected.{both_logic, both_size, negation_logic}
use Rattle.ml_front.proofs.Sound.{negation_sound}
use Rattle.ml_spec.specs.Joined.{asked_as, requirements}
use Rattle.ml_spec.specs.Kinds.{is_requirement}
use Rattle.ml_spec.specs.declared.kind.Kind.{Kind}
use Rattle.ml_spec.specs.declared.kind.Kind.TheVariants as kind
use Rattle.ml_spec.specs.declared.specification.Item.{Item}
use Rattle.ml_spec.specs.private.Sizes.{total}

-- ---- formulas

all_size : (l : Logic) (f : AnyFormula) (gs : List AnyFormula)
    → logic_of f ≡ l
    → AreOf l gs
    → occurrences (all_of f gs) ≡ occurrences f + total gs
all_size l f [] is are = omega arith
all_size l f (g ∷ gs) is are =
    let rest : occurrences (all_of f (g ∷ gs)) ≡ occurrences (both f g) + total gs =
    all_size l (both f g) gs (both_logic f g ∙ is) are.1 in
    omega (arith, rest, both_size f g (is ∙ sym are.0), sum_by-cons (λ h. 1 + occurrences h) g gs)

pub joined_size : (l : Logic) (f : AnyFormula) (fs : List AnyFormula)
    → AreOf l (f ∷ fs)
    → 1 + occurrences (joined l (f ∷ fs)) ≡ total (f ∷ fs)
joined_size l f fs are =
    let whole : occurrences (joined l (f ∷ fs)) ≡ occurrences f + total fs = all_size l f fs are.0 are.1 in
    omega (arith, whole, sum_by-cons (λ h. 1 + occurrences h) f fs)

truth_size : (l : Logic) → most_occurrences < occurrences (truth l) → ⊥
truth_size logic.Mu long = omega (arith, long)
truth_size logic.Pdl long = omega (arith, long)
truth_size logic.Ctl long = omega (arith, long)
truth_size logic.Ltl long = omega (arith, long)
truth_size logic.Word long = omega (arith, long)

pub long_joined : (l : Logic) (fs : List AnyFormula)
    → AreOf l fs
    → most_occurrences + 1 < total fs
    → most_occurrences < occurrences (joined l fs)
long_joined l [] are long = absurd (omega (arith, long))
long_joined l (f ∷ fs) are long = omega (arith, long, joined_size l f fs are)

pub long_total : (l : Logic) (fs : List AnyFormula)
    → AreOf l fs
    → most_occurrences < occurrences (joined l fs)
    → most_occurrences + 1 < total fs
long_total l [] are long = absurd (truth_size l long)
long_total l (f ∷ fs) are long = omega (arith, long, joined_size l f fs are)

-- ---- items

abbrev pub AreItemsIn : Logic → List Item → Type 0
AreItemsIn l xs = AllByRecursion (λ x. logic_of x.formula ≡ l) xs

pub requirements_in : (l : Logic) (xs : List Item) → AreItemsIn l xs → AreOf l (requirements xs)
requirements_in l [] are = tt
requirements_in l (x ∷ xs) are = by (is_requirement x.kind) (requirements_in l xs are.1)
  where
    by : (b : Bool)
        → AreOf l (requirements xs)
        → AreOf l (map (λ y. y.formula) (cond b (x ∷ filter (λ y. is_requirement y.kind) xs) (filter (λ y. is_requirement y.kind) xs)))
    by true rest = (are.0, rest)
    by false rest = rest

pub asked_logic : (k : Kind) (f : AnyFormula) → logic_of (asked_as k f) ≡ logic_of f
asked_logic kind.Require f = refl
asked_logic kind.Possible f = refl
asked_logic kind.Follows f = negation_logic f

pub asked_sound : (k : Kind) (f : AnyFormula) → IsSound f → IsSound (asked_as k f)
asked_sound kind.Require f sound = sound
asked_sound kind.Possible f sound = sound
asked_sound kind.Follows f sound = negation_sound f sound
