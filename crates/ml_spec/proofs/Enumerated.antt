-- Enumerations as formulas: where a logic has them they are of it, and well formed if they are small enough.
--
--   enumerated   == so it is of the propositions of a list
--   some_formula == such a logic has one of each list
use Rattle.std.proofs.Common.{◌≡◌, ℕ, zero, suc, ◌+◌, ◌/◌, ◌≤◌, Bool, true, false, List, [], ◌∷◌, length, take, drop, Some, refl}
use Rattle.std.specs.List.{AllByRecursion}
use Rattle.std.proofs.lemmas.Bool.{and_from}
use Rattle.ml_lists.proofs.AllOf.{all_both}
use Rattle.ml_text.specs.Limits.{most_occurrences}
use Rattle.ml_text.specs.Names.{IsShortName, are_spelled}
use Rattle.ml_text.specs.declared.token.Operator.{Operator}
use Rattle.ml_text.specs.declared.token.Operator.TheVariants.{And, Or}
use Rattle.ml_text.proofs.Names.{spelled_both}
use Rattle.ml_ctl.specs.Enumerations.{first_half, none_in, one_in, second_half}
use Rattle.ml_ctl.specs.Enumerations as ctl
use Rattle.ml_ctl.specs.Formula.{Binary, Const, Formula, Not, Prop}
use Rattle.ml_ctl.specs.FormulaNames.{names}
use Rattle.ml_ctl.specs.Signs.{own}
use Rattle.ml_ctl.specs.Sorts.{is_linear, is_state}
use Rattle.ml_ctl.specs.Spelling.{is_proposition}
use Rattle.ml_ctl.specs.declared.language.Language.TheVariants as language
use Rattle.ml_base.specs.Name.{longest_name}
use Rattle.ml_front.specs.Connectives.{occurrences}
use Rattle.ml_front.specs.Enumerations.{enumeration}
use Rattle.ml_front.specs.Logics.{logic_of}
use Rattle.ml_front.specs.WellFormed.{IsWellFormed}
use Rattle.ml_front.specs.declared.logic.Logic.{Logic}
use Rattle.ml_front.specs.declared.logic.Logic.TheVariants as logic
use Rattle.ml_front.specs.declared.problem.AnyFormula.{AnyFormula}
use Rattle.ml_front.specs.declared.problem.AnyFormula.TheVariants as any
use Rattle.ml_written.specs.Propositions.{has_enumerations}

abbrev IsFine : List ℕ → Type 0
IsFine p = (is_proposition p ≡ true) × (length p ≤ longest_name)

abbrev pub AreFine : List (List ℕ) → Type 0
AreFine ps = AllByRecursion IsFine ps

record IsPlain (f : Formula) : Type 0 where
  short : AllByRecursion IsShortName (names f)
  spelled : are_spelled own (names f) ≡ true
  state : is_state f ≡ true
  linear : is_linear f ≡ true

constant : (b : Bool) → IsPlain (Const b)
constant b = record { short = tt; spelled = refl; state = refl; linear = refl }

prop : (p : List ℕ) → IsFine p → IsPlain (Prop p)
prop p fine = record {
  short = (fine.1, tt);
  spelled = and_from (is_proposition p) true fine.0 refl;
  state = refl;
  linear = refl;
}

unless : (f : Formula) → IsPlain f → IsPlain (Not f)
unless f plain = record { short = plain.short; spelled = plain.spelled; state = plain.state; linear = plain.linear }

both : (o : Operator) (f g : Formula) → IsPlain f → IsPlain g → IsPlain (Binary o f g)
both o f g one other = record {
  short = all_both IsShortName (names f) (names g) one.short other.short;
  spelled = spelled_both own (names f) (names g) one.spelled other.spelled;
  state = and_from (is_state f) (is_state g) one.state other.state;
  linear = and_from (is_linear f) (is_linear g) one.linear other.linear;
}

all_take : (n : ℕ) (ps : List (List ℕ)) → AreFine ps → AreFine (take n ps)
all_take zero ps fine = tt
all_take (suc n) [] fine = tt
all_take (suc n) (p ∷ ps) fine = (fine.0, all_take n ps fine.1)

all_drop : (n : ℕ) (ps : List (List ℕ)) → AreFine ps → AreFine (drop n ps)
all_drop zero ps fine = fine
all_drop (suc n) [] fine = tt
all_drop (suc n) (p ∷ ps) fine = all_drop n ps fine.1

first_fine : (ps : List (List ℕ)) → AreFine ps → AreFine (first_half ps)
first_fine ps fine = all_take ((length ps + 1) / 2) ps fine

second_fine : (ps : List (List ℕ)) → AreFine ps → AreFine (second_half ps)
second_fine ps fine = all_drop ((length ps + 1) / 2) ps fine

none_plain : (k : ℕ) (ps : List (List ℕ)) → AreFine ps → IsPlain (none_in k ps)
none_plain k [] fine = constant true
none_plain k (p ∷ []) fine = unless (Prop p) (prop p fine.0)
none_plain zero (p ∷ q ∷ ps) fine = constant true
none_plain (suc k) (p ∷ q ∷ ps) fine =
    both And (none_in k (first_half (p ∷ q ∷ ps))) (none_in k (second_half (p ∷ q ∷ ps)))
    (none_plain k (first_half (p ∷ q ∷ ps)) (first_fine (p ∷ q ∷ ps) fine))
    (none_plain k (second_half (p ∷ q ∷ ps)) (second_fine (p ∷ q ∷ ps) fine))

one_plain : (k : ℕ) (ps : List (List ℕ)) → AreFine ps → IsPlain (one_in k ps)
one_plain k [] fine = constant false
one_plain k (p ∷ []) fine = prop p fine.0
one_plain zero (p ∷ q ∷ ps) fine = constant true
one_plain (suc k) (p ∷ q ∷ ps) fine =
    let front = first_half (p ∷ q ∷ ps) in
    let back = second_half (p ∷ q ∷ ps) in
    let fine_front = first_fine (p ∷ q ∷ ps) fine in
    let fine_back = second_fine (p ∷ q ∷ ps) fine in
    both Or (Binary And (one_in k front) (none_in k back)) (Binary And (none_in k front) (one_in k back))
    (both And (one_in k front) (none_in k back) (one_plain k front fine_front) (none_plain k back fine_back))
    (both And (none_in k front) (one_in k back) (none_plain k front fine_front) (one_plain k back fine_back))

pub record IsEnumerated (l : Logic) (ps : List (List ℕ)) : Type 0 where
  pub formula : AnyFormula
  pub means : enumeration l ps ≡ Some formula
  pub of_logic : logic_of formula ≡ l
  pub is_well : occurrences formula ≤ most_occurrences → IsWellFormed formula

pub enumerated : (l : Logic) (ps : List (List ℕ)) → has_enumerations l ≡ true → AreFine ps → IsEnumerated l ps
enumerated logic.Mu ps has fine = absurd cc
enumerated logic.Pdl ps has fine = absurd cc
enumerated logic.Ctl ps has fine =
    let plain = one_plain (length ps) ps fine in
    record {
      formula = any.Ctl (ctl.enumeration language.Ctl ps);
      means = refl;
      of_logic = refl;
      is_well = λ small. record {
        is_small = small;
        names_are_short = plain.short;
        names_are_spelled = plain.spelled;
        is_of_logic = refl;
      };
    }
enumerated logic.Ltl ps has fine =
    let plain = one_plain (length ps) ps fine in
    record {
      formula = any.Ltl (ctl.enumeration language.Ltl ps);
      means = refl;
      of_logic = refl;
      is_well = λ small. record {
        is_small = small;
        names_are_short = plain.short;
        names_are_spelled = plain.spelled;
        is_of_logic = plain.linear;
      };
    }
enumerated logic.Word ps has fine =
    let plain = one_plain (length ps) ps fine in
    record {
      formula = any.Word (ctl.enumeration language.Ltl ps);
      means = refl;
      of_logic = refl;
      is_well = λ small. record {
        is_small = small;
        names_are_short = plain.short;
        names_are_spelled = plain.spelled;
        is_of_logic = plain.linear;
      };
    }

pub some_formula : (l : Logic) (ps : List (List ℕ)) → has_enumerations l ≡ true → (f : AnyFormula) × (enumeration l ps ≡ Some f)
some_formula logic.Mu ps has = absurd cc
some_formula logic.Pdl ps has = absurd cc
some_formula logic.Ctl ps has = (any.Ctl (ctl.enumeration language.Ctl ps), refl)
some_formula logic.Ltl ps has = (any.Ltl (ctl.enumeration language.Ltl ps), refl)
some_formula logic.Word ps has = (any.Word (ctl.enumeration language.Ltl ps), refl)
