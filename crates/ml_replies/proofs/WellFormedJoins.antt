-- Formulas that are joined of well-formed ones are well formed, where they aren't too long.
--
--   joined_well   == what is joined for a question is well formed, where the program holds it
--   problems_well == the formulas of the problems of a question are well formed
use Rattle.std.proofs.Common.{◌≡◌, ℕ, zero, suc, ◌+◌, Bool, true, false, cond, List, [], ◌∷◌, Some, None, slice_get, filter, map, sym, subst}
use Rattle.std.specs.List.{AllByRecursion}
use Rattle.ml_lists.proofs.AllOf.{all_both}
use Rattle.ml_front.specs.Connectives.{joined}
use Rattle.ml_front.specs.Logics.{IsWellFormed}
use Rattle.ml_front.specs.declared.logic.Logic.{Logic}
use Rattle.ml_front.specs.declared.problem.AnyFormula.{AnyFormula}
use Rattle.ml_front.specs.declared.problem.Problem.{Problem}
use Rattle.ml_front.specs.private.Sound.{IsSound}
use Rattle.ml_front.proofs.Sound.{joined_sound, sound_well, well_sound}
use Rattle.ml_spec.specs.Joined.{requirements}
use Rattle.ml_spec.specs.Kinds.{is_requirement}
use Rattle.ml_spec.specs.Questions.{asked_by, asked_by_item, chosen, chosen_from, joined_of, parts_of, IsQuestion}
use Rattle.ml_spec.specs.declared.question.Question.{Question}
use Rattle.ml_spec.specs.declared.question.Question.TheVariants as question
use Rattle.ml_spec.specs.declared.specification.Item.{Item}
use Rattle.ml_spec.proofs.JoinedSizes.{asked_sound}
use Rattle.ml_replies.specs.Meeting.{plain, problem_of, problems_asked, problems_by_item, problems_of, AreWellFormed, IsHeld}

-- ---- chosen items

chosen_well : (S : ℕ → Bool) (n : ℕ) (xs : List Item) → AreWellFormed xs → AreWellFormed (chosen_from S n xs)
chosen_well S n [] are = tt
chosen_well S n (x ∷ xs) are = by (S n) (chosen_well S (n + 1) xs are.1)
  where
    by : (b : Bool)
        → AreWellFormed (chosen_from S (n + 1) xs)
        → AreWellFormed (cond b (x ∷ chosen_from S (n + 1) xs) (chosen_from S (n + 1) xs))
    by true rest = (are.0, rest)
    by false rest = rest

requirements_well : (xs : List Item) → AreWellFormed xs → AllByRecursion IsWellFormed (requirements xs)
requirements_well [] are = tt
requirements_well (x ∷ xs) are = by (is_requirement x.kind) (requirements_well xs are.1)
  where
    by : (b : Bool)
        → AllByRecursion IsWellFormed (requirements xs)
        → AllByRecursion IsWellFormed
        (map (λ y. y.formula) (cond b (x ∷ filter (λ y. is_requirement y.kind) xs) (filter (λ y. is_requirement y.kind) xs)))
    by true rest = (are.0, rest)
    by false rest = rest

well_at : (xs : List Item) (n : ℕ) (x : Item) → AreWellFormed xs → slice_get xs n ≡ Some x → IsWellFormed x.formula
well_at [] n x are is = let e : None ≡ Some x = is in cc
well_at (y ∷ ys) zero x are is =
    let e : Some y ≡ Some x = is in let same : y ≡ x = cc in subst (λ (z : Item). IsWellFormed z.formula) same are.0
well_at (y ∷ ys) (suc n) x are is = well_at ys n x are.1 is

-- ---- joined

all_sound : (fs : List AnyFormula) → AllByRecursion IsWellFormed fs → AllByRecursion IsSound fs
all_sound [] are = tt
all_sound (f ∷ fs) are = (well_sound f are.0, all_sound fs are.1)

asked_in_sound : (xs : List Item) (q : Question) → AreWellFormed xs → IsQuestion xs q → AllByRecursion IsSound (asked_by xs q)
asked_in_sound xs question.Consistent are is = tt
asked_in_sound xs question.Rest are is = tt
asked_in_sound xs (question.Asks n) are (x, is, asks) =
    subst (λ o. AllByRecursion IsSound (asked_by_item o)) (sym is)
    (asked_sound x.kind x.formula (well_sound x.formula (well_at xs n x are is)), tt)

pub joined_well : (l : Logic) (xs : List Item) (S : ℕ → Bool) (q : Question)
    → AreWellFormed xs
    → IsQuestion xs q
    → IsHeld (problem_of l xs S q)
    → IsWellFormed (joined_of l S xs q)
joined_well l xs S q are is held =
    let fs = requirements (chosen S xs) in
    sound_well (joined l (parts_of S xs q))
    (joined_sound l (parts_of S xs q)
    (all_both IsSound fs (asked_by xs q) (all_sound fs (requirements_well (chosen S xs) (chosen_well S 0 xs are)))
    (asked_in_sound xs q are is)))
    held

-- ---- by themselves

abbrev pub IsOfWell : Problem → Type 0
IsOfWell p = IsWellFormed p.formula

all_plain : (fs : List AnyFormula) → AllByRecursion IsWellFormed fs → AllByRecursion IsOfWell (map plain fs)
all_plain [] are = tt
all_plain (f ∷ fs) are = (are.0, all_plain fs are.1)

asked_well : (xs : List Item) (q : Question) → AreWellFormed xs → IsQuestion xs q → AllByRecursion IsOfWell (problems_asked xs q)
asked_well xs question.Consistent are is = tt
asked_well xs question.Rest are is = tt
asked_well xs (question.Asks n) are (x, is, asks) =
    subst (λ o. AllByRecursion IsOfWell (problems_by_item o)) (sym is) (well_at xs n x are is, tt)

pub problems_well : (xs : List Item) (S : ℕ → Bool) (q : Question)
    → AreWellFormed xs
    → IsQuestion xs q
    → AllByRecursion IsOfWell (problems_of xs S q)
problems_well xs S q are is =
    let fs = requirements (chosen S xs) in
    all_both IsOfWell (problems_asked xs q) (map plain fs) (asked_well xs q are is)
    (all_plain fs (requirements_well (chosen S xs) (chosen_well S 0 xs are)))
