-- Requirements and a question that can be met together.
--
-- A specification has a logic l and items xs. Requirements are given by the set S of the numbers of their items.
--
--   everything         == the set of all numbers
--   without S k        == the set S without k
--   beside S T         == the set S without the members of T
--   problem_of l xs S q == the plain problem of the joined formula of the requirements in S and the question q
--   problems_of xs S q == the problems of these formulas, each by itself: plain ones, and for `follows` the negated one of its
--                         formula
--   IsHeld p           == the formula of p has no more occurrences than the program's formulas have
--   IsSmall p          == the closure of the problem p has no more nodes than are decided and checked
--   CanBeChecked l xs S q == whether a structure meets the requirements in S and the question q can be checked: in all logics
--                         but LTL of paths by each formula, where their closures are small; and by the joined formula, where
--                         the program holds it and its closure is small
--   CanMeet l xs S q   == the requirements in S can be met together where q is asked: their joined formula holds at some state
--                         of some structure of which the logic speaks
--   AreWellFormed xs   == the formulas of the items xs are such as the program holds
--   CanStayOpen n p    == the problem p may be left open where the decision game may have n positions: its formula is longer
--                         than those that the program holds, or it stays undecided
--   numbers_in S xs    == the numbers of the requirements in S, ascending
use Rattle.std.specs.Prelude.{ℕ, ◌≢◌, ◌≤◌, ◌<◌, ◌⊎◌, ◌+◌, ◌==◌, ◌&&◌, Bool, true, false, not, if◌then◌else◌, List, [], ◌∷◌, ◌++◌, map, Option, None, Some, slice_get}
use Rattle.std.specs.List.{AllByRecursion}
use Rattle.ml_text.specs.Limits.{most_occurrences}
use Rattle.ml_decide.specs.Limits.{StaysOpen}
use Rattle.ml_decide.specs.declared.cause.Cause.{Cause}
use Rattle.ml_front.specs.Connectives.{occurrences}
use Rattle.ml_front.specs.Graphs.{HasLargeClosure}
use Rattle.ml_front.specs.Problems.{IsSatisfiable}
use Rattle.ml_front.specs.declared.logic.Logic.{Logic}
use Rattle.ml_front.specs.declared.logic.Logic.TheVariants.{Ltl}
use Rattle.ml_front.specs.declared.problem.AnyFormula.{AnyFormula}
use Rattle.ml_front.specs.declared.problem.Problem.{Problem}
use Rattle.ml_front.specs.declared.problem.TheConstants.{MOST_NODES}
use Rattle.ml_front.specs.Logics.{IsWellFormed}
use Rattle.ml_spec.specs.Joined.{requirements}
use Rattle.ml_spec.specs.Kinds.{is_requirement}
use Rattle.ml_spec.specs.Questions.{chosen, joined_of}
use Rattle.ml_spec.specs.declared.kind.Kind.{Kind}
use Rattle.ml_spec.specs.declared.kind.Kind.TheVariants as kind
use Rattle.ml_spec.specs.declared.question.Question.{Question}
use Rattle.ml_spec.specs.declared.question.Question.TheVariants as question
use Rattle.ml_spec.specs.declared.specification.Item.{Item}

abbrev pub everything : ℕ → Bool
everything n = true

abbrev pub without : (ℕ → Bool) → ℕ → ℕ → Bool
without S k n = S n && not (n == k)

abbrev pub beside : (ℕ → Bool) → (ℕ → Bool) → ℕ → Bool
beside S T n = S n && not (T n)

abbrev pub plain : AnyFormula → Problem
plain f = record { formula = f; negated = false }

abbrev pub problem_of : Logic → List Item → (ℕ → Bool) → Question → Problem
problem_of l xs S q = plain (joined_of l S xs q)

abbrev pub is_negated : Kind → Bool
is_negated kind.Follows = true
is_negated k = false

abbrev pub problem_by_item : Item → Problem
problem_by_item x = record { formula = x.formula; negated = is_negated x.kind }

abbrev pub problems_by_item : Option Item → List Problem
problems_by_item None = []
problems_by_item (Some x) = problem_by_item x ∷ []

abbrev pub problems_asked : List Item → Question → List Problem
problems_asked xs question.Consistent = []
problems_asked xs question.Rest = []
problems_asked xs (question.Asks n) = problems_by_item (slice_get xs n)

abbrev pub problems_of : List Item → (ℕ → Bool) → Question → List Problem
problems_of xs S q = problems_asked xs q ++ map plain (requirements (chosen S xs))

abbrev pub IsHeld : Problem → Type 0
IsHeld p = occurrences p.formula ≤ most_occurrences

abbrev pub IsSmall : Problem → Type 0
IsSmall p = ¬ (HasLargeClosure p MOST_NODES)

pub data CanBeChecked (l : Logic) (xs : List Item) (S : ℕ → Bool) (q : Question) : Type 0 where
  by_each : l ≢ Ltl → AllByRecursion IsSmall (problems_of xs S q) → CanBeChecked l xs S q
  by_all : IsHeld (problem_of l xs S q) → IsSmall (problem_of l xs S q) → CanBeChecked l xs S q

abbrev pub AreWellFormed : List Item → Type 0
AreWellFormed xs = AllByRecursion (λ x. IsWellFormed x.formula) xs

abbrev pub CanMeet : Logic → List Item → (ℕ → Bool) → Question → Type 0
CanMeet l xs S q = IsSatisfiable (problem_of l xs S q)

abbrev pub CanStayOpen : ℕ → Problem → Type 0
CanStayOpen n p = (most_occurrences < occurrences p.formula) ⊎ ((c : Cause) × StaysOpen n p c)

abbrev pub numbers_from : (ℕ → Bool) → ℕ → List Item → List ℕ
numbers_from S n [] = []
numbers_from S n (x ∷ xs) =
    if S n && is_requirement x.kind then n ∷ numbers_from S (n + 1) xs else numbers_from S (n + 1) xs

abbrev pub numbers_in : (ℕ → Bool) → List Item → List ℕ
numbers_in S xs = numbers_from S 0 xs
