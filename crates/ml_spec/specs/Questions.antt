-- The questions of a specification, and the formulas that answer them.
--
-- A question is asked of some of the requirements, which are given by the numbers of their items, counted from 0.
--
--   is_in taken n      == is the number n in the set that `taken` tells, which says of each number whether it is?
--   chosen S xs        == the items of xs whose numbers are in the set S, in their order
--   asked_by xs q      == what the question q asks for beside the requirements: what its item does; else nothing
--   parts_of S xs q    == the formulas of the requirements of xs that are in S, and behind them what q asks for
--   joined_of l S xs q == these, joined
--   IsQuestion xs q    == q is a question of the items xs: whether all requirements or some that are left are consistent, or an
--                         item that is no requirement
--   asking xs          == the questions of the items xs, in their order
use Rattle.std.specs.Prelude.{ℕ, ◌≡◌, ◌+◌, Bool, false, if◌then◌else◌, List, [], ◌∷◌, ◌++◌, Option, None, Some, slice_get, slice_index_or}
use Rattle.ml_front.specs.declared.logic.Logic.{Logic}
use Rattle.ml_front.specs.declared.problem.AnyFormula.{AnyFormula}
use Rattle.ml_front.specs.Connectives.{joined}
use Rattle.ml_spec.specs.Joined.{asked, requirements}
use Rattle.ml_spec.specs.Kinds.{is_requirement}
use Rattle.ml_spec.specs.declared.question.Question.{Question}
use Rattle.ml_spec.specs.declared.question.Question.TheVariants as question
use Rattle.ml_spec.specs.declared.specification.Item.{Item}

abbrev pub is_in : List Bool → ℕ → Bool
is_in taken n = slice_index_or taken n false

abbrev pub chosen_from : (ℕ → Bool) → ℕ → List Item → List Item
chosen_from S n [] = []
chosen_from S n (x ∷ xs) = if S n then x ∷ chosen_from S (n + 1) xs else chosen_from S (n + 1) xs

abbrev pub chosen : (ℕ → Bool) → List Item → List Item
chosen S xs = chosen_from S 0 xs

abbrev pub asked_by_item : Option Item → List AnyFormula
asked_by_item None = []
asked_by_item (Some x) = asked x ∷ []

abbrev pub asked_by : List Item → Question → List AnyFormula
asked_by xs question.Consistent = []
asked_by xs question.Rest = []
asked_by xs (question.Asks n) = asked_by_item (slice_get xs n)

abbrev pub parts_of : (ℕ → Bool) → List Item → Question → List AnyFormula
parts_of S xs q = requirements (chosen S xs) ++ asked_by xs q

abbrev pub joined_of : Logic → (ℕ → Bool) → List Item → Question → AnyFormula
joined_of l S xs q = joined l (parts_of S xs q)

abbrev pub IsQuestion : List Item → Question → Type 0
IsQuestion xs question.Consistent = Unit {0}
IsQuestion xs question.Rest = Unit {0}
IsQuestion xs (question.Asks n) = (x : Item) × (slice_get xs n ≡ Some x) × (is_requirement x.kind ≡ false)

abbrev pub asking_from : ℕ → List Item → List Question
asking_from n [] = []
asking_from n (x ∷ xs) =
    if is_requirement x.kind then asking_from (n + 1) xs else question.Asks n ∷ asking_from (n + 1) xs

abbrev pub asking : List Item → List Question
asking xs = asking_from 0 xs
