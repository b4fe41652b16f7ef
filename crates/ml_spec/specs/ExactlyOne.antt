-- What the requirement of an enumeration says.
--
--   true_of m s ps   == those of the propositions ps that are true at the state s
--   HasOne m s ps    == exactly one of ps is true at s
--   HasOneAlong m l ps == exactly one of ps is true at each moment of the path l
--   PathsHaveOne     == the formula of LTL that an enumeration is holds of a path exactly where one proposition is true at each
--                       moment of it
--   StatesHaveOne    == that of CTL* holds at a state exactly where this is so of each path from there
use Rattle.std.specs.Prelude.{ℕ, ◌≡◌, ◌↔◌, List, filter, length}
use Rattle.ml_base.specs.Structure.{Structure, lists}
use Rattle.ml_ctl.specs.Enumerations.{enumeration}
use Rattle.ml_ctl.specs.Meaning.{HoldsAt, Satisfies}
use Rattle.ml_ctl.specs.Paths.{IsPath, IsPathFrom}
use Rattle.ml_ctl.specs.declared.language.Language.TheVariants.{Ctl, Ltl}
use Rattle.ml_lists.specs.Lasso.{unrolled, Lasso}

abbrev pub true_of : Structure → ℕ → List (List ℕ) → List (List ℕ)
true_of m s ps = filter (lists m s) ps

abbrev pub HasOne : Structure → ℕ → List (List ℕ) → Type 0
HasOne m s ps = length (true_of m s ps) ≡ 1

abbrev pub HasOneAlong : Structure → Lasso → List (List ℕ) → Type 0
HasOneAlong m l ps = (k : ℕ) → HasOne m (unrolled l k) ps

abbrev pub PathsHaveOne : Type 0
PathsHaveOne = (m : Structure) (l : Lasso) (ps : List (List ℕ))
    → IsPath m l → Satisfies m l (enumeration Ltl ps) ↔ HasOneAlong m l ps

abbrev pub StatesHaveOne : Type 0
StatesHaveOne = (m : Structure) (s : ℕ) (ps : List (List ℕ))
    → HoldsAt m (enumeration Ctl ps) s ↔ ((l : Lasso) → IsPathFrom m s l → HasOneAlong m l ps)
