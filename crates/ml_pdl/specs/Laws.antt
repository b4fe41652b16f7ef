-- What stars and infinite repetitions mean, said without iterates.
--
--   HasRuns m p q          == the relation q relates each state to itself, and goes on by runs of p
--   GoesOn m p set         == from each state of the set some run of p leads into the set
--   StarsAreLeast          == a star is the least relation that has the runs of its program
--   RepetitionsAreGreatest == the states at which a program can be repeated for ever are the greatest set that goes on
use Rattle.std.specs.Prelude.{ℕ, ◌≡◌, ◌<◌, Bool, true}
use Rattle.ml_base.specs.Structure.{Structure, is_member}
use Rattle.ml_pdl.specs.Formula.{Program, Star, Repeat}
use Rattle.ml_pdl.specs.Meaning.{Relation, meaning, relation}

pub record HasRuns (m : Structure) (p : Program) (q : Relation) : Type 0 where
  pub stays : (s : ℕ) → s < m.states → q s s ≡ true
  pub goes_on : (s t u : ℕ) → s < m.states → t < m.states → u < m.states
      → q s t ≡ true → relation m p t u ≡ true → q s u ≡ true

abbrev pub GoesOn : Structure → Program → (ℕ → Bool) → Type 0
GoesOn m p set =
    (s : ℕ) → s < m.states → set s ≡ true → (t : ℕ) × (t < m.states) × (relation m p s t ≡ true) × (set t ≡ true)

abbrev pub StarsAreLeast : Type 0
StarsAreLeast =
    (m : Structure) (p : Program)
    → HasRuns m p (relation m (Star p))
    × ((q : Relation) → HasRuns m p q → (s t : ℕ) → s < m.states → t < m.states
    → relation m (Star p) s t ≡ true → q s t ≡ true)

abbrev pub RepetitionsAreGreatest : Type 0
RepetitionsAreGreatest =
    (m : Structure) (p : Program)
    → GoesOn m p (is_member (meaning m (Repeat p)))
    × ((set : ℕ → Bool) → GoesOn m p set → (s : ℕ) → s < m.states → set s ≡ true → is_member (meaning m (Repeat p))
    s ≡ true)
