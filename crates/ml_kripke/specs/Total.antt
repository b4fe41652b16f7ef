-- Structures in which each state goes on by an action.
--
-- In some logics every state has an edge, in others none need have one: so that each state has an edge by an action is
-- said of a structure, not built in. A state without one, a deadlock of that action, is told by its number, the least
-- such state first.
--
--   goes_on m a s       == does an edge by the action a leave the state s of m?
--   IsTotal m a         == each state of m goes on by the action a
--   IsLeastDead m a s   == s is the least state of m that doesn't go on by the action a
use Rattle.std.specs.Prelude.{ℕ, ◌<◌, ◌==◌, Bool, ◌&&◌, List, IsTrue}
use Rattle.std.specs.List.{list_any}
use Rattle.std.specs.Str.{bytes_eq}
use Rattle.ml_base.specs.Structure.{Structure}

abbrev pub goes_on : Structure → List ℕ → ℕ → Bool
goes_on m a s = list_any (λ e. (e.source == s) && bytes_eq e.action a) m.edges

abbrev pub IsTotal : Structure → List ℕ → Type 0
IsTotal m a = (s : ℕ) → s < m.states → IsTrue (goes_on m a s)

pub record IsLeastDead (m : Structure) (a : List ℕ) (s : ℕ) : Type 0 where
  pub is_state : s < m.states
  pub is_dead : ¬ (IsTrue (goes_on m a s))
  pub others_go_on : (t : ℕ) → t < s → IsTrue (goes_on m a t)
