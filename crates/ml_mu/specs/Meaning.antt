-- What a formula means: the set of the states of a structure at which it holds.
--
-- Sets of states are lists with one flag per state, so a meaning is computed, and whether a state belongs to it is
-- decided by a flag. A free variable means a given set; the innermost binder of a name comes first in the list of
-- given sets, so a name may be bound again. On n states the least fixpoint is the n-th iterate of the body from the
-- empty set, and the greatest the n-th iterate from the full set: since each further iterate of a positive body adds
-- states, or takes some away, until two are equal, the n-th is a fixpoint.
--
--   Given             == the sets that the free variables mean, innermost binder first
--   HaveFlags n g     == each given set has n flags
--   given_set m g x   == the set that the variable x means; a variable without a binder means the empty set
--   first_iterate m q == the set from which a fixpoint is approached: nowhere for the least, everywhere for the greatest
--   some_edge m a s   == has the state s an edge by the action a into the set?
--   every_edge m a s  == do all edges by the action a from s lead into the set?
--   meaning m g f     == the set of the states of m at which f holds
use Rattle.std.specs.Prelude.{ℕ, ◌==◌, ◌≡◌, Bool, ◌&&◌, ◌||◌, not, if◌then◌else◌, List, [], ◌∷◌, length, map}
use Rattle.std.specs.List.{list_any, list_all}
use Rattle.std.specs.Str.{bytes_eq}
use Rattle.ml_lists.specs.Iterate.{iterate}
use Rattle.ml_text.specs.Operators.{truth_of}
use Rattle.ml_base.specs.Structure.{Structure, StateSet, lists, is_member, states_where, everywhere, nowhere}
use Rattle.ml_mu.specs.Formula.{Formula, Const, Prop, Var, Not, Binary, Modal, Binder, Modality, Diamond, Square, Fixpoint, Least, Greatest}

abbrev pub Given : Type 0
Given = List (List ℕ × StateSet)

abbrev pub HaveFlags : ℕ → Given → Type 0
HaveFlags n [] = Unit {0}
HaveFlags n (g ∷ gs) = (length g.1 ≡ n) × HaveFlags n gs

abbrev pub given_set : Structure → Given → List ℕ → StateSet
given_set m [] x = nowhere m
given_set m (g ∷ gs) x = if bytes_eq g.0 x then g.1 else given_set m gs x

abbrev pub first_iterate : Structure → Fixpoint → StateSet
first_iterate m Least = nowhere m
first_iterate m Greatest = everywhere m

abbrev pub some_edge : Structure → List ℕ → StateSet → ℕ → Bool
some_edge m a set s = list_any (λ e. (e.source == s) && bytes_eq e.action a && is_member set e.target) m.edges

abbrev pub every_edge : Structure → List ℕ → StateSet → ℕ → Bool
every_edge m a set s = list_all (λ e. not ((e.source == s) && bytes_eq e.action a) || is_member set e.target) m.edges

-- the states whose edges by the action lead into the set, some of them or all
abbrev pub modal : Structure → Modality → List ℕ → StateSet → StateSet
modal m Diamond a set = states_where m (some_edge m a set)
modal m Square a set = states_where m (every_edge m a set)

abbrev pub meaning : Structure → Given → Formula → StateSet
meaning m g (Const b) = states_where m (λ s. b)
meaning m g (Prop p) = states_where m (λ s. lists m s p)
meaning m g (Var x) = given_set m g x
meaning m g (Not f) = map not (meaning m g f)
meaning m g (Binary op f h) =
    states_where m (λ s. truth_of op (is_member (meaning m g f) s) (is_member (meaning m g h) s))
meaning m g (Modal d a f) = modal m d a (meaning m g f)
meaning m g (Binder q x f) = iterate m.states (λ set. meaning m ((x, set) ∷ g) f) (first_iterate m q)
