-- What formulas and programs mean: the set of the states of a structure at which a formula holds, and the relation
-- between states that a program is.
--
-- Sets of states are lists with one flag per state, and a relation is a test on pairs of states, so both are computed.
-- (Of numbers that are no states nothing is asked.) A program relates a state to those in which a run of it from there
-- may end. On n states the star is the n-th iterate of "the identity, or what we have followed by the program", from
-- the identity: what some number of rounds relates, fewer than n rounds relate. Infinite repetition is the n-th iterate
-- of "a run leads into what we have", from the set of all states.
--
--   Relation              == a relation between states
--   has_edge m a          == an edge by the action a leads from the one state to the other
--   identity              == the relation of each state to itself
--   either r q            == one of two relations
--   followed_by m r q     == the one relation and then the other
--   some_run m r set s    == is s related by r to some state of the set?
--   every_run m r set s   == are all states to which s is related by r in the set?
--   modal m d r set       == the states at which the one or the other is so
--   meaning m f           == the set of the states of m at which f holds
--   relation m p          == the relation that p is
use Rattle.std.specs.Prelude.{ℕ, ◌==◌, Bool, ◌&&◌, ◌||◌, not, List, map}
use Rattle.std.specs.List.{list_any, list_all, range_with_len}
use Rattle.std.specs.Str.{bytes_eq}
use Rattle.ml_lists.specs.Iterate.{iterate}
use Rattle.ml_text.specs.Operators.{truth_of}
use Rattle.ml_base.specs.Structure.{Structure, StateSet, lists, is_member, states_where, everywhere}
use Rattle.ml_pdl.specs.Formula.{Formula, Const, Prop, Not, Binary, Modal, Repeat, Program, Act, Seq, Alt, Star, Test}
use Rattle.ml_pdl.specs.declared.term.Modality.{Modality}
use Rattle.ml_pdl.specs.declared.term.Modality.TheVariants.{Diamond, Square}

abbrev pub Relation : Type 0
Relation = ℕ → ℕ → Bool

abbrev pub has_edge : Structure → List ℕ → Relation
has_edge m a s t = list_any (λ e. (e.source == s) && bytes_eq e.action a && (e.target == t)) m.edges

abbrev pub identity : Relation
identity s t = s == t

abbrev pub either : Relation → Relation → Relation
either r q s t = r s t || q s t

abbrev pub followed_by : Structure → Relation → Relation → Relation
followed_by m r q s t = list_any (λ u. r s u && q u t) (range_with_len 0 m.states)

abbrev pub some_run : Structure → Relation → StateSet → ℕ → Bool
some_run m r set s = list_any (λ t. r s t && is_member set t) (range_with_len 0 m.states)

abbrev pub every_run : Structure → Relation → StateSet → ℕ → Bool
every_run m r set s = list_all (λ t. not (r s t) || is_member set t) (range_with_len 0 m.states)

-- the states whose runs lead into the set, some of them or all
abbrev pub modal : Structure → Modality → Relation → StateSet → StateSet
modal m Diamond r set = states_where m (some_run m r set)
modal m Square r set = states_where m (every_run m r set)

abbrev mutual
  pub meaning : Structure → Formula → StateSet
  meaning m (Const b) = states_where m (λ s. b)
  meaning m (Prop p) = states_where m (λ s. lists m s p)
  meaning m (Not f) = map not (meaning m f)
  meaning m (Binary op f h) =
      states_where m (λ s. truth_of op (is_member (meaning m f) s) (is_member (meaning m h) s))
  meaning m (Modal d p f) = modal m d (relation m p) (meaning m f)
  meaning m (Repeat p) = iterate m.states (modal m Diamond (relation m p)) (everywhere m)

  pub relation : Structure → Program → Relation
  relation m (Act a) = has_edge m a
  relation m (Seq p q) = followed_by m (relation m p) (relation m q)
  relation m (Alt p q) = either (relation m p) (relation m q)
  relation m (Star p) = iterate m.states (λ r. either identity (followed_by m r (relation m p))) identity
  -- it stays at a state at which the formula holds
  relation m (Test f) = λ s t. (s == t) && is_member (meaning m f) s
