-- What the evaluator's parts compute, as meanings.
--
--   constant_value           == all flags one value: the meaning of a constant
--   binary_value             == two meanings joined flag by flag: the meaning of a connective
--   square_value             == what no run leads out of
--   followed_value, either_value, test_value, star_value == runs of programs into a set
--   related_value            == runs to one state
use Rattle.std.proofs.Common.{◌≡◌, ℕ, ◌<◌, ◌==◌, ◌&&◌, Bool, true, not, length, map, replicate, sym, ap, subst, ◌∙◌, refl}
use Rattle.std.proofs.lemmas.Bool.{eq-eqb, eqb-true}
use Rattle.ml_lists.specs.Iterate.{iterate}
use Rattle.ml_lists.proofs.Tables.{table_const}
use Rattle.ml_lists.proofs.Says.{same_truth}
use Rattle.ml_text.specs.declared.token.Operator.{Operator}
use Rattle.ml_base.specs.Structure.{Structure, StateSet, is_member, states_where}
use Rattle.ml_pdl.specs.Formula.{Formula, Const, Binary, Program, Seq, Alt, Star, Test}
use Rattle.ml_pdl.specs.declared.term.Modality.TheVariants.{Square}
use Rattle.ml_text.specs.Operators.{truth_of}
use Rattle.ml_pdl.specs.Meaning.{Relation, some_run, modal, meaning, relation}
use Rattle.ml_pdl.proofs.RunsInto.{run_of, of_run}
use Rattle.ml_base.proofs.StateSets.{member_where}
use Rattle.ml_pdl_meaning.proofs.RunsIntoSets.{before, union, grown, before_either, before_followed, before_test, before_rounds, all_before}

pub constant_value : (m : Structure) (b : Bool) (set : StateSet) → set ≡ replicate m.states b
    → set ≡ meaning m (Const b)
constant_value m b set is = is ∙ table_const b 0 m.states

pub binary_value : (m : Structure) (op : Operator) (f h : Formula) (left right set : StateSet)
    → left ≡ meaning m f
    → right ≡ meaning m h
    → set ≡ states_where m (λ s. truth_of op (is_member left s) (is_member right s))
    → set ≡ meaning m (Binary op f h)
binary_value m op f h left right set left_is right_is is =
    is
    ∙ ap (λ a. states_where m (λ s. truth_of op (is_member a s) (is_member right s))) left_is
    ∙ ap (λ b. states_where m (λ s. truth_of op (is_member (meaning m f) s) (is_member b s))) right_is

pub square_value : (m : Structure) (r : Relation) (set outside leaving all : StateSet) → length set ≡ m.states
    → outside ≡ map not set
    → leaving ≡ before m r outside
    → all ≡ map not leaving
    → all ≡ modal m Square r set
square_value m r set outside leaving all flags outside_is leaving_is is =
    is ∙ ap (map not) (leaving_is ∙ ap (before m r) outside_is) ∙ sym (all_before m r set flags)

pub followed_value : (m : Structure) (p q : Program) (set between states : StateSet)
    → between ≡ before m (relation m q) set
    → states ≡ before m (relation m p) between
    → states ≡ before m (relation m (Seq p q)) set
followed_value m p q set between states between_is is =
    is ∙ ap (before m (relation m p)) between_is ∙ sym (before_followed m (relation m p) (relation m q) set)

pub either_value : (m : Structure) (p q : Program) (set left right states : StateSet)
    → left ≡ before m (relation m p) set
    → right ≡ before m (relation m q) set
    → states ≡ union m left right
    → states ≡ before m (relation m (Alt p q)) set
either_value m p q set left right states left_is right_is is =
    is ∙ ap (λ a. union m a right) left_is ∙ ap (union m (before m (relation m p) set)) right_is
    ∙ sym (before_either m (relation m p) (relation m q) set)

pub test_value : (m : Structure) (f : Formula) (set holding states : StateSet)
    → holding ≡ meaning m f
    → states ≡ states_where m (λ s. is_member holding s && is_member set s)
    → states ≡ before m (relation m (Test f)) set
test_value m f set holding states holding_is is =
    is ∙ sym (before_test m holding set) ∙ ap (λ h. before m (λ s t. (s == t) && is_member h s) set) holding_is

-- one step of a star
pub grown_value : (m : Structure) (r : Relation) (set so_far leading next : StateSet)
    → leading ≡ before m r so_far
    → next ≡ union m set leading
    → next ≡ grown m r set so_far
grown_value m r set so_far leading next leading_is is = is ∙ ap (union m set) leading_is

pub star_value : (m : Structure) (p : Program) (set states : StateSet) → length set ≡ m.states
    → states ≡ iterate m.states (grown m (relation m p) set) set
    → states ≡ before m (relation m (Star p)) set
star_value m p set states flags is = is ∙ sym (before_rounds m (relation m p) m.states set flags)

pub related_value : (m : Structure) (r : Relation) (from to : ℕ) (end states : StateSet) (related : Bool)
    → from < m.states
    → to < m.states
    → end ≡ states_where m (λ s. s == to)
    → states ≡ before m r end
    → related ≡ is_member states from
    → related ≡ r from to
related_value m r from to end states related from_low to_low end_is states_is is =
    is ∙ ap (λ a. is_member a from) (states_is ∙ ap (before m r) end_is)
    ∙ member_where m (some_run m r there) from from_low
    ∙ same_truth (some_run m r there from) (r from to) arrives
    (λ runs. of_run m r (is_member there) from to to_low runs
    (member_where m (λ s. s == to) to to_low ∙ eq-eqb to to refl))
  where
    there : StateSet
    there = states_where m (λ s. s == to)

    arrives : some_run m r there from ≡ true → r from to ≡ true
    arrives runs =
        let run = run_of m r (is_member there) from runs in
        subst (λ t. r from t ≡ true)
        (eqb-true run.state to (sym (member_where m (λ s. s == to) run.state run.low) ∙ run.inside)) run.run
