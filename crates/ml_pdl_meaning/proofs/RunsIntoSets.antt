-- The sets of states from which runs lead into a set, for each way to make a program.
--
--   before m r set     == the states from which some run of r leads into the set
--   union m a b        == the states in one of two sets
--   grown m r set      == one step of a star: the set, or what leads into what we have
--   same_states        == tests that agree at the states make the same set
--   own_states         == a set is that of its members
--   before_either, before_followed, before_identity, before_test
--                      == runs of one of two, of the one and then the other, of none, of a test
--   before_union       == what leads into one of two sets
--   before_rounds      == the rounds of a star, from the last one back
--   all_before         == all runs lead into a set where none leads out of it
use Rattle.std.proofs.Common.{◌≡◌, ℕ, zero, suc, ◌<◌, ◌==◌, Bool, true, false, ◌&&◌, ◌||◌, not, List, [], ◌∷◌, length, map, refl, sym, ap, subst, ◌∙◌, ⊎_elim, arith}
use Rattle.std.specs.List.{list_any, list_all, range_with_len}
use Rattle.std.proofs.lemmas.Bool.{and_parts, and_from, or_cases, or_left, or_right, eq-eqb, eqb-true}
use Rattle.std.proofs.lemmas.List.{same_lists, get_or_default, get_or-map}
use Rattle.std.proofs.lemmas.List.FromFn.{length-map-range_with_len, get_or-map-range_with_len}
use Rattle.std.proofs.lemmas.Simd.{map-map}
use Rattle.ml_lists.specs.Iterate.{iterate}
use Rattle.ml_base.specs.Structure.{Structure, StateSet, is_member, states_where}
use Rattle.ml_pdl.specs.declared.term.Modality.TheVariants.{Diamond, Square}
use Rattle.ml_pdl.specs.Meaning.{Relation, identity, either, followed_by, some_run, every_run, modal}
use Rattle.ml_pdl.proofs.RunsInto.{into, run_of, of_run}
use Rattle.ml_base.proofs.StateSets.{member_where}
use Rattle.ml_pdl.proofs.StarRelations.{rounds}
use Rattle.ml_lists.proofs.Says.{same_truth}

abbrev pub before : Structure → Relation → StateSet → StateSet
before m r set = modal m Diamond r set

abbrev pub union : Structure → StateSet → StateSet → StateSet
union m a b = states_where m (λ s. is_member a s || is_member b s)

abbrev pub grown : Structure → Relation → StateSet → StateSet → StateSet
grown m r set so_far = union m set (before m r so_far)

pub same_states : (m : Structure) (f g : ℕ → Bool) → ((s : ℕ) → s < m.states → f s ≡ g s)
    → states_where m f ≡ states_where m g
same_states m f g same =
    let long = length-map-range_with_len f 0 m.states in
    same_lists (states_where m f) (states_where m g) (long ∙ sym (length-map-range_with_len g 0 m.states))
    (λ s d within.
    let low : s < m.states = omega (arith, within, long) in
    get_or-map-range_with_len f 0 m.states s s d low (omega arith)
    ∙ same s low
    ∙ sym (get_or-map-range_with_len g 0 m.states s s d low (omega arith)))

pub own_states : (m : Structure) (set : StateSet) → length set ≡ m.states → states_where m (is_member set) ≡ set
own_states m set flags =
    let long = length-map-range_with_len (is_member set) 0 m.states in
    same_lists (states_where m (is_member set)) set (long ∙ sym flags)
    (λ s d within.
    let low : s < m.states = omega (arith, within, long) in
    get_or-map-range_with_len (is_member set) 0 m.states s s d low (omega arith)
    ∙ get_or_default set s false d (omega (arith, low, flags)))

module _ (m : Structure) where
  pub before_either : (r q : Relation) (set : StateSet)
      → before m (either r q) set ≡ union m (before m r set) (before m q set)
  before_either r q set =
      same_states m (some_run m (either r q) set) (λ s. is_member (before m r set) s || is_member (before m q set) s)
      (λ s low.
      same_truth (some_run m (either r q) set s) (some_run m r set s || some_run m q set s) (to s) (from s)
      ∙ ap (λ b. b || some_run m q set s) (sym (member_where m (some_run m r set) s low))
      ∙ ap (λ b. is_member (before m r set) s || b) (sym (member_where m (some_run m q set) s low)))
    where
      to : (s : ℕ) → some_run m (either r q) set s ≡ true → (some_run m r set s || some_run m q set s) ≡ true
      to s is =
          let run = run_of m (either r q) (is_member set) s is in
          ⊎_elim
          (λ (left : r s run.state ≡ true). or_left (some_run m r set s) (some_run m q set s)
          (of_run m r (is_member set) s run.state run.low left run.inside))
          (λ (right : q s run.state ≡ true). or_right (some_run m r set s) (some_run m q set s)
          (of_run m q (is_member set) s run.state run.low right run.inside))
          (or_cases (r s run.state) (q s run.state) run.run)

      from : (s : ℕ) → (some_run m r set s || some_run m q set s) ≡ true → some_run m (either r q) set s ≡ true
      from s is =
          ⊎_elim
          (λ (left : some_run m r set s ≡ true).
          let run = run_of m r (is_member set) s left in
          of_run m (either r q) (is_member set) s run.state run.low
          (or_left (r s run.state) (q s run.state) run.run) run.inside)
          (λ (right : some_run m q set s ≡ true).
          let run = run_of m q (is_member set) s right in
          of_run m (either r q) (is_member set) s run.state run.low
          (or_right (r s run.state) (q s run.state) run.run) run.inside)
          (or_cases (some_run m r set s) (some_run m q set s) is)

  pub before_followed : (r q : Relation) (set : StateSet)
      → before m (followed_by m r q) set ≡ before m r (before m q set)
  before_followed r q set =
      same_states m (some_run m (followed_by m r q) set) (some_run m r (before m q set))
      (λ s low. same_truth (some_run m (followed_by m r q) set s) (some_run m r (before m q set) s) (to s) (from s))
    where
      to : (s : ℕ) → some_run m (followed_by m r q) set s ≡ true → some_run m r (before m q set) s ≡ true
      to s is =
          let run = run_of m (followed_by m r q) (is_member set) s is in
          let first = run_of m r (λ u. q u run.state) s run.run in
          of_run m r (is_member (before m q set)) s first.state first.low first.run
          (member_where m (some_run m q set) first.state first.low
          ∙ of_run m q (is_member set) first.state run.state run.low first.inside run.inside)

      from : (s : ℕ) → some_run m r (before m q set) s ≡ true → some_run m (followed_by m r q) set s ≡ true
      from s is =
          let first = run_of m r (is_member (before m q set)) s is in
          let second = run_of m q (is_member set) first.state
          (sym (member_where m (some_run m q set) first.state first.low) ∙ first.inside) in
          of_run m (followed_by m r q) (is_member set) s second.state second.low
          (of_run m r (λ u. q u second.state) s first.state first.low first.run second.run) second.inside

  pub before_union : (r : Relation) (a b : StateSet)
      → before m r (union m a b) ≡ union m (before m r a) (before m r b)
  before_union r a b =
      same_states m (some_run m r (union m a b)) (λ s. is_member (before m r a) s || is_member (before m r b) s)
      (λ s low.
      same_truth (some_run m r (union m a b) s) (some_run m r a s || some_run m r b s) (to s) (from s)
      ∙ ap (λ x. x || some_run m r b s) (sym (member_where m (some_run m r a) s low))
      ∙ ap (λ x. is_member (before m r a) s || x) (sym (member_where m (some_run m r b) s low)))
    where
      one : ℕ → Bool
      one t = is_member a t || is_member b t

      to : (s : ℕ) → some_run m r (union m a b) s ≡ true → (some_run m r a s || some_run m r b s) ≡ true
      to s is =
          let run = run_of m r (is_member (union m a b)) s is in
          ⊎_elim
          (λ (left : is_member a run.state ≡ true). or_left (some_run m r a s) (some_run m r b s)
          (of_run m r (is_member a) s run.state run.low run.run left))
          (λ (right : is_member b run.state ≡ true). or_right (some_run m r a s) (some_run m r b s)
          (of_run m r (is_member b) s run.state run.low run.run right))
          (or_cases (is_member a run.state) (is_member b run.state)
          (sym (member_where m one run.state run.low) ∙ run.inside))

      from : (s : ℕ) → (some_run m r a s || some_run m r b s) ≡ true → some_run m r (union m a b) s ≡ true
      from s is =
          ⊎_elim
          (λ (left : some_run m r a s ≡ true).
          let run = run_of m r (is_member a) s left in
          of_run m r (is_member (union m a b)) s run.state run.low run.run
          (member_where m one run.state run.low
          ∙ or_left (is_member a run.state) (is_member b run.state) run.inside))
          (λ (right : some_run m r b s ≡ true).
          let run = run_of m r (is_member b) s right in
          of_run m r (is_member (union m a b)) s run.state run.low run.run
          (member_where m one run.state run.low
          ∙ or_right (is_member a run.state) (is_member b run.state) run.inside))
          (or_cases (some_run m r a s) (some_run m r b s) is)

  -- a run of a test stays
  pub before_test : (holding set : StateSet)
      → before m (λ s t. (s == t) && is_member holding s) set
      ≡ states_where m (λ s. is_member holding s && is_member set s)
  before_test holding set =
      same_states m (some_run m tested set) (λ s. is_member holding s && is_member set s)
      (λ s low. same_truth (some_run m tested set s) (is_member holding s && is_member set s) (to s) (from s low))
    where
      tested : Relation
      tested s t = (s == t) && is_member holding s

      to : (s : ℕ) → some_run m tested set s ≡ true → (is_member holding s && is_member set s) ≡ true
      to s is =
          let run = run_of m tested (is_member set) s is in
          let parts = and_parts (s == run.state) (is_member holding s) run.run in
          and_from (is_member holding s) (is_member set s) parts.1
          (subst (λ t. is_member set t ≡ true) (sym (eqb-true s run.state parts.0)) run.inside)

      from : (s : ℕ) → s < m.states → (is_member holding s && is_member set s) ≡ true
          → some_run m tested set s ≡ true
      from s low is =
          let parts = and_parts (is_member holding s) (is_member set s) is in
          of_run m tested (is_member set) s s low (and_from (s == s) (is_member holding s) (eq-eqb s s refl) parts.0)
          parts.1

  pub before_identity : (set : StateSet) → length set ≡ m.states → before m identity set ≡ set
  before_identity set flags =
      same_states m (some_run m identity set) (is_member set)
      (λ s low. same_truth (some_run m identity set s) (is_member set s) (to s)
      (λ is. of_run m identity (is_member set) s s low (eq-eqb s s refl) is))
      ∙ own_states m set flags
    where
      to : (s : ℕ) → some_run m identity set s ≡ true → is_member set s ≡ true
      to s is =
          let run = run_of m identity (is_member set) s is in
          subst (λ t. is_member set t ≡ true) (sym (eqb-true s run.state run.run)) run.inside

  -- ---- rounds

  -- a run in front of all rounds is one behind each
  before_grown : (r : Relation) (k : ℕ) (set : StateSet)
      → iterate k (grown m r (before m r set)) (before m r set) ≡ before m r (iterate k (grown m r set) set)
  before_grown r zero set = refl
  before_grown r (suc k) set =
      ap (λ x. union m (before m r set) (before m r x)) (before_grown r k set)
      ∙ sym (before_union r set (before m r (iterate k (grown m r set) set)))

  pub before_rounds : (r : Relation) (k : ℕ) (set : StateSet) → length set ≡ m.states
      → before m (rounds m r k) set ≡ iterate k (grown m r set) set
  before_rounds r zero set flags = before_identity set flags
  before_rounds r (suc k) set flags =
      before_either identity (followed_by m (rounds m r k) r) set
      ∙ ap (λ x. union m x (before m (followed_by m (rounds m r k) r) set)) (before_identity set flags)
      ∙ ap (union m set)
      (before_followed (rounds m r k) r set
      ∙ before_rounds r k (before m r set) (length-map-range_with_len (some_run m r set) 0 m.states)
      ∙ before_grown r k set)

  -- ---- all runs

  one_out : (x y a b : Bool) → a ≡ not b → ((not x || y) && a) ≡ not ((x && not y) || b)
  one_out true true a b is = is
  one_out true false a b is = refl
  one_out false y a b is = is

  none_out : (r k : ℕ → Bool) (ts : List ℕ)
      → list_all (λ t. not (r t) || k t) ts ≡ not (list_any (λ t. r t && not (k t)) ts)
  none_out r k [] = refl
  none_out r k (t ∷ ts) =
      one_out (r t) (k t) (list_all (λ t. not (r t) || k t) ts) (list_any (λ t. r t && not (k t)) ts) (none_out r k ts)

  pub all_before : (r : Relation) (set : StateSet) → length set ≡ m.states
      → modal m Square r set ≡ map not (before m r (map not set))
  all_before r set flags =
      same_states m (every_run m r set) (λ s. not (some_run m r (map not set) s))
      (λ s low. none_out (r s) (is_member set) (range_with_len 0 m.states)
      ∙ ap not (same_truth (into m r (λ t. not (is_member set t)) s) (some_run m r (map not set) s) (to s) (from s)))
      ∙ sym (map-map not (some_run m r (map not set)) (range_with_len 0 m.states))
    where
      outside : (t : ℕ) → t < m.states → is_member (map not set) t ≡ not (is_member set t)
      outside t low = get_or-map not set t false false (omega (arith, low, flags))

      to : (s : ℕ) → into m r (λ t. not (is_member set t)) s ≡ true → some_run m r (map not set) s ≡ true
      to s is =
          let run = run_of m r (λ t. not (is_member set t)) s is in
          of_run m r (is_member (map not set)) s run.state run.low run.run (outside run.state run.low ∙ run.inside)

      from : (s : ℕ) → some_run m r (map not set) s ≡ true → into m r (λ t. not (is_member set t)) s ≡ true
      from s is =
          let run = run_of m r (is_member (map not set)) s is in
          of_run m r (λ t. not (is_member set t)) s run.state run.low run.run
          (sym (outside run.state run.low) ∙ run.inside)
