-- How many positions the games of the families have.
--
--   turn_at        == something is done at each position that is reached, since an arena has its turn
--   listed_count   == where the positions of a game are listed, each arena of it has so many
--   and_counted, or_counted, step_counted, loop_counted == the laws
--   loops_satisfiable == on a structure with one state, from which the action leads back to it
use Rattle.std.proofs.Common.{◌≡◌, ℕ, zero, suc, ◌+◌, ◌-◌, ◌*◌, ◌^◌, ◌<◌, ◌&&◌, ◌||◌, true, false, codes, List, [], ◌∷◌, length, inl, inr, refl, ap, subst, ◌∙◌, arith, length-append}
use Rattle.ml_base.specs.Structure.{Structure, IsStructure, is_member}
use Rattle.ml_base.specs.declared.structure.Edge.{Edge}
use Rattle.ml_lists.specs.Member.{IsMember}
use Rattle.ml_lists.proofs.Member.{member-All}
use Rattle.ml_graph.specs.Graph.{Graph}
use Rattle.ml_gen.specs.Formulas.{act, acts, and_formula, and_part, loop_formula, or_formula, or_part, step_formula}
use Rattle.ml_mu.specs.Formula as mu
use Rattle.ml_mu_graph.specs.MuGraph as mu_graphs
use Rattle.ml_nodes.specs.Nodes.{positive}
use Rattle.ml_pdl.specs.Laws.{GoesOn}
use Rattle.ml_pdl.specs.Meaning.{meaning, relation}
use Rattle.ml_pdl.proofs.StarRelations.{repetitions_are_greatest}
use Rattle.ml_product.specs.Arena.{Arena, IsArenaOf}
use Rattle.ml_product.specs.DecisionGame.{IsReached, Turn}
use Rattle.ml_product.specs.Position.{Position}
use Rattle.ml_product.proofs.OnePlace.{place_of}
use Rattle.ml_product.proofs.Explored.{few_reached}
use Rattle.ml_families.specs.Sizes.{LoopsAreSatisfiable, MuGames, PdlGames}
use Rattle.ml_families.proofs.Conjunctions.{flat_listed}
use Rattle.ml_families.proofs.Flat.{IsFlat, a_prop, both, either, ors, right_of}
use Rattle.ml_families.proofs.Listed.{IsListed, all_listed, line_listed}
use Rattle.ml_families.proofs.Loops.{IsRound, loop_kinds, loop_nodes}
use Rattle.ml_families.proofs.Steps.{IsBehind, box_place, step_kinds, step_nodes}
use Rattle.ml_families.proofs.Trees.{trees, trees_count}

turn_at : (g : Graph) (a : Arena) → IsArenaOf g a → (p : Position) → IsReached g p → Turn g p
turn_at g a arena p reached =
    let at = place_of p a.positions ((arena.are_reached p).1 reached) in (arena.played at.place p at.stands).turn

listed_count : (g : Graph) (a : Arena) (ps : List Position) → IsArenaOf g a → IsListed g ps
    → length a.positions ≡ length ps
listed_count g a ps arena listed =
    let few = few_reached a.positions ps arena.are_different
    (λ p m. all_listed g ps listed p ((arena.are_reached p).0 m)) in
    let many = few_reached ps a.positions listed.are_different
    (λ p m. (arena.are_reached p).1 (listed.are_reached p m)) in
    omega (arith, few, many)

-- ---- conjunctions

abbrev and_flat : (k : ℕ) → IsFlat (and_formula (suc k))
and_flat zero = a_prop _
and_flat (suc k) = both (and_formula (suc k)) (and_part (suc (suc k))) (and_flat k) (a_prop _)

abbrev or_flat : (k : ℕ) → IsFlat (or_formula (suc k))
or_flat zero = either _ _
or_flat (suc k) = both (or_formula (suc k)) (or_part (suc (suc k))) (or_flat k) (either _ _)

and_ors : (k i : ℕ) → length (ors (and_formula (suc k)) (and_flat k) i) ≡ 0
and_ors zero i = refl
and_ors (suc k) i =
    let front = ors (and_formula (suc k)) (and_flat k) (i + 1) in
    length-append front [] ∙ (let before = and_ors k (i + 1) in omega arith)

or_ors : (k i : ℕ) → length (ors (or_formula (suc k)) (or_flat k) i) ≡ k + 1
or_ors zero i = refl
or_ors (suc k) i =
    let front = ors (or_formula (suc k)) (or_flat k) (i + 1) in
    length-append front (positive (right_of (or_formula (suc k)) i) ∷ [])
    ∙ (let before = or_ors k (i + 1) in omega arith)

flat_counted : (g : Graph) (a : Arena) (f : mu.Formula) (x : IsFlat f) (n : ℕ)
    → IsArenaOf g a
    → mu_graphs.IsGraphOf g f false
    → length (ors f x 0) ≡ n
    → length a.positions ≡ 2 ^ (n + 1) - 1
flat_counted g a f x n arena is long =
    let listed = flat_listed g (2 * mu_graphs.binders f) f x is.root_is is.stands (omega arith) (turn_at g a arena) in
    let whole = listed_count g a (trees g (ors f x 0) []) arena listed in
    let count = trees_count g (ors f x 0) [] in
    let same = ap (λ m. 2 ^ (m + 1)) long in
    omega (arith, whole, count, same)

pub and_counted : MuGames and_formula (λ n. 1)
and_counted zero low g is a arena = absurd (omega arith)
and_counted (suc k) low g is a arena = flat_counted g a (and_formula (suc k)) (and_flat k) 0 arena is (and_ors k 0)

pub or_counted : MuGames or_formula (λ n. 2 ^ (n + 1) - 1)
or_counted zero low g is a arena = absurd (omega arith)
or_counted (suc k) low g is a arena =
    let more : k + 1 ≡ suc k = omega arith in
    flat_counted g a (or_formula (suc k)) (or_flat k) (suc k) arena is (or_ors k 0 ∙ more)

-- ---- programs

pub step_counted : PdlGames step_formula (λ n. n + 1)
step_counted zero low g is a arena = absurd (omega arith)
step_counted (suc k) low g is a arena =
    let nodes = step_nodes g k is in
    let kinds = step_kinds g k (box_place k) nodes is.root_is in
    let line = line_listed g (IsBehind g k (box_place k) nodes) (suc k) kinds (turn_at g a arena) in
    listed_count g a line.0 arena line.1 ∙ line.2

pub loop_counted : PdlGames loop_formula (λ n. n + 1)
loop_counted zero low g is a arena = absurd (omega arith)
loop_counted (suc k) low g is a arena =
    let nodes = loop_nodes g k is in
    let line = line_listed g (IsRound g k nodes) (suc k) (loop_kinds g k nodes) (turn_at g a arena) in
    listed_count g a line.0 arena line.1 ∙ line.2

-- ---- a structure with one state, from which the action leads back to it

abbrev one_state : Structure
one_state = record {
  states = 1;
  labels = [] ∷ [];
  edges = record { source = 0; action = codes "a"; target = 0 } ∷ [];
}

is_structure : IsStructure one_state
is_structure = record {
  has_state = omega arith;
  labels_states = refl;
  joins_states = member-All (λ (e : Edge). (e.source < 1) × (e.target < 1)) one_state.edges joins;
}
  where
    joins : (e : Edge) → IsMember e one_state.edges → (e.source < 1) × (e.target < 1)
    joins e (inl same) =
        let from = ap (λ (x : Edge). x.source) same in
        let to = ap (λ (x : Edge). x.target) same in
        (omega (arith, from), omega (arith, to))
    joins e (inr none) = absurd none

acts_return : (k : ℕ) → relation one_state (acts (suc k)) 0 0 ≡ true
acts_return zero = refl
acts_return (suc k) = ap (λ b. (b && relation one_state act 0 0) || false) (acts_return k)

pub loops_satisfiable : LoopsAreSatisfiable
loops_satisfiable zero low = absurd (omega arith)
loops_satisfiable (suc k) low = (one_state, is_structure, 0, omega arith, holds)
  where
    again : GoesOn one_state (acts (suc k)) (λ s. true)
    again s in_range in_set =
        let first : 0 ≡ s = omega arith in
        (0, omega arith, subst (λ x. relation one_state (acts (suc k)) x 0 ≡ true) first (acts_return k), refl)

    holds : is_member (meaning one_state (loop_formula (suc k))) 0 ≡ true
    holds = (repetitions_are_greatest one_state (acts (suc k))).1 (λ s. true) again 0 (omega arith) refl
