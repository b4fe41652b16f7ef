-- The transitions of the edges up to some place that may be taken, one edge more at a time.
--
--   taken_of v es    == the transitions of those of the edges that may be taken
--   taken_more       == one that may be taken
--   passed_more      == one that may not
--   small_ends       == their ends are below 2^30
--   small_props      == the guard of an edge has few propositions
--   permuted_same    == a letter in another order is the same set
use Rattle.std.proofs.Common.{ℕ, ◌≡◌, ◌+◌, ◌<◌, ◌≤◌, ◌^◌, arith, true, false, List, [], ◌∷◌, ◌++◌, length, map, take, get_or, sym, subst, ap, ◌∙◌, append-nil}
use Rattle.std.specs.List.{filter}
use Rattle.std.specs.List.Sorted.{IsPermutation}
use Rattle.std.proofs.lemmas.Bool.{cond-true, cond-false}
use Rattle.std.proofs.lemmas.List.{map_push, map-append, take_more}
use Rattle.std.proofs.lemmas.List.Elements.{filter-append}
use Rattle.ml_lists.specs.Member.{IsMember}
use Rattle.ml_lists.proofs.Member.{All-member, member-All, place-member, member-map}
use Rattle.ml_lists.proofs.Permuted.{same_members}
use Rattle.ml_trace.specs.AutomatonNumbers.{HasSmallEnds}
use Rattle.ml_trace.specs.declared.letters.Transition.{Transition}
use Rattle.ml_hoa.specs.Automaton.{Guard, Const, Ap, Not, And, Or, Automaton, IsAutomaton, IsEdge, PropsBelow, most_props}
use Rattle.ml_hoa.specs.declared.buchi.BuchiEdge.{BuchiEdge}
use Rattle.ml_hoa.specs.private.Views.{guard_of, edge_of, edges_of}
use Rattle.ml_buchi.specs.Valuations.{SameLetter, holds, letter_of, may_take, transition_of}
use Rattle.ml_buchi.proofs.EdgesTaken.{letter_stays}

-- ---- edges

-- the transitions of those of the edges that may be taken
abbrev pub taken_of : ℕ → List BuchiEdge → List Transition
taken_of v es = map transition_of (filter (may_take v) (edges_of es))

module _ (v : ℕ) (es : List BuchiEdge) (i : ℕ) (e : BuchiEdge) (low : i < length es) (is : e ≡ get_or es i e) where
  with_next : taken_of v (take (i + 1) es)
      ≡ taken_of v (take i es) ++ map transition_of (filter (may_take v) (edge_of e ∷ []))
  with_next =
      ap (taken_of v) (take_more es i e low ∙ ap (λ x. take i es ++ x ∷ []) (sym is))
      ∙ ap (λ xs. map transition_of (filter (may_take v) xs)) (map_push edge_of (take i es) e)
      ∙ ap (map transition_of) (filter-append (may_take v) (edges_of (take i es)) (edge_of e ∷ []))
      ∙ map-append transition_of (filter (may_take v) (edges_of (take i es))) (filter (may_take v) (edge_of e ∷ []))

  pub taken_more : holds v (guard_of e.guard) ≡ true
      → taken_of v (take (i + 1) es) ≡ taken_of v (take i es) ++ transition_of (edge_of e) ∷ []
  taken_more yes_taken =
      with_next ∙ ap (λ xs. taken_of v (take i es) ++ map transition_of xs)
      (cond-true (holds v (guard_of e.guard)) (edge_of e ∷ []) [] yes_taken)

  pub passed_more : holds v (guard_of e.guard) ≡ false → taken_of v (take (i + 1) es) ≡ taken_of v (take i es)
  passed_more passed =
      with_next ∙ ap (λ xs. taken_of v (take i es) ++ map transition_of xs)
      (cond-false (holds v (guard_of e.guard)) (edge_of e ∷ []) [] passed)
      ∙ append-nil (taken_of v (take i es))

-- ---- limits

props_grow : (k m : ℕ) (g : Guard) → k ≤ m → PropsBelow k g → PropsBelow m g
props_grow k m (Const b) le below = below
props_grow k m (Ap n) le below = omega (arith, below)
props_grow k m (Not g) le below = props_grow k m g le below
props_grow k m (And g h) le below = (props_grow k m g le below.0, props_grow k m h le below.1)
props_grow k m (Or g h) le below = (props_grow k m g le below.0, props_grow k m h le below.1)

module _ (a : Automaton) (automaton : IsAutomaton a) where
  pub small_props : (es : List BuchiEdge) (i : ℕ) (e : BuchiEdge)
      → edges_of es ≡ a.edges
      → i < length es
      → e ≡ get_or es i e
      → PropsBelow most_props (guard_of e.guard)
  small_props es i e same low is =
      let member : IsMember (edge_of e) a.edges =
      subst (IsMember (edge_of e)) same
      (member-map edge_of e es (subst (λ x. IsMember x es) (sym is) (place-member es i e low))) in
      let fits = All-member (IsEdge a.states (length a.props)) a.edges automaton.edges_fit (edge_of e) member in
      props_grow (length a.props) most_props (guard_of e.guard) automaton.few_props fits.props_below

  pub small_ends : (v : ℕ) → HasSmallEnds (letter_of a v)
  small_ends v = member-All (λ (m : Transition). (m.from < 2 ^ 30) × (m.to < 2 ^ 30)) (letter_of a v) each
    where
      each : (m : Transition) → IsMember m (letter_of a v) → (m.from < 2 ^ 30) × (m.to < 2 ^ 30)
      each m i =
          let below = letter_stays a automaton v m i in
          let few = automaton.few_states in
          (omega (arith, below.from_low), omega (arith, below.to_low))

-- ---- letters

pub permuted_same : (l m : List Transition) → IsPermutation l m → SameLetter l m
permuted_same l m p = record {
  to = λ x i. (same_members x l m p).1 i;
  back = λ x i. (same_members x l m p).0 i;
}
