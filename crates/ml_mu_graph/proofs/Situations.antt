-- A formula in a graph: what the induction on formulas knows, and what it claims.
--
--   PropsAgree m0 m f  == the propositions of f are true at the same states of both structures
--   Situation m0 gs f g m k bs i == f stands at the occurrence i of the graph g, whose binders around are cut open and told
--                         the sets gs in the structure m; m has the states and edges of m0, and its propositions of f
--   Agree m0 gs f g m i == at each state, the two nodes of the occurrence hold as the meaning of f says
--   told_of            == a bound variable is told its given set
--   member_not == members of the complement of a set
use Rattle.std.proofs.Common.{◌≡◌, ℕ, ◌+◌, ◌*◌, ◌<◌, ◌≤◌, Bool, true, false, ◌||◌, not, List, [], ◌∷◌, length, map, if◌then◌else◌, refl, sym, ap, subst, ◌∙◌, arith}
use Rattle.std.specs.List.{list_any}
use Rattle.std.specs.Str.{bytes_eq}
use Rattle.std.proofs.lemmas.Bool.{false≢true}
use Rattle.std.proofs.lemmas.List.{get_or-map}
use Rattle.ml_base.specs.Structure.{Structure, IsStructure, StateSet, lists, is_member}
use Rattle.ml_graph.specs.Graph.{Graph, IsGraph, size}
use Rattle.ml_graph.specs.CheckingGame.{HoldsAt}
use Rattle.ml_mu.specs.Formula.{Formula, Const, Prop, Var, Not, Binary, Modal, Binder, occurrences}
use Rattle.ml_mu.specs.Meaning.{Given, HaveFlags, given_set, meaning}
use Rattle.ml_mu.specs.Variables.{is_bound, is_positive}
use Rattle.ml_nodes.specs.Nodes.{positive, negative}
use Rattle.ml_mu_graph.specs.MuGraph.{binders, Around, binder_of, StandsAt}
use Rattle.ml_mu_graph.proofs.Told.{names, IsTold, AreTold, AreOutside}
use Rattle.ml_lists.proofs.Says.{Says}

abbrev pub PropsAgree : Structure → Structure → Formula → Type 0
PropsAgree m0 m (Const b) = Unit {0}
PropsAgree m0 m (Prop p) = (s : ℕ) → s < m0.states → lists m s p ≡ lists m0 s p
PropsAgree m0 m (Var x) = Unit {0}
PropsAgree m0 m (Not f) = PropsAgree m0 m f
PropsAgree m0 m (Binary op f h) = PropsAgree m0 m f × PropsAgree m0 m h
PropsAgree m0 m (Modal d a f) = PropsAgree m0 m f
PropsAgree m0 m (Binder q x f) = PropsAgree m0 m f

pub record Situation (m0 : Structure) (gs : Given) (f : Formula) (g : Graph) (m : Structure) (k : ℕ) (bs : Around) (i : ℕ) : Type 0 where
  pub is_graph : IsGraph g
  pub is_structure : IsStructure m
  pub same_states : m.states ≡ m0.states
  pub same_edges : m.edges ≡ m0.edges
  pub props : PropsAgree m0 m f
  pub stands : StandsAt g k bs i f
  pub told : AreTold g m bs gs
  pub flags : HaveFlags m0.states gs
  pub bound : is_bound (names bs) f ≡ true
  pub positives : is_positive f ≡ true
  pub room : 2 * (i + occurrences f) ≤ size g
  pub high : 2 * (length bs + binders f) ≤ k
  pub outside : AreOutside i bs

pub record Agree (m0 : Structure) (gs : Given) (f : Formula) (g : Graph) (m : Structure) (i : ℕ) : Type 0 where
  pub holds : (s : ℕ) → s < m0.states → Says (HoldsAt g m s (positive i)) (is_member (meaning m0 gs f) s)
  pub fails : (s : ℕ) → s < m0.states → Says (HoldsAt g m s (negative i)) (not (is_member (meaning m0 gs f) s))

pub member_not : (set : StateSet) (n s : ℕ) → length set ≡ n → s < n → is_member (map not set) s ≡ not (is_member set s)
member_not set n s long low = get_or-map not set s false false (omega (arith, long, low))

-- a bound variable is told its given set
pub told_of : (g : Graph) (m m0 : Structure) (bs : Around) (gs : Given) (x : List ℕ) → AreTold g m bs gs
    → list_any (λ y. bytes_eq y x) (names bs) ≡ true → IsTold g m (binder_of bs x) (given_set m0 gs x)
told_of g m m0 [] [] x told here = absurd (false≢true here)
told_of g m m0 [] (s ∷ ss) x told here = absurd told
told_of g m m0 (b ∷ bs) [] x told here = absurd told
told_of g m m0 (b ∷ bs) (s ∷ ss) x told here = by_name (bytes_eq b.0 x) refl (λ h. told_of g m m0 bs ss x told.2 h)
  where
    same_test : bytes_eq s.0 x ≡ bytes_eq b.0 x
    same_test = ap (λ y. bytes_eq y x) (sym told.0)

    by_name : (c : Bool) → bytes_eq b.0 x ≡ c
        → (list_any (λ y. bytes_eq y x) (names bs) ≡ true → IsTold g m (binder_of bs x) (given_set m0 ss x))
        → IsTold g m (if bytes_eq b.0 x then b.1 else binder_of bs x) (if bytes_eq s.0 x then s.1 else given_set m0 ss x)
    by_name true e inner =
        let one : (if bytes_eq b.0 x then b.1 else binder_of bs x) ≡ b.1 = ap (λ c. if c then b.1 else binder_of bs x) e in
        let two : (if bytes_eq s.0 x then s.1 else given_set m0 ss x) ≡ s.1 = ap (λ c. if c then s.1 else given_set m0 ss x) (same_test ∙ e) in
        subst (λ n. IsTold g m n (if bytes_eq s.0 x then s.1 else given_set m0 ss x)) (sym one) (subst (IsTold g m b.1) (sym two) told.1)
    by_name false e inner =
        let one : (if bytes_eq b.0 x then b.1 else binder_of bs x) ≡ binder_of bs x = ap (λ c. if c then b.1 else binder_of bs x) e in
        let two : (if bytes_eq s.0 x then s.1 else given_set m0 ss x) ≡ given_set m0 ss x = ap (λ c. if c then s.1 else given_set m0 ss x) (same_test ∙ e) in
        let later = inner (sym (ap (λ c. c || list_any (λ y. bytes_eq y x) (names bs)) e) ∙ here) in
        subst (λ n. IsTold g m n (if bytes_eq s.0 x then s.1 else given_set m0 ss x)) (sym one) (subst (IsTold g m (binder_of bs x)) (sym two) later)

pub outside_more : (i j : ℕ) (bs : Around) → i ≤ j → AreOutside i bs → AreOutside j bs
outside_more i j [] more outside = tt
outside_more i j (b ∷ bs) more outside = (omega (arith, more, outside.0), outside_more i j bs more outside.1)

-- a part of a formula, in the same graph
pub part : (m0 : Structure) (gs : Given) (f : Formula) (g : Graph) (m : Structure) (k : ℕ) (bs : Around) (i : ℕ)
    → Situation m0 gs f g m k bs i → (h : Formula) (j : ℕ) → PropsAgree m0 m h → StandsAt g k bs j h
    → is_bound (names bs) h ≡ true → is_positive h ≡ true → 2 * (j + occurrences h) ≤ size g → binders h ≤ binders f → i ≤ j
    → Situation m0 gs h g m k bs j
part m0 gs f g m k bs i w h j props stands bound positives room fewer later = record {
  is_graph = w.is_graph;
  is_structure = w.is_structure;
  same_states = w.same_states;
  same_edges = w.same_edges;
  props = props;
  stands = stands;
  told = w.told;
  flags = w.flags;
  bound = bound;
  positives = positives;
  room = room;
  high = omega (arith, w.high, fewer);
  outside = outside_more i j bs later w.outside;
}
