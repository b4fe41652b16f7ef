-- States out of range, and lists whose states are all in range.
--
--   first_bad_parts   == the first state out of range is a label's, or else an edge's
--   labels_in_range   == where no state is out of range, the labels' are in range
--   edges_in_range    == where no state is out of range, both ends of each edge are in range
--   none_bad          == where the labels' states and the ends of edges are in range, none is out of it
use Rattle.std.proofs.Common.{◌≡◌, ℕ, ◌<◌, cond, nat_le, List, [], ◌∷◌, Option, Some, None, map, find, All, inl, inr, ⊎_elim, refl, sym, ◌∙◌, arith}
use Rattle.std.specs.List.{flat_map}
use Rattle.std.specs.Option.{option_or}
use Rattle.std.proofs.lemmas.List.Folds.{find-append}
use Rattle.std.proofs.lemmas.List.Elements.{All-nil, All-cons}
use Rattle.std.proofs.lemmas.Bool.{leb-false}
use Rattle.ml_base.specs.declared.structure.Edge.{Edge}
use Rattle.ml_kripke.specs.Built.{ends, first_bad_state, named_states}
use Rattle.ml_lists.specs.Member.{IsMember}
use Rattle.ml_lists.proofs.Entries.{cond-none, find-none}
use Rattle.ml_lists.proofs.Member.{Image, InList, member-append, member-flat_map_from, member-map_from}

pub first_bad_parts : (states : ℕ) (labels : List (ℕ × List ℕ)) (edges : List Edge)
    → first_bad_state states labels edges
    ≡ option_or (find (nat_le states) (map (λ label. label.0) labels)) (find (nat_le states) (flat_map ends edges))
first_bad_parts states labels edges = find-append (nat_le states) (map (λ label. label.0) labels) (flat_map ends edges)

none_left : {T : Type 0} (o p : Option T) → option_or o p ≡ None → (o ≡ None) × (p ≡ None)
none_left None p e = (refl, e)
none_left (Some x) p e = cc

pub labels_in_range : (states : ℕ) (labels : List (ℕ × List ℕ))
    → find (nat_le states) (map (λ label. label.0) labels) ≡ None
    → All (λ label. label.0 < states) labels
labels_in_range states [] e = All-nil (λ (label : ℕ × List ℕ). label.0 < states)
labels_in_range states (label ∷ labels) e =
    let first = cond-none (nat_le states label.0) label.0 (find (nat_le states) (map (λ l. l.0) labels)) e in
    All-cons (λ (l : ℕ × List ℕ). l.0 < states) label labels (leb-false states label.0 first.0)
    (labels_in_range states labels first.1)

pub edges_in_range : (states : ℕ) (edges : List Edge) → find (nat_le states) (flat_map ends edges) ≡ None
    → All (λ e. (e.source < states) × (e.target < states)) edges
edges_in_range states [] none = All-nil (λ (e : Edge). (e.source < states) × (e.target < states))
edges_in_range states (edge ∷ edges) none =
    let rest = find (nat_le states) (flat_map ends edges) in
    let first =
    cond-none (nat_le states edge.source) edge.source (cond (nat_le states edge.target) (Some edge.target) rest) none in
    let second = cond-none (nat_le states edge.target) edge.target rest first.1 in
    All-cons (λ (e : Edge). (e.source < states) × (e.target < states)) edge edges
    (leb-false states edge.source first.0, leb-false states edge.target second.0) (edges_in_range states edges second.1)

pub all_in_range : (states : ℕ) (labels : List (ℕ × List ℕ)) (edges : List Edge)
    → first_bad_state states labels edges ≡ None
    → All (λ label. label.0 < states) labels × All (λ e. (e.source < states) × (e.target < states)) edges
all_in_range states labels edges none =
    let both =
    none_left _ _ (sym (find-append (nat_le states) (map (λ label. label.0) labels) (flat_map ends edges)) ∙ none) in
    (labels_in_range states labels both.0, edges_in_range states edges both.1)

module _ (n : ℕ) (labels : List (ℕ × List ℕ)) (edges : List Edge)
    (labels_low : (label : ℕ × List ℕ) → IsMember label labels → label.0 < n)
    (edges_low : (e : Edge) → IsMember e edges → (e.source < n) × (e.target < n)) where
  label_low : (v : ℕ) → Image (λ (label : ℕ × List ℕ). label.0) v labels → v < n
  label_low v i = omega (arith, labels_low i.from i.member, i.holds)

  end_low : (v : ℕ) → InList ends v edges → v < n
  end_low v i = of_end i.inside
    where
      of_end : IsMember v (ends i.from) → v < n
      of_end (inl source) = omega (arith, (edges_low i.from i.member).0, source)
      of_end (inr (inl target)) = omega (arith, (edges_low i.from i.member).1, target)
      of_end (inr (inr none)) = absurd none

  pub none_bad : first_bad_state n labels edges ≡ None
  none_bad = find-none n (named_states labels edges) (λ v m.
      ⊎_elim (λ (l : IsMember v (map (λ (label : ℕ × List ℕ). label.0) labels)).
      label_low v (member-map_from (λ (label : ℕ × List ℕ). label.0) v labels l))
      (λ (e : IsMember v (flat_map ends edges)). end_low v (member-flat_map_from ends v edges e))
      (member-append v (map (λ (label : ℕ × List ℕ). label.0) labels) (flat_map ends edges) m))
