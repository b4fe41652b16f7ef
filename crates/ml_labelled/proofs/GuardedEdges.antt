-- The guards of cubes lead as the cubes do.
--
--   guard_fits, fits_guard == the guard of a cube is true in a letter exactly where the cube fits it
--   edge_from, edge_to     == the edges with guards are those of the states
--   guards_lead_same       == the law
use Rattle.std.proofs.Common.{ℕ, zero, suc, ◌≡◌, ◌+◌, ◌⊎◌, Bool, true, false, not, cond, List, [], ◌∷◌, map, get_or, inl, inr, refl, sym, ap, ◌∙◌, subst, arith}
use Rattle.std.specs.List.{flat_map, enumerate_from}
use Rattle.std.proofs.lemmas.Bool.{and_from, and_parts, not-true}
use Rattle.ml_lists.specs.Member.{IsMember}
use Rattle.ml_lists.proofs.Member.{member-append, member-append_left, member-append_right, member-map, member-map_from}
use Rattle.ml_hoa.specs.Automaton as hoa
use Rattle.ml_labelled.specs.declared.labelled.Literal.{Literal}
use Rattle.ml_labelled.specs.Labelled.{Edge, Fits, IsTrueIn, Leads, Letter, has}
use Rattle.ml_labelled.specs.LabelledText.{GuardsLead, guard_of, guard_on, guarded, guarded_edge, guarded_edges, holds, literal_guard}
use Rattle.ml_labelled.specs.Laws.{GuardsLeadSame}

module _ (props : List (List ℕ)) (letter : Letter) where
  literal_true : (l : Literal) → holds props letter (literal_guard l) ≡ true → IsTrueIn props letter l
  literal_true l is = by l.positive refl is
    where
      by : (s : Bool) → l.positive ≡ s
          → holds props letter (cond s (hoa.Ap l.prop) (hoa.Not (hoa.Ap l.prop))) ≡ true
          → IsTrueIn props letter l
      by true s e = e ∙ sym s
      by false s e = not-true (has letter (get_or props l.prop [])) e ∙ sym s

  true_literal : (l : Literal) → IsTrueIn props letter l → holds props letter (literal_guard l) ≡ true
  true_literal l is = by l.positive refl
    where
      by : (s : Bool) → l.positive ≡ s → holds props letter (cond s (hoa.Ap l.prop) (hoa.Not (hoa.Ap l.prop))) ≡ true
      by true s = is ∙ s
      by false s = ap not (is ∙ s)

  on_true : (g : hoa.Guard) (ls : List Literal)
      → holds props letter (guard_on g ls) ≡ true
      → (holds props letter g ≡ true) × Fits props letter ls
  on_true g [] is = (is, λ l m. absurd m)
  on_true g (l ∷ ls) is =
      let more = on_true (hoa.And g (literal_guard l)) ls is in
      let parts = and_parts (holds props letter g) (holds props letter (literal_guard l)) more.0 in
      (parts.0, λ k m. by k m (literal_true l parts.1) more.1)
    where
      by : (k : Literal) → IsMember k (l ∷ ls) → IsTrueIn props letter l → Fits props letter ls → IsTrueIn props letter k
      by k (inl same) here more = subst (IsTrueIn props letter) (sym same) here
      by k (inr m) here more = more k m

  true_on : (g : hoa.Guard) (ls : List Literal)
      → holds props letter g ≡ true
      → Fits props letter ls
      → holds props letter (guard_on g ls) ≡ true
  true_on g [] is fits = is
  true_on g (l ∷ ls) is fits =
      true_on (hoa.And g (literal_guard l)) ls
      (and_from (holds props letter g) (holds props letter (literal_guard l)) is (true_literal l (fits l (inl refl))))
      (λ k m. fits k (inr m))

  pub guard_fits : (c : List Literal) → holds props letter (guard_of c) ≡ true → Fits props letter c
  guard_fits [] is = λ l m. absurd m
  guard_fits (l ∷ ls) is =
      let parts = on_true (literal_guard l) ls is in
      λ k m. by k m (literal_true l parts.0) parts.1
    where
      by : (k : Literal) → IsMember k (l ∷ ls) → IsTrueIn props letter l → Fits props letter ls → IsTrueIn props letter k
      by k (inl same) here more = subst (IsTrueIn props letter) (sym same) here
      by k (inr m) here more = more k m

  pub fits_guard : (c : List Literal) → Fits props letter c → holds props letter (guard_of c) ≡ true
  fits_guard [] fits = refl
  fits_guard (l ∷ ls) fits = true_on (literal_guard l) ls (true_literal l (fits l (inl refl))) (λ k m. fits k (inr m))

-- ---- edges

record From (n : ℕ) (rows : List (List Edge)) (g : hoa.Edge) : Type 0 where
  row : ℕ
  edge : Edge
  member : IsMember edge (get_or rows row [])
  is : g ≡ guarded_edge (n + row) edge

edge_from : (n : ℕ) (rows : List (List Edge)) (g : hoa.Edge)
    → IsMember g (flat_map guarded_edges (enumerate_from n rows))
    → From n rows g
edge_from n [] g m = absurd m
edge_from n (es ∷ rows) g m =
    by (member-append g (map (guarded_edge n) es) (flat_map guarded_edges (enumerate_from (n + 1) rows)) m)
    (edge_from (n + 1) rows g)
  where
    by : IsMember g (map (guarded_edge n) es) ⊎ IsMember g (flat_map guarded_edges (enumerate_from (n + 1) rows))
        → (IsMember g (flat_map guarded_edges (enumerate_from (n + 1) rows)) → From (n + 1) rows g)
        → From n (es ∷ rows) g
    by (inl here) more =
        let i = member-map_from (guarded_edge n) g es here in
        let e : n ≡ n + 0 = omega arith in
        record { row = zero; edge = i.from; member = i.member; is = i.holds ∙ ap (λ p. guarded_edge p i.from) e }
    by (inr later) more =
        let f = more later in
        let e : n + 1 + f.row ≡ n + suc f.row = omega arith in
        record { row = suc f.row; edge = f.edge; member = f.member; is = f.is ∙ ap (λ p. guarded_edge p f.edge) e }

edge_to : (n : ℕ) (rows : List (List Edge)) (j : ℕ) (e : Edge)
    → IsMember e (get_or rows j [])
    → IsMember (guarded_edge (n + j) e) (flat_map guarded_edges (enumerate_from n rows))
edge_to n [] j e m = absurd m
edge_to n (es ∷ rows) zero e m =
    let same : n ≡ n + 0 = omega arith in
    member-append_left (guarded_edge (n + 0) e) (map (guarded_edge n) es) (flat_map guarded_edges (enumerate_from (n + 1) rows))
    (subst (λ p. IsMember (guarded_edge p e) (map (guarded_edge n) es)) same (member-map (guarded_edge n) e es m))
edge_to n (es ∷ rows) (suc j) e m =
    let same : n + 1 + j ≡ n + suc j = omega arith in
    member-append_right (guarded_edge (n + suc j) e) (map (guarded_edge n) es)
    (flat_map guarded_edges (enumerate_from (n + 1) rows))
    (subst (λ p. IsMember (guarded_edge p e) (flat_map guarded_edges (enumerate_from (n + 1) rows))) same
    (edge_to (n + 1) rows j e m))

pub guards_lead_same : GuardsLeadSame
guards_lead_same a letter p q accepting = (there, back)
  where
    there : GuardsLead (guarded a) letter p q accepting → Leads a letter p q accepting
    there lead =
        let f = edge_from 0 a.edges lead.edge lead.is_edge in
        let is = f.is in
        let row : f.row ≡ p =
        let e = ap (λ (g : hoa.Edge). g.from) is in let at = lead.from_is in omega arith in
        record {
          edge = f.edge;
          is_edge = subst (λ r. IsMember f.edge (get_or a.edges r [])) row f.member;
          fits =
              guard_fits a.props letter f.edge.cube
              (sym (ap (λ (g : hoa.Edge). holds a.props letter g.guard) is) ∙ lead.may_be_taken);
          to_is = sym (ap (λ (g : hoa.Edge). g.to) is) ∙ lead.to_is;
          accepting_is = sym (ap (λ (g : hoa.Edge). g.accepting) is) ∙ lead.accepting_is;
        }

    back : Leads a letter p q accepting → GuardsLead (guarded a) letter p q accepting
    back lead = record {
      edge = guarded_edge (0 + p) lead.edge;
      is_edge = edge_to 0 a.edges p lead.edge lead.is_edge;
      may_be_taken = fits_guard a.props letter lead.edge.cube lead.fits;
      from_is = omega arith;
      to_is = lead.to_is;
      accepting_is = lead.accepting_is;
    }
