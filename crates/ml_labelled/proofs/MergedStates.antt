-- States with the same edges may stand for each other.
--
--   same_accepted, merged_labelled == edges may lead to a state with the edges of their target
--   merged_from       == so it is of what a program holds
--   alike_none, alike_more, alike_itself == one state after the other
--   edges_same, row_more, row_all == a row that is another one, edge by edge
use Rattle.std.proofs.Common.{ℕ, zero, suc, ◌≡◌, ◌+◌, ◌<◌, ◌≤◌, ◌⊎◌, inl, inr, arith, Bool, true, false, not, List, [], ◌∷◌, ◌++◌, length, map, take, drop, get_or, refl, sym, ap, ◌∙◌, subst}
use Rattle.std.specs.Global.{Vec}
use Rattle.std.specs.Bool.{beq}
use Rattle.std.proofs.lemmas.Bool.{cases_eq, not-false}
use Rattle.std.proofs.lemmas.List.{get_or_append_left, length-append, length-map, take_all}
use Rattle.std.proofs.Math.Seq.{get_or-append_seam}
use Rattle.ml_lists.specs.Member.{IsMember}
use Rattle.ml_lists.proofs.Member.{member-map, member-map_from}
use Rattle.ml_labelled.specs.CubeEquality.{beq-same, cube_eq, cube_eq-same}
use Rattle.ml_labelled.specs.Labelled.{AcceptSame, Automaton, Edge, Fits, IsEdge, IsLabelled, Leads, Letter, edges_of}
use Rattle.ml_labelled.specs.private.Merging.{AreAlike, IsAlike}
use Rattle.ml_labelled.specs.private.Reaching.{TargetsFit, retargeted}
use Rattle.ml_labelled.specs.private.Views.{edge_of, edges_in, held, rows_of}
use Rattle.ml_labelled.specs.declared.labelled.CubeEdge.{CubeEdge}
use Rattle.ml_labelled.proofs.ChosenRuns.{accepted_along}
use Rattle.ml_labelled.proofs.ReachedParts.{targets_fit}

get_mapped : {X Y : Type 0} (f : X → Y) (rows : List (List X)) (p : ℕ) → get_or (map (map f) rows) p [] ≡ map f (get_or rows p [])
get_mapped f [] p = refl
get_mapped f (row ∷ rows) zero = refl
get_mapped f (row ∷ rows) (suc p) = get_mapped f rows p

abbrev merged_of : List ℕ → Automaton → Automaton
merged_of targets a = record { props = a.props; edges = map (map (retargeted targets)) a.edges }

module _ (targets : List ℕ) (a : Automaton) (is : IsLabelled a) (alike : AreAlike (length a.edges) a.edges targets) where
  abbrev b : Automaton
  b = merged_of targets a

  abbrev to : Edge → Edge
  to = retargeted targets

  abbrev Same : ℕ → ℕ → Type 0
  Same p q = edges_of a q ≡ edges_of a p

  there : (l : Letter) (p q : ℕ) (c : Bool) → Leads a l p q c → (y : ℕ) × Same q y × ((x : ℕ) → Same p x → Leads b l x y c)
  there l p q c lead =
      let e = lead.edge in
      let low = (is.edges p e lead.is_edge).to_state in (
        get_or targets e.to 0,
        subst (λ s. Same s (get_or targets e.to 0)) lead.to_is (alike.alike e.to low).same,
        λ x same. record {
          edge = to e;
          is_edge =
              subst (IsMember (to e)) (sym (get_mapped to a.edges x))
              (member-map to e (edges_of a x) (subst (IsMember e) (sym same) lead.is_edge));
          fits = lead.fits;
          to_is = refl;
          accepting_is = lead.accepting_is;
        },
      )

  back : (l : Letter) (x y : ℕ) (c : Bool) → Leads b l x y c → (q : ℕ) × Same y q × ((p : ℕ) → Same x p → Leads a l p q c)
  back l x y c lead =
      let f = lead.edge in
      let i = member-map_from to f (edges_of a x) (subst (IsMember f) (get_mapped to a.edges x) lead.is_edge) in
      let e = i.from in
      let low = (is.edges x e i.member).to_state in
      let number : get_or targets e.to 0 ≡ y = sym (ap (λ (g : Edge). g.to) i.holds) ∙ lead.to_is in (
        e.to,
        subst (λ s. Same s e.to) number (sym (alike.alike e.to low).same),
        λ p same. record {
          edge = e;
          is_edge = subst (IsMember e) (sym same) i.member;
          fits = subst (λ (g : Edge). Fits a.props l g.cube) i.holds lead.fits;
          to_is = refl;
          accepting_is = sym (ap (λ (g : Edge). g.accepting) i.holds) ∙ lead.accepting_is;
        },
      )

  pub same_accepted : AcceptSame a b
  same_accepted w lasso =
      (accepted_along (Leads a) (Leads b) Same there w 0 0 refl, accepted_along (Leads b) (Leads a) Same back w 0 0 refl)

  as_many : length b.edges ≡ length a.edges
  as_many = length-map a.edges (map to)

  pub merged_labelled : IsLabelled b
  merged_labelled = record {
    some_state = let some = is.some_state in omega (arith, as_many);
    few_states = let few = is.few_states in omega (arith, as_many);
    few_props = is.few_props;
    names = is.names;
    edges = λ x f m.
        let i = member-map_from to f (edges_of a x) (subst (IsMember f) (get_mapped to a.edges x) m) in
        let fits = is.edges x i.from i.member in
        let low = (alike.alike i.from.to fits.to_state).is_state in
        subst (λ (g : Edge). IsEdge (length b.edges) (length b.props) g) (sym i.holds)
        (record { is_cube = fits.is_cube; to_state = omega (arith, as_many) });
  }

-- ---- what a program holds

pub record IsMerged (a b : Automaton) : Type 0 where
  pub labelled : IsLabelled b
  pub same : AcceptSame a b
  pub props : b.props ≡ a.props
  pub as_many : length b.edges ≡ length a.edges

module _ (a : Automaton) (targets ns : List ℕ) (read rows : List (Vec CubeEdge)) (props : List (List ℕ))
    (parts : held props rows ≡ a) (is : IsLabelled a) (edges : rows_of read ≡ a.edges)
    (alike : AreAlike (length read) (rows_of read) targets) (also : ns ≡ targets) where
  alike_of : AreAlike (length a.edges) a.edges targets
  alike_of =
      subst (λ es. AreAlike (length es) es targets) edges
      (subst (λ n. AreAlike n (rows_of read) targets) (sym (length-map read edges_in)) alike)

  pub fit_from : TargetsFit (length ns) (rows_of rows)
  fit_from =
      let long = alike_of.as_long in
      subst (λ n. TargetsFit n (rows_of rows)) (sym (ap length also ∙ long))
      (subst (λ (x : Automaton). TargetsFit (length a.edges) x.edges) (sym parts) (targets_fit a is))

  pub merged_from : (new : List (Vec CubeEdge))
      → rows_of new ≡ map (map (retargeted ns)) (rows_of rows)
      → IsMerged a (held props new)
  merged_from new made =
      let edges_are : rows_of new ≡ map (map (retargeted targets)) a.edges =
      made ∙ ap (λ xs. map (map (retargeted xs)) (rows_of rows)) also
      ∙ ap (λ (x : Automaton). map (map (retargeted targets)) x.edges) parts in
      let props_are : props ≡ a.props = ap (λ (x : Automaton). x.props) parts in
      let whole : merged_of targets a ≡ held props new =
      λ i. record { props = sym props_are i; edges = sym edges_are i } in
      subst (IsMerged a) whole
      (record {
        labelled = merged_labelled targets a is alike_of;
        same = same_accepted targets a is alike_of;
        props = refl;
        as_many = length-map a.edges (map (retargeted targets));
      })

pub alike_none : (rows : List (List Edge)) → AreAlike 0 rows []
alike_none rows = record { as_long = refl; alike = λ p low. absurd (omega arith) }

pub alike_itself : (rows : List (List Edge)) (p : ℕ) → p < length rows → IsAlike rows p p
alike_itself rows p low = record { is_state = low; same = refl }

pub alike_more : (rows : List (List Edge)) (targets : List ℕ) (n q : ℕ)
    → AreAlike n rows targets
    → IsAlike rows n q
    → AreAlike (n + 1) rows (targets ++ q ∷ [])
alike_more rows targets n q so_far next = record {
  as_long = let long = so_far.as_long in length-append targets (q ∷ []) ∙ ap (λ m. m + 1) long;
  alike = λ p low. by p low (cases_eq p n);
}
  where
    by : (p : ℕ) → p < n + 1 → (p ≡ n) ⊎ (p ≡ n → ⊥) → IsAlike rows p (get_or (targets ++ q ∷ []) p 0)
    by p low (inl same) =
        let at : p ≡ length targets = same ∙ sym so_far.as_long in
        subst (λ m. IsAlike rows p m) (sym (ap (λ m. get_or (targets ++ q ∷ []) m 0) at ∙ get_or-append_seam targets q [] 0))
        (subst (λ m. IsAlike rows m q) (sym same) next)
    by p low (inr other) =
        let long = so_far.as_long in
        subst (IsAlike rows p) (sym (get_or_append_left targets (q ∷ []) 0 p (omega arith))) (so_far.alike p (omega arith))

-- ---- rows that are the same

no_edge : Edge
no_edge = record { cube = []; to = 0; accepting = false }

pub edges_same : (e f : CubeEdge)
    → e.to ≡ f.to
    → not (beq e.accepting f.accepting) ≡ false
    → cube_eq e.cube.items f.cube.items ≡ true
    → edge_of e ≡ edge_of f
edges_same e f to flags cubes =
    let same_flags = beq-same e.accepting f.accepting (not-false (beq e.accepting f.accepting) flags) in
    let same_cubes = cube_eq-same e.cube.items f.cube.items cubes in
    λ i. record { cube = same_cubes i; to = to i; accepting = same_flags i }

pub row_more : (xs ys : List CubeEdge) (i : ℕ) (x y : CubeEdge)
    → i < length xs
    → i < length ys
    → x ≡ get_or xs i x
    → y ≡ get_or ys i y
    → edge_of x ≡ edge_of y
    → take i (map edge_of xs) ≡ take i (map edge_of ys)
    → take (suc i) (map edge_of xs) ≡ take (suc i) (map edge_of ys)
row_more [] ys i x y low also x_is y_is same so_far = absurd (omega arith)
row_more (a ∷ xs) [] i x y low also x_is y_is same so_far = absurd (omega arith)
row_more (a ∷ xs) (b ∷ ys) zero x y low also x_is y_is same so_far =
    ap (λ e. e ∷ []) (ap edge_of (sym x_is) ∙ same ∙ ap edge_of y_is)
row_more (a ∷ xs) (b ∷ ys) (suc i) x y low also x_is y_is same so_far =
    let here : edge_of a ≡ edge_of b = ap (λ es. get_or es 0 no_edge) so_far in
    let rest = row_more xs ys i x y (omega arith) (omega arith) x_is y_is same (ap (drop 1) so_far) in
    λ k. here k ∷ rest k

pub row_all : (xs ys : List CubeEdge) (i : ℕ)
    → length xs ≡ length ys
    → length xs ≤ i
    → take i (map edge_of xs) ≡ take i (map edge_of ys)
    → map edge_of xs ≡ map edge_of ys
row_all xs ys i as_long past same =
    let first = length-map xs edge_of in
    let second = length-map ys edge_of in
    sym (take_all i (map edge_of xs) (omega arith)) ∙ same ∙ take_all i (map edge_of ys) (omega arith)
