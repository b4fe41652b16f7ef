-- Edges that are made of places.
--
--   put_one              == an edge behind those of a state
--   put_diamond, put_true, put_nothing == the edge of a place, if it makes one
--   made_none, made_more, made_all == the edges of places, one after the other
--   numbers_more, empty_more, put_in_row, put_made, none_left == what a program holds
use Rattle.std.proofs.Common.{ℕ, zero, suc, ◌≡◌, ◌+◌, ◌<◌, ◌⊎◌, ◌↔◌, ◌==◌, inl, inr, arith, Bool, true, false, List, [], ◌∷◌, ◌++◌, length, map, get_or, set, refl, sym, ap, ◌∙◌, subst}
use Rattle.std.specs.Global.{Vec}
use Rattle.std.proofs.lemmas.Bool.{cases_eq}
use Rattle.std.proofs.lemmas.List.{get_or-map, get_or-set_other, get_or-set_same, length-map, length-set, map-append, map-set}
use Rattle.ml_lists.specs.Ascending.{IsAscending}
use Rattle.ml_lists.specs.Member.{IsMember}
use Rattle.ml_lists.proofs.Ascending.{ascending-apart}
use Rattle.ml_lists.proofs.Member.{member-append, member-append_left, member-append_right}
use Rattle.ml_graph.specs.Graph.{Graph, node_at, priority_at}
use Rattle.ml_graph.specs.declared.node.Node.{Node}
use Rattle.ml_graph.specs.declared.node.Node.TheVariants as node
use Rattle.ml_labelled.specs.Labelled.{Edge}
use Rattle.ml_labelled.specs.private.Views.{edge_of, edges_in, rows_of}
use Rattle.ml_labelled.specs.declared.labelled.CubeEdge.{CubeEdge}
use Rattle.ml_labelled.specs.declared.labelled.Literal.{Literal}
use Rattle.ml_translate.specs.Places.{Place}
use Rattle.ml_translate.specs.private.Finding.{HaveEdges, IsEdgePut, IsPut, Makes, MakesAt, row_at}

edge_to : Place → ℕ → Bool → Edge
edge_to s to accepting = record { cube = s.cube; to = to; accepting = accepting }

-- a row with one edge more
pub put_one : (rows : List (List Edge)) (s : Place) (to : ℕ) (accepting : Bool) (row : List Edge)
    → s.state < length rows
    → row ≡ row_at rows s.state ++ record { cube = s.cube; to = to; accepting = accepting } ∷ []
    → IsEdgePut s to accepting rows (set rows s.state row)
put_one rows s to accepting row low is = record {
  as_long = length-set rows s.state row;
  edges = λ p e. ((λ m. there p e m (cases_eq p s.state)), (λ m. back p e m (cases_eq p s.state)));
}
  where
    f : Edge
    f = record { cube = s.cube; to = to; accepting = accepting }

    here : row_at (set rows s.state row) s.state ≡ row_at rows s.state ++ f ∷ []
    here = get_or-set_same rows s.state row [] low ∙ is

    other : (p : ℕ) → (p ≡ s.state → ⊥) → row_at (set rows s.state row) p ≡ row_at rows p
    other p not_s = get_or-set_other rows s.state p row [] not_s

    there : (p : ℕ) (e : Edge) → IsMember e (row_at (set rows s.state row) p) → (p ≡ s.state) ⊎ (p ≡ s.state → ⊥)
        → IsMember e (row_at rows p) ⊎ ((p ≡ s.state) × (e ≡ f))
    there p e m (inr not_s) = inl (subst (IsMember e) (other p not_s) m)
    there p e m (inl same) =
        by (member-append e (row_at rows s.state) (f ∷ []) (subst (IsMember e) (ap (row_at (set rows s.state row)) same ∙ here) m))
      where
        by : IsMember e (row_at rows s.state) ⊎ IsMember e (f ∷ []) → IsMember e (row_at rows p) ⊎ ((p ≡ s.state) × (e ≡ f))
        by (inl k) = inl (subst (λ q. IsMember e (row_at rows q)) (sym same) k)
        by (inr (inl is_f)) = inr (same, is_f)
        by (inr (inr none)) = absurd none

    back : (p : ℕ) (e : Edge) → IsMember e (row_at rows p) ⊎ ((p ≡ s.state) × (e ≡ f)) → (p ≡ s.state) ⊎ (p ≡ s.state → ⊥)
        → IsMember e (row_at (set rows s.state row) p)
    back p e (inl m) (inr not_s) = subst (IsMember e) (sym (other p not_s)) m
    back p e (inl m) (inl same) =
        subst (IsMember e) (sym (ap (row_at (set rows s.state row)) same ∙ here))
        (member-append_left e (row_at rows s.state) (f ∷ []) (subst (λ q. IsMember e (row_at rows q)) same m))
    back p e (inr (same, is_f)) any =
        subst (IsMember e) (sym (ap (row_at (set rows s.state row)) same ∙ here))
        (member-append_right e (row_at rows s.state) (f ∷ []) (inl is_f))

module _ (g : Graph) (numbers : List ℕ) (s : Place) (rows more : List (List Edge)) where
  put_as : (v : Node) (to : ℕ) (accepting : Bool)
      → node_at g s.node ≡ v
      → ((e : Edge) → (e ≡ record { cube = s.cube; to = to; accepting = accepting }) ↔ MakesAt g numbers v s e)
      → IsEdgePut s to accepting rows more
      → IsPut g numbers s rows more
  put_as v to accepting is makes put = record { as_long = put.as_long; edges = λ p e. ((λ m. there p e ((put.edges p e).0 m)), (λ m. (put.edges p e).1 (back p e m))) }
    where
      there : (p : ℕ) (e : Edge)
          → IsMember e (row_at rows p) ⊎ ((p ≡ s.state) × (e ≡ record { cube = s.cube; to = to; accepting = accepting }))
          → IsMember e (row_at rows p) ⊎ ((p ≡ s.state) × Makes g numbers s e)
      there p e (inl m) = inl m
      there p e (inr (same, is_e)) = inr (same, subst (λ w. MakesAt g numbers w s e) (sym is) ((makes e).0 is_e))

      back : (p : ℕ) (e : Edge)
          → IsMember e (row_at rows p) ⊎ ((p ≡ s.state) × Makes g numbers s e)
          → IsMember e (row_at rows p) ⊎ ((p ≡ s.state) × (e ≡ record { cube = s.cube; to = to; accepting = accepting }))
      back p e (inl m) = inl m
      back p e (inr (same, made)) = inr (same, (makes e).1 (subst (λ w. MakesAt g numbers w s e) is made))

  pub put_diamond : (action q : ℕ)
      → node_at g s.node ≡ node.Diamond action q
      → IsEdgePut s (get_or numbers q 0) (priority_at g s.node == 0) rows more
      → IsPut g numbers s rows more
  put_diamond action q is put =
      put_as (node.Diamond action q) (get_or numbers q 0) (priority_at g s.node == 0) is (λ e. ((λ m. m), (λ m. m))) put

  pub put_true : node_at g s.node ≡ node.True
      → IsEdgePut s (get_or numbers s.node 0) true rows more
      → IsPut g numbers s rows more
  put_true is put = put_as node.True (get_or numbers s.node 0) true is (λ e. ((λ m. m), (λ m. m))) put

pub put_nothing : (g : Graph) (numbers : List ℕ) (s : Place) (rows : List (List Edge)) (v : Node)
    → node_at g s.node ≡ v
    → ((e : Edge) → MakesAt g numbers v s e → ⊥)
    → IsPut g numbers s rows rows
put_nothing g numbers s rows v is none = record {
  as_long = refl;
  edges = λ p e. ((λ m. inl m), (λ m. back p e m));
}
  where
    back : (p : ℕ) (e : Edge) → IsMember e (row_at rows p) ⊎ ((p ≡ s.state) × Makes g numbers s e) → IsMember e (row_at rows p)
    back p e (inl m) = m
    back p e (inr (same, made)) = absurd (none e (subst (λ w. MakesAt g numbers w s e) is made))

-- ---- the edges of places

-- those of the places `done` are made; the others are left
pub record AreMade (g : Graph) (numbers : List ℕ) (all left : List Place) (rows : List (List Edge)) : Type 0 where
  pub done : List Place
  pub whole : all ≡ left ++ done
  pub edges : HaveEdges g numbers done rows

module _ (g : Graph) (numbers : List ℕ) where
  pub made_none : (all : List Place) (rows : List (List Edge)) → ((p : ℕ) → row_at rows p ≡ []) → AreMade g numbers all all rows
  made_none all rows none = record {
    done = [];
    whole = sym (append_none all);
    edges = λ p e. ((λ m. absurd (subst (IsMember e) (none p) m)), (λ m. absurd m.1));
  }
    where
      append_none : (xs : List Place) → xs ++ [] ≡ xs
      append_none [] = refl
      append_none (x ∷ xs) = ap (λ ys. x ∷ ys) (append_none xs)

  pub made_more : (all left before : List Place) (s : Place) (rows more : List (List Edge))
      → before ≡ left ++ s ∷ []
      → AreMade g numbers all before rows
      → IsPut g numbers s rows more
      → AreMade g numbers all left more
  made_more all left before s rows more popped m put = record {
    done = s ∷ m.done;
    whole = m.whole ∙ ap (λ xs. xs ++ m.done) popped ∙ moved left;
    edges = λ p e. ((λ k. there p e ((put.edges p e).0 k)), (λ k. (put.edges p e).1 (back p e k)));
  }
    where
      moved : (xs : List Place) → (xs ++ s ∷ []) ++ m.done ≡ xs ++ s ∷ m.done
      moved [] = refl
      moved (x ∷ xs) = ap (λ ys. x ∷ ys) (moved xs)

      there : (p : ℕ) (e : Edge)
          → IsMember e (row_at rows p) ⊎ ((p ≡ s.state) × Makes g numbers s e)
          → (t : Place) × IsMember t (s ∷ m.done) × (p ≡ t.state) × Makes g numbers t e
      there p e (inl k) = let old = (m.edges p e).0 k in (old.0, inr old.1, old.2, old.3)
      there p e (inr (same, made)) = (s, inl refl, same, made)

      back : (p : ℕ) (e : Edge)
          → (t : Place) × IsMember t (s ∷ m.done) × (p ≡ t.state) × Makes g numbers t e
          → IsMember e (row_at rows p) ⊎ ((p ≡ s.state) × Makes g numbers s e)
      back p e (t, inl same, at, made) =
          inr (at ∙ ap (λ (x : Place). x.state) same, subst (λ (x : Place). Makes g numbers x e) same made)
      back p e (t, inr k, at, made) = inl ((m.edges p e).1 (t, k, at, made))

  pub made_all : (all left : List Place) (rows : List (List Edge))
      → left ≡ []
      → AreMade g numbers all left rows
      → HaveEdges g numbers all rows
  made_all all left rows none m =
      subst (λ xs. HaveEdges g numbers xs rows) (sym (m.whole ∙ ap (λ xs. xs ++ m.done) none)) m.edges

  -- what is left is among all
  pub left_among : (all left : List Place) (rows : List (List Edge)) (s : Place)
      → AreMade g numbers all left rows
      → IsMember s left
      → IsMember s all
  left_among all left rows s m k = subst (IsMember s) (sym m.whole) (member-append_left s left m.done k)

-- ---- numbers of states

-- the number of one state more
pub numbers_more : (states numbers : List ℕ) (i n : ℕ)
    → IsAscending states
    → i < length states
    → n ≡ get_or states i 0
    → n < length numbers
    → ((p : ℕ) → p < i → get_or numbers (get_or states p 0) 0 ≡ p)
    → (p : ℕ) → p < i + 1 → get_or (set numbers n i) (get_or states p 0) 0 ≡ p
numbers_more states numbers i n ascend low is within so_far p below = by (cases_eq p i)
  where
    by : (p ≡ i) ⊎ (p ≡ i → ⊥) → get_or (set numbers n i) (get_or states p 0) 0 ≡ p
    by (inl same) =
        ap (λ k. get_or (set numbers n i) k 0) (ap (λ j. get_or states j 0) same ∙ sym is)
        ∙ get_or-set_same numbers n i 0 within
        ∙ sym same
    by (inr other) =
        let less = ascending-apart states p i 0 ascend (omega arith) low in
        get_or-set_other numbers n (get_or states p 0) i 0 (λ e. let f : get_or states p 0 ≡ n = e in absurd (omega arith))
        ∙ so_far p (omega arith)

-- a row without edges more
pub empty_more : (rows : List (Vec CubeEdge)) (row : Vec CubeEdge)
    → row.items ≡ []
    → ((p : ℕ) → row_at (rows_of rows) p ≡ [])
    → (p : ℕ) → row_at (rows_of (rows ++ row ∷ [])) p ≡ []
empty_more [] row none so_far zero = ap (map edge_of) none
empty_more [] row none so_far (suc p) = refl
empty_more (r ∷ rows) row none so_far zero = so_far 0
empty_more (r ∷ rows) row none so_far (suc p) = empty_more rows row none (λ q. so_far (suc q)) p

-- a row in which an edge is put is that row with the edge
pub put_in_row : (rows : List (Vec CubeEdge)) (i : ℕ) (row : Vec CubeEdge) (e : CubeEdge) (d : Vec CubeEdge)
    → i < length rows
    → row.items ≡ (get_or rows i d).items ++ e ∷ []
    → edges_in row ≡ row_at (rows_of rows) i ++ edge_of e ∷ []
put_in_row rows i row e d low is =
    ap (map edge_of) is
    ∙ map-append edge_of (get_or rows i d).items (e ∷ [])
    ∙ ap (λ es. es ++ edge_of e ∷ []) (sym (get_or-map edges_in rows i d [] low))

-- an edge that is pushed onto the row of a state
pub put_made : (rows : List (Vec CubeEdge)) (s : Place) (to : ℕ) (accepting : Bool) (row old d : Vec CubeEdge) (literals : Vec Literal)
    → s.state < length rows
    → old ≡ get_or rows s.state d
    → row.items ≡ old.items ++ record { cube = literals; to = to; accepting = accepting } ∷ []
    → literals.items ≡ s.cube
    → IsEdgePut s to accepting (rows_of rows) (rows_of (set rows s.state row))
put_made rows s to accepting row old d literals low is pushed cube =
    let e : CubeEdge = record { cube = literals; to = to; accepting = accepting } in
    let long = length-map rows edges_in in
    subst (IsEdgePut s to accepting (rows_of rows)) (sym (map-set edges_in rows s.state row))
    (put_one (rows_of rows) s to accepting (edges_in row) (omega arith)
    (put_in_row rows s.state row e d low (pushed ∙ ap (λ (v : Vec CubeEdge). v.items ++ e ∷ []) is)
    ∙ ap (λ (c : List Literal). row_at (rows_of rows) s.state ++ record { cube = c; to = to; accepting = accepting } ∷ []) cube))

-- where nothing is popped, nothing is left
pub none_left : (xs : List Place) → (0 < length xs → false ≡ true) → xs ≡ []
none_left [] none = refl
none_left (x ∷ xs) none = let wrong = none (omega arith) in absurd (cc)
