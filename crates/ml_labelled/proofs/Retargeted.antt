-- Edges that lead to new numbers, one after the other.
--
--   edges_none, edges_more, edges_all == the edges of a row
--   rows_none, rows_more, rows_all    == rows
--   written_back                      == what is written through a slice
use Rattle.std.proofs.Common.{ℕ, ◌≡◌, ◌+◌, ◌<◌, ◌≤◌, ◌⊎◌, inl, inr, arith, false, List, [], ◌∷◌, ◌++◌, length, map, take, drop, get_or, set, refl, sym, ap, ◌∙◌}
use Rattle.std.specs.Global.{Vec}
use Rattle.std.proofs.lemmas.Bool.{cases_eq}
use Rattle.std.proofs.lemmas.List.{append-nil, drop_all, ext_get_or, get_or-map, get_or-set_other, get_or-set_same, length-map, length-set, take_all}
use Rattle.ml_labelled.specs.Labelled.{Edge}
use Rattle.ml_labelled.specs.private.Reaching.{AreRetargetedTo, RowsAreRetargetedTo, retargeted}
use Rattle.ml_labelled.specs.private.Views.{edge_of, edges_in, rows_of}
use Rattle.ml_labelled.specs.declared.labelled.CubeEdge.{CubeEdge}

module _ (numbers : List ℕ) where
  pub edges_none : (old : List CubeEdge) → AreRetargetedTo 0 numbers old old
  edges_none old = record { as_long = refl; done = λ k d low. absurd (omega arith); ahead = λ k d low. refl }

  pub edges_more : (i : ℕ) (old es : List CubeEdge) (x d : CubeEdge)
      → i < length es
      → AreRetargetedTo i numbers old es
      → edge_of x ≡ retargeted numbers (edge_of (get_or es i d))
      → ((e : CubeEdge) → get_or es i e ≡ get_or es i d)
      → AreRetargetedTo (i + 1) numbers old (set es i x)
  edges_more i old es x d low r is any = record {
    as_long = length-set es i x ∙ r.as_long;
    done = λ k e below. done k e below (cases_eq k i);
    ahead = λ k e high. get_or-set_other es i k x e (λ same. absurd (omega arith)) ∙ r.ahead k e (omega arith);
  }
    where
      done : (k : ℕ) (e : CubeEdge) → k < i + 1 → (k ≡ i) ⊎ (k ≡ i → ⊥)
          → edge_of (get_or (set es i x) k e) ≡ retargeted numbers (edge_of (get_or old k e))
      done k e below (inl same) =
          ap (λ n. edge_of (get_or (set es i x) n e)) same
          ∙ ap edge_of (get_or-set_same es i x e low)
          ∙ is
          ∙ ap (λ (y : CubeEdge). retargeted numbers (edge_of y)) (sym (any e) ∙ r.ahead i e (omega arith))
          ∙ ap (λ n. retargeted numbers (edge_of (get_or old n e))) (sym same)
      done k e below (inr other) =
          ap edge_of (get_or-set_other es i k x e other) ∙ r.done k e (omega arith)

  no_edge : Edge
  no_edge = record { cube = []; to = 0; accepting = false }

  pub edges_all : (i : ℕ) (old es : List CubeEdge)
      → length es ≤ i
      → AreRetargetedTo i numbers old es
      → map edge_of es ≡ map (retargeted numbers) (map edge_of old)
  edges_all i old [] past r = nothing old (r.as_long)
    where
      nothing : (old : List CubeEdge) → 0 ≡ length old → [] ≡ map (retargeted numbers) (map edge_of old)
      nothing [] e = refl
      nothing (x ∷ xs) e = absurd (omega arith)
  edges_all i old (e ∷ es) past r =
      let long = r.as_long in
      let to = retargeted numbers in
      let long_new = length-map (e ∷ es) edge_of in
      let long_old = length-map old edge_of in
      let long_to = length-map (map edge_of old) to in
      ext_get_or no_edge (map edge_of (e ∷ es)) (map to (map edge_of old)) (omega arith)
      (λ k low.
      get_or-map edge_of (e ∷ es) k e no_edge (omega arith)
      ∙ r.done k e (omega arith)
      ∙ ap to (sym (get_or-map edge_of old k e no_edge (omega arith)))
      ∙ sym (get_or-map to (map edge_of old) k no_edge no_edge (omega arith)))

  pub rows_none : (old : List (Vec CubeEdge)) → RowsAreRetargetedTo 0 numbers old old
  rows_none old = record { as_long = refl; done = λ k d low. absurd (omega arith); ahead = λ k d low. refl }

  pub rows_more : (i : ℕ) (old rows : List (Vec CubeEdge)) (x d : Vec CubeEdge)
      → i < length rows
      → RowsAreRetargetedTo i numbers old rows
      → edges_in x ≡ map (retargeted numbers) (edges_in (get_or rows i d))
      → ((e : Vec CubeEdge) → get_or rows i e ≡ get_or rows i d)
      → RowsAreRetargetedTo (i + 1) numbers old (set rows i x)
  rows_more i old rows x d low r is any = record {
    as_long = length-set rows i x ∙ r.as_long;
    done = λ k e below. done k e below (cases_eq k i);
    ahead = λ k e high. get_or-set_other rows i k x e (λ same. absurd (omega arith)) ∙ r.ahead k e (omega arith);
  }
    where
      done : (k : ℕ) (e : Vec CubeEdge) → k < i + 1 → (k ≡ i) ⊎ (k ≡ i → ⊥)
          → edges_in (get_or (set rows i x) k e) ≡ map (retargeted numbers) (edges_in (get_or old k e))
      done k e below (inl same) =
          ap (λ n. edges_in (get_or (set rows i x) n e)) same
          ∙ ap edges_in (get_or-set_same rows i x e low)
          ∙ is
          ∙ ap (λ (y : Vec CubeEdge). map (retargeted numbers) (edges_in y)) (sym (any e) ∙ r.ahead i e (omega arith))
          ∙ ap (λ n. map (retargeted numbers) (edges_in (get_or old n e))) (sym same)
      done k e below (inr other) =
          ap edges_in (get_or-set_other rows i k x e other) ∙ r.done k e (omega arith)

  pub rows_all : (i : ℕ) (old rows : List (Vec CubeEdge))
      → length rows ≤ i
      → RowsAreRetargetedTo i numbers old rows
      → rows_of rows ≡ map (map (retargeted numbers)) (rows_of old)
  rows_all i old [] past r = nothing old (r.as_long)
    where
      nothing : (old : List (Vec CubeEdge)) → 0 ≡ length old → [] ≡ map (map (retargeted numbers)) (rows_of old)
      nothing [] e = refl
      nothing (x ∷ xs) e = absurd (omega arith)
  rows_all i old (row ∷ rows) past r =
      let long = r.as_long in
      let to = map (retargeted numbers) in
      let long_new = length-map (row ∷ rows) edges_in in
      let long_old = length-map old edges_in in
      let long_to = length-map (rows_of old) to in
      ext_get_or [] (rows_of (row ∷ rows)) (map to (rows_of old)) (omega arith)
      (λ k low.
      get_or-map edges_in (row ∷ rows) k row [] (omega arith)
      ∙ r.done k row (omega arith)
      ∙ ap to (sym (get_or-map edges_in old k row [] (omega arith)))
      ∙ sym (get_or-map to (rows_of old) k [] [] (omega arith)))

-- what is written through a slice of a vector is all of it
pub written_back : {X : Type 0} → (len : ℕ) (xs old : List X)
    → length old ≡ len
    → length xs ≡ length old
    → take len (xs ++ drop (length xs) old) ≡ xs
written_back len xs old all long =
    ap (λ rest. take len (xs ++ rest)) (drop_all (length xs) old (omega arith))
    ∙ ap (take len) (append-nil xs)
    ∙ take_all len xs (omega arith)
