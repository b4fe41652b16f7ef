-- Edges that are kept, one after the other.
--
--   literal_found          == what a search finds in a cube stands there
--   guided_more, guided_all == a guide is right, row by row
--   covered_still          == what is covered stays so
--   kept_none, kept_more   == the edges of a state, the last one first
--   row_trimmed            == so its row is trimmed
--   kept_dead, kept_covered, kept_pushed == one edge
--   trimmed_none, trimmed_more, trimmed_all == row by row
use Rattle.std.proofs.Common.{ℕ, ◌≡◌, ◌+◌, ◌<◌, ◌≤◌, ◌⊎◌, ◌↔◌, inl, inr, arith, Bool, true, List, [], ◌∷◌, ◌++◌, length, map, get_or, set, refl, sym, ap, ◌∙◌, subst}
use Rattle.std.specs.Global.{Vec}
use Rattle.std.specs.List.{list_any}
use Rattle.std.specs.List.Sorted.{IsPermutation}
use Rattle.std.proofs.lemmas.Bool.{cases_eq, cases_lt}
use Rattle.std.proofs.lemmas.List.{get_or-map, get_or-set_other, get_or-set_same, get_or_past, length-map, length-set, map-append}
use Rattle.ml_lists.specs.Member.{IsMember}
use Rattle.ml_lists.proofs.Member.{list_any-member, member-append, member-append_left, member-append_right, member-map, member-map_from}
use Rattle.ml_lists.proofs.Permuted.{permuted-member, same_members}
use Rattle.ml_labelled.specs.CubeEquality.{literal_eq, literal_eq-same}
use Rattle.ml_labelled.specs.Labelled.{Edge}
use Rattle.ml_labelled.specs.declared.guide.Guide.{Guide}
use Rattle.ml_labelled.specs.declared.labelled.CubeEdge.{CubeEdge}
use Rattle.ml_labelled.specs.declared.labelled.Literal.{Literal}
use Rattle.ml_labelled.specs.private.Trimming.{AreKept, AreTrimmed, AreTrimmedTo, Guides, IsCovered, IsGuided, IsKept, IsTrimmed, flag_of, flagged, is_dead}
use Rattle.ml_labelled.specs.private.Views.{edge_of, edges_in, rows_of}

pub literal_found : (cube : List Literal) (l : Literal) → list_any (λ x. literal_eq x l) cube ≡ true → IsMember l cube
literal_found cube l found =
    let p = list_any-member (λ x. literal_eq x l) cube found in
    subst (λ (x : Literal). IsMember x cube) (literal_eq-same p.item l p.passes) p.member

-- ---- guides

-- the guide is right about the edges of the first n rows
abbrev GuidesTo : Guide → List (Vec CubeEdge) → ℕ → Type 0
GuidesTo g rows n = (k : ℕ) (e : Edge) → k < n → IsMember e (get_or (rows_of rows) k []) → IsGuided g k e

module _ (g : Guide) (rows : List (Vec CubeEdge)) where
  pub guided_more : (p : ℕ) (row : Vec CubeEdge)
      → p < length rows
      → row ≡ get_or rows p row
      → ((e : Edge) → IsMember e (map edge_of row.items) → IsGuided g p e)
      → GuidesTo g rows p
      → GuidesTo g rows (p + 1)
  guided_more p row low is right so_far k e below m = by (cases_eq k p)
    where
      by : (k ≡ p) ⊎ (k ≡ p → ⊥) → IsGuided g k e
      by (inl same) =
          subst (λ n. IsGuided g n e) (sym same)
          (right e
          (subst (λ (x : Vec CubeEdge). IsMember e (edges_in x)) (sym is)
          (subst (IsMember e) (get_or-map edges_in rows p row [] low)
          (subst (λ n. IsMember e (get_or (rows_of rows) n [])) same m))))
      by (inr other) = so_far k e (omega (arith, below, other)) m

  pub guided_all : (p : ℕ) → length rows ≤ p → GuidesTo g rows p → Guides g (rows_of rows)
  guided_all p past all k e m = by (cases_lt k p)
    where
      by : (k < p) ⊎ (p ≤ k) → IsGuided g k e
      by (inl low) = all k e low m
      by (inr high) =
          let long = length-map rows edges_in in
          absurd (subst (IsMember e) (get_or_past (rows_of rows) k [] (omega (arith, past, high, long))) m)

-- ---- edges that are covered

covered_still : (e : Edge) (old new : List Edge)
    → ((f : Edge) → IsMember f old → IsMember f new)
    → IsCovered e old
    → IsCovered e new
covered_still e old new still (f, m, covers) = (f, still f m, covers)

-- ---- one edge

module _ (g : Guide) (p : ℕ) (e : Edge) (old : List Edge) where
  pub kept_dead : is_dead g e.to ≡ true → IsKept g p e old old
  kept_dead dead = record { there = inl dead; still = λ f m. m; from = λ f m. inl m }

  pub kept_covered : IsCovered (flagged g p e) old → IsKept g p e old old
  kept_covered covered = record { there = inr covered; still = λ f m. m; from = λ f m. inl m }

  pub kept_pushed : (new : List Edge) → new ≡ old ++ flagged g p e ∷ [] → IsKept g p e old new
  kept_pushed new is =
      subst (IsKept g p e old) (sym is)
      (record {
        there =
            inr (
              flagged g p e,
              member-append_right (flagged g p e) old (flagged g p e ∷ []) (inl refl),
              record { same_end = refl; accepts = λ b. b; weaker = λ l m. m },
            );
        still = λ f m. member-append_left f old (flagged g p e ∷ []) m;
        from = λ f m. from f (member-append f old (flagged g p e ∷ []) m);
      })
    where
      from : (f : Edge) → IsMember f old ⊎ IsMember f (flagged g p e ∷ []) → IsMember f old ⊎ (f ≡ flagged g p e)
      from f (inl m) = inl m
      from f (inr (inl same)) = inr same
      from f (inr (inr none)) = absurd none

-- ---- all edges of a state

module _ (g : Guide) (p : ℕ) where
  pub kept_none : (old : List Edge) → AreKept g p old old []
  kept_none old = record { there = λ e m. inl m; waits = λ e m. m; from = λ f m. absurd m }

  pub kept_more : (old before left kept new : List Edge) (e : Edge)
      → before ≡ left ++ e ∷ []
      → AreKept g p old before kept
      → IsKept g p e kept new
      → AreKept g p old left new
  kept_more old before left kept new e popped so_far next = record {
    there = λ x m. there x (so_far.there x m);
    waits = λ x m. so_far.waits x (among x (member-append_left x left (e ∷ []) m));
    from = λ f m. from f (next.from f m);
  }
    where
      among : (x : Edge) → IsMember x (left ++ e ∷ []) → IsMember x before
      among x m = subst (IsMember x) (sym popped) m

      now : (x : Edge) → IsMember x left ⊎ IsMember x (e ∷ [])
          → IsMember x left ⊎ ((is_dead g x.to ≡ true) ⊎ IsCovered (flagged g p x) new)
      now x (inl m) = inl m
      now x (inr (inl same)) =
          inr (subst (λ (y : Edge). (is_dead g y.to ≡ true) ⊎ IsCovered (flagged g p y) new) (sym same) next.there)
      now x (inr (inr none)) = absurd none

      there : (x : Edge) → IsMember x before ⊎ ((is_dead g x.to ≡ true) ⊎ IsCovered (flagged g p x) kept)
          → IsMember x left ⊎ ((is_dead g x.to ≡ true) ⊎ IsCovered (flagged g p x) new)
      there x (inl m) = now x (member-append x left (e ∷ []) (subst (IsMember x) popped m))
      there x (inr (inl dead)) = inr (inl dead)
      there x (inr (inr covered)) = inr (inr (covered_still (flagged g p x) kept new next.still covered))

      from : (f : Edge) → IsMember f kept ⊎ (f ≡ flagged g p e) → (x : Edge) × IsMember x old × (f ≡ flagged g p x)
      from f (inl m) = so_far.from f m
      from f (inr same) = (e, so_far.waits e (among e (member-append_right e left (e ∷ []) (inl refl))), same)

  pub row_trimmed : (old sorted new : List Edge)
      → ((e : Edge) → IsMember e sorted ↔ IsMember e old)
      → AreKept g p sorted [] new
      → IsTrimmed g p old new
  row_trimmed old sorted new same kept = record {
    there = λ e m. there e (kept.there e ((same e).1 m));
    back = λ f m. let from = kept.from f m in (from.0, (same from.0).0 from.1, from.2);
  }
    where
      there : (e : Edge) → IsMember e [] ⊎ ((is_dead g e.to ≡ true) ⊎ IsCovered (flagged g p e) new)
          → (is_dead g e.to ≡ true) ⊎ IsCovered (flagged g p e) new
      there e (inl none) = absurd none
      there e (inr so) = so

-- what a program has popped, pushed and sorted
pub popped_edges : (before left : List CubeEdge) (e : CubeEdge)
    → before ≡ left ++ e ∷ []
    → map edge_of before ≡ map edge_of left ++ edge_of e ∷ []
popped_edges before left e is = ap (map edge_of) is ∙ map-append edge_of left (e ∷ [])

pub pushed_edge : (g : Guide) (p : ℕ) (old new : List CubeEdge) (e : CubeEdge) (b : Bool)
    → new ≡ old ++ record { cube = e.cube; to = e.to; accepting = b } ∷ []
    → b ≡ flag_of g p e.to e.accepting
    → map edge_of new ≡ map edge_of old ++ flagged g p (edge_of e) ∷ []
pushed_edge g p old new e b is flag =
    let f : CubeEdge = record { cube = e.cube; to = e.to; accepting = b } in
    ap (map edge_of) is
    ∙ map-append edge_of old (f ∷ [])
    ∙ ap (λ c. map edge_of old ++ record { cube = (e.cube).items; to = e.to; accepting = c } ∷ []) flag

pub sorted_edges : (old new : List CubeEdge)
    → IsPermutation old new
    → (e : Edge) → IsMember e (map edge_of new) ↔ IsMember e (map edge_of old)
sorted_edges old new permuted e = (there, back)
  where
    there : IsMember e (map edge_of new) → IsMember e (map edge_of old)
    there m =
        let i = member-map_from edge_of e new m in
        subst (λ f. IsMember f (map edge_of old)) (sym i.holds)
        (member-map edge_of i.from old ((same_members i.from old new permuted).0 i.member))

    back : IsMember e (map edge_of old) → IsMember e (map edge_of new)
    back m =
        let i = member-map_from edge_of e old m in
        subst (λ f. IsMember f (map edge_of new)) (sym i.holds)
        (member-map edge_of i.from new (permuted-member i.from old new permuted i.member))

-- ---- row by row

module _ (g : Guide) (old : List (Vec CubeEdge)) where
  pub trimmed_none : AreTrimmedTo g 0 old old
  trimmed_none = record { as_long = refl; done = λ k d low. absurd (omega arith); ahead = λ k d low. refl }

  pub trimmed_more : (i : ℕ) (rows : List (Vec CubeEdge)) (x d : Vec CubeEdge)
      → i < length rows
      → AreTrimmedTo g i old rows
      → IsTrimmed g i (edges_in (get_or rows i d)) (edges_in x)
      → ((e : Vec CubeEdge) → get_or rows i e ≡ get_or rows i d)
      → AreTrimmedTo g (i + 1) old (set rows i x)
  trimmed_more i rows x d low r is any = record {
    as_long = length-set rows i x ∙ r.as_long;
    done = λ k e below. done k e below (cases_eq k i);
    ahead = λ k e high. get_or-set_other rows i k x e (λ same. absurd (omega (arith, same, high))) ∙ r.ahead k e (omega (arith, high));
  }
    where
      done : (k : ℕ) (e : Vec CubeEdge) → k < i + 1 → (k ≡ i) ⊎ (k ≡ i → ⊥)
          → IsTrimmed g k (edges_in (get_or old k e)) (edges_in (get_or (set rows i x) k e))
      done k e below (inl same) =
          subst (λ n. IsTrimmed g n (edges_in (get_or old n e)) (edges_in (get_or (set rows i x) n e))) (sym same)
          (subst (λ (row : Vec CubeEdge). IsTrimmed g i (edges_in (get_or old i e)) (edges_in row))
          (sym (get_or-set_same rows i x e low))
          (subst (λ (row : Vec CubeEdge). IsTrimmed g i (edges_in row) (edges_in x)) (sym (any e) ∙ r.ahead i e (omega arith)) is))
      done k e below (inr other) =
          subst (λ (row : Vec CubeEdge). IsTrimmed g k (edges_in (get_or old k e)) (edges_in row))
          (sym (get_or-set_other rows i k x e other))
          (r.done k e (omega (arith, below, other)))

  pub trimmed_all : (i : ℕ) (rows : List (Vec CubeEdge))
      → length rows ≤ i
      → AreTrimmedTo g i old rows
      → AreTrimmed g (rows_of old) (rows_of rows)
  trimmed_all i rows past r = record {
    as_long = length-map rows edges_in ∙ r.as_long ∙ sym (length-map old edges_in);
    trimmed = λ p. by_head p old rows r.as_long (cases_lt p (length rows)) (λ d low. r.done p d (omega (arith, past, low)));
  }
    where
      nothing : (p : ℕ) → IsTrimmed g p [] []
      nothing p = record { there = λ e m. absurd m; back = λ f m. absurd m }

      by_head : (p : ℕ) (xs ys : List (Vec CubeEdge))
          → length ys ≡ length xs
          → (p < length ys) ⊎ (length ys ≤ p)
          → ((d : Vec CubeEdge) → p < length ys → IsTrimmed g p (edges_in (get_or xs p d)) (edges_in (get_or ys p d)))
          → IsTrimmed g p (get_or (rows_of xs) p []) (get_or (rows_of ys) p [])
      by_head p xs [] long (inl low) done = absurd (omega (arith, low))
      by_head p xs (y ∷ ys) long (inl low) done =
          subst (λ es. IsTrimmed g p es (get_or (rows_of (y ∷ ys)) p [])) (sym (get_or-map edges_in xs p y [] (omega (arith, long, low))))
          (subst (λ es. IsTrimmed g p (edges_in (get_or xs p y)) es) (sym (get_or-map edges_in (y ∷ ys) p y [] low)) (done y low))
      by_head p xs ys long (inr high) done =
          let first = length-map xs edges_in in
          let second = length-map ys edges_in in
          subst (λ es. IsTrimmed g p es (get_or (rows_of ys) p [])) (sym (get_or_past (rows_of xs) p [] (omega (arith, first, long, high))))
          (subst (λ es. IsTrimmed g p [] es) (sym (get_or_past (rows_of ys) p [] (omega (arith, second, high)))) (nothing p))
