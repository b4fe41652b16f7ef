-- Rows: a vertex that goes to the last place of a part, and vertices that are gathered there.
--
--   is_vertex, unique    == what stands in front of the end of the row is a vertex; at a place stands one vertex
--   Exchanged            == two lists after an exchange, entry by entry
--   row_exchanged, removed_exchanged == they are a row, and the vertex is removed
--   gathered_less, gathered_more == one vertex more, looked at from the end of the part
--   gather_less, gather_more == the same, over the lists of the program
use Rattle.std.proofs.Common.{ℕ, ◌≡◌, ◌+◌, ◌-◌, ◌<◌, ◌≤◌, ◌⊎◌, inl, inr, ⊎_elim, arith, List, length, get_or, set, subst, sym, ap, ◌∙◌, get_or-set_same, get_or-set_other, length-set}
use Rattle.std.proofs.lemmas.Bool.{cases_eq, cases_lt}
use Rattle.std.proofs.lemmas.List.{get_or_default, get_or_past}
use Rattle.ml_parity.specs.private.SolverSteps.{place_of, IsRow, IsRemoved, IsGathering}

-- what stands in front of some place of the row is a vertex
pub is_vertex : (place : List ℕ) (v n : ℕ) → n ≤ length place → place_of place v < n → v < length place
is_vertex place v n fits low = ⊎_elim (λ (h : v < length place). h)
    (λ (past : length place ≤ v). absurd (omega (arith, get_or_past place v (length place) past)))
    (cases_lt v (length place))

module _ (order place : List ℕ) (row : IsRow order place) where
  -- at a place stands the vertex that the order names there
  pub at_place : (v k : ℕ) → k < length place → place_of place v ≡ k → v ≡ get_or order k 0
  at_place v k low here = sym (row.there v (is_vertex place v (length place) (omega arith) (omega arith)))
      ∙ ap (λ j. get_or order j 0) here

  -- so at a place stands one vertex
  pub unique : (v u : ℕ) → u < length place → place_of place v ≡ place_of place u → v ≡ u
  unique v u low same = at_place v (place_of place u) (row.placed u low) same ∙ row.there u low

-- two lists after an exchange of the vertex u and the one at the last place of the part n, entry by entry
pub record Exchanged (order place order2 place2 : List ℕ) (n u last at : ℕ) : Type 0 where
  pub orders : length order2 ≡ length place
  pub places : length place2 ≡ length place
  pub at_end : get_or order2 (n - 1) 0 ≡ u
  pub at_hole : (at ≡ n - 1 → ⊥) → get_or order2 at 0 ≡ last
  pub order_kept : (k : ℕ) → (k ≡ n - 1 → ⊥) → (k ≡ at → ⊥) → get_or order2 k 0 ≡ get_or order k 0
  pub place_first : place_of place2 u ≡ n - 1
  pub place_last : (last ≡ u → ⊥) → place_of place2 last ≡ at
  pub place_kept : (v : ℕ) → (v ≡ u → ⊥) → (v ≡ last → ⊥) → place_of place2 v ≡ place_of place v

module _ (order place order2 place2 : List ℕ) (n u last at : ℕ) (row : IsRow order place)
    (fits : n ≤ length place) (low : place_of place u < n) (is_last : last ≡ get_or order (n - 1) 0)
    (is_at : at ≡ place_of place u) (e : Exchanged order place order2 place2 n u last at) where
  u_low : u < length place
  u_low = is_vertex place u n fits low

  end_low : n - 1 < length place
  end_low = omega arith

  last_low : last < length place
  last_low = subst (λ v. v < length place) (sym is_last) (row.vertices (n - 1) end_low)

  last_at : place_of place last ≡ n - 1
  last_at = ap (place_of place) is_last ∙ row.back (n - 1) end_low

  -- where the vertex stood last, it is the last one
  same_last : at ≡ n - 1 → last ≡ u
  same_last h = unique order place row last u u_low (last_at ∙ sym h ∙ is_at)

  -- where a vertex stands now: the one that is removed, the last one, or another
  abbrev Moved : ℕ → Type 0
  Moved v = ((v ≡ u) × (place_of place2 v ≡ n - 1))
      ⊎ (((v ≡ u → ⊥) × (v ≡ last) × (place_of place2 v ≡ at))
      ⊎ ((v ≡ u → ⊥) × (v ≡ last → ⊥) × (place_of place2 v ≡ place_of place v)))

  new_place : (v : ℕ) → Moved v
  new_place v = by_case (cases_eq v u) (cases_eq v last)
    where
      by_case : (v ≡ u) ⊎ (v ≡ u → ⊥) → (v ≡ last) ⊎ (v ≡ last → ⊥) → Moved v
      by_case (inl same) t = inl (same, ap (place_of place2) same ∙ e.place_first)
      by_case (inr other) (inl same) =
          inr (inl (other, same, ap (place_of place2) same ∙ e.place_last (λ h. other (same ∙ h))))
      by_case (inr other) (inr neither) = inr (inr (other, neither, e.place_kept v other neither))

  new_back : (k : ℕ) → k < length place → place_of place2 (get_or order2 k 0) ≡ k
  new_back k below = by_case (cases_eq k (n - 1)) (cases_eq k at)
    where
      by_case : (k ≡ n - 1) ⊎ (k ≡ n - 1 → ⊥) → (k ≡ at) ⊎ (k ≡ at → ⊥) → place_of place2 (get_or order2 k 0) ≡ k
      by_case (inl end) t = ap (place_of place2) (ap (λ j. get_or order2 j 0) end ∙ e.at_end) ∙ e.place_first ∙ sym end
      by_case (inr inner) (inl hole) =
          let not_end : at ≡ n - 1 → ⊥ = λ h. inner (hole ∙ h) in
          let not_u : last ≡ u → ⊥ = λ h. not_end (is_at ∙ ap (place_of place) (sym h) ∙ last_at) in
          ap (place_of place2) (ap (λ j. get_or order2 j 0) hole ∙ e.at_hole not_end) ∙ e.place_last not_u ∙ sym hole
      by_case (inr inner) (inr whole) =
          let here = row.back k below in
          let not_u : get_or order k 0 ≡ u → ⊥ = λ h. whole (sym here ∙ ap (place_of place) h ∙ sym is_at) in
          let not_last : get_or order k 0 ≡ last → ⊥ = λ h. inner (sym here ∙ ap (place_of place) h ∙ last_at) in
          ap (place_of place2) (e.order_kept k inner whole) ∙ e.place_kept (get_or order k 0) not_u not_last ∙ here

  new_there : (v : ℕ)
      → v < length place
      → (place_of place2 v < length place) × (get_or order2 (place_of place2 v) 0 ≡ v)
  new_there v below = by_case (new_place v)
    where
      by_case : Moved v
          → (place_of place2 v < length place) × (get_or order2 (place_of place2 v) 0 ≡ v)
      by_case (inl p) = (omega (arith, p.1, end_low), ap (λ j. get_or order2 j 0) p.1 ∙ e.at_end ∙ sym p.0)
      by_case (inr (inl p)) =
          let not_end : at ≡ n - 1 → ⊥ = λ h. p.0 (p.1 ∙ same_last h) in
          (omega (arith, p.2), ap (λ j. get_or order2 j 0) p.2 ∙ e.at_hole not_end ∙ sym p.1)
      by_case (inr (inr p)) =
          let not_end : place_of place v ≡ n - 1 → ⊥ =
          λ h. p.1 (unique order place row v last last_low (h ∙ sym last_at)) in
          let not_at : place_of place v ≡ at → ⊥ = λ h. p.0 (unique order place row v u u_low (h ∙ is_at)) in
          let here = row.placed v below in (
            omega (arith, p.2),
            ap (λ j. get_or order2 j 0) p.2 ∙ e.order_kept (place_of place v) not_end not_at ∙ row.there v below,
          )

  -- the two lists are a row
  pub row_exchanged : IsRow order2 place2
  row_exchanged = record {
    size = e.orders ∙ sym e.places;
    vertices = λ k below. vertices k (omega (arith, e.places));
    back = λ k below. new_back k (omega (arith, e.places));
    placed = λ v below. omega (arith, e.places, (new_there v (omega (arith, e.places))).0);
    there = λ v below. (new_there v (omega (arith, e.places))).1;
  }
    where
      vertices : (k : ℕ) → k < length place → get_or order2 k 0 < length place2
      vertices k below = is_vertex place2 (get_or order2 k 0) (length place) (omega (arith, e.places))
          (omega (arith, new_back k below))

  -- and the vertex is removed
  pub removed_exchanged : IsRemoved (place_of place) (place_of place2) n u
  removed_exchanged = record {
    low = low;
    here = omega (arith, e.place_first);
    behind = λ v far. behind v far (new_place v);
    kept = λ v other inside. kept v other inside (new_place v);
    early = λ v before. early v before (new_place v);
    late = λ v after. late v after (new_place v);
  }
    where
      behind : (v : ℕ) → n ≤ place_of place v → Moved v → place_of place2 v ≡ place_of place v
      behind v far (inl p) = absurd (omega (arith, ap (place_of place) p.0))
      behind v far (inr (inl p)) = absurd (omega (arith, ap (place_of place) p.1, last_at))
      behind v far (inr (inr p)) = p.2

      kept : (v : ℕ) → (v ≡ u → ⊥) → place_of place v < n → Moved v → place_of place2 v + 1 < n
      kept v other inside (inl p) = absurd (other p.0)
      kept v other inside (inr (inl p)) =
          let not_end : at ≡ n - 1 → ⊥ = λ h. other (p.1 ∙ same_last h) in
          let inner : (at < n - 1) ⊎ (n - 1 ≤ at) = cases_lt at (n - 1) in
          ⊎_elim (λ (h : at < n - 1). omega (arith, p.2)) (λ (h : n - 1 ≤ at). absurd (not_end (omega (arith, is_at))))
          inner
      kept v other inside (inr (inr p)) =
          let not_end : place_of place v ≡ n - 1 → ⊥ =
          λ h. p.1 (unique order place row v last last_low (h ∙ sym last_at)) in
          ⊎_elim (λ (h : place_of place v < n - 1). omega (arith, p.2))
          (λ (h : n - 1 ≤ place_of place v). absurd (not_end (omega arith))) (cases_lt (place_of place v) (n - 1))

      early : (v : ℕ) → place_of place v < place_of place u → Moved v → place_of place2 v ≡ place_of place v
      early v before (inl p) = absurd (omega (arith, ap (place_of place) p.0))
      early v before (inr (inl p)) = absurd (omega (arith, ap (place_of place) p.1, last_at))
      early v before (inr (inr p)) = p.2

      late : (v : ℕ) → place_of place u ≤ place_of place v → Moved v → place_of place u ≤ place_of place2 v
      late v after (inl p) = omega (arith, p.1)
      late v after (inr (inl p)) = omega (arith, p.2, is_at)
      late v after (inr (inr p)) = omega (arith, p.2)

-- the entries after the four writes of the exchange
pub exchanged : (order place : List ℕ) (n u last at : ℕ) → IsRow order place → n ≤ length place → place_of place u < n
    → last ≡ get_or order (n - 1) 0 → at ≡ place_of place u
    → Exchanged order place (set (set order at last) (n - 1) u) (set (set place last at) u (n - 1)) n u last at
exchanged order place n u last at row fits low is_last is_at = record {
  orders = order_length ∙ row.size;
  places = place_length;
  at_end = get_or-set_same (set order at last) (n - 1) u 0 (omega (arith, length-set order at last, row.size));
  at_hole = λ inner. get_or-set_other (set order at last) (n - 1) at u 0 inner
      ∙ get_or-set_same order at last 0 (omega (arith, row.size));
  order_kept = λ k inner whole. get_or-set_other (set order at last) (n - 1) k u 0 inner
      ∙ get_or-set_other order at k last 0 whole;
  place_first = get_or-set_same (set place last at) u (n - 1) _
      (omega (arith, length-set place last at, is_vertex place u n fits low));
  place_last = λ other. get_or-set_other (set place last at) u last (n - 1) _ other
      ∙ get_or-set_same place last at _ last_low;
  place_kept = λ v other neither. get_or-set_other (set place last at) u v (n - 1) _ other
      ∙ get_or-set_other place last v at _ neither ∙ ap (get_or place v) place_length;
}
  where
    order_length : length (set (set order at last) (n - 1) u) ≡ length order
    order_length = length-set (set order at last) (n - 1) u ∙ length-set order at last

    place_length : length (set (set place last at) u (n - 1)) ≡ length place
    place_length = length-set (set place last at) u (n - 1) ∙ length-set place last at

    last_low : last < length place
    last_low = subst (λ v. v < length place) (sym is_last) (row.vertices (n - 1) (omega arith))

-- ---- gathering

module _ (place place2 : ℕ → ℕ) (n rest k u : ℕ) (P : ℕ → Type 0) (before : IsGathering place place2 n rest (k + 1) P)
    (here : place2 u ≡ k) (one : (v : ℕ) → place2 v ≡ place2 u → v ≡ u) where
  -- one more that does not have P
  pub gathered_less : (P u → ⊥) → IsGathering place place2 n rest k P
  gathered_less fails = record {
    fits = before.fits;
    reached = omega (arith, before.reached);
    behind = before.behind;
    inside = before.inside;
    passes = before.passes;
    fails = λ v far low holds. by_place v low holds (cases_lt k (place2 v)) far;
  }
    where
      by_place : (v : ℕ) → place2 v < rest → P v → (k < place2 v) ⊎ (place2 v ≤ k) → k ≤ place2 v → ⊥
      by_place v low holds (inl later) far = before.fails v (omega arith) low holds
      by_place v low holds (inr same) far = fails (subst P (one v (omega arith)) holds)

  -- one more that has it, and is removed
  pub gathered_more : (place3 : ℕ → ℕ) (rest2 : ℕ) → P u → IsRemoved place2 place3 rest u → rest2 + 1 ≡ rest
      → IsGathering place place3 n rest2 k P
  gathered_more place3 rest2 holds removed less = record {
    fits = omega (arith, before.fits);
    reached = omega (arith, before.reached);
    behind = λ v far. let same = before.behind v far in removed.behind v (omega (arith, before.fits)) ∙ same;
    inside = λ v low. inside v (before.inside v low) (cases_eq v u) (cases_lt (place2 v) rest);
    passes = λ v far low. passes v far low (cases_eq v u) (cases_lt (place2 v) rest);
    fails = λ v far low. fails v far low (cases_eq v u) (cases_lt (place2 v) rest) (cases_lt (place2 v) k);
  }
    where
      at_u : (v : ℕ) → v ≡ u → place3 v + 1 ≡ rest
      at_u v same = ap (λ x. place3 x + 1) same ∙ removed.here

      inside : (v : ℕ) → place2 v < n → (v ≡ u) ⊎ (v ≡ u → ⊥) → (place2 v < rest) ⊎ (rest ≤ place2 v) → place3 v < n
      inside v low (inl same) t = omega (arith, at_u v same, before.fits)
      inside v low (inr other) (inl early) = omega (arith, removed.kept v other early, before.fits)
      inside v low (inr other) (inr late) = omega (arith, removed.behind v late)

      passes : (v : ℕ)
          → rest2 ≤ place3 v
          → place3 v < n
          → (v ≡ u) ⊎ (v ≡ u → ⊥)
          → (place2 v < rest) ⊎ (rest ≤ place2 v)
          → P v
      passes v far low (inl same) t = subst P (sym same) holds
      passes v far low (inr other) (inl early) = absurd (omega (arith, removed.kept v other early))
      passes v far low (inr other) (inr late) = before.passes v late (omega (arith, removed.behind v late))

      fails : (v : ℕ) → k ≤ place3 v → place3 v < rest2 → (v ≡ u) ⊎ (v ≡ u → ⊥) → (place2 v < rest) ⊎ (rest ≤ place2 v)
          → (place2 v < k) ⊎ (k ≤ place2 v) → P v → ⊥
      fails v far low (inl same) t w has = omega (arith, at_u v same)
      fails v far low (inr other) (inr late) w has = omega (arith, removed.behind v late)
      fails v far low (inr other) (inl early) (inl front) has = omega (arith, removed.early v (omega arith))
      fails v far low (inr other) (inl early) (inr from) has = by_place (cases_lt k (place2 v))
        where
          by_place : (k < place2 v) ⊎ (place2 v ≤ k) → ⊥
          by_place (inl later) = before.fails v (omega arith) early has
          by_place (inr same) = other (one v (omega arith))

-- the same, over the lists of the program: the vertex in front of `at` is looked at
module _ (order place : List ℕ) (row : IsRow order place) (place0 : ℕ → ℕ) (n rest at u : ℕ) (P : ℕ → Type 0)
    (before : IsGathering place0 (place_of place) n rest at P) (some : 0 < at) (fits : n ≤ length place)
    (is : u ≡ get_or order (at - 1) u) where
  at_low : at - 1 < length place
  at_low = omega (arith, before.reached, before.fits)

  is_there : u ≡ get_or order (at - 1) 0
  is_there = is ∙ get_or_default order (at - 1) u 0 (omega (arith, at_low, row.size))

  here : place_of place u ≡ at - 1
  here = ap (place_of place) is_there ∙ row.back (at - 1) at_low

  one : (v : ℕ) → place_of place v ≡ place_of place u → v ≡ u
  one v same = unique order place row v u (is_vertex place u (length place) (omega arith) (omega (arith, here, at_low)))
      same

  before_as : IsGathering place0 (place_of place) n rest (at - 1 + 1) P
  before_as = let e : at ≡ at - 1 + 1 = omega arith in
      subst (λ a. IsGathering place0 (place_of place) n rest a P) e before

  pub gather_less : (P u → ⊥) → IsGathering place0 (place_of place) n rest (at - 1) P
  gather_less fails = gathered_less place0 (place_of place) n rest (at - 1) u P before_as here one fails

  pub gather_more : (place3 : ℕ → ℕ) (rest2 : ℕ) → P u → IsRemoved (place_of place) place3 rest u → rest2 + 1 ≡ rest
      → IsGathering place0 place3 n rest2 (at - 1) P
  gather_more place3 rest2 holds removed less =
      gathered_more place0 (place_of place) n rest (at - 1) u P before_as here one place3 rest2 holds removed less
