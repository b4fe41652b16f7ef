-- Rows of numbers as the program holds them, and what is said of them as heights.
--
--   ArcRows        == two vectors are the rows of the ends of an arc, and long enough for its priority
--   arc_same, arc_here, arc_member, arc_among, arcs_length == the arc that the program reads is that of the graph
--   arc_rows, arc_read == what the program reads at the ends of an arc
--   falls-to, falls-from == the heights fall along an arc exactly if they fall from the one row to the other
--   falls_more     == one arc more along which they fall
--   row_more, no_shape_by_row == when the rows have the right shape
use Rattle.std.proofs.Common.{ℕ, ◌≡◌, ◌+◌, ◌*◌, ◌/◌, ◌%◌, ◌<◌, ◌≤◌, ◌⊎◌, inl, inr, arith, List, [], length, get_or, subst, subst₂, sym, ap, ◌∙◌, Contains, vec_len}
use Rattle.std.proofs.lemmas.Bool.{cases_eq}
use Rattle.std.proofs.lemmas.List.{get_or_default, length-map}
use Rattle.std.specs.Global.{Vec}
use Rattle.ml_parity.specs.declared.one_sided.graph.Arc.{Arc}
use Rattle.ml_parity.specs.Heights.{FallsAlong}
use Rattle.ml_parity.specs.OneSided.{OneSidedGraph, IsOneSided, HasShape}
use Rattle.ml_parity.specs.HeightLists.{RowsFall}
use Rattle.ml_parity.specs.Refusal.{lists_of}
use Rattle.ml_parity.proofs.Refusals.{lists_of-at}

-- xs and ys are the rows of the ends of the arc a, and have a number for its priority
pub record ArcRows (rows : List (List ℕ)) (a : Arc) (xs ys : List ℕ) : Type 0 where
  pub begins : xs ≡ get_or rows a.from []
  pub ends : ys ≡ get_or rows a.to []
  pub from_long : a.priority / 2 < length xs
  pub to_long : a.priority / 2 < length ys

-- half of a number of at most an even one
half_low : (q t : ℕ) → t % 2 ≡ 0 → q ≤ t → q / 2 < t / 2 + 1
half_low q t even low = omega arith

-- the row of a vertex
row_of : (g : OneSidedGraph) (rows : List (Vec ℕ)) → HasShape g (lists_of rows) → (v : ℕ) → v < g.size → (m : Vec ℕ)
    (xs : List ℕ) → m ≡ get_or rows v m → xs ≡ m.items → xs ≡ get_or (lists_of rows) v []
row_of g rows shape v low m xs read same =
    let inside : v < length rows = omega (arith, low, shape.vertices, length-map rows (λ (x : Vec ℕ). x.items)) in
    same ∙ sym (lists_of-at rows v m inside read)

-- the arc that the program reads is that of the graph
pub arc_same : (h g : OneSidedGraph) → h ≡ g → (arcs : List Arc) → arcs ≡ h.arcs → (i : ℕ) (d : Arc)
    → get_or g.arcs i d ≡ get_or arcs i d
arc_same h g view arcs value i d = sym (ap (λ (xs : List Arc). get_or xs i d)
    (value ∙ ap (λ (k : OneSidedGraph). k.arcs) view))

-- whatever stands in for what lies past the end
pub arc_here : (h g : OneSidedGraph) → h ≡ g → (arcs : List Arc) → arcs ≡ h.arcs → (i : ℕ) (e : Arc) → i < length arcs
    → (d : Arc) → get_or g.arcs i d ≡ get_or arcs i e
arc_here h g view arcs value i e low d = arc_same h g view arcs value i d ∙ get_or_default arcs i d e low

-- there are as many
pub arcs_length : (h g : OneSidedGraph) → h ≡ g → (arcs : List Arc) → arcs ≡ h.arcs → length arcs ≡ length g.arcs
arcs_length h g view arcs value = ap length value ∙ ap (λ (k : OneSidedGraph). length k.arcs) view

-- and it is an arc of the graph
pub arc_member : (h g : OneSidedGraph) → h ≡ g → (arcs : List Arc) → arcs ≡ h.arcs → (i : ℕ) (e : Arc) → i < length arcs
    → Contains g.arcs (get_or arcs i e)
arc_member h g view arcs value i e low = (
  i,
  subst (λ (n : ℕ). i < n) (arcs_length h g view arcs value) low,
  arc_here h g view arcs value i e low (get_or arcs i e),
)

-- an arc that the program reads by its number
pub arc_among : (h g : OneSidedGraph) → h ≡ g → (k : ℕ) (a : Arc) → k < length h.arcs → a ≡ get_or h.arcs k a
    → Contains g.arcs a
arc_among h g view k a low read = subst (λ (m : OneSidedGraph). Contains m.arcs a) view (k, low, sym read)

-- what the program reads at the ends of an arc
pub arc_rows : (g : OneSidedGraph) (rows : List (Vec ℕ))
    → IsOneSided g
    → HasShape g (lists_of rows)
    → (i : ℕ) (d a : Arc)
    → i < length g.arcs → get_or g.arcs i d ≡ a
    → (m n : Vec ℕ) (xs ys : List ℕ) → m ≡ get_or rows a.from m → n ≡ get_or rows a.to n → xs ≡ m.items → ys ≡ n.items
    → ArcRows (lists_of rows) a xs ys
arc_rows g rows one shape i d a low is m n xs ys read_from read_to same_from same_to =
    let begins : a.from < g.size = subst (λ (b : Arc). b.from < g.size) is (one.begins i d low) in
    let ends : a.to < g.size = subst (λ (b : Arc). b.to < g.size) is (one.ends i d low) in
    let level : a.priority ≤ g.top = subst (λ (b : Arc). b.priority ≤ g.top) is (one.priorities i d low) in
    let half = half_low a.priority g.top one.even level in
    let from_row = row_of g rows shape a.from begins m xs read_from same_from in
    let to_row = row_of g rows shape a.to ends n ys read_to same_to in
    record {
      begins = from_row;
      ends = to_row;
      from_long = omega (arith, half, ap length from_row, shape.numbers a.from begins);
      to_long = omega (arith, half, ap length to_row, shape.numbers a.to ends);
    }

-- the same, said of the fields of the graph that the program reads
pub arc_read : (h g : OneSidedGraph) (rows : List (Vec ℕ)) → h ≡ g → IsOneSided h → HasShape g (lists_of rows)
    → (arcs : List Arc) → arcs ≡ h.arcs → (i : ℕ) (d : Arc) → i < length arcs
    → (m n : Vec ℕ) (xs ys : List ℕ) → m ≡ get_or rows (get_or arcs i d).from m → n ≡ get_or rows (get_or arcs i d).to n
    → xs ≡ m.items → ys ≡ n.items → ArcRows (lists_of rows) (get_or arcs i d) xs ys
arc_read h g rows view one shape arcs value i d low m n xs ys =
    let here : length arcs ≡ length g.arcs = ap length value ∙ ap (λ (k : OneSidedGraph). length k.arcs) view in
    arc_rows g rows (subst IsOneSided view one) shape i d (get_or arcs i d) (omega arith)
    (arc_same h g view arcs value i d) m n xs ys

-- if they fall from row to row, the heights fall along the arc
pub falls-from : (rows : List (List ℕ)) (a : Arc) (xs ys : List ℕ) → ArcRows rows a xs ys
    → RowsFall a.priority xs ys → FallsAlong rows a
falls-from rows a xs ys r f = record {
  stays = λ p even low. subst₂ (λ (fs ts : List ℕ). get_or ts (p / 2) 0 ≤ get_or fs (p / 2) 0) r.begins r.ends
      (f.stays (p / 2) (omega arith));
  falls = λ even. subst₂ (λ (fs ts : List ℕ). get_or ts (a.priority / 2) 0 < get_or fs (a.priority / 2) 0) r.begins
      r.ends (f.falls even);
}

-- where heights fall along an arc, no number of a row below its priority grows
pub rows_stay : (rows : List (List ℕ)) (a : Arc) → FallsAlong rows a → (k : ℕ) → k ≤ a.priority / 2
    → get_or (get_or rows a.to []) k 0 ≤ get_or (get_or rows a.from []) k 0
rows_stay rows a f k low =
    let e : 2 * k / 2 ≡ k = omega arith in
    subst (λ (i : ℕ). get_or (get_or rows a.to []) i 0 ≤ get_or (get_or rows a.from []) i 0) e
    (f.stays (2 * k) (omega arith) (omega arith))

-- and only then
pub falls-to : (rows : List (List ℕ)) (a : Arc) (xs ys : List ℕ) → ArcRows rows a xs ys
    → FallsAlong rows a → RowsFall a.priority xs ys
falls-to rows a xs ys r f = record {
  stays = λ k low. subst₂ (λ (fs ts : List ℕ). get_or ts k 0 ≤ get_or fs k 0) (sym r.begins) (sym r.ends) (rows_stay rows a f k low);
  falls = λ even. subst₂ (λ (fs ts : List ℕ). get_or ts (a.priority / 2) 0 < get_or fs (a.priority / 2) 0)
      (sym r.begins) (sym r.ends) (f.falls even);
}

-- one arc more along which they fall
pub falls_more : (rows : List (List ℕ)) (arcs : List Arc) (i : ℕ) (e a : Arc) → i < length arcs → get_or arcs i e ≡ a
    → ((k : ℕ) (d : Arc) → k < i → FallsAlong rows (get_or arcs k d)) → FallsAlong rows a
    → (k : ℕ) (d : Arc) → k < i + 1 → FallsAlong rows (get_or arcs k d)
falls_more rows arcs i e a low is old last k d below = by_case (cases_eq k i)
  where
    by_case : (k ≡ i) ⊎ (k ≡ i → ⊥) → FallsAlong rows (get_or arcs k d)
    by_case (inl same) =
        subst (FallsAlong rows) (sym is ∙ get_or_default arcs i e d low ∙ ap (λ (j : ℕ). get_or arcs j d) (sym same))
        last
    by_case (inr other) = old k d (omega arith)

-- ---- the shape

-- the row at v is this one
read_length : (rows : List (Vec ℕ)) (v : ℕ) (m : Vec ℕ) → v < length rows → m ≡ get_or rows v m
    → length (get_or (lists_of rows) v []) ≡ vec_len m
read_length rows v m low read = ap length (lists_of-at rows v m low read) ∙ sym m.ok.0

-- one row more of the right length
pub row_more : (rows : List (Vec ℕ)) (n i : ℕ) (m : Vec ℕ) → i < length rows → m ≡ get_or rows i m → vec_len m ≡ n
    → ((v : ℕ) → v < i → length (get_or (lists_of rows) v []) ≡ n)
    → (v : ℕ) → v < i + 1 → length (get_or (lists_of rows) v []) ≡ n
row_more rows n i m low read long old v below = by_case (cases_eq v i)
  where
    by_case : (v ≡ i) ⊎ (v ≡ i → ⊥) → length (get_or (lists_of rows) v []) ≡ n
    by_case (inl same) = ap (λ (j : ℕ). length (get_or (lists_of rows) j [])) same ∙ read_length rows i m low read
        ∙ long
    by_case (inr other) = old v (omega arith)

-- a row of another length
pub no_shape_by_row : (g : OneSidedGraph) (rows : List (Vec ℕ)) (i : ℕ) (m : Vec ℕ) → i < length rows
    → m ≡ get_or rows i m → (vec_len m ≡ g.top / 2 + 1 → ⊥) → HasShape g (lists_of rows) → ⊥
no_shape_by_row g rows i m low read other shape =
    other (sym (read_length rows i m low read)
    ∙ shape.numbers i (omega (arith, low, shape.vertices, length-map rows (λ (x : Vec ℕ). x.items))))
