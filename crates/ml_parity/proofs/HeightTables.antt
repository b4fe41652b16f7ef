-- Rows that grow by a column, and what they are in the end.
--
--   all_empty       == rows without a number
--   appended_more   == one row more has grown
--   longest_none, longest_more == rows with no number, and with one more, each the largest
--   longest_turn    == one number more, as the program adds it
--   longest_done    == rows with all numbers
--   longest_heights == the largest counts are heights
--   heights_refuse  == where there are heights there is no even cycle
--   longest_low     == the largest counts are at most the number of vertices
use Rattle.std.proofs.Common.{ℕ, ◌≡◌, ◌+◌, ◌*◌, ◌/◌, ◌%◌, ◌<◌, ◌≤◌, ◌⊎◌, inl, inr, arith, List, [], ◌∷◌, ◌++◌, length, get_or, set, subst}
use Rattle.std.proofs.Common.{subst₂, sym, ap, ◌∙◌, refl, All, Contains, length-set, get_or-set_same, get_or-set_other, take}
use Rattle.std.proofs.lemmas.Bool.{cases_eq, cases_lt}
use Rattle.std.proofs.lemmas.List.{get_or_default, get_or_past, get_or-map, length-map, length-append, get_or_append_left, get_or_push, map-set}
use Rattle.std.specs.Global.{Vec}
use Rattle.ml_parity.specs.declared.one_sided.graph.Arc.{Arc}
use Rattle.ml_parity.specs.Heights.{FallsAlong, height_of}
use Rattle.ml_parity.specs.OneSided.{OneSidedGraph, IsOneSided, count_at, Attained, IsMost, IsEvenCycle, AreHeights, AreLongest, AtMost}
use Rattle.ml_parity.specs.private.HeightSteps.{Settled, SettledAlong, LoopAt, IsColumn, AreLongestBelow, IsAppended}
use Rattle.ml_parity.specs.Refusal.{lists_of}
use Rattle.ml_parity.proofs.HeightRaises.{written}
use Rattle.ml_parity.proofs.HeightWalks.{attained_loop, attained_more, settled_no_cycle, even_cycle_of, counts-one, counts-none}

-- rows without a number
pub all_empty : (rows : List (Vec ℕ))
    → All (λ (r : Vec ℕ). r.items ≡ []) rows
    → (v : ℕ)
    → get_or (lists_of rows) v [] ≡ []
all_empty rows empty v = by_case (cases_lt v (length rows))
  where
    by_case : (v < length rows) ⊎ (length rows ≤ v) → get_or (lists_of rows) v [] ≡ []
    by_case (inl low) = first rows empty low
      where
        first : (xs : List (Vec ℕ))
            → All (λ (r : Vec ℕ). r.items ≡ []) xs
            → v < length xs
            → get_or (lists_of xs) v [] ≡ []
        first [] every low = refl
        first (x ∷ xs) every low = get_or-map (λ (r : Vec ℕ). r.items) (x ∷ xs) v x [] low ∙ every v x low
    by_case (inr past) = get_or_past (lists_of rows) v [] (omega (arith, length-map rows (λ (r : Vec ℕ). r.items)))

-- one row more has grown
pub appended_more : (old : List (List ℕ)) (column : List ℕ) (i : ℕ) (rows : List (Vec ℕ)) (m n : Vec ℕ)
    → i < length rows → n.items ≡ (get_or rows i m).items ++ get_or column i 0 ∷ []
    → IsAppended old column i (lists_of rows) → IsAppended old column (i + 1) (lists_of (set rows i n))
appended_more old column i rows m n low grown so = record {
  size = ap length written ∙ length-set (lists_of rows) i n.items ∙ so.size;
  longer = λ v below. longer v below (cases_eq v i);
  later = λ v above. elsewhere v (omega arith) ∙ so.later v (omega arith);
}
  where
    written : lists_of (set rows i n) ≡ set (lists_of rows) i n.items
    written = map-set (λ (r : Vec ℕ). r.items) rows i n

    elsewhere : (v : ℕ) → (v ≡ i → ⊥) → get_or (lists_of (set rows i n)) v [] ≡ get_or (lists_of rows) v []
    elsewhere v other =
        ap (λ (xs : List (List ℕ)). get_or xs v []) written ∙ get_or-set_other (lists_of rows) i v n.items [] other

    here : get_or (lists_of (set rows i n)) i [] ≡ n.items
    here =
        ap (λ (xs : List (List ℕ)). get_or xs i []) written
        ∙ get_or-set_same (lists_of rows) i n.items [] (omega (arith, length-map rows (λ (r : Vec ℕ). r.items)))

    before : (get_or rows i m).items ≡ get_or old i []
    before = sym (get_or-map (λ (r : Vec ℕ). r.items) rows i m [] low) ∙ so.later i (omega arith)

    longer : (v : ℕ) → v < i + 1 → (v ≡ i) ⊎ (v ≡ i → ⊥)
        → get_or (lists_of (set rows i n)) v [] ≡ get_or old v [] ++ get_or column v 0 ∷ []
    longer v below (inl same) =
        subst (λ (k : ℕ). get_or (lists_of (set rows i n)) k [] ≡ get_or old k [] ++ get_or column k 0 ∷ []) (sym same)
        (here ∙ grown ∙ ap (λ (xs : List ℕ). xs ++ get_or column i 0 ∷ []) before)
    longer v below (inr other) = elsewhere v other ∙ so.longer v (omega arith)

-- ---- rows of largest counts

-- no number yet
pub longest_none : (g : OneSidedGraph) (rows : List (List ℕ)) → length rows ≡ g.size → ((v : ℕ) → get_or rows v [] ≡ [])
    → AreLongestBelow g 0 rows
longest_none g rows size empty = record {
  vertices = size;
  numbers = λ v low. ap length (empty v);
  most = λ k v none low. absurd (omega arith);
}

-- one number more
pub longest_more : (g : OneSidedGraph) (n : ℕ) (old new : List (List ℕ)) (column : List ℕ) → AreLongestBelow g n old
    → IsColumn g (2 * n) column → IsAppended old column g.size new → AreLongestBelow g (n + 1) new
longest_more g n old new column so c a = record {
  vertices = a.size ∙ so.vertices;
  numbers = λ v low. ap length (a.longer v low) ∙ length-append (get_or old v []) (get_or column v 0 ∷ [])
      ∙ ap (λ (k : ℕ). k + 1) (so.numbers v low);
  most = λ k v below low. most k v below low (cases_eq k n);
}
  where
    most : (k v : ℕ)
        → k < n + 1
        → v < g.size
        → (k ≡ n) ⊎ (k ≡ n → ⊥)
        → IsMost g (2 * k) v (get_or (get_or new v []) k 0)
    most k v below low (inl same) =
        let long = so.numbers v low in
        let here : get_or (get_or new v []) k 0 ≡ get_or column v 0 =
        ap (λ (xs : List ℕ). get_or xs k 0) (a.longer v low)
        ∙ get_or_push (get_or old v []) (get_or column v 0) 0 k (omega arith) in
        subst₂ (λ (j m : ℕ). IsMost g (2 * j) v m) (sym same) (sym here) (c.most v low)
    most k v below low (inr other) =
        let long = so.numbers v low in
        let here : get_or (get_or new v []) k 0 ≡ get_or (get_or old v []) k 0 =
        ap (λ (xs : List ℕ). get_or xs k 0) (a.longer v low)
        ∙ get_or_append_left (get_or old v []) (get_or column v 0 ∷ []) 0 k (omega arith) in
        subst (IsMost g (2 * k) v) (sym here) (so.most k v (omega arith) low)

-- one number more, as the program adds it through a slice
pub longest_turn : (g : OneSidedGraph) (n k : ℕ) (rows slice new ys : List (Vec ℕ)) (items column : List ℕ)
    → k ≡ length rows → slice ≡ rows → column ≡ items → AreLongestBelow g n (lists_of rows) → IsColumn g (2 * n) items
    → IsAppended (lists_of slice) column (length column) (lists_of new)
    → AreLongestBelow g (n + 1) (lists_of (take k (new ++ ys)))
longest_turn g n k rows slice new ys items column count same_rows same_column so c a =
    let old : AreLongestBelow g n (lists_of slice) =
    subst (λ (xs : List (Vec ℕ)). AreLongestBelow g n (lists_of xs)) (sym same_rows) so in
    let grown : IsAppended (lists_of slice) column g.size (lists_of new) =
    subst (λ (m : ℕ). IsAppended (lists_of slice) column m (lists_of new)) (ap length same_column ∙ c.size) a in
    let long : k ≡ length new = count ∙ sym (ap length same_rows) ∙ sym (length-map slice (λ (r : Vec ℕ). r.items))
    ∙ sym a.size ∙ length-map new (λ (r : Vec ℕ). r.items) in
    subst (λ (xs : List (Vec ℕ)). AreLongestBelow g (n + 1) (lists_of xs)) (sym (written k new ys long))
    (longest_more g n (lists_of slice) (lists_of new) column old (subst (IsColumn g (2 * n)) (sym same_column) c) grown)

-- all numbers
pub longest_done : (g : OneSidedGraph) (n : ℕ) (rows : List (List ℕ)) → n ≡ g.top / 2 + 1 → AreLongestBelow g n rows
    → AreLongest g rows
longest_done g n rows count so = record {
  shape = record { vertices = so.vertices; numbers = λ v low. so.numbers v low ∙ count };
  most = λ p v even level low.
      let e : 2 * (p / 2) ≡ p = omega arith in
      subst (λ (q : ℕ). IsMost g q v (get_or (get_or rows v []) (p / 2) 0)) e (so.most (p / 2) v (omega arith) low);
}

-- ---- what the largest counts are

-- they don't rise along an arc, and fall by what it counts
settled : (g : OneSidedGraph) (rows : List (List ℕ))
    → IsOneSided g
    → AreLongest g rows
    → (p : ℕ)
    → p % 2 ≡ 0
    → p ≤ g.top
    → Settled g p (height_of rows p)
settled g rows one l p even level i d low =
    by_arc (get_or g.arcs i d) (i, low, get_or_default g.arcs i (get_or g.arcs i d) d low) (one.begins i d low)
    (one.ends i d low)
  where
    counted : (a : Arc)
        → IsMost g p a.from (height_of rows p a.from)
        → Attained g p a.from (count_at p (a ∷ []) + height_of rows p a.to)
        → count_at p (a ∷ []) + height_of rows p a.to ≤ height_of rows p a.from
    counted a m at = omega (arith, m.largest at.arcs at.end at.walk, at.counts)

    by_arc : (a : Arc) → Contains g.arcs a → a.from < g.size → a.to < g.size → SettledAlong p (height_of rows p) a
    by_arc a member begins ends high =
        counted a (l.most p a.from even level begins)
        (attained_more g p (height_of rows p a.to) a member high (l.most p a.to even level ends).attained)

-- numbers that don't rise along an arc, and fall by what it counts, fall along it
falls_of : (g : OneSidedGraph) (rows : List (List ℕ)) (a : Arc) → a.priority ≤ g.top
    → ((p : ℕ) → p % 2 ≡ 0 → p ≤ g.top → SettledAlong p (height_of rows p) a) → FallsAlong rows a
falls_of g rows a level s = record {
  stays = λ p even low. omega (arith, s p even (omega arith) low);
  falls = λ even. omega (arith, s a.priority even level (omega arith), counts-one a.priority a [] refl);
}

-- the largest counts are heights
pub longest_heights : (g : OneSidedGraph) (rows : List (List ℕ)) → IsOneSided g → AreLongest g rows → AreHeights g rows
longest_heights g rows one l = record {
  shape = l.shape;
  along = λ i d low. falls_of g rows (get_or g.arcs i d) (one.priorities i d low)
      (λ p even level. settled g rows one l p even level i d low);
}

-- heights don't rise along an arc, and fall by what it counts
settled_of : (rows : List (List ℕ)) (p : ℕ) (a : Arc)
    → p % 2 ≡ 0
    → FallsAlong rows a
    → SettledAlong p (height_of rows p) a
settled_of rows p a even f high = by_case (cases_eq a.priority p)
  where
    by_case : (a.priority ≡ p) ⊎ (a.priority ≡ p → ⊥)
        → count_at p (a ∷ []) + height_of rows p a.to ≤ height_of rows p a.from
    by_case (inl same) =
        let falls = subst (λ (q : ℕ). height_of rows q a.to < height_of rows q a.from) same
        (f.falls (subst (λ (q : ℕ). q % 2 ≡ 0) (sym same) even)) in
        omega (arith, counts-one p a [] same, falls)
    by_case (inr other) = omega (arith, counts-none p a [] other, f.stays p even high)

-- where there are heights there is no even cycle
pub heights_refuse : (g : OneSidedGraph) (rows : List (List ℕ))
    → AreHeights g rows
    → (xs : List Arc)
    → IsEvenCycle g xs
    → ⊥
heights_refuse g rows h xs c =
    settled_no_cycle g (height_of rows c.lowest) xs c
    (λ i d low. settled_of rows c.lowest (get_or g.arcs i d) c.even (h.along i d low))

-- a loop at an even priority refuses heights
no_loop : (g : OneSidedGraph) (rows : List (List ℕ)) → AreHeights g rows → (p : ℕ) → p % 2 ≡ 0 → LoopAt g p → ⊥
no_loop g rows h p even l = heights_refuse g rows h (l.arc ∷ l.back)
    (even_cycle_of g p l.arc l.back even l.member l.level l.leads)

-- the largest counts are at most the number of vertices
pub longest_low : (g : OneSidedGraph) (rows : List (List ℕ)) → IsOneSided g → AreLongest g rows → AtMost g.size rows
longest_low g rows one l p v = by_place (cases_lt v g.size) (cases_lt (p / 2) (g.top / 2 + 1))
  where
    low_at : (q : ℕ) → q % 2 ≡ 0 → q ≤ g.top → v < g.size → height_of rows q v ≤ g.size
    low_at q even level low = by_size (cases_lt g.size (height_of rows q v))
      where
        by_size : (g.size < height_of rows q v) ⊎ (height_of rows q v ≤ g.size) → height_of rows q v ≤ g.size
        by_size (inl more) = absurd (no_loop g rows (longest_heights g rows one l) q even
            (attained_loop g one q v (height_of rows q v) (l.most q v even level low).attained more))
        by_size (inr fits) = fits

    by_place : (v < g.size) ⊎ (g.size ≤ v)
        → (p / 2 < g.top / 2 + 1) ⊎ (g.top / 2 + 1 ≤ p / 2)
        → height_of rows p v ≤ g.size
    by_place (inl low) (inl level) =
        let e : 2 * (p / 2) / 2 ≡ p / 2 = omega arith in
        subst (λ (k : ℕ). get_or (get_or rows v []) k 0 ≤ g.size) e
        (low_at (2 * (p / 2)) (omega arith) (omega (arith, one.even)) low)
    by_place (inl low) (inr past) =
        let e : height_of rows p v ≡ 0 =
        get_or_past (get_or rows v []) (p / 2) 0 (omega (arith, l.shape.numbers v low)) in
        omega arith
    by_place (inr past) level =
        let nothing : get_or rows v [] ≡ [] = get_or_past rows v [] (omega (arith, l.shape.vertices)) in
        let e : height_of rows p v ≡ 0 = ap (λ (xs : List ℕ). get_or xs (p / 2) 0) nothing in
        omega arith
