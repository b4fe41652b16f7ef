-- A measure in one flat list of numbers: what is read, and what a write leaves.
--
--   FieldsOf wide numbers tops t == t is the table of these fields
--   low_top, row_within          == a vertex has a flag, and its row is within the numbers
--   top_read, row_read           == a flag tells whether a vertex has the top, and what the row is otherwise
--   top_below, listed_below      == a vertex is below the top exactly if it hasn't the top
--   top_written, row_written     == the measure after a write of a flag, and of a row
--   row_handed                   == as the program writes the row
--   zero_table                   == the table of zeros
use Rattle.std.proofs.Common.{ℕ, ◌≡◌, ◌≢◌, ◌+◌, ◌-◌, ◌*◌, ◌<◌, ◌≤◌, ◌⊎◌, inl, inr, ◌↔◌, arith, Bool, true, false, IsTrue, List, length, get_or, map, set, take}
use Rattle.std.proofs.Common.{drop, ◌++◌, replicate, Option, Some, None, refl, sym, ap, ◌∙◌, subst, length-set, length-append, length-take, length-drop}
use Rattle.std.specs.List.{range_with_len}
use Rattle.std.proofs.Math.Nat.{mul-le-mul_right, add-mul}
use Rattle.std.proofs.lemmas.Bool.{cases_eq, cases_order}
use Rattle.std.proofs.lemmas.List.{get_or_default, get_or-set_same, get_or-set_other, get_or-replicate, length-replicate, drop-replicate, take-replicate, same_lists}
use Rattle.std.proofs.lemmas.List.FromFn.{length-map-range_with_len, get_or-map-range_with_len}
use Rattle.std.proofs.lemmas.Slice.{between_is, between-put_mid, take-put_mid_below, drop-put_mid}
use borrow.Rule.Slice.PartMut.{put_mid}
use Rattle.ml_progress.specs.Measure.{Measure, IsBelow, measure_at}
use Rattle.ml_progress.proofs.HandedBack.{handed_back}
use Rattle.ml_progress.specs.private.Tables.{TableRows, row_at, unless_top, entry_of, table_of}

-- t is the table of these fields
pub record FieldsOf (wide : ℕ) (numbers : List ℕ) (tops : List Bool) (t : TableRows) : Type 0 where
  pub is : table_of wide numbers tops ≡ t
  pub long : length numbers ≡ length tops * wide

-- ---- parts of the numbers

-- a row of another vertex lies before or behind
apart : (u v w : ℕ) → u < v → u * w + w ≤ v * w
apart u v w low = omega (arith, mul-le-mul_right {m = u + 1} {n = v} w (omega arith), add-mul u 1 w)

row_is : (w s : ℕ) (xs : List ℕ) → take w (drop s xs) ≡ drop s (take (s + w) xs)
row_is w s xs =
    let e : s + w - s ≡ w = omega arith in
    ap (λ k. take k (drop s xs)) (sym e) ∙ between_is xs s (s + w)

module _ (w u v : ℕ) (xs ys : List ℕ) (wide : length ys ≡ w) (within : v * w + w ≤ length xs) where
  row_same : u ≡ v → take w (drop (u * w) (put_mid (v * w) w xs ys)) ≡ ys
  row_same is =
      let e : v * w + w - v * w ≡ w = omega arith in
      ap (λ k. take w (drop (k * w) (put_mid (v * w) w xs ys))) is
      ∙ ap (λ k. take k (drop (v * w) (put_mid (v * w) w xs ys))) (sym e)
      ∙ between-put_mid (v * w) w xs ys (v * w + w) (omega arith) (omega (arith, wide))

  row_other : (u ≡ v → ⊥) → take w (drop (u * w) (put_mid (v * w) w xs ys)) ≡ take w (drop (u * w) xs)
  row_other differs = by_case (cases_order u v)
    where
      by_case : (u ≡ v) ⊎ ((u < v) ⊎ (v < u))
          → take w (drop (u * w) (put_mid (v * w) w xs ys)) ≡ take w (drop (u * w) xs)
      by_case (inl same) = absurd (differs same)
      by_case (inr (inl before)) =
          row_is w (u * w) (put_mid (v * w) w xs ys)
          ∙ ap (drop (u * w)) (take-put_mid_below (v * w) w xs ys (u * w + w) (apart u v w before) (omega arith))
          ∙ sym (row_is w (u * w) xs)
      by_case (inr (inr behind)) =
          ap (take w) (drop-put_mid (v * w) w xs ys (u * w) (apart v u w behind) (omega arith) wide)

-- ---- reads

module _ (w : ℕ) (numbers : List ℕ) (tops : List Bool) (t : TableRows) (f : FieldsOf w numbers tops t) (v : ℕ)
    (low : v < length t.rows) where
  rows_are : map (entry_of w numbers tops) (range_with_len 0 (length tops)) ≡ t.rows
  rows_are = ap (λ (r : TableRows). r.rows) f.is

  pub low_top : v < length tops
  low_top = omega (arith, ap length rows_are, length-map-range_with_len (entry_of w numbers tops) 0 (length tops))

  pub row_within : v * w + w ≤ length numbers
  row_within = omega (arith, f.long, apart v (length tops) w low_top)

  pub entry_at : measure_at t.rows v ≡ entry_of w numbers tops v
  entry_at = ap (λ m. measure_at m v) (sym rows_are)
      ∙ get_or-map-range_with_len (entry_of w numbers tops) 0 (length tops) v v None low_top (omega arith)

  from_flag : (b : Bool) → get_or tops v true ≡ b → measure_at t.rows v ≡ unless_top b (row_at w numbers v)
  from_flag b is = entry_at ∙ ap (λ x. unless_top x (row_at w numbers v)) is

  -- a flag tells whether a vertex has the top
  flag_read : (b : Bool) → b ≡ get_or tops v b → get_or tops v true ≡ b
  flag_read b is = get_or_default tops v true b low_top ∙ sym is

  pub top_read : (b : Bool) → b ≡ get_or tops v b → IsTrue b ↔ (measure_at t.rows v ≡ None)
  top_read true is = (λ e. from_flag true (flag_read true is), λ e. refl)
  top_read false is = (
    λ e. absurd (cc),
    λ e. let wrong = sym (from_flag false (flag_read false is)) ∙ e in absurd (cc),
  )

  -- a vertex with the top isn't below it, and each other one is
  pub top_below : (b : Bool) → b ≡ get_or tops v b → b ≡ true → ¬ (IsBelow (measure_at t.rows v) None)
  top_below b is up = subst (λ o. ¬ (IsBelow o None)) (sym (from_flag true (flag_read b is ∙ up))) (λ none. none)

  pub listed_below : (b : Bool) → b ≡ get_or tops v b → b ≡ false → IsBelow (measure_at t.rows v) None
  listed_below b is down = subst (λ o. IsBelow o None) (sym (from_flag false (flag_read b is ∙ down))) tt

  -- how wide the table is
  pub wide_is : w ≡ t.wide
  wide_is = ap (λ (r : TableRows). r.wide) f.is

  -- and what the row is otherwise
  pub row_read : measure_at t.rows v ≢ None → measure_at t.rows v ≡ Some (row_at w numbers v)
  row_read listed = by_flag (get_or tops v true) refl
    where
      by_flag : (b : Bool) → get_or tops v true ≡ b → measure_at t.rows v ≡ Some (row_at w numbers v)
      by_flag true is = absurd (listed (from_flag true is))
      by_flag false is = from_flag false is

  -- ---- writes

  module _ (other : ℕ → Option (List ℕ)) (x : Option (List ℕ)) (here : other v ≡ x)
      (elsewhere : (u : ℕ) → u < length tops → (u ≡ v → ⊥) → other u ≡ entry_of w numbers tops u) where
    rows_changed : map other (range_with_len 0 (length tops)) ≡ set t.rows v x
    rows_changed = same_lists (map other (range_with_len 0 (length tops))) (set t.rows v x)
        (omega (
          arith,
          length-map-range_with_len other 0 (length tops),
          length-set t.rows v x,
          ap length rows_are,
          length-map-range_with_len (entry_of w numbers tops) 0 (length tops),
        ))
        each
      where
        at : (u : ℕ) (d : Option (List ℕ))
            → u < length tops
            → (u ≡ v) ⊎ (u ≡ v → ⊥)
            → other u ≡ get_or (set t.rows v x) u d
        at u d under (inl same) = ap other same ∙ here ∙ sym (get_or-set_same t.rows v x d low)
            ∙ ap (λ k. get_or (set t.rows v x) k d) (sym same)
        at u d under (inr differs) = elsewhere u under differs
            ∙ sym (get_or-map-range_with_len (entry_of w numbers tops) 0 (length tops) u u d under (omega arith))
            ∙ ap (λ (m : Measure). get_or m u d) rows_are
            ∙ sym (get_or-set_other t.rows v u x d differs)

        each : (u : ℕ) (d : Option (List ℕ)) → u < length (map other (range_with_len 0 (length tops)))
            → get_or (map other (range_with_len 0 (length tops))) u d ≡ get_or (set t.rows v x) u d
        each u d low_u =
            let under : u < length tops = omega (arith, length-map-range_with_len other 0 (length tops)) in
            get_or-map-range_with_len other 0 (length tops) u u d under (omega arith) ∙ at u d under (cases_eq u v)

  -- the measure after a write of a flag
  pub top_written : map (entry_of w numbers (set tops v true)) (range_with_len 0 (length (set tops v true))) ≡ set t.rows v None
  top_written =
      ap (λ k. map (entry_of w numbers (set tops v true)) (range_with_len 0 k)) (length-set tops v true)
      ∙ rows_changed (entry_of w numbers (set tops v true)) None
      (ap (λ b. unless_top b (row_at w numbers v)) (get_or-set_same tops v true true low_top))
      (λ u under differs. ap (λ b. unless_top b (row_at w numbers u)) (get_or-set_other tops v u true true differs))

  -- the measure after a write of a row
  pub row_written : (ys : List ℕ) → length ys ≡ w → measure_at t.rows v ≢ None
      → map (entry_of w (put_mid (v * w) w numbers ys) tops) (range_with_len 0 (length tops)) ≡ set t.rows v (Some ys)
  row_written ys wide listed =
      rows_changed (entry_of w (put_mid (v * w) w numbers ys) tops) (Some ys) (by_flag (get_or tops v true) refl)
      (λ u under differs. ap (unless_top (get_or tops u true)) (row_other w u v numbers ys wide row_within differs))
    where
      by_flag : (b : Bool) → get_or tops v true ≡ b
          → unless_top (get_or tops v true) (row_at w (put_mid (v * w) w numbers ys) v) ≡ Some ys
      by_flag true is = absurd (listed (from_flag true is))
      by_flag false is = ap (λ b. unless_top b (row_at w (put_mid (v * w) w numbers ys) v)) is
          ∙ ap Some (row_same w v v numbers ys wide row_within refl)

  -- so it is, as the program writes the row and hands the numbers back
  pub row_handed : (n : ℕ) (new ys : List ℕ)
      → n ≡ length numbers
      → new ≡ take (v * w) numbers ++ (ys ++ drop (length ys) (drop (v * w) numbers))
      → length ys ≡ t.wide
      → measure_at t.rows v ≢ None
      → map (entry_of w (take n (new ++ drop (length new) numbers)) tops) (range_with_len 0 (length tops)) ≡ set t.rows v (Some ys)
  row_handed n new ys long is wide listed =
      ap (λ xs. map (entry_of w xs tops) (range_with_len 0 (length tops))) (handed_back n new numbers long same ∙ written)
      ∙ row_written ys width listed
    where
      width : length ys ≡ w
      width = wide ∙ sym wide_is

      written : new ≡ put_mid (v * w) w numbers ys
      written = is ∙ ap (λ k. take (v * w) numbers ++ (ys ++ drop k (drop (v * w) numbers))) width

      same : length new ≡ length numbers
      same = omega (
        arith,
        ap length is,
        length-append (take (v * w) numbers) (ys ++ drop (length ys) (drop (v * w) numbers)),
        length-append ys (drop (length ys) (drop (v * w) numbers)),
        length-take (v * w) numbers,
        length-drop (length ys) (drop (v * w) numbers),
        length-drop (v * w) numbers,
        row_within,
        width,
      )

-- the table of zeros
module _ (w n : ℕ) where
  zero_entry : (v : ℕ) → v < n → entry_of w (replicate (n * w) 0) (replicate n false) v ≡ Some (replicate w 0)
  zero_entry v low =
      let within = apart v n w low in
      ap (λ b. unless_top b (row_at w (replicate (n * w) 0) v)) (get_or-replicate n v false true low)
      ∙ ap (λ xs. Some (take w xs)) (drop-replicate (v * w) (n * w) 0)
      ∙ ap Some (take-replicate w (n * w - v * w) 0 (omega arith))

  pub zero_table : map (entry_of w (replicate (n * w) 0) (replicate n false)) (range_with_len 0 (length (replicate n false)))
      ≡ replicate n (Some (replicate w 0))
  zero_table =
      ap (λ k. map (entry_of w (replicate (n * w) 0) (replicate n false)) (range_with_len 0 k)) (length-replicate n false)
      ∙ same_lists (map (entry_of w (replicate (n * w) 0) (replicate n false)) (range_with_len 0 n))
      (replicate n (Some (replicate w 0)))
      (length-map-range_with_len (entry_of w (replicate (n * w) 0) (replicate n false)) 0 n
      ∙ sym (length-replicate n (Some (replicate w 0))))
      (λ v d low.
      let under : v < n =
      omega (arith, length-map-range_with_len (entry_of w (replicate (n * w) 0) (replicate n false)) 0 n) in
      get_or-map-range_with_len (entry_of w (replicate (n * w) 0) (replicate n false)) 0 n v v d under (omega arith)
      ∙ zero_entry v under ∙ sym (get_or-replicate n v (Some (replicate w 0)) d under))

-- the table that is made of zeros
pub zeros_made : (w n k : ℕ) (numbers : List ℕ) (tops : List Bool) (t : TableRows)
    → k ≡ n * w
    → numbers ≡ replicate k 0
    → tops ≡ replicate n false
    → t ≡ table_of w numbers tops
    → t.rows ≡ replicate n (Some (replicate w 0))
zeros_made w n k numbers tops t product zeros flags is =
    ap (λ (r : TableRows). r.rows) is
    ∙ ap (λ xs. map (entry_of w xs tops) (range_with_len 0 (length tops))) (zeros ∙ ap (λ j. replicate j 0) product)
    ∙ ap (λ bs. map (entry_of w (replicate (n * w) 0) bs) (range_with_len 0 (length bs))) flags
    ∙ zero_table w n
