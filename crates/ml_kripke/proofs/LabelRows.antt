-- The labels of each state, in a row for each.
--
--   labels_at-push  == a further label goes to the end of its own state's labels, and to no other's
--   rows_none       == without labels each row is empty
--   rows_more       == a further label changes its own state's row alone
--   length_rows     == there are as many rows as states
--   row_pushed      == the same, of rows that are read as their items
--   label_in_range  == a label's state is in range where all are
use Rattle.std.proofs.Common.{◌≡◌, ◌==◌, ◌≢◌, ℕ, zero, suc, ◌+◌, ◌<◌, false, cond, List, [], ◌∷◌, ◌++◌, length, All, map}
use Rattle.std.proofs.Common.{filter, replicate, get_or, set, refl, sym, ap, subst, ◌∙◌, ⊎_elim, arith, eq-eqb}
use Rattle.std.specs.List.{range_with_len}
use Rattle.std.proofs.lemmas.Bool.{cases_eq}
use Rattle.std.proofs.lemmas.List.{append-nil, map-append, map-set, length-map, length-set, get_or-set_same, get_or-set_other, get_or-map, same_lists}
use Rattle.std.proofs.lemmas.Bool.Decides.{nat_tests}
use Rattle.std.proofs.lemmas.List.Elements.{filter-append}
use Rattle.std.proofs.lemmas.List.FromFn.{length-map-range_with_len, get_or-map-range_with_len}
use Rattle.ml_kripke.specs.Built.{labels_at}

abbrev Labels : Type 0
Labels = List (ℕ × List ℕ)

labels_at-push : (ys : Labels) (s : ℕ) (p : List ℕ) (q : ℕ)
    → labels_at (ys ++ (s, p) ∷ []) q ≡ labels_at ys q ++ map (λ (label : ℕ × List ℕ). label.1) (cond (s == q) ((s, p) ∷ []) [])
labels_at-push ys s p q =
    ap (map (λ (label : ℕ × List ℕ). label.1)) (filter-append (λ label. label.0 == q) ys ((s, p) ∷ []))
    ∙ map-append (λ (label : ℕ × List ℕ). label.1) (filter (λ label. label.0 == q) ys) (cond (s == q) ((s, p) ∷ []) [])

other : (s q : ℕ) → q ≢ s → (s == q) ≡ false
other s q ne = grind (arith, nat_tests)

labels_at-push_same : (ys : Labels) (s : ℕ) (p : List ℕ) → labels_at (ys ++ (s, p) ∷ []) s ≡ labels_at ys s ++ p ∷ []
labels_at-push_same ys s p =
    labels_at-push ys s p s
    ∙ ap (λ here. labels_at ys s ++ map (λ (label : ℕ × List ℕ). label.1) (cond here ((s, p) ∷ []) [])) (eq-eqb s s refl)

labels_at-push_other : (ys : Labels) (s : ℕ) (p : List ℕ) (q : ℕ)
    → q ≢ s
    → labels_at (ys ++ (s, p) ∷ []) q ≡ labels_at ys q
labels_at-push_other ys s p q ne =
    labels_at-push ys s p q
    ∙ ap (λ here. labels_at ys q ++ map (λ (label : ℕ × List ℕ). label.1) (cond here ((s, p) ∷ []) [])) (other s q ne)
    ∙ append-nil (labels_at ys q)

pub rows_none : (a n : ℕ) → replicate n [] ≡ map (labels_at []) (range_with_len a n)
rows_none a zero = refl
rows_none a (suc n) = ap (λ rows. [] ∷ rows) (rows_none (a + 1) n)

rows_more : (ys : Labels) (n s : ℕ) (p : List ℕ) → s < n
    → set (map (labels_at ys) (range_with_len 0 n)) s (labels_at ys s ++ p ∷ []) ≡ map (labels_at (ys ++ (s, p) ∷ [])) (range_with_len 0 n)
rows_more ys n s p small = same_lists _ _ lengths places
  where
    before : List (List (List ℕ))
    before = map (labels_at ys) (range_with_len 0 n)

    row : List (List ℕ)
    row = labels_at ys s ++ p ∷ []

    long : length before ≡ n
    long = length-map-range_with_len (labels_at ys) 0 n

    lengths : length (set before s row) ≡ length (map (labels_at (ys ++ (s, p) ∷ [])) (range_with_len 0 n))
    lengths = length-set before s row ∙ long ∙ sym (length-map-range_with_len (labels_at (ys ++ (s, p) ∷ [])) 0 n)

    places : (k : ℕ) (d : List (List ℕ)) → k < length (set before s row)
        → get_or (set before s row) k d ≡ get_or (map (labels_at (ys ++ (s, p) ∷ [])) (range_with_len 0 n)) k d
    places k d h =
        let below : k < n = omega (arith, length-set before s row, long) in
        let after = get_or-map-range_with_len (labels_at (ys ++ (s, p) ∷ [])) 0 n k k d below (omega arith) in
        ⊎_elim
        (λ (e : k ≡ s).
        ap (λ i. get_or (set before s row) i d) e
        ∙ get_or-set_same before s row d (omega (arith, long))
        ∙ sym (labels_at-push_same ys s p) ∙ ap (labels_at (ys ++ (s, p) ∷ [])) (sym e) ∙ sym after)
        (λ (ne : k ≡ s → ⊥).
        get_or-set_other before s k row d ne
        ∙ get_or-map-range_with_len (labels_at ys) 0 n k k d below (omega arith)
        ∙ sym (labels_at-push_other ys s p k ne) ∙ sym after)
        (cases_eq k s)

pub length_rows : {V : Type 0} (items : V → List (List ℕ)) (rows : List V) (ys : Labels) (n : ℕ)
    → map items rows ≡ map (labels_at ys) (range_with_len 0 n) → length rows ≡ n
length_rows items rows ys n is =
    sym (length-map rows items) ∙ ap length is ∙ length-map-range_with_len (labels_at ys) 0 n

pub row_pushed : {V : Type 0} (items : V → List (List ℕ)) (rows : List V) (ys : Labels) (n s : ℕ) (p : List ℕ)
    (row pushed : V)
    → s < n → map items rows ≡ map (labels_at ys) (range_with_len 0 n) → row ≡ get_or rows s row → items pushed ≡ items row ++ p ∷ []
    → map items (set rows s pushed) ≡ map (labels_at (ys ++ (s, p) ∷ [])) (range_with_len 0 n)
row_pushed items rows ys n s p row pushed small is read more =
    map-set items rows s pushed
    ∙ ap (λ row'. set (map items rows) s row') (more ∙ ap (λ first. first ++ p ∷ []) here)
    ∙ ap (λ rows'. set rows' s (labels_at ys s ++ p ∷ [])) is
    ∙ rows_more ys n s p small
  where
    long : length rows ≡ n
    long = length_rows items rows ys n is

    here : items row ≡ labels_at ys s
    here =
        ap items read ∙ sym (get_or-map items rows s row (items row) (omega (arith, long)))
        ∙ ap (λ rows'. get_or rows' s (items row)) is
        ∙ get_or-map-range_with_len (labels_at ys) 0 n s s (items row) small (omega arith)

-- the label at a place, whose state is in range as all are
pub label_in_range : (labels : Labels) (n i : ℕ) (label : ℕ × List ℕ) → All (λ l. l.0 < n) labels → i < length labels
    → label ≡ get_or labels i label → label.0 < n
label_in_range labels n i label all here is =
    subst (λ (l : ℕ × List ℕ). l.0 < n) (sym is) (all i label here)
