-- Flags for names, and the numbers that are counted from them.
--
--   flags_next             == the flags of names with one name more
--   names_next             == the names that were gathered, with one vertex more
--   set_next, set_sorted   == a set into which the entries of a list go in turn
--   renewed_next           == vertices with new numbers, with one vertex more
--   row_numbers            == vertices with the numbers that were counted from flags
--   renewed-same           == two functions that agree on the names of a tree give it the same new numbers
use Rattle.std.proofs.Common.{ℕ, ◌≡◌, ◌+◌, ◌<◌, ◌⊎◌, inl, inr, arith, Bool, true, false, ◌||◌, eqb, List, [], ◌∷◌, ◌++◌, length, get_or, take, refl, sym, subst, ap, ◌∙◌, append_assoc}
use Rattle.std.proofs.lemmas.Bool.{cases_eq, eq-eqb, ne_eqb, or_left, or_right}
use Rattle.std.proofs.lemmas.List.{take_more, get_or-set_same, get_or-set_other}
use Rattle.std.proofs.lemmas.List.Folds.{list_any-append}
use Rattle.std.proofs.Math.ListN.{set}
use Rattle.ml_lists.specs.Ascending.{ascending, insert_once}
use Rattle.ml_lists.specs.Counting.{count}
use Rattle.ml_lists.specs.Member.{IsMember}
use Rattle.ml_lists.proofs.Ascending.{member-ascending, ascending-member, ascending-is, ascending_same, insert_once-is, insert_once-member, member-insert_once, insert_once-keeps}
use Rattle.ml_lists.proofs.Member.{member-append, member-append_left, member-append_right}
use Rattle.ml_trace.specs.Stack.{has}
use Rattle.ml_history.specs.private.Forest.{Forest, Empty, Tree, names}
use Rattle.ml_history.specs.private.TreeStep.{beside, renewed, flagged}
use Rattle.ml_history.specs.private.Vertices.{Rooted, joined}
use Rattle.ml_history.proofs.trees.GrowingRows.{rooted, row_next, names_part}
use Rattle.ml_history.proofs.trees.RowsOfVertices.{joined-append}

-- ---- flags

-- flags with one name more
pub flags_next : (flags : List Bool) (s : List ℕ) (i : ℕ)
    → i < length s
    → get_or s i 0 < length flags
    → flagged flags ≡ (λ y. has y (take i s))
    → flagged (set flags (get_or s i 0) true) ≡ (λ y. has y (take (i + 1) s))
flags_next flags s i low within before = λ j y. each y j
  where
    x : ℕ
    x = get_or s i 0

    more : (y : ℕ) → has y (take (i + 1) s) ≡ (has y (take i s) || (eqb (get_or s i 0) y || false))
    more y = ap (has y) (take_more s i 0 low) ∙ list_any-append (λ z. eqb z y) (take i s) (get_or s i 0 ∷ [])

    or-none : (b : Bool) → (b || (false || false)) ≡ b
    or-none true = refl
    or-none false = refl

    by_case : (y : ℕ)
        → (get_or s i 0 ≡ y) ⊎ (get_or s i 0 ≡ y → ⊥)
        → flagged (set flags (get_or s i 0) true) y ≡ has y (take (i + 1) s)
    by_case y (inl e) =
        ap (λ k. get_or (set flags (get_or s i 0) true) k false) (sym e)
        ∙ get_or-set_same flags (get_or s i 0) true false within
        ∙ sym (more y ∙ or_right (has y (take i s)) (eqb (get_or s i 0) y || false)
        (or_left (eqb (get_or s i 0) y) false (eq-eqb (get_or s i 0) y e)))
    by_case y (inr ne) =
        get_or-set_other flags (get_or s i 0) y true false (λ e. ne (sym e))
        ∙ ap (λ test. test y) before
        ∙ sym (more y ∙ ap (λ b. has y (take i s) || (b || false)) (ne_eqb (get_or s i 0) y ne)
        ∙ or-none (has y (take i s)))

    each : (y : ℕ) → flagged (set flags (get_or s i 0) true) y ≡ has y (take (i + 1) s)
    each y = by_case y (cases_eq (get_or s i 0) y)

-- ---- names

-- the names that were gathered, with one vertex more
pub names_next : (s : List Rooted) (i age : ℕ) (own : List ℕ) (children : Forest) (v : Rooted)
    (start before between after : List ℕ)
    → rooted age own children ≡ v
    → i < length s
    → v ≡ get_or s i v
    → before ≡ start ++ names (joined (take i s))
    → between ≡ before ++ names children
    → after ≡ between ++ age ∷ []
    → after ≡ start ++ names (joined (take (i + 1) s))
names_next s i age own children v start before between after view low at p q r =
    let e : rooted age own children ≡ get_or s i (rooted age own children) =
    subst (λ u. u ≡ get_or s i u) (sym view) at in
    let one = row_next names (λ u. names u.children ++ u.age ∷ []) refl names_part s i (rooted age own children) low
    e in
    r
    ∙ ap (λ l. l ++ age ∷ []) (q ∙ ap (λ l. l ++ names children) p)
    ∙ append_assoc (start ++ names (joined (take i s))) (names children) (age ∷ [])
    ∙ append_assoc start (names (joined (take i s))) (names children ++ age ∷ [])
    ∙ ap (λ l. start ++ l) (sym one)

-- ---- sets

-- a set into which the entries of a list go in turn
pub set_next : (s xs ys : List ℕ) (i : ℕ)
    → i < length s
    → xs ≡ ascending (take i s)
    → ys ≡ insert_once (get_or s i 0) xs
    → ys ≡ ascending (take (i + 1) s)
set_next s xs ys i low before after =
    after
    ∙ ap (insert_once (get_or s i 0)) before
    ∙ ascending_same (insert_once (get_or s i 0) (ascending (take i s))) (ascending (take i s ++ get_or s i 0 ∷ []))
    (insert_once-is (get_or s i 0) (ascending (take i s)) (ascending-is (take i s)))
    (ascending-is (take i s ++ get_or s i 0 ∷ []))
    (λ v m. member-ascending v (take i s ++ get_or s i 0 ∷ [])
    (there v (insert_once-member v (get_or s i 0) (ascending (take i s)) m)))
    (λ v m. back v (member-append v (take i s) (get_or s i 0 ∷ [])
    (ascending-member v (take i s ++ get_or s i 0 ∷ []) m)))
    ∙ ap ascending (sym (take_more s i 0 low))
  where
    there : (v : ℕ)
        → (v ≡ get_or s i 0) ⊎ IsMember v (ascending (take i s))
        → IsMember v (take i s ++ get_or s i 0 ∷ [])
    there v (inl e) = member-append_right v (take i s) (get_or s i 0 ∷ []) (inl e)
    there v (inr m) = member-append_left v (take i s) (get_or s i 0 ∷ []) (ascending-member v (take i s) m)

    back : (v : ℕ)
        → IsMember v (take i s) ⊎ ((v ≡ get_or s i 0) ⊎ ⊥)
        → IsMember v (insert_once (get_or s i 0) (ascending (take i s)))
    back v (inl m) = insert_once-keeps v (get_or s i 0) (ascending (take i s)) (member-ascending v (take i s) m)
    back v (inr (inl e)) = subst (λ u. IsMember u (insert_once (get_or s i 0) (ascending (take i s)))) (sym e)
        (member-insert_once (get_or s i 0) (ascending (take i s)))
    back v (inr (inr none)) = absurd none

-- a sorted list has the set of the list
pub set_sorted : (xs ys : List ℕ)
    → ((x : ℕ) → IsMember x xs → IsMember x ys)
    → ((x : ℕ) → IsMember x ys → IsMember x xs)
    → ascending xs ≡ ascending ys
set_sorted xs ys to from =
    ascending_same (ascending xs) (ascending ys) (ascending-is xs) (ascending-is ys)
    (λ v m. member-ascending v ys (to v (ascending-member v xs m)))
    (λ v m. member-ascending v xs (from v (ascending-member v ys m)))

-- ---- new numbers

renewed-beside : (n : ℕ → ℕ) (f g : Forest) → renewed n (beside f g) ≡ beside (renewed n f) (renewed n g)
renewed-beside n Empty g = refl
renewed-beside n (Tree a o c y) g = ap (Tree (n a) (ascending o) (renewed n c)) (renewed-beside n y g)

-- vertices with new numbers, with one vertex more
pub renewed_next : (n : ℕ → ℕ) (s : List Rooted) (i age : ℕ) (own : List ℕ) (children : Forest) (v : Rooted)
    (before after : List Rooted) (number : ℕ) (set : List ℕ) (below : Forest)
    → rooted age own children ≡ v
    → i < length s
    → v ≡ get_or s i v
    → joined before ≡ renewed n (joined (take i s))
    → number ≡ n age
    → set ≡ ascending own
    → below ≡ renewed n children
    → after ≡ before ++ rooted number set below ∷ []
    → joined after ≡ renewed n (joined (take (i + 1) s))
renewed_next n s i age own children v before after number set below view low at done p q r is =
    ap joined is
    ∙ joined-append before (rooted number set below ∷ [])
    ∙ (λ k. beside (done k) (Tree (p k) (q k) (r k) Empty))
    ∙ sym (renewed-beside n (joined (take i s)) (Tree age own children Empty))
    ∙ ap (λ (u : Rooted). renewed n (beside (joined (take i s)) (joined (u ∷ [])))) (view ∙ at)
    ∙ ap (renewed n) (sym (joined-append (take i s) (get_or s i v ∷ [])))
    ∙ ap (λ l. renewed n (joined l)) (sym (take_more s i v low))

-- two functions that agree on the names of a tree give it the same new numbers
pub renewed-same : (n m : ℕ → ℕ) (f : Forest) → ((y : ℕ) → IsMember y (names f) → n y ≡ m y) → renewed n f ≡ renewed m f
renewed-same n m Empty same = refl
renewed-same n m (Tree a o c y) same =
    let here = same a (member-append_right a (names c) (a ∷ names y) (inl refl)) in
    let children = renewed-same n m c (λ z i. same z (member-append_left z (names c) (a ∷ names y) i)) in
    let younger = renewed-same n m y (λ z i. same z (member-append_right z (names c) (a ∷ names y) (inr i))) in
    λ i. Tree (here i) (ascending o) (children i) (younger i)

-- vertices with the numbers that were counted from the flags of their names
pub row_numbers : (f : Forest) (row : Forest) (names_are : List ℕ) (flags : List Bool) (numbers : List ℕ) (bound : ℕ)
    → names_are ≡ names f
    → flagged flags ≡ (λ y. has y names_are)
    → length flags ≡ bound
    → ((y : ℕ) → IsMember y (names f) → y < bound)
    → ((y : ℕ) → y < length flags → get_or numbers y 0 ≡ count (flagged flags) y)
    → row ≡ renewed (λ y. get_or numbers y 0) f
    → row ≡ renewed (λ y. count (λ z. has z (names f)) y) f
row_numbers f row names_are flags numbers bound same tests long low counted is =
    is
    ∙ renewed-same (λ y. get_or numbers y 0) (λ y. count (flagged flags) y) f
    (λ y m. counted y (let h = low y m in omega arith))
    ∙ ap (λ test. renewed (λ y. count test y) f) tests
    ∙ ap (λ ns. renewed (λ y. count (λ z. has z ns) y) f) same
