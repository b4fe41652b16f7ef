-- The rows of labels in ascending order.
--
--   label_cmp              == the order of labels: by state, then by the bytes
--   labels_at-ascends      == of labels that ascend, those of one state do
--   labels_at-contains     == what stands in a state's row is a label of that state
--   labels_at-contained    == a label of a state stands in its row
use Rattle.std.proofs.Common.{◌≡◌, ◌==◌, ℕ, Bool, true, false, cond, List, [], ◌∷◌, map, filter, Contains, Ordering, refl, sym, ap, ◌∙◌, ⊎_elim, eq-eqb, subst, ◌⊎◌}
use Rattle.std.specs.List.{AllByRecursion}
use Rattle.std.specs.List.Sorted.{IsStrictlySortedBy}
use Rattle.std.specs.Ordering.{nat_cmp, ordering_then}
use Rattle.std.specs.declared.cmp.Ordering.TheVariants.{Less}
use Rattle.std.specs.Cmp.Lexicographic.{slice_cmp}
use Rattle.std.proofs.lemmas.Cmp.{tied_itself, nat_cmp_total}
use Rattle.std.proofs.lemmas.Bool.{true≢false, eqb-true}
use Rattle.ml_kripke.specs.Built.{labels_at}
use Rattle.ml_lists.proofs.Members.{contains_head, contains_later, contains_cases, contains_none}

abbrev Label : Type 0
Label = ℕ × List ℕ

abbrev pub label_cmp : Label → Label → Ordering
label_cmp x y = ordering_then (nat_cmp x.0 y.0) (slice_cmp nat_cmp x.1 y.1)

abbrev name_of : Label → List ℕ
name_of x = x.1

abbrev at : ℕ → Label → Bool
at s x = x.0 == s

-- of two labels of one state, the names decide
by_name : (x y : Label) → x.0 ≡ y.0 → label_cmp x y ≡ slice_cmp nat_cmp x.1 y.1
by_name x y e =
    ap (λ o. ordering_then o (slice_cmp nat_cmp x.1 y.1)) (ap (nat_cmp x.0) (sym e) ∙ tied_itself nat_cmp_total x.0)

-- the names of the state s that stand behind a label of it are above it
above : (x : Label) (s : ℕ) → x.0 ≡ s → (xs : List Label) → AllByRecursion (λ y. label_cmp x y ≡ Less) xs
    → AllByRecursion (λ p. slice_cmp nat_cmp x.1 p ≡ Less) (labels_at xs s)
above x s e [] all = all
above x s e (y ∷ ys) all = go (at s y) refl (above x s e ys all.1)
  where
    go : (b : Bool) → at s y ≡ b → AllByRecursion (λ p. slice_cmp nat_cmp x.1 p ≡ Less) (labels_at ys s)
        → AllByRecursion (λ p. slice_cmp nat_cmp x.1 p ≡ Less)
        (map name_of (cond b (y ∷ filter (at s) ys) (filter (at s) ys)))
    go true is rest = (sym (by_name x y (e ∙ sym (eqb-true y.0 s is))) ∙ all.0, rest)
    go false is rest = rest

pub labels_at-ascends : (s : ℕ) (xs : List Label)
    → IsStrictlySortedBy label_cmp xs
    → IsStrictlySortedBy (slice_cmp nat_cmp) (labels_at xs s)
unfolding IsStrictlySortedBy
labels_at-ascends s [] ascends = ascends
labels_at-ascends s (x ∷ xs) ascends = go (at s x) refl (labels_at-ascends s xs ascends.1)
  where
    go : (b : Bool) → at s x ≡ b → IsStrictlySortedBy (slice_cmp nat_cmp) (labels_at xs s)
        → IsStrictlySortedBy (slice_cmp nat_cmp) (map name_of (cond b (x ∷ filter (at s) xs) (filter (at s) xs)))
    go true is rest = (above x s (eqb-true x.0 s is) xs ascends.0, rest)
    go false is rest = rest

pub labels_at-contains : (s : ℕ) (xs : List Label) (p : List ℕ) → Contains (labels_at xs s) p → Contains xs (s, p)
labels_at-contains s [] p h = absurd (contains_none p h)
labels_at-contains s (x ∷ xs) p h = go (at s x) refl h (labels_at-contains s xs p)
  where
    go : (b : Bool) → at s x ≡ b → Contains (map name_of (cond b (x ∷ filter (at s) xs) (filter (at s) xs))) p
        → (Contains (labels_at xs s) p → Contains xs (s, p)) → Contains (x ∷ xs) (s, p)
    go true is inside rest =
        let state = eqb-true x.0 s is in
        ⊎_elim
        (λ (e : x.1 ≡ p). let same : x ≡ (s, p) = λ i. (state i, e i) in
        subst (Contains (x ∷ xs)) same (contains_head x xs))
        (λ (later : Contains (labels_at xs s) p). contains_later x xs (s, p) (rest later))
        (contains_cases x.1 (labels_at xs s) p inside)
    go false is inside rest = contains_later x xs (s, p) (rest inside)

pub labels_at-contained : (s : ℕ) (xs : List Label) (p : List ℕ) → Contains xs (s, p) → Contains (labels_at xs s) p
labels_at-contained s [] p h = absurd (contains_none (s, p) h)
labels_at-contained s (x ∷ xs) p h = go (at s x) refl (contains_cases x xs (s, p) h) (labels_at-contained s xs p)
  where
    go : (b : Bool)
        → at s x ≡ b
        → (x ≡ (s, p)) ⊎ Contains xs (s, p)
        → (Contains xs (s, p) → Contains (labels_at xs s) p)
        → Contains (map name_of (cond b (x ∷ filter (at s) xs) (filter (at s) xs))) p
    go true is found rest =
        ⊎_elim
        (λ (e : x ≡ (s, p)). subst (Contains (x.1 ∷ labels_at xs s)) (ap name_of e)
        (contains_head x.1 (labels_at xs s)))
        (λ (later : Contains xs (s, p)). contains_later x.1 (labels_at xs s) p (rest later))
        found
    go false is found rest =
        ⊎_elim
        (λ (e : x ≡ (s, p)). let here : at s x ≡ true = eq-eqb x.0 s (ap (λ (l : Label). l.0) e) in
        absurd (true≢false (sym here ∙ is)))
        (λ (later : Contains xs (s, p)). rest later)
        found
