-- Lists of items, one item after the other: how two compare, and arrays and lists that are made of them.
--
--   cmp_decided    == the first items that differ decide
--   cmp_all        == where none of the shorter list differs, the lengths do
--   laid_next      == arrays of a list of states with stacks, with one more
--   listed_next    == the list of states with stacks, with one more
use Rattle.std.proofs.Common.{ℕ, zero, suc, ◌≡◌, ◌+◌, ◌<◌, ◌≤◌, ◌⊎◌, inl, inr, arith, min, List, [], ◌∷◌, ◌++◌, length, get_or, take, map, refl, sym, subst, ap, ◌∙◌}
use Rattle.std.specs.Prelude.{Vec}
use Rattle.std.specs.declared.alloc.Global.{Global}
use Rattle.std.specs.Cmp.{nat_cmp_is}
use Rattle.std.specs.Cmp.Lexicographic.{slice_cmp}
use Rattle.std.specs.Ordering.{nat_cmp, ordering_then}
use Rattle.std.specs.declared.cmp.Ordering.{Ordering}
use Rattle.std.specs.declared.cmp.Ordering.TheVariants.{Less, Equal, Greater}
use Rattle.std.proofs.lemmas.Bool.{cases_eq, cases_lt}
use Rattle.std.proofs.lemmas.List.{map-append, take_more, get_or-map}
use Rattle.ml_trace.specs.Stack.{Item}
use Rattle.ml_history.specs.HistoryOrder.{item_cmp}
use Rattle.ml_history.specs.Stacks.{stacked}
use Rattle.ml_history.specs.private.Arrays.{AreLaidOut}
use Rattle.ml_history.specs.private.Keys.{item_at, stack_at}
use Rattle.ml_history.proofs.arrays.StackLayout.{laid_one_more}

-- ---- comparisons

-- the first items that differ decide
pub cmp_decided : (h g : List (Item ℕ)) (i : ℕ) (o : Ordering)
    → ((rest : Ordering) → ordering_then o rest ≡ o)
    → i < length h
    → i < length g
    → ((j : ℕ) → j < i → item_cmp (item_at h j) (item_at g j) ≡ Equal)
    → item_cmp (item_at h i) (item_at g i) ≡ o
    → slice_cmp item_cmp h g ≡ o
cmp_decided [] g i o keeps low low' same is = absurd (omega arith)
cmp_decided (a ∷ as') [] i o keeps low low' same is = absurd (omega arith)
cmp_decided (a ∷ as') (b ∷ bs) zero o keeps low low' same is = ap (λ v. ordering_then v (slice_cmp item_cmp as' bs)) is
    ∙ keeps (slice_cmp item_cmp as' bs)
cmp_decided (a ∷ as') (b ∷ bs) (suc i) o keeps low low' same is =
    ap (λ v. ordering_then v (slice_cmp item_cmp as' bs)) (same 0 (omega arith))
    ∙ cmp_decided as' bs i o keeps (omega arith) (omega arith) (λ j less. same (suc j) (omega arith)) is

-- two numbers compare as those behind them
cmp-suc : (m n : ℕ) → nat_cmp m n ≡ nat_cmp (suc m) (suc n)
cmp-suc m n = by_place (cases_lt m n) (cases_eq m n)
  where
    by_place : (m < n) ⊎ (n ≤ m) → (m ≡ n) ⊎ (m ≡ n → ⊥) → nat_cmp m n ≡ nat_cmp (suc m) (suc n)
    by_place (inl less) any = sym (nat_cmp_is m n Less less) ∙ nat_cmp_is (suc m) (suc n) Less (omega arith)
    by_place (inr high) (inl e) = sym (nat_cmp_is m n Equal e) ∙ nat_cmp_is (suc m) (suc n) Equal (ap suc e)
    by_place (inr high) (inr ne) = let l : n < m = omega arith in sym (nat_cmp_is m n Greater l)
        ∙ nat_cmp_is (suc m) (suc n) Greater (omega arith)

-- where none of the shorter list differs, the lengths decide
pub cmp_all : (h g : List (Item ℕ)) (i : ℕ)
    → min (length h) (length g) ≤ i
    → ((j : ℕ) → j < i → item_cmp (item_at h j) (item_at g j) ≡ Equal)
    → nat_cmp (length h) (length g) ≡ slice_cmp item_cmp h g
cmp_all [] [] i all same = sym (nat_cmp_is 0 0 Equal refl)
cmp_all [] (b ∷ bs) i all same = sym (nat_cmp_is 0 (length (b ∷ bs)) Less (omega arith))
cmp_all (a ∷ as') [] i all same = sym (nat_cmp_is (length (a ∷ as')) 0 Greater (omega arith))
cmp_all (a ∷ as') (b ∷ bs) zero all same = absurd (omega arith)
cmp_all (a ∷ as') (b ∷ bs) (suc i) all same =
    sym (cmp-suc (length as') (length bs))
    ∙ cmp_all as' bs i (omega arith) (λ j less. same (suc j) (omega arith))
    ∙ sym (ap (λ v. ordering_then v (slice_cmp item_cmp as' bs)) (same 0 (omega arith)))

-- one pair of items more
pub same_more : (h g : List (Item ℕ)) (i : ℕ)
    → ((j : ℕ) → j < i → item_cmp (item_at h j) (item_at g j) ≡ Equal)
    → item_cmp (item_at h i) (item_at g i) ≡ Equal
    → (j : ℕ)
    → j < i + 1
    → item_cmp (item_at h j) (item_at g j) ≡ Equal
same_more h g i before here j less = by_place (cases_lt j i)
  where
    by_place : (j < i) ⊎ (i ≤ j) → item_cmp (item_at h j) (item_at g j) ≡ Equal
    by_place (inl l) = before j l
    by_place (inr l) = let e : i ≡ j = omega arith in subst (λ k. item_cmp (item_at h k) (item_at g k) ≡ Equal) e here

-- ---- lists of states with stacks

-- arrays with one more
pub laid_next : (all : List (ℕ × Vec ℕ Global)) (i : ℕ) (item : ℕ × Vec ℕ Global)
    (states starts names states' starts' names' : List ℕ) (n : ℕ)
    → i < length all
    → item ≡ get_or all i item
    → AreLaidOut states starts names (map stacked (take i all))
    → states' ≡ states ++ item.0 ∷ [] → starts' ≡ starts ++ n ∷ [] → n ≡ length names → names' ≡ names ++ item.1.items
    → AreLaidOut states' starts' names' (map stacked (take (i + 1) all))
laid_next all i item states starts names states' starts' names' n low at laid s_is b_is n_is ns_is =
    subst (AreLaidOut states' starts' names')
    (sym (ap (map stacked) (take_more all i item low ∙ ap (λ v. take i all ++ v ∷ []) (sym at))
    ∙ map-append stacked (take i all) (item ∷ [])))
    (subst (λ ss. AreLaidOut ss starts' names' both) (sym s_is)
    (subst (λ bs. AreLaidOut (states ++ item.0 ∷ []) bs names' both) (sym (b_is ∙ ap (λ m. starts ++ m ∷ []) n_is))
    (subst (λ ns. AreLaidOut (states ++ item.0 ∷ []) (starts ++ length names ∷ []) ns both) (sym ns_is)
    (laid_one_more states starts names (map stacked (take i all)) (stacked item) laid))))
  where
    both : List (Item ℕ)
    both = map stacked (take i all) ++ stacked item ∷ []

-- the list of states with stacks with one more
pub listed_next : (h : List (Item ℕ)) (i : ℕ) (all all' : List (ℕ × Vec ℕ Global)) (pair : ℕ × Vec ℕ Global)
    → i < length h
    → map stacked all ≡ take i h
    → all' ≡ all ++ pair ∷ []
    → pair.0 ≡ get_or (map (λ (a : Item ℕ). a.state) h) i 0
    → pair.1.items ≡ stack_at h i
    → map stacked all' ≡ take (i + 1) h
listed_next h i all all' pair low before is state stack =
    ap (map stacked) is
    ∙ map-append stacked all (pair ∷ [])
    ∙ (λ k. before
    k ++ record {
      state = (state ∙ get_or-map (λ (a : Item ℕ). a.state) h i (record { state = 0; stack = [] }) 0
          low) k;
      stack = stack k;
    } ∷ [])
    ∙ sym (take_more h i (record { state = 0; stack = [] }) low)

pub take_whole : {X : Type 0} (xs : List X) (k : ℕ) → length xs ≤ k → take k xs ≡ xs
take_whole [] zero all = refl
take_whole [] (suc k) all = refl
take_whole (x ∷ xs) zero all = absurd (omega arith)
take_whole (x ∷ xs) (suc k) all = ap (λ l. x ∷ l) (take_whole xs k (omega arith))
