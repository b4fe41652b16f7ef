-- Histories as the program keeps them: trees whose states have small numbers.
--
--   kept_is_plain    == their items are a history with small states
--   live-above       == the number of names in use is one more than the greatest age
--   start_is_kept    == the tree of one state
--   sorted_items     == the states with their stacks, sorted by states, are the items
use Rattle.std.proofs.Common.{◌≡◌, ℕ, ◌<◌, ◌≤◌, ◌^◌, ◌⊎◌, inl, inr, arith, List, [], ◌∷◌, map, refl, sym, subst, ap}
use Rattle.std.specs.List.Sorted.{IsPermutation, IsNonDecreasingBy}
use Rattle.std.specs.Prelude.{Vec}
use Rattle.std.specs.declared.alloc.Global.{Global}
use Rattle.std.proofs.lemmas.Bool.{cases_lt}
use Rattle.std.proofs.lemmas.List.Sorted.{IsPermutation-map, IsPermutation-sym}
use Rattle.ml_lists.specs.Ascending.{IsAscending}
use Rattle.ml_lists.specs.Member.{IsMember}
use Rattle.ml_lists.proofs.Member.{member-map}
use Rattle.ml_lists.proofs.Permuted.{permuted-member}
use Rattle.ml_trace.specs.Stack.{Item}
use Rattle.ml_history.specs.private.Forest.{Forest, Empty, Tree, names, places, items, IsProper}
use Rattle.ml_lists.specs.Times.{IsApart}
use Rattle.ml_history.specs.HistoryStep.{above, live}
use Rattle.ml_history.specs.History.{IsSmallHistory}
use Rattle.ml_history.specs.Stacks.{stacked}
use Rattle.ml_history.specs.private.TreeWalks.{behind}
use Rattle.ml_history.specs.private.Vertices.{IsKept}
use Rattle.ml_history.proofs.trees.ItemsByState.{state_of, arranged-member, member-arranged, items_same}
use Rattle.ml_history.proofs.trees.Forests.{places-states}
use Rattle.ml_history.proofs.definition.SmallHistories.{live-small}
use Rattle.ml_history.proofs.trees.ProperTrees.{items-member, names-live, live-names, proper_is_history}
use Rattle.ml_lists.proofs.Sorted.{ascending_by, apart-permuted}

-- the items of a tree that is kept are a history with small states
pub kept_is_plain : (f : Forest) → IsKept f → IsSmallHistory (items f)
kept_is_plain f kept = record {
  history = proper_is_history f kept.proper;
  small = λ a m. kept.small a.state (subst (IsMember a.state) (places-states f)
      (member-map state_of a (places f) (items-member f a m)));
}

-- ---- names in use

-- each number of a list is below one more than the greatest
member-above : (y : ℕ) (xs : List ℕ) → IsMember y xs → y < above xs
member-above y [] m = absurd m
member-above y (x ∷ xs) (inl e) = omega arith
member-above y (x ∷ xs) (inr m) = let low = member-above y xs m in omega arith

above_least : (n : ℕ) (xs : List ℕ) → ((y : ℕ) → IsMember y xs → y < n) → above xs ≤ n
above_least n [] low = omega arith
above_least n (x ∷ xs) low = let here = low x (inl refl) in let rest = above_least n xs (λ y m. low y (inr m)) in
    omega arith

-- the number of names in use is one more than the greatest age
pub live-above : (f : Forest) → IsProper f → live (items f) ≡ above (names f)
live-above f proper =
    let high = above_least (live (items f)) (names f) (names-live f proper) in
    by_order high (cases_lt (above (names f)) (live (items f)))
  where
    by_order : above (names f) ≤ live (items f)
        → (above (names f) < live (items f)) ⊎ (live (items f) ≤ above (names f))
        → live (items f) ≡ above (names f)
    by_order high (inl low) = let l =
        member-above (above (names f)) (names f) (live-names f proper (above (names f)) low) in absurd (omega arith)
    by_order high (inr le) = omega arith

-- it is at most 2^30
pub names_small : (f : Forest) → IsKept f → above (names f) ≤ 2 ^ 30
names_small f kept = subst (λ n. n ≤ 2 ^ 30) (live-above f kept.proper) (live-small (items f) (kept_is_plain f kept))

-- ---- the start

pub start_is_kept : (q : ℕ) → q < 2 ^ 30 → IsKept (Tree 0 (q ∷ []) Empty Empty)
start_is_kept q low = record {
  proper = record {
    one_root = refl;
    ages_rise = (omega arith, tt, tt);
    owns = ((λ e. absurd (cc)), ((λ y m. absurd m), tt), tt, tt);
    states_apart = ((λ m. m), tt);
    names_apart = ((λ m. m), tt);
    no_gap = λ x y l m. from_one x y l m;
  };
  small = small;
}
  where
    from_one : (x y : ℕ) → x < y → (y ≡ 0) ⊎ ⊥ → (x ≡ 0) ⊎ ⊥
    from_one x y l (inl e) = absurd (omega arith)
    from_one x y l (inr m) = absurd m

    small : (p : ℕ) → (p ≡ q) ⊎ ⊥ → p < 2 ^ 30
    small p (inl e) = subst (λ v. v < 2 ^ 30) (sym e) low
    small p (inr m) = absurd m

-- ---- the sorted list

first_part : ℕ × Vec ℕ Global → ℕ
first_part a = a.0

stacked_states : (ss : List (ℕ × Vec ℕ Global)) → map state_of (map stacked ss) ≡ map (λ a. a.0) ss
stacked_states [] = refl
stacked_states (s ∷ ss) = ap (λ l. s.0 ∷ l) (stacked_states ss)

-- states with their stacks, sorted by states, are the items
pub sorted_items : (ss ss' : List (ℕ × Vec ℕ Global)) (f : Forest)
    → IsProper f
    → map stacked ss ≡ places f
    → IsPermutation ss ss'
    → IsNonDecreasingBy (λ (a : ℕ × Vec ℕ Global). a.0) ss'
    → map stacked ss' ≡ items f
sorted_items ss ss' f proper e p rise =
    let moved = IsPermutation-map stacked ss ss' p in
    let apart : IsApart (map state_of (map stacked ss)) =
    subst (λ l. IsApart (map state_of l)) (sym e) (subst IsApart (sym (places-states f)) proper.states_apart) in
    let apart' : IsApart (map state_of (map stacked ss')) =
    apart-permuted (map state_of (map stacked ss)) (map state_of (map stacked ss'))
    (IsPermutation-map state_of (map stacked ss) (map stacked ss') moved) apart in
    let up : IsAscending (map state_of (map stacked ss')) =
    subst IsAscending (sym (stacked_states ss'))
    (ascending_by (λ (a : ℕ × Vec ℕ Global). a.0) ss' rise (subst IsApart (stacked_states ss') apart')) in
    items_same (map stacked ss') (items f) up (proper_is_history f proper).states_ascend
    (λ v m. member-arranged v (places f)
    (subst (IsMember v) e (permuted-member v (map stacked ss') (map stacked ss)
    (IsPermutation-sym (map stacked ss) (map stacked ss') moved) m)))
    (λ v m. permuted-member v (map stacked ss) (map stacked ss') moved
    (subst (IsMember v) (sym e) (arranged-member v (places f) m)))

-- behind no path the items are as they were
pub behind_nothing : (ps : List (Item ℕ)) → map (behind []) ps ≡ ps
behind_nothing [] = refl
behind_nothing (p ∷ ps) = ap (λ l. p ∷ l) (behind_nothing ps)
