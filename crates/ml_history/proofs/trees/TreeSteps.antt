-- The history step on trees is the history step.
--
--   standing s            == the test for the names of the tree s
--   number_in s           == the number of a name among those of the tree s
--   after_step f l        == the tree behind the step
--   tree_step_items       == its items are what a step makes of those of the tree
--   tree_step_proper      == it is the tree of a history
--   tree_step_mark        == the mark, by the names of the settled tree and those of full vertices
use Rattle.std.proofs.Common.{ℕ, ◌≡◌, ◌*◌, ◌<◌, ◌⊎◌, inl, inr, arith, Bool, true, false, not, ◌&&◌, ltb, List, map, sym, subst, ap, ◌∙◌}
use Rattle.std.proofs.lemmas.Bool.{cases_Bool, and_parts}
use Rattle.ml_lists.specs.Counting.{count}
use Rattle.ml_lists.specs.Least.{least}
use Rattle.ml_lists.specs.Member.{IsMember}
use Rattle.ml_lists.proofs.Member.{Image, member-map, member-map_from}
use Rattle.ml_lists.proofs.Ranks.{count_passes, count_same, count_hit}
use Rattle.ml_trace.specs.declared.letters.Transition.{Transition}
use Rattle.ml_trace.specs.Stack.{Item, has, ends_in}
use Rattle.ml_trace.proofs.Stacks.{ends-has, has-member, member-has}
use Rattle.ml_history.specs.private.Forest.{Forest, names, places, items, IsProper}
use Rattle.ml_lists.specs.Times.{IsApart}
use Rattle.ml_history.specs.HistoryStep.{live, stands, is_last, is_full, cut, new_number, survives, renumbered, taken_along, stepped, step_mark, mark_of, is_red, is_green}
use Rattle.ml_history.specs.private.TreeStep.{settled, fulls, renewed, walked}
use Rattle.ml_history.proofs.trees.ItemsByState.{items_same}
use Rattle.ml_lists.specs.Within.{Within}
use Rattle.ml_lists.proofs.Within.{members-list_any}
use Rattle.ml_history.proofs.trees.Forests.{places-names, names-places, OwnsSome}
use Rattle.ml_history.proofs.definition.NamesInUse.{stands-from, stands-in}
use Rattle.ml_history.proofs.trees.ProperTrees.{proper_is_history, items-member, member-items}
use Rattle.ml_history.proofs.trees.RenumberedTrees.{number_by, renewed-from, renewed-has, renewed-names, renewed-apart, renewed-rise, renewed-owns, renewed-root}
use Rattle.ml_history.proofs.definition.RenumberedStacks.{KeepsOrder}
use Rattle.ml_history.proofs.trees.VerticalMerge.{cut_at, full_at, settled-states, settled-places, settled-apart, settled-rise, settled-root, settled-some, fulls-from, fulls-has}
use Rattle.ml_history.proofs.definition.StepKeeps.{step_is_history}
use Rattle.ml_lists.proofs.Times.{times-map}
use Rattle.ml_history.proofs.trees.TreeOfFirstOffers.{walked_taken, taken_walked, walked-apart, walked-names_apart, walked-rise, walked-root}

-- the test for the names of the tree
abbrev pub standing : Forest → ℕ → Bool
standing s y = has y (names s)

-- the number of a name among those of the tree: how many of them are below it
abbrev pub number_in : Forest → ℕ → ℕ
number_in s y = count (standing s) y

-- the tree behind the step
abbrev pub after_step : Forest → List Transition → Forest
after_step f letter = renewed (number_in (settled (walked f letter))) (settled (walked f letter))

-- ---- names of trees

-- new numbers keep the order of the names
keeps : (s : Forest) → KeepsOrder (number_in s) (names s)
keeps s y z my mz low = count_passes (standing s) y z low (member-has y (names s) my)

-- different names have different numbers
one_number : (s : Forest) (y z : ℕ)
    → IsMember y (names s)
    → IsMember z (names s)
    → number_in s y ≡ number_in s z
    → y ≡ z
one_number s y z my mz e = count_same (standing s) y z (member-has y (names s) my) (member-has z (names s) mz) e

-- a name stands in a stack where it is the name of a vertex
stands-is : (s : Forest) → OwnsSome s → (y : ℕ) → stands (places s) y ≡ standing s y
stands-is s some y = by_test (cases_Bool (stands (places s) y)) (cases_Bool (standing s y))
  where
    by_test : (stands (places s) y ≡ true) ⊎ (stands (places s) y ≡ false)
        → (standing s y ≡ true) ⊎ (standing s y ≡ false)
        → stands (places s) y ≡ standing s y
    by_test (inl p) (inl q) = p ∙ sym q
    by_test (inr p) (inr q) = p ∙ sym q
    by_test (inl p) (inr q) =
        let w = stands-from (places s) y p in
        let wrong = member-has y (names s) (places-names s w.item y w.member (has-member y w.item.stack w.named)) in
        absurd (cc)
    by_test (inr p) (inl q) =
        let l = names-places s y some (has-member y (names s) q) in
        let wrong = stands-in (places s) y l.item l.member (ends-has y l.item.stack l.ends) in
        absurd (cc)

-- a name is full where it is the name of a full vertex
full-is : (g : Forest) → IsApart (names g) → (y : ℕ) → is_full (places g) y ≡ has y (fulls g)
full-is g apart y = by_test (cases_Bool (is_full (places g) y)) (cases_Bool (has y (fulls g)))
  where
    by_test : (is_full (places g) y ≡ true) ⊎ (is_full (places g) y ≡ false)
        → (has y (fulls g) ≡ true) ⊎ (has y (fulls g) ≡ false)
        → is_full (places g) y ≡ has y (fulls g)
    by_test (inl p) (inl q) = p ∙ sym q
    by_test (inr p) (inr q) = p ∙ sym q
    by_test (inl p) (inr q) =
        let w = stands-from (places g) y (and_parts (stands (places g) y) (not (is_last (places g) y)) p).0 in
        let name = places-names g w.item y w.member (has-member y w.item.stack w.named) in
        let wrong = member-has y (fulls g) (fulls-has (is_full (places g)) g y (full_at g apart) name p) in
        absurd (cc)
    by_test (inr p) (inl q) =
        let wrong = fulls-from (is_full (places g)) g y (full_at g apart) (has-member y (fulls g) q) in
        absurd (cc)

module _ (f : Forest) (proper : IsProper f) (letter : List Transition) where
  abbrev g : Forest
  g = walked f letter

  abbrev s : Forest
  s = settled (walked f letter)

  abbrev t : List (Item ℕ)
  t = taken_along (items f) letter

  -- ---- the cut

  -- the names that are full in the tree are full in what is taken
  full_same : is_full (places g) ≡ is_full t
  full_same =
      let standing = λ (y : ℕ). members-list_any (λ (a : Item ℕ). has y a.stack) (places g) t
      (walked_taken f proper letter) (taken_walked f proper letter) in
      let last = λ (y : ℕ). members-list_any (λ (a : Item ℕ). ends_in y a.stack) (places g) t
      (walked_taken f proper letter) (taken_walked f proper letter) in
      λ i y. standing y i && not (last y i)

  settled_cut : places s ≡ map (cut_at (is_full t)) (places g)
  settled_cut = settled-places (is_full (places g)) g (full_at g (walked-names_apart f proper letter))
      ∙ ap (λ full. map (cut_at full) (places g)) full_same

  -- the places of the settled tree are what is taken, cut
  places_cut : Within (places s) (cut t)
  places_cut v m = from_image (member-map_from (cut_at (is_full t)) v (places g) (subst (IsMember v) settled_cut m))
    where
      from_image : Image (cut_at (is_full t)) v (places g) → IsMember v (cut t)
      from_image i = subst (λ w. IsMember w (cut t)) (sym i.holds)
          (member-map (cut_at (is_full t)) i.from t (walked_taken f proper letter i.from i.member))

  cut_places : Within (cut t) (places s)
  cut_places v m = from_image (member-map_from (cut_at (is_full t)) v t m)
    where
      from_image : Image (cut_at (is_full t)) v t → IsMember v (places s)
      from_image i =
          subst (IsMember v) (sym settled_cut)
          (subst (λ w. IsMember w (map (cut_at (is_full t)) (places g))) (sym i.holds)
          (member-map (cut_at (is_full t)) i.from (places g) (taken_walked f proper letter i.from i.member)))

  -- the names of the settled tree are those that survive
  survives_is : (y : ℕ) → survives t y ≡ standing s y
  survives_is y = sym (members-list_any (λ (a : Item ℕ). has y a.stack) (places s) (cut t) places_cut cut_places)
      ∙ stands-is s (settled-some g) y

  -- ---- new numbers

  numbers_are : new_number (cut t) ≡ number_in s
  numbers_are = λ i y. count (λ z. survives_is z i) y

  renumbered_is : renumbered (cut t) ≡ map (number_by (number_in s)) (cut t)
  renumbered_is = ap (λ n. map (number_by n) (cut t)) numbers_are

  behind_step : Within (places (after_step f letter)) (stepped (items f) letter)
  behind_step v m = subst (IsMember v) (sym renumbered_is) (from_image (renewed-from (number_in s) s v m))
    where
      from_image : Image (number_by (number_in s)) v (places s) → IsMember v (map (number_by (number_in s)) (cut t))
      from_image i = subst (λ w. IsMember w (map (number_by (number_in s)) (cut t))) (sym i.holds)
          (member-map (number_by (number_in s)) i.from (cut t) (places_cut i.from i.member))

  step_behind : Within (stepped (items f) letter) (places (after_step f letter))
  step_behind v m = from_image (member-map_from (number_by (number_in s)) v (cut t)
      (subst (IsMember v) renumbered_is m))
    where
      from_image : Image (number_by (number_in s)) v (cut t) → IsMember v (places (after_step f letter))
      from_image i = subst (λ w. IsMember w (places (after_step f letter))) (sym i.holds)
          (renewed-has (number_in s) s i.from (cut_places i.from i.member))

  -- ---- the tree behind the step

  -- it is the tree of a history
  pub tree_step_proper : IsProper (after_step f letter)
  tree_step_proper = record {
    one_root = renewed-root (number_in s) s (settled-root g (walked-root f proper letter));
    ages_rise = renewed-rise (number_in s) 0 0 s (keeps s) (settled-rise 0 g (walked-rise f proper letter))
        (λ z m. omega arith);
    owns = renewed-owns (number_in s) s (settled-some g);
    states_apart = renewed-apart (number_in s) s
        (subst IsApart (sym (settled-states g)) (walked-apart f proper letter));
    names_apart = subst IsApart (sym (renewed-names (number_in s) s))
        (times-map (number_in s) (names s) (one_number s) (settled-apart g (walked-names_apart f proper letter)));
    no_gap = λ x y low m. subst (IsMember x) (sym (renewed-names (number_in s) s))
        (below_it x y low (member-map_from (number_in s) y (names s)
        (subst (IsMember y) (renewed-names (number_in s) s) m)));
  }
    where
      below_it : (x y : ℕ) → x < y → Image (number_in s) y (names s) → IsMember x (map (number_in s) (names s))
      below_it x y low i =
          let e = i.holds in
          let r = count_hit (standing s) i.from x (omega arith) in
          subst (λ v. IsMember v (map (number_in s) (names s))) r.rank
          (member-map (number_in s) r.number (names s) (has-member r.number (names s) r.passes))

  -- its items are what the step makes of those of the tree
  pub tree_step_items : items (after_step f letter) ≡ stepped (items f) letter
  tree_step_items =
      items_same (items (after_step f letter)) (stepped (items f) letter)
      (proper_is_history (after_step f letter) tree_step_proper).states_ascend
      (step_is_history (items f) letter (proper_is_history f proper)).states_ascend
      (λ v m. behind_step v (items-member (after_step f letter) v m))
      (λ v m. member-items (after_step f letter) v (step_behind v m))

  -- the mark, by the names of the settled tree and those of full vertices
  pub tree_step_mark : step_mark (items f) letter
      ≡ mark_of (least (λ y. ltb y (live (items f)) && not (standing s y)) (2 * live (items f)))
      (least (λ y. has y (fulls g) && standing s y) (2 * live (items f)))
  tree_step_mark =
      let red : is_red (live (items f)) t ≡ (λ y. ltb y (live (items f)) && not (standing s y)) =
      λ i y. ltb y (live (items f)) && not (survives_is y i) in
      let fulls_are : (y : ℕ) → is_full t y ≡ has y (fulls g) = λ y. ap (λ test. test y) (sym full_same)
      ∙ full-is g (walked-names_apart f proper letter) y in
      let green : is_green t ≡ (λ y. has y (fulls g) && standing s y) = λ i y. fulls_are y i && survives_is y i in
      λ i. mark_of (least (red i) (2 * live (items f))) (least (green i) (2 * live (items f)))
