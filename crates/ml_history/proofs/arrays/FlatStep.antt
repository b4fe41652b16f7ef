-- The step on flat arrays, from its parts.
--
--   stands-names   == a name is one of the names of all stacks where it stands in a stack
--   stack-names    == a name of one stack is one of them
--   taken_ways     == what the letter takes are ways down a tree
--   cut_low        == the names of the stacks that are cut are below 2r
--   flat_stepped   == the cut stacks with their new numbers are the history after the step
--   flat_live      == there are as many names in use behind the step as stand in the cut stacks
--   flat_mark      == the mark, by flags
--   held_start     == the start as the program holds it
--   laid_all       == arrays of a list of states with stacks
--   same_value     == whether two histories are one
--   cmp_next, cmp_left, cmp_last == how two histories compare, item by item
use Rattle.std.proofs.Common.{ℕ, ◌≡◌, ◌+◌, ◌*◌, ◌^◌, ◌<◌, ◌≤◌, ◌⊎◌, ◌↔◌, inl, inr, arith, Bool, IsTrue, true, false, not, ◌&&◌}
use Rattle.std.proofs.Common.{◌||◌, ltb, eqb, List, [], ◌∷◌, length, get_or, map, refl, sym, subst, ap, ◌∙◌}
use Rattle.std.proofs.lemmas.Bool.{cases_Bool, cases_lt}
use Rattle.std.proofs.lemmas.List.Folds.{list_any-append}
use Rattle.ml_lists.specs.Counting.{count}
use Rattle.ml_lists.specs.Least.{least}
use Rattle.ml_lists.specs.Member.{IsMember}
use Rattle.ml_lists.proofs.Member.{Image, place-member, member-append_left, member-append_right, member-map, member-map_from}
use Rattle.ml_lists.proofs.Ranks.{Ranked, count_passes, count_hit}
use Rattle.ml_trace.specs.declared.letters.Transition.{Transition}
use Rattle.ml_trace.specs.declared.marks.Mark.{Mark}
use Rattle.ml_trace.specs.Stack.{Item, has}
use Rattle.ml_trace.proofs.Stacks.{ends-has, has-member, member-has}
use Rattle.ml_history.specs.History.{IsHistory}
use Rattle.ml_history.specs.HistoryStep.{start}
use Rattle.ml_history.specs.HistoryOrder.{history_eq, history_eq_equiv, history_eq-same, names_of}
use Rattle.ml_history.specs.HistoryStep.{live, last_name, taken_along, offers, stands, is_full, through, cut, survives, is_red, is_green, new_number, renumbered, mark_of, stepped, step_mark}
use Rattle.ml_history.specs.private.TreeStep.{flagged}
use Rattle.ml_history.specs.private.Arrays.{IsHeld, renamed}
use Rattle.ml_history.specs.private.Keys.{item_at, stack_at}
use Rattle.ml_history.specs.private.Ways.{AreWays}
use Rattle.ml_history.proofs.definition.CutStacks.{through-has}
use Rattle.ml_history.proofs.definition.NamesInUse.{Standing, StandsFrom, stands-from, stands-in, live-has, live-witness}
use Rattle.ml_history.proofs.definition.OfferedStacks.{last_name-ends, offered-has}
use Rattle.ml_history.proofs.definition.Offers.{offer_from}
use Rattle.ml_history.proofs.definition.OneStep.{Behind, behind, behind_in, survives_in, cut_survives, renumbered_name}
use Rattle.ml_history.proofs.definition.StepKeeps.{start-is, taken_agree}
use Rattle.ml_history.proofs.definition.StepNames.{taken_ascends}
use Rattle.ml_history.proofs.definition.TakenOffers.{taken-offer}

-- ---- names

pub stands-names : (h : List (Item ℕ)) (y : ℕ) → has y (names_of h) ≡ stands h y
stands-names [] y = refl
stands-names (a ∷ as') y = list_any-append (λ x. eqb x y) a.stack (names_of as')
    ∙ ap (λ b. has y a.stack || b) (stands-names as' y)

pub stack-names : (h : List (Item ℕ)) (i y : ℕ)
    → i < length h
    → IsMember y (stack_at h i)
    → IsMember y (names_of h)
stack-names h i y low m =
    let d : Item ℕ = record { state = 0; stack = [] } in
    has-member y (names_of h)
    (stands-names h y ∙ stands-in h y (item_at h i) (place-member h i d low) (member-has y (stack_at h i) m))

-- what the letter takes are ways down a tree
pub taken_ways : (h : List (Item ℕ)) (letter : List Transition) → IsHistory h → AreWays (taken_along h letter)
taken_ways h letter history = record {
  ascend = λ a m. taken_ascends h letter a history m;
  agree = taken_agree h letter history;
}

-- the names of the stacks that are cut are below 2r
pub cut_low : (h : List (Item ℕ)) (letter : List Transition)
    → IsHistory h
    → (y : ℕ)
    → IsMember y (names_of (cut (taken_along h letter)))
    → y < 2 * live h
cut_low h letter history y m = from_item
    (stands-from (cut (taken_along h letter)) y
    (sym (stands-names (cut (taken_along h letter)) y) ∙ member-has y (names_of (cut (taken_along h letter))) m))
  where
    t : List (Item ℕ)
    t = taken_along h letter

    from_image : (b : Item ℕ) → has y b.stack ≡ true
        → Image (λ (a : Item ℕ). record { state = a.state; stack = through (is_full (taken_along h letter)) a.stack }) b
        (taken_along h letter) → y < 2 * live h
    from_image b n i =
        let o = offer_from h letter i.from (taken-offer (offers h letter) i.from i.member) in
        let inside = through-has (is_full (taken_along h letter)) y i.from.stack
        (subst (λ (v : Item ℕ). has y v.stack ≡ true) i.holds n) in
        let low = live-has h (last_name o.source.stack) o.source o.member
        (ends-has (last_name o.source.stack) o.source.stack
        (last_name-ends o.source.stack (history.not_empty o.source o.member))) in
        by_part o.source o.member low (offered-has (live h) o.accepting o.source.stack y
        (subst (λ s. has y s ≡ true) o.stack_is inside))
      where
        by_part : {accepting : Bool}
            → (s : Item ℕ)
            → IsMember s h
            → last_name s.stack < live h
            → (has y s.stack ≡ true) ⊎ ((accepting ≡ true) × (y ≡ live h + last_name s.stack))
            → y < 2 * live h
        by_part s k low (inl old) = let l = live-has h y s k old in omega arith
        by_part s k low (inr new) = omega (arith, new.1)

    from_item : Standing (cut (taken_along h letter)) y → y < 2 * live h
    from_item s = from_image s.item s.named
        (member-map_from
        (λ (a : Item ℕ). record { state = a.state; stack = through (is_full (taken_along h letter)) a.stack }) s.item
        (taken_along h letter) s.member)

map_same : (f g : ℕ → ℕ) (s : List ℕ) → ((y : ℕ) → IsMember y s → f y ≡ g y) → map f s ≡ map g s
map_same f g [] same = refl
map_same f g (x ∷ xs) same = let here = same x (inl refl) in let rest = map_same f g xs (λ y m. same y (inr m)) in
    λ i. here i ∷ rest i

renamed_same : (f g : ℕ → ℕ) (h : List (Item ℕ))
    → ((y : ℕ) → IsMember y (names_of h) → f y ≡ g y)
    → renamed f h ≡ renamed g h
renamed_same f g [] same = refl
renamed_same f g (a ∷ as') same =
    let here = map_same f g a.stack (λ y m. same y (member-append_left y a.stack (names_of as') m)) in
    let rest = renamed_same f g as' (λ y m. same y (member-append_right y a.stack (names_of as') m)) in
    λ i. record { state = a.state; stack = here i } ∷ rest i

-- the cut stacks with their new numbers are the history after the step
pub flat_stepped : (h : List (Item ℕ)) (letter : List Transition) (c : List (Item ℕ)) (standing : List Bool)
    (numbers : List ℕ)
    → IsHistory h
    → c ≡ cut (taken_along h letter)
    → ((y : ℕ) → flagged standing y ≡ stands c y)
    → length standing ≡ 2 * live h
    → ((y : ℕ) → y < length standing → get_or numbers y 0 ≡ count (flagged standing) y)
    → renamed (λ y. get_or numbers y 0) c ≡ stepped h letter
flat_stepped h letter c standing numbers history is flags long counted =
    renamed_same (λ y. get_or numbers y 0) (new_number c) c (λ y m. number y m) ∙ ap renumbered is
  where
    tests : flagged standing ≡ stands c
    tests = λ i y. flags y i

    number : (y : ℕ) → IsMember y (names_of c) → get_or numbers y 0 ≡ new_number c y
    number y m =
        let low = cut_low h letter history y (subst (λ t. IsMember y (names_of t)) is m) in
        counted y (omega arith) ∙ ap (λ t. count t y) tests

-- there are as many names in use behind the step as survive it
live_survivors : (h : List (Item ℕ)) (letter : List Transition)
    → IsHistory h
    → count (survives (taken_along h letter)) (2 * live h) ≡ live (stepped h letter)
live_survivors h letter history = both (cases_lt (live (stepped h letter)) top) (cases_lt top (live (stepped h letter)))
  where
    t : List (Item ℕ)
    t = taken_along h letter

    top : ℕ
    top = count (survives (taken_along h letter)) (2 * live h)

    -- a survivor of a rank has it as its number behind the step
    more : Ranked (survives (taken_along h letter)) (2 * live h) (live (stepped h letter)) → ⊥
    more r =
        let c = survives_in (taken_along h letter) r.number r.passes in
        let stack = through (is_full (taken_along h letter)) c.item.stack in
        let named = member-map (count (survives (taken_along h letter))) r.number stack
        (has-member r.number stack c.named) in
        let low = live-has (stepped h letter) (count (survives (taken_along h letter)) r.number)
        (record { state = c.item.state; stack = map (count (survives (taken_along h letter))) stack })
        (behind_in (taken_along h letter) c.item c.member)
        (member-has (count (survives (taken_along h letter)) r.number)
        (map (count (survives (taken_along h letter))) stack) named) in
        omega (arith, low, r.rank)

    -- each number behind the step is the rank of a survivor
    fewer : StandsFrom (stepped h letter) top → ⊥
    fewer s =
        let b = behind (taken_along h letter) s.item s.member in
        from_name b (renumbered_name (count (survives (taken_along h letter))) s.name
        (through (is_full (taken_along h letter)) b.item.stack)
        (subst (λ v. has s.name v ≡ true) b.stack_is s.named))
      where
        from_name : (b : Behind (taken_along h letter) s.item)
            → Image (count (survives (taken_along h letter))) s.name
            (through (is_full (taken_along h letter)) b.item.stack)
            → ⊥
        from_name b i =
            let alive = cut_survives (taken_along h letter) b.item i.from b.member
            (member-has i.from (through (is_full (taken_along h letter)) b.item.stack) i.member) in
            let low = cut_low h letter history i.from (has-member i.from (names_of (cut (taken_along h letter)))
            (stands-names (cut (taken_along h letter)) i.from ∙ alive)) in
            omega (arith, s.high, i.holds, count_passes (survives (taken_along h letter)) i.from (2 * live h) low alive)

    both : (live (stepped h letter) < top) ⊎ (top ≤ live (stepped h letter))
        → (top < live (stepped h letter)) ⊎ (live (stepped h letter) ≤ top)
        → top ≡ live (stepped h letter)
    both (inl less) e = absurd (more (count_hit (survives (taken_along h letter)) (2 * live h) (live (stepped h letter))
        less))
    both (inr le) (inl less) = absurd (fewer (live-witness (stepped h letter) top less))
    both (inr le) (inr ge) = omega arith

pub flat_live : (h : List (Item ℕ)) (letter : List Transition) (c : List (Item ℕ)) (standing : List Bool)
    → IsHistory h
    → c ≡ cut (taken_along h letter)
    → ((y : ℕ) → flagged standing y ≡ stands c y)
    → length standing ≡ 2 * live h
    → count (flagged standing) (length standing) ≡ live (stepped h letter)
flat_live h letter c standing history is flags long =
    (λ i. count (tests i) (long i)) ∙ live_survivors h letter history
  where
    tests : flagged standing ≡ survives (taken_along h letter)
    tests = (λ i y. flags y i) ∙ ap stands is

-- the mark, by flags
pub flat_mark : (h : List (Item ℕ)) (letter : List Transition) (t c : List (Item ℕ)) (used : ℕ)
    (full standing : List Bool) (m : Mark)
    → used ≡ live h
    → t ≡ taken_along h letter
    → c ≡ cut (taken_along h letter)
    → ((y : ℕ) → flagged full y ≡ is_full t y)
    → ((y : ℕ) → flagged standing y ≡ stands c y)
    → m ≡ mark_of (least (λ y. ltb y used && not (flagged standing y)) (2 * used))
    (least (λ y. flagged full y && flagged standing y) (2 * used))
    → m ≡ step_mark h letter
flat_mark h letter t c used full standing m used_is t_is c_is full_is flags is =
    is
    ∙ (λ i. mark_of (least (λ y. ltb y used && not (tests i y)) (2 * used))
    (least (λ y. fulls y i && tests i y) (2 * used)))
    ∙ (λ i. mark_of (least (is_red (used_is i) (taken_along h letter)) (2 * used_is i))
    (least (is_green (taken_along h letter)) (2 * used_is i)))
  where
    tests : flagged standing ≡ survives (taken_along h letter)
    tests = (λ i y. flags y i) ∙ ap stands c_is

    fulls : (y : ℕ) → flagged full y ≡ is_full (taken_along h letter) y
    fulls y = full_is y ∙ ap (λ u. is_full u y) t_is

-- ---- the start

pub held_start : (q : ℕ) (h : List (Item ℕ)) → q < 2 ^ 30 → h ≡ start q → IsHeld 1 h
held_start q h low is = subst (IsHeld 1) (sym is) (record {
  kept = record { history = start-is q; small = λ a m. small a m };
  live_is = refl;
})
  where
    small : (a : Item ℕ) → (a ≡ record { state = q; stack = 0 ∷ [] }) ⊎ ⊥ → a.state < 2 ^ 30
    small a (inl e) = subst (λ (v : Item ℕ). v.state < 2 ^ 30) (sym e) low
    small a (inr none) = absurd none

-- ---- equality

pub same_value : (h g : List (Item ℕ)) (r : Bool) → (IsTrue r ↔ h ≡ g) → r ≡ history_eq h g
same_value h g r e = by_test (cases_Bool r) (cases_Bool (history_eq h g))
  where
    by_test : (r ≡ true) ⊎ (r ≡ false) → (history_eq h g ≡ true) ⊎ (history_eq h g ≡ false) → r ≡ history_eq h g
    by_test (inl t) (inl s) = t ∙ sym s
    by_test (inl t) (inr s) =
        let alike : history_eq h g ≡ true = subst (λ u. history_eq h u ≡ true) (e.0 t) (history_eq_equiv.refl h) in
        absurd (cc)
    by_test (inr t) (inl s) = let truth : r ≡ true = e.1 (history_eq-same h g s) in absurd (cc)
    by_test (inr t) (inr s) = t ∙ sym s
