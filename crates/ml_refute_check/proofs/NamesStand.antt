-- Flags of the names that stand in items.
--
--   stand_before == where all flags are set that names up to some item set, each name in use stands
--   names_stand == where exactly the names that stand are flagged, all flags are set exactly where each name in use
--                  stands
use Rattle.std.proofs.Common.{◌≡◌, ◌↔◌, ℕ, ◌<◌, ◌≤◌, ◌⊎◌, ◌||◌, inl, inr, Bool, true, false, List, length, get_or, map, take, drop, All, refl, IsTrue, sym, ap, ◌∙◌, subst, arith}
use Rattle.std.proofs.lemmas.List.{take_all, get_or_default, take-append-drop}
use Rattle.std.proofs.lemmas.Bool.{or_cases}
use Rattle.std.specs.List.{list_any}
use Rattle.ml_lists.specs.Member.{IsMember}
use Rattle.ml_lists.proofs.Member.{member-map, member-map_from, list_any-member, member-list_any, member-append_left, place-member}
use Rattle.ml_trace.specs.declared.letters.AutomatonState.{AutomatonState}
use Rattle.ml_trace.specs.NamesCondition.{EachNameStands}
use Rattle.ml_trace.specs.Stack as traced
use Rattle.ml_trace.specs.Stack.{has}
use Rattle.ml_refutation.specs.declared.refutation.Item.{Item}
use Rattle.ml_refutation.specs.Views.{item_of}
use Rattle.ml_refute_check.specs.private.Sources.{stack_of}

module _ (stacks : List (List ℕ)) (live : ℕ) (items : List Item) (flags : List Bool) (i : ℕ)
    (long : length flags ≡ live)
    (flagged : (y : ℕ) → get_or flags y false ≡ list_any (λ (a : Item). has y (stack_of stacks a)) (take i items))
    (past : length items ≤ i) where
  abbrev traces : traced.Entry AutomatonState
  traces = record { live = live; items = map (item_of stacks) items }

  of_all : (y : ℕ) → get_or flags y false ≡ list_any (λ (a : Item). has y (stack_of stacks a)) items
  of_all y = flagged y ∙ ap (list_any (λ (a : Item). has y (stack_of stacks a))) (take_all i items past)

  stands : All (λ flag. flag ≡ true) flags → EachNameStands traces
  stands all y low =
      let p = list_any-member (λ (a : Item). has y (stack_of stacks a)) items (sym (of_all y) ∙ all y false (omega arith)) in
      (item_of stacks p.item, member-map (item_of stacks) p.item items p.member, p.passes)

  set : EachNameStands traces → All (λ flag. flag ≡ true) flags
  set each k d low = get_or_default flags k d false low ∙ of_all k ∙ of_item (each k (omega arith))
    where
      of_item : (a : traced.Item AutomatonState) × IsMember a (map (item_of stacks) items) × (has k a.stack ≡ true)
          → list_any (λ (a : Item). has k (stack_of stacks a)) items ≡ true
      of_item h =
          let image = member-map_from (item_of stacks) h.0 items h.1 in
          member-list_any (λ (a : Item). has k (stack_of stacks a)) image.from items image.member
          (subst (λ (a : traced.Item AutomatonState). has k a.stack ≡ true) image.holds h.2)

  pub names_stand : (b : Bool) → (IsTrue b ↔ All (λ flag. flag ≡ true) flags) → IsTrue b ↔ EachNameStands traces
  names_stand b told = ((λ h. stands (told.0 h)), (λ each. told.1 (set each)))

-- the flags that were set up to an item, and with it
module _ (stacks : List (List ℕ)) (live : ℕ) (items : List Item) (flags set : List Bool) (i : ℕ) (a : Item) (names : List ℕ)
    (flagged : (y : ℕ) → get_or flags y false ≡ list_any (λ (b : Item). has y (stack_of stacks b)) (take i items))
    (low : i < length items)
    (is : a ≡ get_or items i a)
    (names_are : names ≡ stack_of stacks a)
    (noted : (y : ℕ) → get_or set y false ≡ (get_or flags y false || has y names)) where
  front_member : (b : Item) → IsMember b (take i items) → IsMember b items
  front_member b m = subst (IsMember b) (take-append-drop i items) (member-append_left b (take i items) (drop i items) m)

  -- all are: so each name stands, whatever items come behind
  pub stand_before : ((y : ℕ) → y < live → get_or set y false ≡ true)
      → IsTrue true ↔ EachNameStands (record { live = live; items = map (item_of stacks) items })
  stand_before all = (λ h y below. by_part y (or_cases (get_or flags y false) (has y names) (sym (noted y) ∙ all y below)), λ each. refl)
    where
      by_part : (y : ℕ) → (get_or flags y false ≡ true) ⊎ (has y names ≡ true)
          → (b : traced.Item AutomatonState) × IsMember b (map (item_of stacks) items) × (has y b.stack ≡ true)
      by_part y (inl before) =
          let p = list_any-member (λ (b : Item). has y (stack_of stacks b)) (take i items) (sym (flagged y) ∙ before) in
          (item_of stacks p.item, member-map (item_of stacks) p.item items (front_member p.item p.member), p.passes)
      by_part y (inr here) =
          let at : IsMember a items = subst (λ b. IsMember b items) (sym is) (place-member items i a low) in
          (item_of stacks a, member-map (item_of stacks) a items at, subst (λ ns. has y ns ≡ true) names_are here)
