-- Items and local traces that are found by their node, in lists that rise by it.
--
--   rise_by_node     == the items of an entry rise by their nodes
--   among_at         == an item comes along a trace from some of the items at its source exactly where from some of all
--   traced_at        == an item is traced back along the traces to its node exactly where it is along all
--   led_into         == those of the traces that lead to one of some nodes
--   led_at, led_nowhere == and among them those to one node
--   reached_node, unreached_node == some trace leads to a node exactly where those to it aren't none
--   item_nodes_stand, item_nodes_inside == the nodes at which items stand, as a set
--   told_sorted      == what is told of traces is told of them in another order
use Rattle.std.proofs.Common.{◌≡◌, ◌↔◌, ℕ, zero, suc, ◌+◌, ◌<◌, ◌≤◌, Bool, true, false, ◌&&◌, ◌||◌, ◌==◌, nat_lt, nat_eq, List, [], ◌∷◌}
use Rattle.std.proofs.Common.{Option, None, Some, All, length, get_or, map, IsTrue, inl, refl, sym, subst, arith}
use Rattle.std.specs.List.{list_any}
use Rattle.std.proofs.lemmas.Bool.{eqb-true, eq-eqb, true≢false}
use Rattle.std.proofs.lemmas.Bool.Decides.{nat_tests}
use Rattle.std.proofs.lemmas.List.Sorted.{IsNonDecreasingBy-from_all_adjacent}
use Rattle.ml_lists.specs.Member.{IsMember}
use Rattle.ml_lists.specs.Ascending.{ascending}
use Rattle.ml_lists.proofs.Ascending.{ascending-member, member-ascending}
use Rattle.ml_lists.proofs.Member.{All-member, member-All, member-map, member-map_from, member-filter, member-filter_from, list_any-member, member-list_any}
use Rattle.ml_trace.specs.declared.letters.AutomatonState.{AutomatonState}
use Rattle.ml_trace.specs.declared.letters.Triple.{Triple}
use Rattle.ml_trace.specs.Stack as traced
use Rattle.ml_refutation.specs.declared.refutation.Item.{Item}
use Rattle.ml_refutation.specs.Refutation.{AreAbove, guess_before}
use Rattle.ml_refutation.specs.Views.{item_of}
use Rattle.ml_refute_check.specs.private.Sources.{stack_of, SourceAmong, HasSource, IsNameTraced, IsItemTraced, LeadInto, StandAmong, RiseByNode, IsReached, led}

-- ---- items by their nodes

no_lower : (m n : ℕ) (guess : Bool) → (nat_lt m n || ((m == n) && guess)) ≡ true → m ≤ n
no_lower m n guess is = grind (arith, nat_tests)

rises : (stacks : List (List ℕ)) (before : Option AutomatonState) (items : List Item)
    → AreAbove before (map (λ (a : traced.Item AutomatonState). a.state) (map (item_of stacks) items))
    → (k : ℕ) (d : Item)
    → k + 1 < length items
    → (get_or items k d).node ≤ (get_or items (k + 1) d).node
rises stacks before [] above k d low = absurd (omega arith)
rises stacks before (a ∷ []) above k d low = absurd (omega arith)
rises stacks before (a ∷ b ∷ others) above zero d low = no_lower a.node b.node (guess_before a.odd b.odd) above.1.0
rises stacks before (a ∷ b ∷ others) above (suc k) d low =
    let next : suc (k + 1) ≡ suc k + 1 = omega arith in
    subst (λ (j : ℕ). (get_or (b ∷ others) k d).node ≤ (get_or (a ∷ b ∷ others) j d).node) next
    (rises stacks (Some (record { node = a.node; odd = a.odd })) (b ∷ others) above.1 k d (omega arith))

pub rise_by_node : (stacks : List (List ℕ)) (items : List Item)
    → AreAbove None (map (λ (a : traced.Item AutomatonState). a.state) (map (item_of stacks) items))
    → RiseByNode items
rise_by_node stacks items above = IsNonDecreasingBy-from_all_adjacent (λ (a : Item). a.node) items (rises stacks None items above)

-- ---- sources among what is found

module _ (stacks : List (List ℕ)) (odds : List ℕ) where
  pub among_at : (t : Triple) (y : ℕ) (progress : Bool) (items found : List Item) (behind : Item) (b : Bool)
      → ((a : Item) → IsMember a found ↔ (IsMember a items × (a.node ≡ t.from)))
      → (IsTrue b ↔ SourceAmong stacks odds t y progress found behind)
      → IsTrue b ↔ SourceAmong stacks odds t y progress items behind
  among_at t y progress items found behind b at told = (
    λ h. let s = told.0 h in record { item = s.item; member = ((at s.item).0 s.member).0; is_source = s.is_source },
    λ s. told.1 (record { item = s.item; member = (at s.item).1 (s.member, s.is_source.begins); is_source = s.is_source }),
  )

  module _ (traces found : List Triple) (items : List Item) (behind : Item)
      (at : (t : Triple) → IsMember t found ↔ (IsMember t traces × (t.to ≡ behind.node))) where
    of_all : (y : ℕ) (progress : Bool) → HasSource stacks odds traces y progress items behind
        → HasSource stacks odds found y progress items behind
    of_all y progress s = record {
      trace = s.trace;
      member = (at s.trace).1 (s.member, sym s.among.is_source.ends);
      among = s.among;
    }

    of_found : (y : ℕ) (progress : Bool) → HasSource stacks odds found y progress items behind
        → HasSource stacks odds traces y progress items behind
    of_found y progress s = record { trace = s.trace; member = ((at s.trace).0 s.member).0; among = s.among }

    module _ (bound : ℕ) (green : Option ℕ) where
      name_of_all : (y : ℕ) → IsNameTraced stacks odds traces bound green items y behind
          → IsNameTraced stacks odds found bound green items y behind
      name_of_all y n = record {
        below = λ low. of_all y _ (n.below low);
        if_green = λ e. ((n.if_green e).0, of_all y true (n.if_green e).1);
      }

      name_of_found : (y : ℕ) → IsNameTraced stacks odds found bound green items y behind
          → IsNameTraced stacks odds traces bound green items y behind
      name_of_found y n = record {
        below = λ low. of_found y _ (n.below low);
        if_green = λ e. ((n.if_green e).0, of_found y true (n.if_green e).1);
      }

      pub traced_at : (b : Bool) → (IsTrue b ↔ IsItemTraced stacks odds found bound green items behind)
          → IsTrue b ↔ IsItemTraced stacks odds traces bound green items behind
      traced_at b told = (
        λ h k z low. name_of_found (get_or (stack_of stacks behind) k z) (told.0 h k z low),
        λ all. told.1 (λ k z low. name_of_all (get_or (stack_of stacks behind) k z) (all k z low)),
      )

-- the traces that lead to one of these nodes
pub led_into : (next : List ℕ) (made : List Triple) → LeadInto next made (led next made)
led_into next made t = (of_led, λ h. into h.0 h.1)
  where
    of_led : IsMember t (led next made) → IsMember t made × IsMember t.to next
    of_led m =
        let p = member-filter_from (λ (s : Triple). list_any (nat_eq s.to) next) t made m in
        let some = list_any-member (nat_eq t.to) next p.1 in
        (p.0, subst (λ n. IsMember n next) (sym (eqb-true t.to some.item some.passes)) some.member)

    into : IsMember t made → IsMember t.to next → IsMember t (led next made)
    into m stays =
        member-filter (λ (s : Triple). list_any (nat_eq s.to) next) t made m
        (member-list_any (nat_eq t.to) t.to next stays (eq-eqb t.to t.to refl))

-- and among them those to one of the nodes
pub led_at : (next : List ℕ) (traces found : List Triple) (node : ℕ)
    → IsMember node next
    → ((t : Triple) → IsMember t found ↔ (IsMember t traces × (t.to ≡ node)))
    → (t : Triple) → IsMember t found ↔ (IsMember t (led next traces) × (t.to ≡ node))
led_at next traces found node member at t = (
  λ m. let h = (at t).0 m in ((led_into next traces t).1 (h.0, subst (λ n. IsMember n next) (sym h.1) member), h.1),
  λ h. (at t).1 (((led_into next traces t).0 h.0).0, h.1),
)

-- none leads to another node
pub led_nowhere : (next : List ℕ) (traces : List Triple) (node : ℕ)
    → ¬ (IsMember node next)
    → (t : Triple) → IsMember t [] ↔ (IsMember t (led next traces) × (t.to ≡ node))
led_nowhere next traces node none t = (
  λ m. absurd m,
  λ h. absurd (none (subst (λ n. IsMember n next) h.1 ((led_into next traces t).0 h.0).1)),
)

-- some trace leads to a node where those to it aren't none, and none where they are
pub reached_node : (traces found : List Triple) (node : ℕ)
    → ((t : Triple) → IsMember t found ↔ (IsMember t traces × (t.to ≡ node)))
    → (length found == 0) ≡ false
    → IsReached traces node
reached_node traces [] node at some = absurd (true≢false some)
reached_node traces (t ∷ found) node at some = (t, (at t).0 (inl refl))

pub unreached_node : (traces found : List Triple) (node : ℕ)
    → ((t : Triple) → IsMember t found ↔ (IsMember t traces × (t.to ≡ node)))
    → (length found == 0) ≡ true
    → ¬ (IsReached traces node)
unreached_node traces [] node at none r = (at r.0).1 r.1
unreached_node traces (t ∷ found) node at none r = let e = eqb-true (length (t ∷ found)) 0 none in absurd (omega arith)

-- ---- the nodes of items

-- the set of the nodes at which items stand: each item stands there, and where they stand among nodes, these are among them
pub item_nodes_stand : (items : List Item) (nodes : List ℕ) → nodes ≡ ascending (map (λ (a : Item). a.node) items)
    → StandAmong nodes items
item_nodes_stand items nodes is =
    let its = λ (a : Item). a.node in
    member-All (λ (a : Item). IsMember a.node nodes) items
    (λ a m. subst (IsMember a.node) (sym is) (member-ascending a.node (map its items) (member-map its a items m)))

pub item_nodes_inside : (items : List Item) (C nodes : List ℕ) → nodes ≡ ascending (map (λ (a : Item). a.node) items)
    → StandAmong C items
    → All (λ n. IsMember n C) nodes
item_nodes_inside items C nodes is stand = member-All (λ n. IsMember n C) nodes inside
  where
    inside : (n : ℕ) → IsMember n nodes → IsMember n C
    inside n m =
        let its = λ (a : Item). a.node in
        let i = member-map_from its n items (ascending-member n (map its items) (subst (IsMember n) is m)) in
        subst (λ k. IsMember k C) (sym i.holds) (All-member (λ (a : Item). IsMember a.node C) items stand i.from i.member)

-- what is told of traces is told of them in another order
pub told_sorted : (P : Triple → Type 0) (made sorted : List Triple)
    → ((t : Triple) → IsMember t made ↔ P t)
    → ((t : Triple) → IsMember t sorted ↔ IsMember t made)
    → (t : Triple)
    → IsMember t sorted ↔ P t
told_sorted P made sorted told same t = ((λ m. (told t).0 ((same t).0 m)), (λ h. (same t).1 ((told t).1 h)))
