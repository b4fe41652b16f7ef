-- How histories compare, and what a hash reads of them.
--
-- Histories compare as the lists of their items do: item by item, and of two items first the states, then the stacks
-- name by name. A hash reads the states, and then the names of all stacks. Where each stack of a history begins with
-- the one root that it has, these determine the history.
--
--   item_eq, history_eq     == the items are one; the histories are one
--   item_cmp, history_cmp   == how two items, and two histories, compare
--   names_of h              == the names of the stacks of h, one stack behind the other
--   hash_writes h           == what a hash reads of h
--
-- The laws of these stand below them: history_eq and history_cmp are an equivalence and an order that agree.
use Rattle.std.specs.Prelude.{◌≡◌, ℕ, Bool, true, nat_eq, List, [], ◌∷◌, ◌++◌, map, refl}
use Rattle.std.specs.List.{flat_map}
use Rattle.std.specs.declared.cmp.Ordering.{Ordering}
use Rattle.std.specs.Ordering.{nat_cmp, on, then_cmp, eq_of_both, eq_by_cmp}
use Rattle.std.specs.Cmp.{IsTotalOrder, IsEquivalence, both_tied, unsigned_ties, first_so, second_so}
use Rattle.std.specs.Cmp.Lexicographic.{pointwise, slice_cmp, lists_ties, texts_ties, bytes_decides}
use Rattle.std.specs.Hash.{HashWrites}
use Rattle.std.specs.Hash as fed
use Rattle.std.proofs.Common.{subst}
use Rattle.std.proofs.lemmas.Bool.{eqb-true}
use Rattle.std.proofs.lemmas.Cmp.{on_total, then_total, on_equiv, and_equiv, nat_cmp_total, nat_eq_equiv, nat_list_cmp_total, nat_list_eq_equiv, lists_total, lists_equiv}
use Rattle.ml_trace.specs.Stack.{Item}

-- the items are one
abbrev pub item_eq : Item ℕ → Item ℕ → Bool
item_eq = eq_of_both (on (λ (a : Item ℕ). a.state) nat_eq) (on (λ (a : Item ℕ). a.stack) (pointwise nat_eq))

-- how two items compare: by their states, and then by their stacks
abbrev pub item_cmp : Item ℕ → Item ℕ → Ordering
item_cmp = then_cmp (on (λ (a : Item ℕ). a.state) nat_cmp) (on (λ (a : Item ℕ). a.stack) (slice_cmp nat_cmp))

-- the histories are one
abbrev pub history_eq : List (Item ℕ) → List (Item ℕ) → Bool
history_eq = pointwise item_eq

-- how two histories compare
abbrev pub history_cmp : List (Item ℕ) → List (Item ℕ) → Ordering
history_cmp = slice_cmp item_cmp

-- the names of the stacks, one stack behind the other
abbrev pub names_of : List (Item ℕ) → List ℕ
names_of h = flat_map (λ (a : Item ℕ). a.stack) h

-- what a hash reads of a history: its states, and then the names of all stacks
abbrev pub hash_writes : List (Item ℕ) → HashWrites
hash_writes h = fed.slice fed.u32 (map (λ (a : Item ℕ). a.state) h) ++ fed.slice fed.u32 (names_of h)

-- ---- laws

item_eq_equiv : IsEquivalence item_eq
item_eq_equiv = and_equiv (on_equiv (λ (a : Item ℕ). a.state) nat_eq_equiv)
    (on_equiv (λ (a : Item ℕ). a.stack) nat_list_eq_equiv)

item_ties : (a b : Item ℕ) → item_eq a b ≡ eq_by_cmp item_cmp a b
item_ties a b =
    both_tied (nat_eq a.state b.state) (pointwise nat_eq a.stack b.stack) (nat_cmp a.state b.state)
    (slice_cmp nat_cmp a.stack b.stack) (unsigned_ties a.state b.state) (texts_ties a.stack b.stack)

pub history_eq_equiv : IsEquivalence history_eq
history_eq_equiv = lists_equiv item_eq_equiv

pub history_cmp_total : IsTotalOrder history_cmp
history_cmp_total = lists_total (then_total (on_total (λ (a : Item ℕ). a.state) nat_cmp_total)
    (on_total (λ (a : Item ℕ). a.stack) nat_list_cmp_total))

pub history_ties : (h g : List (Item ℕ)) → history_eq h g ≡ eq_by_cmp history_cmp h g
history_ties h g = lists_ties item_cmp item_ties h g

-- histories of which history_eq holds are one
item_eq-same : (a b : Item ℕ) → item_eq a b ≡ true → a ≡ b
item_eq-same a b e =
    let states_same = eqb-true a.state b.state
    (first_so (nat_eq a.state b.state) (pointwise nat_eq a.stack b.stack) e) in
    let stacks_are = (bytes_decides a.stack b.stack).0
    (second_so (nat_eq a.state b.state) (pointwise nat_eq a.stack b.stack) e) in
    λ i. record { state = states_same i; stack = stacks_are i }

pub history_eq-same : (h g : List (Item ℕ)) → history_eq h g ≡ true → h ≡ g
history_eq-same [] [] e = refl
history_eq-same [] (b ∷ bs) e = absurd (cc)
history_eq-same (a ∷ as') [] e = absurd (cc)
history_eq-same (a ∷ as') (b ∷ bs) e =
    let here = item_eq-same a b (first_so (item_eq a b) (history_eq as' bs) e) in
    let rest = history_eq-same as' bs (second_so (item_eq a b) (history_eq as' bs) e) in
    λ i. here i ∷ rest i

-- it holds of one history, and of no two
pub history_eq-decides : (h g : List (Item ℕ)) → (history_eq h g ≡ true → h ≡ g) × (h ≡ g → history_eq h g ≡ true)
history_eq-decides h g = (history_eq-same h g, λ e. subst (λ k. history_eq h k ≡ true) e (history_eq_equiv.refl h))
