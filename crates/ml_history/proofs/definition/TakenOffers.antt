-- What the targets take.
--
--   taken-offer    == what a state takes is one of the offers
--   TakenBy os o   == what the state of the offer o takes: an item that o does not beat
--   taken_by       == the state of each offer takes such an item
--   taken-ascends  == the states ascend
use Rattle.std.proofs.Common.{ℕ, ◌≡◌, false, eqb, List, [], ◌∷◌, map, refl, sym, subst, ap, ◌∙◌}
use Rattle.std.proofs.lemmas.Bool.{eqb-true, eq-eqb}
use Rattle.std.specs.List.{filter}
use Rattle.ml_lists.specs.Ascending.{IsAscending, ascending}
use Rattle.ml_lists.specs.Member.{IsMember}
use Rattle.ml_lists.proofs.Ascending.{member-ascending, ascending-member, ascending-is}
use Rattle.ml_lists.proofs.Member.{Image, member-map, member-map_from, member-filter, member-filter_from}
use Rattle.ml_trace.specs.Stack.{Item}
use Rattle.ml_history.specs.HistoryStep.{beats, best, offered_to, taken}
use Rattle.ml_history.proofs.definition.OrderOfOffers.{best-member, best_unbeaten}

-- the item that the state q takes
abbrev pub item_for : List (Item ℕ) → ℕ → Item ℕ
item_for os q = record { state = q; stack = best (offered_to q os) }

-- the stack of an offer is among those that are offered to its state
offered_to-has : (os : List (Item ℕ)) (o : Item ℕ) → IsMember o os → IsMember o.stack (offered_to o.state os)
offered_to-has os o m =
    member-map (λ (a : Item ℕ). a.stack) o (filter (λ (a : Item ℕ). eqb a.state o.state) os)
    (member-filter (λ (a : Item ℕ). eqb a.state o.state) o os m (eq-eqb o.state o.state refl))

-- what is among those is offered
offered_to-from : (os : List (Item ℕ)) (q : ℕ) (s : List ℕ) → IsMember s (offered_to q os)
    → IsMember (record { state = q; stack = s }) os
offered_to-from os q s m = from_image (member-map_from (λ (a : Item ℕ). a.stack) s
    (filter (λ (a : Item ℕ). eqb a.state q) os) m)
  where
    from_image : Image (λ (a : Item ℕ). a.stack) s (filter (λ (a : Item ℕ). eqb a.state q) os)
        → IsMember (record { state = q; stack = s }) os
    from_image i =
        let f = member-filter_from (λ (a : Item ℕ). eqb a.state q) i.from os i.member in
        let states : i.from.state ≡ q = eqb-true i.from.state q f.1 in
        let first : IsMember (record { state = q; stack = i.from.stack }) os =
        subst (λ p. IsMember (record { state = p; stack = i.from.stack }) os) states f.0 in
        subst (λ v. IsMember (record { state = q; stack = v }) os) (sym i.holds) first

-- where some stack is a member, the best is a member
best-in : (ss : List (List ℕ)) (s : List ℕ) → IsMember s ss → IsMember (best ss) ss
best-in [] s m = absurd m
best-in (t ∷ ts) s m = best-member t ts

-- the state of an offer takes one of the offers
item_for-offer : (os : List (Item ℕ)) (o : Item ℕ) → IsMember o os → IsMember (item_for os o.state) os
item_for-offer os o m = offered_to-from os o.state (best (offered_to o.state os))
    (best-in (offered_to o.state os) o.stack (offered_to-has os o m))

-- what a state takes is one of the offers
pub taken-offer : (os : List (Item ℕ)) (a : Item ℕ) → IsMember a (taken os) → IsMember a os
taken-offer os a m = from_image (member-map_from (item_for os) a (ascending (map (λ (o : Item ℕ). o.state) os)) m)
  where
    from_offer : (q : ℕ) → a ≡ item_for os q → Image (λ (o : Item ℕ). o.state) q os → IsMember a os
    from_offer q is o =
        let taken_one : IsMember (item_for os o.from.state) os = item_for-offer os o.from o.member in
        subst (λ v. IsMember v os) (sym (is ∙ ap (item_for os) o.holds)) taken_one

    from_image : Image (item_for os) a (ascending (map (λ (o : Item ℕ). o.state) os)) → IsMember a os
    from_image i =
        from_offer i.from i.holds
        (member-map_from (λ (o : Item ℕ). o.state) i.from os
        (ascending-member i.from (map (λ (o : Item ℕ). o.state) os) i.member))

-- what the state of the offer o takes: an item that o does not beat
pub record TakenBy (os : List (Item ℕ)) (o : Item ℕ) : Type 0 where
  pub item : Item ℕ
  pub member : IsMember item (taken os)
  pub state_is : item.state ≡ o.state
  pub unbeaten : beats o.stack item.stack ≡ false

-- the state of each offer takes an item that the offer does not beat
pub taken_by : (os : List (Item ℕ)) (o : Item ℕ) → IsMember o os → TakenBy os o
taken_by os o m = record {
  item = item_for os o.state;
  member = member-map (item_for os) o.state (ascending (map (λ (a : Item ℕ). a.state) os))
      (member-ascending o.state (map (λ (a : Item ℕ). a.state) os) (member-map (λ (a : Item ℕ). a.state) o os m));
  state_is = refl;
  unbeaten = best_unbeaten o.stack (offered_to o.state os) (offered_to-has os o m);
}

-- the states of items that are made for states are these states
pub states_of : (f : ℕ → Item ℕ) (qs : List ℕ)
    → ((q : ℕ) → (f q).state ≡ q)
    → map (λ (a : Item ℕ). a.state) (map f qs) ≡ qs
states_of f [] each = refl
states_of f (q ∷ qs) each = ap (λ p. p ∷ map (λ (a : Item ℕ). a.state) (map f qs)) (each q)
    ∙ ap (λ ps. q ∷ ps) (states_of f qs each)

-- the states ascend
pub taken-ascends : (os : List (Item ℕ)) → IsAscending (map (λ (a : Item ℕ). a.state) (taken os))
taken-ascends os =
    subst IsAscending (sym (states_of (item_for os) (ascending (map (λ (a : Item ℕ). a.state) os)) (λ q. refl)))
    (ascending-is (map (λ (a : Item ℕ). a.state) os))
