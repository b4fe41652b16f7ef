-- Offers along a letter.
--
--   Offer h l o  == o is an offer: the stack of a state of h, along a transition of l
--   offer_from   == each member of the list of offers is an offer
--   offer_in     == each offer is a member of it
use Rattle.std.proofs.Common.{ℕ, ◌≡◌, Bool, eqb, List, refl, sym, subst, subst₂, ap}
use Rattle.std.proofs.lemmas.Bool.{eqb-true, eq-eqb}
use Rattle.std.specs.List.{filter}
use Rattle.ml_lists.specs.Member.{IsMember}
use Rattle.ml_lists.proofs.Member.{Image, member-map, member-map_from, member-filter, member-filter_from, member-flat_map, member-flat_map_from}
use Rattle.ml_trace.specs.declared.letters.Transition.{Transition}
use Rattle.ml_trace.specs.Run.{in_letter}
use Rattle.ml_trace.specs.Stack.{Item}
use Rattle.ml_history.specs.HistoryStep.{live, offered, offers, offers_along}

-- o is an offer: the stack of a state of h, along a transition of the letter
pub record Offer (h : List (Item ℕ)) (letter : List Transition) (o : Item ℕ) : Type 0 where
  pub source : Item ℕ
  pub member : IsMember source h
  pub accepting : Bool
  pub transition : in_letter letter source.state o.state accepting
  pub stack_is : o.stack ≡ offered (live h) accepting source.stack

-- each member of the offers of a transition is an offer
along : (h : List (Item ℕ)) (letter : List Transition) (t : Transition) (o : Item ℕ)
    → IsMember t letter
    → IsMember o (offers_along h t)
    → Offer h letter o
along h letter t o in_word inside =
    from_image (member-map_from (λ (a : Item ℕ). record { state = t.to; stack = offered (live h) t.accepting a.stack })
    o (filter (λ (a : Item ℕ). eqb a.state t.from) h) inside)
  where
    from_image : Image (λ (a : Item ℕ). record { state = t.to; stack = offered (live h) t.accepting a.stack }) o
        (filter (λ (a : Item ℕ). eqb a.state t.from) h) → Offer h letter o
    from_image i =
        let f = member-filter_from (λ (a : Item ℕ). eqb a.state t.from) i.from h i.member in
        let starts : i.from.state ≡ t.from = eqb-true i.from.state t.from f.1 in
        let ends : o.state ≡ t.to = ap (λ (a : Item ℕ). a.state) i.holds in
        record {
          source = i.from;
          member = f.0;
          accepting = t.accepting;
          transition = subst₂ (λ p q. in_letter letter p q t.accepting) (sym starts) (sym ends) in_word;
          stack_is = ap (λ (a : Item ℕ). a.stack) i.holds;
        }

-- each member of the list of offers is an offer
pub offer_from : (h : List (Item ℕ)) (letter : List Transition) (o : Item ℕ)
    → IsMember o (offers h letter)
    → Offer h letter o
offer_from h letter o m =
    let i = member-flat_map_from (offers_along h) o letter m in
    along h letter i.from o i.member i.inside

-- each offer is a member of the list of offers
pub offer_in : (h : List (Item ℕ)) (letter : List Transition) (o : Item ℕ)
    → Offer h letter o
    → IsMember o (offers h letter)
offer_in h letter o f =
    let t : Transition = record { from = f.source.state; to = o.state; accepting = f.accepting } in
    let kept = member-filter (λ (a : Item ℕ). eqb a.state t.from) f.source h f.member
    (eq-eqb f.source.state f.source.state refl) in
    let image = member-map (λ (a : Item ℕ). record { state = o.state; stack = offered (live h) f.accepting a.stack })
    f.source (filter (λ (a : Item ℕ). eqb a.state t.from) h) kept in
    let here : IsMember o (offers_along h t) =
    subst (λ s. IsMember (record { state = o.state; stack = s }) (offers_along h t)) (sym f.stack_is) image in
    member-flat_map (offers_along h) t o letter f.transition here
