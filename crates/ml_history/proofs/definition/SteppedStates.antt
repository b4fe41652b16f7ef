-- Which states have a stack behind a step.
--
--   from_taken, in_taken  == behind the step are the states that took an offer
--   steps_follow_letters  == they are those to which a transition leads from a state that had a stack
use Rattle.std.proofs.Common.{ℕ, List, map, refl, sym, subst, ap, ◌∙◌}
use Rattle.ml_lists.proofs.Member.{Image, member-map, member-map_from}
use Rattle.ml_trace.specs.declared.letters.Transition.{Transition}
use Rattle.ml_trace.specs.Run.{in_letter}
use Rattle.ml_trace.specs.Stack.{Item}
use Rattle.ml_history.specs.CycleLaws.{HasState, IsLedTo, StepsFollowLetters}
use Rattle.ml_history.specs.HistoryStep.{live, offered, offers, taken_along, cut, is_full, through, new_number, stepped}
use Rattle.ml_history.proofs.definition.Offers.{Offer, offer_in}
use Rattle.ml_history.proofs.definition.OneStep.{taken_from}
use Rattle.ml_history.proofs.definition.TakenOffers.{TakenBy, taken_by}

module _ (h : List (Item ℕ)) (letter : List Transition) where
  shortened : Item ℕ → Item ℕ
  shortened a = record { state = a.state; stack = through (is_full (taken_along h letter)) a.stack }

  renamed : Item ℕ → Item ℕ
  renamed a = record { state = a.state; stack = map (new_number (cut (taken_along h letter))) a.stack }

  -- a state behind the step took an offer
  from_taken : (q : ℕ) → HasState (stepped h letter) q → HasState (taken_along h letter) q
  unfolding shortened renamed
  from_taken q s =
      let i : Image renamed s.item (cut (taken_along h letter)) =
      member-map_from renamed s.item (cut (taken_along h letter)) s.member in
      let j : Image shortened i.from (taken_along h letter) =
      member-map_from shortened i.from (taken_along h letter) i.member in
      record {
        item = j.from;
        member = j.member;
        state_is = sym (ap (λ (a : Item ℕ). a.state) i.holds ∙ ap (λ (a : Item ℕ). a.state) j.holds) ∙ s.state_is;
      }

  -- and one that took an offer is behind the step
  in_taken : (q : ℕ) → HasState (taken_along h letter) q → HasState (stepped h letter) q
  unfolding shortened renamed
  in_taken q s = record {
    item = renamed (shortened s.item);
    member = member-map renamed (shortened s.item) (cut (taken_along h letter))
        (member-map shortened s.item (taken_along h letter) s.member);
    state_is = s.state_is;
  }

  led : (q : ℕ) → HasState (stepped h letter) q → IsLedTo h letter q
  led q s =
      let t = from_taken q s in
      let o : Offer h letter t.item = taken_from h letter t.item t.member in
      record {
        from = o.source.state;
        accepting = o.accepting;
        has_stack = record { item = o.source; member = o.member; state_is = refl };
        transition = subst (λ v. in_letter letter o.source.state v o.accepting) t.state_is o.transition;
      }

  leads : (q : ℕ) → IsLedTo h letter q → HasState (stepped h letter) q
  leads q l =
      let source = l.has_stack.item in
      let o : Item ℕ = record { state = q; stack = offered (live h) l.accepting source.stack } in
      let is : Offer h letter o = record {
        source = source;
        member = l.has_stack.member;
        accepting = l.accepting;
        transition = subst (λ v. in_letter letter v q l.accepting) (sym l.has_stack.state_is) l.transition;
        stack_is = refl;
      } in
      let t : TakenBy (offers h letter) o = taken_by (offers h letter) o (offer_in h letter o is) in
      in_taken q (record { item = t.item; member = t.member; state_is = t.state_is })

pub steps_follow_letters : StepsFollowLetters
steps_follow_letters h letter q = (led h letter q, leads h letter q)
