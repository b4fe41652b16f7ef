-- The letters of valuations have exactly the transitions of the edges that may be taken.
--
--   letter_is     == the letter of a valuation stands at its place
--   letter_stays  == its transitions have their ends below the number of states
--   letters_lead, letters_stay == the laws
use Rattle.std.proofs.Common.{ℕ, ◌≡◌, ◌<◌, ◌≤◌, ◌⊎◌, ◌↔◌, inl, inr, arith, Bool, true, [], length, sym, subst, ap}
use Rattle.std.specs.List.{filter}
use Rattle.std.proofs.lemmas.Bool.{cases_lt}
use Rattle.std.proofs.lemmas.List.{get_or_past}
use Rattle.std.proofs.lemmas.List.FromFn.{get_or-map-range_with_len, length-map-range_with_len}
use Rattle.ml_lists.specs.Member.{IsMember}
use Rattle.ml_lists.proofs.Member.{All-member, Image, member-map, member-map_from, member-filter, member-filter_from}
use Rattle.ml_trace.specs.declared.letters.Transition.{Transition}
use Rattle.ml_trace.specs.Run.{in_letter}
use Rattle.ml_hoa.specs.Automaton.{Edge, Automaton, IsAutomaton, IsEdge}
use Rattle.ml_determinise.specs.Histories.{IsBelow, StaysBelow, leads_in, letter_at}
use Rattle.ml_buchi.specs.Valuations.{Leads, LettersLead, LettersStay, letter_of, letters_of, may_take, transition_of, valuations}

-- the edge of a transition of the letter
record Taken (a : Automaton) (v : ℕ) (m : Transition) : Type 0 where
  edge : Edge
  is_edge : IsMember edge a.edges
  may_be_taken : may_take v edge ≡ true
  is : m ≡ transition_of edge

module _ (a : Automaton) where
  pub letter_is : (v : ℕ) → v < valuations a → letter_at (letters_of a) v ≡ letter_of a v
  letter_is v low = get_or-map-range_with_len (letter_of a) 0 (valuations a) v v [] low (omega arith)

  taken : (v : ℕ) (m : Transition) → IsMember m (letter_of a v) → Taken a v m
  taken v m i = from (member-map_from transition_of m (filter (may_take v) a.edges) i)
    where
      from : Image transition_of m (filter (may_take v) a.edges) → Taken a v m
      from j =
          let f = member-filter_from (may_take v) j.from a.edges j.member in
          record { edge = j.from; is_edge = f.0; may_be_taken = f.1; is = j.holds }

  leads_from : (v s t : ℕ) (b : Bool) → in_letter (letter_of a v) s t b → Leads a v s t b
  leads_from v s t b i =
      let j = taken v (record { from = s; to = t; accepting = b }) i in
      record {
        edge = j.edge;
        is_edge = j.is_edge;
        may_be_taken = j.may_be_taken;
        from_is = ap (λ (m : Transition). m.from) (sym j.is);
        to_is = ap (λ (m : Transition). m.to) (sym j.is);
        accepting_is = ap (λ (m : Transition). m.accepting) (sym j.is);
      }

  leads_to : (v s t : ℕ) (b : Bool) → Leads a v s t b → in_letter (letter_of a v) s t b
  leads_to v s t b l =
      let same : transition_of l.edge ≡ record { from = s; to = t; accepting = b } =
      λ i. record { from = l.from_is i; to = l.to_is i; accepting = l.accepting_is i } in
      subst (λ m. IsMember m (letter_of a v)) same
      (member-map transition_of l.edge (filter (may_take v) a.edges)
      (member-filter (may_take v) l.edge a.edges l.is_edge l.may_be_taken))

  leads_same : (v s t : ℕ) (b : Bool)
      → v < valuations a
      → leads_in (letters_of a) v s t b ↔ Leads a v s t b
  leads_same v s t b low = (
    λ l. leads_from v s t b (subst (λ k. in_letter k s t b) (letter_is v low) l),
    λ l. subst (λ k. in_letter k s t b) (sym (letter_is v low)) (leads_to v s t b l),
  )

  pub letter_stays : IsAutomaton a → (v : ℕ) (m : Transition) → IsMember m (letter_of a v) → IsBelow a.states m
  letter_stays is v m i =
      let j = taken v m i in
      let fits = All-member (IsEdge a.states (length a.props)) a.edges is.edges_fit j.edge j.is_edge in
      subst (IsBelow a.states) (sym j.is) (record { from_low = fits.from_below; to_low = fits.to_below })

  all_stay : IsAutomaton a → StaysBelow a.states (letters_of a)
  all_stay is v m i = by_place (cases_lt v (valuations a))
    where
      by_place : (v < valuations a) ⊎ (valuations a ≤ v) → IsBelow a.states m
      by_place (inl low) = letter_stays is v m (subst (IsMember m) (letter_is v low) i)
      by_place (inr high) =
          let long = length-map-range_with_len (letter_of a) 0 (valuations a) in
          absurd (subst (IsMember m) (get_or_past (letters_of a) v [] (omega arith)) i)

pub letters_lead : LettersLead
letters_lead a v s t b low = leads_same a v s t b low

pub letters_stay : LettersStay
letters_stay a is = all_stay a is
