-- What is accepted by states and letters that go by their numbers.
--
--   lead_to, lead_to_states == letters lead from states to states
--   some_letter     == each list of numbers is that of the propositions in some letter
--   rows_accept     == rows accept as the automaton does
use Rattle.std.proofs.Common.{ℕ, ◌≡◌, ◌<◌, ◌≤◌, ◌↔◌, inl, inr, ⊎_elim, arith, Bool, true, List, length, map, filter, ltb, bytes_eq, refl, sym, ap, ◌∙◌, subst, ltb-true, lt-ltb}
use Rattle.std.proofs.lemmas.Bool.{cases_lt}
use Rattle.std.proofs.lemmas.List.{length-map}
use Rattle.std.proofs.lemmas.Slice.Eq.{bytes_eq-Decides}
use Rattle.ml_lists.specs.Member.{IsMember}
use Rattle.ml_lists.proofs.Ascending.{ascending-apart}
use Rattle.ml_lists.proofs.Member.{All-member, list_any-member, member-filter, member-filter_from, member-list_any, member-map, member-map_from, member-place}
use Rattle.ml_graph.specs.Graph.{Graph, node_at, prop_at}
use Rattle.ml_graph.specs.declared.node.Node.TheVariants as node
use Rattle.ml_graph.proofs.Places.{same_place}
use Rattle.ml_trace.specs.declared.letters.Transition.{Transition}
use Rattle.ml_trace.specs.WordAutomata.{WordLasso, IsWordLasso, IsAcceptedFrom}
use Rattle.ml_word_automaton.specs.Laws.{HasOneNumber, LeadToStates, LettersLeadToStates, RowsAccept, SomeLetter}
use Rattle.ml_word_automaton.specs.Letters.{Automaton, GoesOn, HasItsStates, HasTransitionsOf, IsState}
use Rattle.ml_word_automaton.specs.Letters.{begins, behind, is_true, leads_by, letter_in, node_of, word_of}
use Rattle.ml_word_automaton.specs.WordAutomaton.{Leads, Walks, itself, past_same, past_true, to_left, to_right}
use Rattle.ml_word_automaton.specs.Words.{Letter, has}
use Rattle.ml_word_automaton.proofs.Acceptance.{accepts_what_satisfies}
use Rattle.ml_word_automaton.proofs.CarriedRuns.{accepted_back, accepted_there}
use Rattle.ml_word_automaton.proofs.NumberedStates.{one_place, state_at}

-- ---- states

-- where a walk from a state comes to True, that is a state
walked_to : (g : Graph) (l : Letter) (s n : ℕ) → IsState g s → Walks g l s n → node_at g n ≡ node.True → IsState g n
walked_to g l s _ state itself e = state
walked_to g l s _ state (past_same n a r walks is same) e = is_true n r (subst (λ v. GoesOn v r) (sym is) refl) e
walked_to g l s _ state (past_true n a r walks is t) e = is_true n r (subst (λ v. GoesOn v r) (sym is) refl) e
walked_to g l s _ state (to_left n a r walks is) e = is_true n a (subst (λ v. GoesOn v a) (sym is) (inl refl)) e
walked_to g l s _ state (to_right n a r walks is) e = is_true n r (subst (λ v. GoesOn v r) (sym is) (inr refl)) e

led_to : (g : Graph) (l : Letter) (s q : ℕ) (b : Bool) → IsState g s → Leads g l s q b → IsState g q
led_to g l s q b state (inl on) = behind on.diamond on.action q on.is_diamond
led_to g l s q b state (inr end) = walked_to g l s q state end.walks end.is_true

module _ (a : Automaton) (has : HasItsStates a) where
  number_of : (n : ℕ) → IsState a.graph n → HasOneNumber a n
  number_of n is =
      let at = member-place n a.states ((has.are_states n).1 is) in record {
        number = at.place;
        is_low = at.below;
        is = at.holds 0;
        only = λ p low e. one_place a.states has.ascend p at.place low at.below (e ∙ sym (at.holds 0));
      }

  first : node_of a 0 ≡ 0
  first = from (number_of 0 begins)
    where
      from : HasOneNumber a 0 → node_of a 0 ≡ 0
      from zero_at =
          ⊎_elim
          (λ (above : 0 < zero_at.number).
          let less = ascending-apart a.states 0 zero_at.number 0 has.ascend above zero_at.is_low in
          let is = zero_at.is in
          absurd (omega (arith, less, is)))
          (λ (least : zero_at.number ≤ 0).
          let same : 0 ≡ zero_at.number = omega (arith, least) in ap (node_of a) same ∙ zero_at.is)
          (cases_lt 0 zero_at.number)

  pub lead_to : LeadToStates a
  lead_to = record {
    has_state = let zero_at = number_of 0 begins in let low = zero_at.is_low in omega (arith, low);
    begins = first;
    lead = λ l p q b low leads. number_of q (led_to a.graph l (node_of a p) q b (state_at a has p low) leads);
  }

pub lead_to_states : LettersLeadToStates
lead_to_states a has = lead_to a has

-- ---- letters

pub some_letter : SomeLetter
some_letter g present different = (l, λ p low. (there p low, back p low))
  where
    l : Letter
    l = map (prop_at g) (filter (λ p. ltb p (length g.props)) present)

    there : (p : ℕ) → p < length g.props → IsMember p present → has l (prop_at g p) ≡ true
    there p low m =
        member-list_any (λ q. bytes_eq q (prop_at g p)) (prop_at g p) l
        (member-map (prop_at g) p (filter (λ q. ltb q (length g.props)) present)
        (member-filter (λ q. ltb q (length g.props)) p present m (lt-ltb p (length g.props) low)))
        ((bytes_eq-Decides (prop_at g p) (prop_at g p)).1 refl)

    back : (p : ℕ) → p < length g.props → has l (prop_at g p) ≡ true → IsMember p present
    back p low e =
        let some = list_any-member (λ q. bytes_eq q (prop_at g p)) l e in
        let named = (bytes_eq-Decides some.item (prop_at g p)).0 some.passes in
        let from = member-map_from (prop_at g) some.item (filter (λ q. ltb q (length g.props)) present) some.member in
        let both = member-filter_from (λ q. ltb q (length g.props)) from.from present from.member in
        let is =
        same_place g.props different from.from p (ltb-true from.from (length g.props) both.1) low
        (sym from.holds ∙ named) in
        subst (λ q. IsMember q present) is both.0

-- ---- rows

-- the state number p has the node n
pub record IsStateAt (a : Automaton) (p n : ℕ) : Type 0 where
  pub low : p < length a.states
  pub is : node_of a p ≡ n

module _ (a : Automaton) (letters : List Letter) (row : List (List Transition)) (has : HasItsStates a)
    (transitions : HasTransitionsOf a letters row) where
  there : (i p q : ℕ) (b : Bool) (x : ℕ)
      → i < length row
      → IsStateAt a p x
      → leads_by row i p q b
      → (y : ℕ) × IsStateAt a q y × Leads a.graph (letter_in letters i) x y b
  there i p q b x low at lead =
      let m : Transition = record { from = p; to = q; accepting = b } in
      let is = (transitions i low m).0 lead in (
        node_of a q,
        record { low = is.to_state; is = refl },
        subst (λ n. Leads a.graph (letter_in letters i) n (node_of a q) b) at.is is.leads,
      )

  back : (i p : ℕ) (b : Bool) (x y : ℕ)
      → i < length row
      → IsStateAt a p x
      → Leads a.graph (letter_in letters i) x y b
      → (q : ℕ) × IsStateAt a q y × leads_by row i p q b
  back i p b x y low at lead =
      let l = letter_in letters i in
      let from = subst (λ n. Leads a.graph l n y b) (sym at.is) lead in
      let one = (lead_to a has).lead l p y b at.low from in
      let m : Transition = record { from = p; to = one.number; accepting = b } in (
        one.number,
        record { low = one.is_low; is = one.is },
        (transitions i low m).1 (record {
          from_state = at.low;
          to_state = one.is_low;
          leads = subst (λ n. Leads a.graph l (node_of a p) n b) (sym one.is) from;
        }),
      )

  begin : IsStateAt a 0 0
  begin = record { low = (lead_to a has).has_state; is = (lead_to a has).begins }

  pub as_leads : (w : WordLasso ℕ)
      → ((i : ℕ) → IsMember i w.word → i < length row)
      → IsAcceptedFrom (leads_by row) 0 w ↔ IsAcceptedFrom (Leads a.graph) 0 (word_of letters w)
  as_leads w low = (
    accepted_there (letter_in letters) (leads_by row) (Leads a.graph) (IsStateAt a) (λ i. i < length row) there w 0 0
        (λ s y z p q. sym p.is ∙ q.is) low begin,
    accepted_back (letter_in letters) (leads_by row) (Leads a.graph) (IsStateAt a) (λ i. i < length row) back w 0 0
        (λ s r y p q. one_place a.states has.ascend s r p.low q.low (p.is ∙ sym q.is)) low begin,
  )

pub rows_accept : RowsAccept
rows_accept f negated a letters row w linear is transitions ok low =
    let words = as_leads a letters row is.states transitions w (All-member (λ i. i < length row) w.word low) in
    let read : IsWordLasso (word_of letters w) =
    (let long = length-map w.word (letter_in letters) in omega (arith, long, ok)) in
    let law = accepts_what_satisfies f negated a.graph (word_of letters w) linear is.is_graph read in
    ((λ accepted. law.0 (words.0 accepted)), (λ satisfied. words.1 (law.1 satisfied)))
