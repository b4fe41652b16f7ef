-- The step of the decision game along a diamond, in the words of refutations.
--
-- The history step keeps the condition on names at numbered states, and its mark names a name in use. Numbers and states
-- are one-to-one, so the condition holds of nodes and odd priorities; and there are too few names for a mark's number to
-- be that of another one.
--
--   state_numbered  == the state with the number of a state of the graph
--   go_step         == the step from p to q along the diamond d
--   carries         == a transition of the letter is one of the step
--   names           == the condition on names, with the mark of the history step
--   mark_in_use     == the mark of a history step has a name in use
--   number_fits     == so its number is below neutral, where neutral is above twice the names in use
--   same_mark       == marks whose numbers fit and are equal are equal
--   go_mark         == the mark whose number the next position has is that of the history step
use Rattle.std.proofs.Common.{ℕ, ◌≡◌, ◌*◌, ◌≤◌, ◌%◌, ◌==◌, Bool, List, Option, Some, None, filter, refl, sym, ap, ◌∙◌, subst, arith, ltb, not}
use Rattle.std.proofs.lemmas.Bool.{and_parts, ltb-true}
use Rattle.ml_lists.specs.Member.{IsMember}
use Rattle.ml_lists.proofs.Ascending.{ascending-is}
use Rattle.ml_graph.specs.Graph.{Graph, odd_priorities}
use Rattle.ml_history.specs.CycleLaws.{entry}
use Rattle.ml_history.specs.HistoryStep.{live, taken_along, is_red, is_green, survives, stepped, step_mark}
use Rattle.ml_history.proofs.definition.OneStep.{green_kept}
use Rattle.ml_history.proofs.definition.StepMark.{mark_of-red}
use Rattle.ml_history.proofs.definition.StepNames.{step_names}
use Rattle.ml_product.specs.Position.{Position, neutral, Follows}
use Rattle.ml_product.proofs.NeutralPriority.{mark_fits}
use Rattle.ml_product.proofs.Reached.{Facts}
use Rattle.ml_refutation.specs.GoStep.{GoStep, HasTransition}
use Rattle.ml_refutation.specs.Refutation.{IsMarkOf}
use Rattle.ml_sequent.specs.Spread.{SpreadList, IsSpreadOf}
use Rattle.ml_sequent.specs.Step.{IsTrace}
use Rattle.ml_trace.specs.declared.letters.AutomatonState.{AutomatonState}
use Rattle.ml_trace.specs.declared.letters.Transition.{Transition}
use Rattle.ml_trace.specs.declared.letters.Triple.{Triple}
use Rattle.ml_trace.specs.declared.marks.Mark.{Mark}
use Rattle.ml_trace.specs.declared.marks.Mark.TheVariants.{Red, Green, Neutral}
use Rattle.ml_trace.specs.Automaton.{number, IsGuess, Leads, Gives}
use Rattle.ml_trace.specs.AutomatonNumbers.{state_of}
use Rattle.ml_trace.specs.Marks.{priority}
use Rattle.ml_trace.specs.MarkOrder.{FitsBelow}
use Rattle.ml_trace.specs.NamesCondition.{NamesCondition}
use Rattle.ml_trace.specs.Run.{in_letter}
use Rattle.ml_trace.specs.Stack.{Item}
use Rattle.ml_trace.proofs.Numbers.{state_of-number}
use Rattle.ml_refute.specs.Extracted.{traces_of}
use Rattle.ml_refute.proofs.CarriedNames.{names_carried}

-- ---- marks

-- the mark of a history step has a name in use
pub mark_in_use : (h : List (Item ℕ)) (letter : List Transition) (m : Mark)
    → step_mark h letter ≡ m
    → IsMarkOf (live h) m
mark_in_use h letter (Red x) e =
    let says = mark_of-red (is_red (live h) (taken_along h letter)) (is_green (taken_along h letter)) (2 * live h) x
    e in
    let parts = and_parts (ltb x (live h)) (not (survives (taken_along h letter) x)) says.passes in
    ltb-true x (live h) parts.0
mark_in_use h letter (Green x) e = (green_kept h letter x e).in_use
mark_in_use h letter Neutral e = tt

-- so its number is below neutral, where neutral is above twice the names in use
pub number_fits : (names top : ℕ) (m : Mark) → 2 * names ≤ top → IsMarkOf names m → FitsBelow top m
number_fits names top (Red x) high low = omega arith
number_fits names top (Green x) high low = omega arith
number_fits names top Neutral high low = tt

-- marks whose numbers fit and are equal are equal
pub same_mark : (top : ℕ) (m n : Mark)
    → FitsBelow top m
    → FitsBelow top n
    → priority top m ≡ priority top n
    → m ≡ n
same_mark top (Red x) (Red y) low other same = ap Red (omega arith)
same_mark top (Red x) (Green y) low other same = absurd (omega arith)
same_mark top (Red x) Neutral low other same = absurd (omega arith)
same_mark top (Green x) (Red y) low other same = absurd (omega arith)
same_mark top (Green x) (Green y) low other same = ap Green (omega arith)
same_mark top (Green x) Neutral low other same = absurd (omega arith)
same_mark top Neutral (Red y) low other same = absurd (omega arith)
same_mark top Neutral (Green y) low other same = absurd (omega arith)
same_mark top Neutral Neutral low other same = refl

-- ---- guesses

guess_before : (odds : List ℕ) (k : ℕ) (before behind : Option ℕ) (accepting : Bool)
    → Leads odds k before behind accepting
    → IsGuess odds before
guess_before odds k None behind accepting leads = tt
guess_before odds k (Some c) None accepting leads = absurd leads
guess_before odds k (Some c) (Some e) accepting leads = leads.1

guess_behind : (odds : List ℕ) (k : ℕ) (before behind : Option ℕ) (accepting : Bool)
    → Leads odds k before behind accepting
    → IsGuess odds behind
guess_behind odds k before None accepting leads = tt
guess_behind odds k None (Some e) accepting leads = leads.0
guess_behind odds k (Some c) (Some e) accepting leads = subst (λ v. IsMember v odds) (sym leads.0) leads.1

module _ (g : Graph) where
  -- the state with the number of a state of the graph
  pub state_numbered : (v : ℕ) (s : AutomatonState) → IsGuess (odd_priorities g) s.odd → v ≡ number (odd_priorities g) s
      → state_of (odd_priorities g) v ≡ s
  state_numbered v s is e =
      ap (state_of (odd_priorities g)) e ∙ state_of-number (odd_priorities g) s
      (ascending-is (filter (λ d. d % 2 == 1) g.priorities)) is

-- ---- the step

module _ (g : Graph) (p q : Position) (sp : SpreadList) (d : ℕ) (f : Follows g p sp d q) where
  abbrev pub go_step : GoStep
  go_step = record { sequent = p.sequent; spread = sp; diamond = d; next = q.sequent }

  -- a transition of the letter is one of the step
  pub carries : (v w : ℕ) (accepting : Bool)
      → in_letter f.letter v w accepting
      → HasTransition g go_step (state_of (odd_priorities g) v) (state_of (odd_priorities g) w) accepting
  carries v w accepting inside = from ((f.is_letter (record { from = v; to = w; accepting = accepting })).0 inside)
    where
      from : ((t : Triple) × IsMember t f.traces × Gives (odd_priorities g) t
          (record { from = v; to = w; accepting = accepting }))
          → HasTransition g go_step (state_of (odd_priorities g) v) (state_of (odd_priorities g) w) accepting
      from (t, member, gives) =
          let trace : IsTrace g p.sequent sp d t = (f.is_step.traces t).0 member in
          let source : AutomatonState = record { node = t.from; odd = gives.before } in
          let target : AutomatonState = record { node = t.to; odd = gives.behind } in
          let before : state_of (odd_priorities g) v ≡ source =
          state_numbered g v source (guess_before (odd_priorities g) t.lowest gives.before gives.behind accepting
          gives.leads) gives.from_is in
          let behind : state_of (odd_priorities g) w ≡ target =
          state_numbered g w target (guess_behind (odd_priorities g) t.lowest gives.before gives.behind accepting
          gives.leads) gives.to_is in
          let leads_on : Leads (odd_priorities g) t.lowest gives.before (state_of (odd_priorities g) w).odd accepting =
          subst (λ (o : Option ℕ). Leads (odd_priorities g) t.lowest gives.before o accepting)
          (sym (ap (λ (s : AutomatonState). s.odd) behind)) gives.leads in
          record {
            trace = t;
            is_trace = trace;
            stays = (f.is_step.targets t.to).1 (record { leaving = trace.leaving; leads = trace.leads });
            begins = ap (λ (s : AutomatonState). s.node) before;
            ends = ap (λ (s : AutomatonState). s.node) behind;
            leads = subst (λ (o : Option ℕ). Leads (odd_priorities g) t.lowest o (state_of (odd_priorities g) w).odd
                accepting) (sym (ap (λ (s : AutomatonState). s.odd) before)) leads_on;
          }

  -- the condition on names, with the mark of the history step
  pub names : Facts g p
      → NamesCondition (HasTransition g) go_step (step_mark p.history f.letter) (traces_of g p.history) (traces_of g q.history)
  names facts =
      subst (λ h. NamesCondition (HasTransition g) go_step (step_mark p.history f.letter) (traces_of g p.history)
      (traces_of g h)) (sym f.history)
      (names_carried in_letter (HasTransition g) (state_of (odd_priorities g)) f.letter go_step carries
      (step_mark p.history f.letter) (entry p.history) (entry (stepped p.history f.letter))
      (step_names p.history f.letter facts.is_history))

  module _ (facts : Facts g p) (is_spread : IsSpreadOf g p.sequent p.choice sp) (m : Mark)
      (marked : q.priority ≡ priority (neutral g) m) (is_mark : FitsBelow (neutral g) m) where
    -- the mark whose number the next position has is that of the history step
    go_mark : m ≡ step_mark p.history f.letter
    go_mark =
        let fits = mark_fits g p facts sp is_spread f.letter in
        same_mark (neutral g) m (step_mark p.history f.letter) is_mark fits (sym marked ∙ f.marked)

    -- so it has a name in use
    pub go_mark_in_use : IsMarkOf (live p.history) m
    go_mark_in_use = mark_in_use p.history f.letter m (sym go_mark)

    -- and with it the condition on names holds
    pub go_names : NamesCondition (HasTransition g) go_step m (traces_of g p.history) (traces_of g q.history)
    go_names =
        subst (λ k. NamesCondition (HasTransition g) go_step k (traces_of g p.history) (traces_of g q.history))
        (sym go_mark) (names facts)
