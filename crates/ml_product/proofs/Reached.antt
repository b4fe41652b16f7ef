-- What is true of each position that is reached.
--
--   Facts g p       == the sequent ascends, in the graph; each of its nodes is traced by a stack of its plain state; each
--                      state with a stack is one of a node of the sequent, with an odd priority of the graph if it has one;
--                      the history is one
--   Guessed g p     == for each node of the sequent and each odd priority, that guess has a stack
--   start_facts     == the facts are true of the start
--   step_facts      == a step keeps them, and behind it everything is guessed
--   reached_facts   == they are true of each position that is reached
use Rattle.std.proofs.Common.{ℕ, ◌≡◌, ◌⊎◌, Bool, false, inl, inr, List, [], ◌∷◌, Option, Some, None, refl, sym, subst, ap}
use Rattle.ml_lists.specs.Ascending.{IsAscending}
use Rattle.ml_lists.specs.Member.{IsMember}
use Rattle.ml_lists.proofs.Ascending.{ascending-one}
use Rattle.ml_lists.proofs.Member.{member-filter_from}
use Rattle.ml_graph.specs.Graph.{Graph, node_at, odd_priorities}
use Rattle.ml_graph.specs.declared.node.Node.TheVariants as node
use Rattle.ml_trace.specs.declared.letters.AutomatonState.{AutomatonState}
use Rattle.ml_trace.specs.declared.letters.Transition.{Transition}
use Rattle.ml_trace.specs.declared.letters.Triple.{Triple}
use Rattle.ml_trace.specs.Automaton.{number, IsState, IsGuess, Leads, Gives}
use Rattle.ml_trace.specs.Stack.{Item}
use Rattle.ml_history.specs.CycleLaws.{HasState, IsLedTo}
use Rattle.ml_history.specs.History.{IsHistory}
use Rattle.ml_history.specs.HistoryStep.{start}
use Rattle.ml_history.specs.HistoryStep.{stepped}
use Rattle.ml_history.proofs.definition.StepKeeps.{start-is, step_is_history}
use Rattle.ml_history.proofs.definition.SteppedStates.{steps_follow_letters}
use Rattle.ml_sequent.specs.declared.choice.Side.TheVariants.{Left, Right}
use Rattle.ml_sequent.specs.LocalWalk.{LocalWalk, InSpread}
use Rattle.ml_sequent.specs.Spread.{SpreadList, IsSpreadOf, is_diamond}
use Rattle.ml_sequent.specs.Step.{LeadsOut, IsTarget, IsTrace}
use Rattle.ml_product.specs.Position.{Position, start_of, with_chosen, Follows}
use Rattle.ml_product.specs.DecisionGame.{Verdict, Clashing, Open, Leading, Settled, Target, To, Lost, Won, AreSteps, AreMoves, IsVerdictOf, IsReached, at_start, by_move}

-- the state of a node with a guess, by its number
abbrev pub numbered : Graph → ℕ → Option ℕ → ℕ
numbered g n guess = number (odd_priorities g) (record { node = n; odd = guess })

-- a state with a stack is one of a node of the sequent
pub record IsTraced (g : Graph) (C : List ℕ) (a : Item ℕ) : Type 0 where
  pub state : AutomatonState
  pub member : IsMember state.node C
  pub is_state : IsState (odd_priorities g) state
  pub numbered_so : a.state ≡ number (odd_priorities g) state

pub record Facts (g : Graph) (p : Position) : Type 0 where
  pub ascends : IsAscending p.sequent
  pub stands : (n : ℕ) → IsMember n p.sequent → HasState p.history (numbered g n None)
  pub traced : (a : Item ℕ) → IsMember a p.history → IsTraced g p.sequent a
  pub is_history : IsHistory p.history

pub record Guessed (g : Graph) (p : Position) : Type 0 where
  pub guessed : (n d : ℕ)
      → IsMember n p.sequent
      → IsMember d (odd_priorities g)
      → HasState p.history (numbered g n (Some d))

-- ---- the start

module _ (g : Graph) where
  pub start_facts : Facts g (start_of g)
  start_facts = record {
    ascends = ascending-one g.root;
    stands = stands;
    traced = traced;
    is_history = start-is (numbered g g.root None);
  }
    where
      stands : (n : ℕ) → IsMember n (g.root ∷ []) → HasState (start (numbered g g.root None)) (numbered g n None)
      stands n (inl is) = record {
        item = record { state = numbered g g.root None; stack = 0 ∷ [] };
        member = inl refl;
        state_is = ap (λ v. numbered g v None) (sym is);
      }
      stands n (inr none) = absurd none

      traced : (a : Item ℕ) → IsMember a (start (numbered g g.root None)) → IsTraced g (g.root ∷ []) a
      traced a (inl is) = record {
        state = record { node = g.root; odd = None };
        member = inl refl;
        is_state = tt;
        numbered_so = ap (λ (v : Item ℕ). v.state) is;
      }
      traced a (inr none) = absurd none

-- ---- a step

module _ (g : Graph) (p q : Position) (sp : SpreadList) (d : ℕ) (is_spread : IsSpreadOf g p.sequent p.choice sp)
    (in_spread : IsMember d sp.nodes) (f : Follows g p sp d q) where
  -- a target is reached by a trace from a node of the sequent
  pub record TracedTo (m : ℕ) : Type 0 where
    pub triple : Triple
    pub member : IsMember triple f.traces
    pub from : IsMember triple.from p.sequent
    pub to_is : triple.to ≡ m

  leaving_inside : (e m : ℕ) → LeadsOut g sp d e m → IsMember e sp.nodes
  leaving_inside e m l = by_kind l.leaves
    where
      by_kind : ((e ≡ d) × (m ≡ l.child)) ⊎ (IsMember e sp.nodes × (node_at g e ≡ node.Square l.action m))
          → IsMember e sp.nodes
      by_kind (inl is) = subst (λ v. IsMember v sp.nodes) (sym is.0) in_spread
      by_kind (inr is) = is.0

  pub traced_to : (m : ℕ) → IsMember m q.sequent → TracedTo m
  traced_to m inside =
      let t : IsTarget g sp d m = (f.is_step.targets m).0 inside in
      let s : InSpread g p.choice p.sequent t.leaving = (is_spread.nodes t.leaving).0 (leaving_inside t.leaving m t.leads) in
      let triple : Triple = record { from = s.from; lowest = s.lowest; to = m } in
      let trace : IsTrace g p.sequent sp d triple = record {
        from = s.member;
        leaving = t.leaving;
        walk = subst (λ c. LocalWalk g c s.from s.lowest t.leaving) (sym is_spread.choice) s.walk;
        leads = t.leads;
      } in
      record { triple = triple; member = (f.is_step.traces triple).1 trace; from = s.member; to_is = refl }

  -- a guess to which the plain state leads along each trace has a stack behind the step
  led_to : Facts g p
      → (m : ℕ)
      → IsMember m q.sequent
      → (guess : Option ℕ)
      → ((k : ℕ) → Leads (odd_priorities g) k None guess false)
      → HasState q.history (numbered g m guess)
  led_to facts m inside guess leads =
      let t = traced_to m inside in
      let step : Transition = record { from = numbered g t.triple.from None; to = numbered g m guess; accepting = false } in
      let gives : Gives (odd_priorities g) t.triple step = record {
        before = None;
        behind = guess;
        leads = leads t.triple.lowest;
        from_is = refl;
        to_is = ap (λ v. numbered g v guess) (sym t.to_is);
      } in
      let led : IsLedTo p.history f.letter (numbered g m guess) = record {
        from = numbered g t.triple.from None;
        accepting = false;
        has_stack = facts.stands t.triple.from t.from;
        transition = (f.is_letter step).1 (t.triple, t.member, gives);
      } in
      subst (λ h. HasState h (numbered g m guess)) (sym f.history) ((steps_follow_letters p.history f.letter (numbered g m guess)).1 led)

  -- the guess behind a transition is one of the graph's odd priorities
  guess_behind : (k : ℕ) (before behind : Option ℕ) (accepting : Bool)
      → Leads (odd_priorities g) k before behind accepting
      → IsGuess (odd_priorities g) behind
  guess_behind k before None accepting leads = tt
  guess_behind k None (Some e) accepting leads = leads.0
  guess_behind k (Some c) (Some e) accepting leads = subst (λ v. IsMember v (odd_priorities g)) (sym leads.0) leads.1

  traced_behind : (a : Item ℕ) → IsMember a q.history → IsTraced g q.sequent a
  traced_behind a inside =
      let behind : HasState (stepped p.history f.letter) a.state =
      record { item = a; member = subst (λ h. IsMember a h) f.history inside; state_is = refl } in
      let led : IsLedTo p.history f.letter a.state = (steps_follow_letters p.history f.letter a.state).0 behind in
      from_triple ((f.is_letter (record { from = led.from; to = a.state; accepting = led.accepting })).0 led.transition)
    where
      from_triple : {from : ℕ} {accepting : Bool}
          →
          ((t : Triple)
          × IsMember t f.traces
          × Gives (odd_priorities g) t (record { from = from; to = a.state; accepting = accepting }))
          → IsTraced g q.sequent a
      from_triple (t, member, gives) =
          let trace : IsTrace g p.sequent sp d t = (f.is_step.traces t).0 member in
          record {
            state = record { node = t.to; odd = gives.behind };
            member = (f.is_step.targets t.to).1 (record { leaving = trace.leaving; leads = trace.leads });
            is_state = guess_behind t.lowest gives.before gives.behind _ gives.leads;
            numbered_so = gives.to_is;
          }

  -- a step keeps the facts
  pub step_facts : Facts g p → Facts g q
  step_facts facts = record {
    ascends = f.is_step.ascends;
    stands = λ m inside. led_to facts m inside None (λ k. refl);
    traced = traced_behind;
    is_history = subst IsHistory (sym f.history) (step_is_history p.history f.letter facts.is_history);
  }

  -- and behind it everything is guessed
  pub step_guesses : Facts g p → Guessed g q
  step_guesses facts = record { guessed = λ m e inside odd. led_to facts m inside (Some e) (λ k. (odd, refl)) }

-- ---- all positions

module _ (g : Graph) where
  along_steps : (p q : Position) (sp : SpreadList)
      → IsSpreadOf g p.sequent p.choice sp
      → (ds : List ℕ) (ts : List Target)
      → ((d : ℕ) → IsMember d ds → IsMember d sp.nodes)
      → AreSteps g p sp ds ts
      → IsMember (To q) ts
      → Facts g p
      → Facts g q
  along_steps p q sp is_spread [] ts inside steps m facts = absurd (subst (λ v. IsMember (To q) v) steps m)
  along_steps p q sp is_spread (d ∷ ds) ts inside (r, others, follows, rest, is) m facts =
      by_place (subst (λ v. IsMember (To q) v) is m) (λ later. along_steps p q sp is_spread ds others (λ e i. inside e (inr i)) rest later facts)
    where
      by_place : (To q ≡ To r) ⊎ IsMember (To q) others → (IsMember (To q) others → Facts g q) → Facts g q
      by_place (inl same) behind = let e : r ≡ q = cc in subst (Facts g) e (step_facts g p r sp d is_spread (inside d (inl refl)) follows facts)
      by_place (inr later) behind = behind later

  chosen_facts : (p q : Position) → q.sequent ≡ p.sequent → q.history ≡ p.history → Facts g p → Facts g q
  chosen_facts p q e f facts = record {
    ascends = subst IsAscending (sym e) facts.ascends;
    stands = λ n i. subst (λ h. HasState h (numbered g n None)) (sym f) (facts.stands n (subst (λ s. IsMember n s) e i));
    traced = λ a i. subst (λ s. IsTraced g s a) (sym e) (facts.traced a (subst (λ h. IsMember a h) f i));
    is_history = subst IsHistory (sym f) facts.is_history;
  }

  by_verdict : (p q : Position) (sp : SpreadList) (v : Verdict) (ts : List Target)
      → IsSpreadOf g p.sequent p.choice sp
      → IsVerdictOf g sp v
      → AreMoves g p sp v ts
      → IsMember (To q) ts
      → Facts g p
      → Facts g q
  by_verdict p q sp Clashing ts is_spread is moves m facts = lost (subst (λ v. IsMember (To q) v) moves m)
    where
      lost : (To q ≡ Lost) ⊎ ⊥ → Facts g q
      lost (inl same) = cc
      lost (inr none) = absurd none
  by_verdict p q sp (Open o) ts is_spread is moves m facts = chosen (subst (λ v. IsMember (To q) v) moves m)
    where
      same : (r : Position) → r.sequent ≡ p.sequent → r.history ≡ p.history → To q ≡ To r → Facts g q
      same r e f is_r = let back : r ≡ q = cc in subst (Facts g) back (chosen_facts p r e f facts)

      chosen : (To q ≡ To (with_chosen g p o Left)) ⊎ ((To q ≡ To (with_chosen g p o Right)) ⊎ ⊥) → Facts g q
      chosen (inl left) = same (with_chosen g p o Left) refl refl left
      chosen (inr (inl right)) = same (with_chosen g p o Right) refl refl right
      chosen (inr (inr none)) = absurd none
  by_verdict p q sp (Leading ds) ts is_spread is moves m facts =
      along_steps p q sp is_spread ds ts
      (λ d i. (member-filter_from (λ n. is_diamond (node_at g n)) d sp.nodes (subst (λ v. IsMember d v) is.1 i)).0)
      moves m facts
  by_verdict p q sp Settled ts is_spread is moves m facts = won (subst (λ v. IsMember (To q) v) moves m)
    where
      won : (To q ≡ Won) ⊎ ⊥ → Facts g q
      won (inl same) = cc
      won (inr none) = absurd none

  -- the facts are true of each position that is reached
  pub reached_facts : (p : Position) → IsReached g p → Facts g p
  reached_facts p at_start = start_facts g
  reached_facts p (by_move before after turn reached m) =
      by_verdict before p turn.spread turn.verdict turn.targets turn.is_spread turn.is_verdict turn.are_moves m (reached_facts before reached)
