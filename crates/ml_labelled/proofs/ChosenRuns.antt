-- Runs of one automaton carried over to another one, where a transition alone says where its copy ends.
--
-- A relation joins states of the two automata, a state to any number of others. Each transition has a state such that from
-- each state that is joined to its start a transition of the other automaton leads there, accepting as it does. So on the
-- second turn of a loop the copy of a run is where it was behind the first.
--
--   step_along, round_along == transitions go along, and accepting runs
--   accepted_along         == so does what is accepted
use Rattle.std.proofs.Common.{◌+◌, inl, inr, Bool, true, List, [], ◌∷◌, ◌++◌, ap, ◌∙◌, subst, append_assoc}
use Rattle.ml_labelled.proofs.CarriedRuns.{run_over}
use Rattle.ml_lists.specs.Repeated.{repeated}
use Rattle.ml_lists.proofs.Repeated.{repeated-add}
use Rattle.ml_trace.specs.Run.{AcceptingRun, Run}
use Rattle.ml_trace.specs.WordAutomata.{IsAcceptedFrom, WordLasso, stem, turn}
use Rattle.ml_trace.proofs.Runs.{accepting-is_run, run-append}

module _ {S T L : Type 0} (leads : L → S → S → Bool → Type 0) (others : L → T → T → Bool → Type 0) (R : S → T → Type 0)
    (step : (l : L) (p q : S) (b : Bool) → leads l p q b → (y : T) × R q y × ((x : T) → R p x → others l x y b)) where
  step_along : (l : L) (p q : S) (b : Bool) (x : T) → R p x → leads l p q b → (y : T) × R q y × others l x y b
  step_along l p q b x joined lead = let s = step l p q b lead in (s.0, s.1, s.2 x joined)

  round_along : (u : List L) (p q : S)
      → AcceptingRun leads u p q
      → (y : T) × R q y × ((x : T) → R p x → AcceptingRun others u x y)
  round_along [] p q none = absurd none
  round_along (l ∷ u) p q (inl (r, lead, run)) =
      let first = step l p r true lead in
      let rest = run_over leads others R step_along u r q first.0 first.1 run in
      (rest.0, rest.1, λ x j. inl (first.0, first.2 x j, rest.2))
  round_along (l ∷ u) p q (inr (r, b, lead, run)) =
      let first = step l p r b lead in
      let rest = round_along u r q run in
      (rest.0, rest.1, λ x j. inr (first.0, b, first.2 x j, rest.2 first.0 first.1))

  pub accepted_along : (w : WordLasso L) (p : S) (x : T) → R p x → IsAcceptedFrom leads p w → IsAcceptedFrom others x w
  accepted_along w p x joined a =
      let turns = repeated a.turns (turn w) in
      let rounds = repeated a.rounds (turn w) in
      let comes = run_over leads others R step_along (stem w ++ turns) p a.state x joined a.comes in
      let round = round_along rounds a.state a.state a.returns in
      let once = accepting-is_run others rounds comes.0 round.0 (round.2 comes.0 comes.1) in
      record {
        turns = a.turns + a.rounds;
        state = round.0;
        comes =
            subst (λ v. Run others v x round.0)
            (append_assoc (stem w) turns rounds ∙ ap (λ v. stem w ++ v) (repeated-add a.turns a.rounds (turn w)))
            (run-append others (stem w ++ turns) rounds x comes.0 round.0 comes.2 once);
        rounds = a.rounds;
        once = a.once;
        returns = round.2 round.0 round.1;
      }
