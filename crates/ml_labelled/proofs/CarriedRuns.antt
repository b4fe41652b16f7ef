-- Runs of one automaton carried over to another one.
--
-- A relation joins states of the two automata. Where each transition from a joined state goes along with one of the other
-- automaton to a state that is joined again, so does each run; and where a state is joined to one other alone, what the one
-- automaton accepts the other does.
--
--   run_over, accepting_over == runs go along
--   accepted_over            == so does what is accepted
use Rattle.std.proofs.Common.{◌≡◌, inl, inr, Bool, true, List, [], ◌∷◌, ◌++◌, refl, subst}
use Rattle.ml_lists.specs.Repeated.{repeated}
use Rattle.ml_trace.specs.Run.{AcceptingRun, Run}
use Rattle.ml_trace.specs.WordAutomata.{IsAcceptedFrom, WordLasso, stem, turn}

module _ {S T L : Type 0} (leads : L → S → S → Bool → Type 0) (others : L → T → T → Bool → Type 0) (R : S → T → Type 0)
    (step : (l : L) (p q : S) (b : Bool) (x : T) → R p x → leads l p q b → (y : T) × R q y × others l x y b) where
  pub run_over : (u : List L) (p q : S) (x : T) → R p x → Run leads u p q → (y : T) × R q y × Run others u x y
  run_over [] p q x joined same = (x, subst (λ r. R r x) same joined, refl)
  run_over (l ∷ u) p q x joined (r, b, lead, run) =
      let first = step l p r b x joined lead in
      let rest = run_over u r q first.0 first.1 run in
      (rest.0, rest.1, (first.0, b, first.2, rest.2))

  accepting_over : (u : List L) (p q : S) (x : T)
      → R p x
      → AcceptingRun leads u p q
      → (y : T) × R q y × AcceptingRun others u x y
  accepting_over [] p q x joined none = absurd none
  accepting_over (l ∷ u) p q x joined (inl (r, lead, run)) =
      let first = step l p r true x joined lead in
      let rest = run_over u r q first.0 first.1 run in
      (rest.0, rest.1, inl (first.0, first.2, rest.2))
  accepting_over (l ∷ u) p q x joined (inr (r, b, lead, run)) =
      let first = step l p r b x joined lead in
      let rest = accepting_over u r q first.0 first.1 run in
      (rest.0, rest.1, inr (first.0, b, first.2, rest.2))

  pub accepted_over : (w : WordLasso L) (p : S) (x : T)
      → ((s : S) (y z : T) → R s y → R s z → y ≡ z)
      → R p x
      → IsAcceptedFrom leads p w
      → IsAcceptedFrom others x w
  accepted_over w p x one joined accepted =
      let s = accepted.state in
      let comes = run_over (stem w ++ repeated accepted.turns (turn w)) p s x joined accepted.comes in
      let returns = accepting_over (repeated accepted.rounds (turn w)) s s comes.0 comes.1 accepted.returns in
      record {
        turns = accepted.turns;
        state = comes.0;
        comes = comes.2;
        rounds = accepted.rounds;
        once = accepted.once;
        returns =
            subst (λ y. AcceptingRun others (repeated accepted.rounds (turn w)) comes.0 y)
            (one s returns.0 comes.0 returns.1 comes.1) returns.2;
      }
