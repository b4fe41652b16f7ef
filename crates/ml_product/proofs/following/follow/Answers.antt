-- The terms are those of the graph, and what is reached keeps to its nodes; so numbers of states are small, and marks
-- stand below the neutral priority.
use Rattle.std.proofs.Common.{ℕ, List, ◌%◌, ◌==◌, refl, sym, ap, ◌∙◌, subst}
use Rattle.std.specs.List.{filter}
use Rattle.ml_lists.specs.Ascending.{IsAscending}
use Rattle.ml_lists.proofs.Ascending.{ascending-is}
use Rattle.ml_trace.specs.Automaton.{IsLetterOf}
use Rattle.ml_trace.specs.AutomatonNumbers.{AllHaveRoom}
use Rattle.ml_trace.specs.Marks.{priority}
use Rattle.ml_trace.specs.MarkOrder.{FitsBelow}
use Rattle.ml_sequent.specs.Step.{IsStep}
use Rattle.ml_sequent.proofs.StepPremises.{own_choice}
use Rattle.ml_product.specs.Position.{neutral}
use Rattle.ml_product.specs.View.{viewed}
use Rattle.ml_product.proofs.Reached.{reached_facts}
use Rattle.ml_product.proofs.NeutralPriority.{mark_fits}
use Rattle.ml_product.proofs.ReachedSequents.{reached_low, trace_room}
use Rattle.ml_product.proofs.following.follow.Goals as goal

pub letter_of-requires-clause-ascending : goal.letter_of-requires-clause-ascending
letter_of-requires-clause-ascending c =
    let g = c.args.branch.now.graph in
    subst IsAscending (sym (c.deref.ensures.value ∙ c.requires.terms.odds))
    (ascending-is (filter (λ d. d % 2 == 1) g.priorities))

pub letter_of-requires-clause-room : goal.letter_of-requires-clause-room
letter_of-requires-clause-room c =
    let g = c.args.branch.now.graph in
    let C = c.args.view.sequent.now in
    let sp = c.args.branch.now.spread in
    subst (λ odds. AllHaveRoom odds c.in_ok-sequent.traces) (sym (c.deref.ensures.value ∙ c.requires.terms.odds))
    (trace_room g C sp c.args.diamond c.in_ok-sequent.sequent c.in_ok-sequent.traces c.requires.is_graph c.requires.small
    (own_choice g C (viewed c.args.view).choice sp c.requires.spread) c.requires.diamond.member
    (reached_low g c.requires.is_graph (viewed c.args.view) c.requires.reached)
    (subst (λ (ns : List ℕ). IsStep c.args.branch.now.graph ns c.args.branch.now.spread c.args.diamond
    c.in_ok-sequent.sequent
    c.in_ok-sequent.traces) c.requires.sequent c.in_ok-sequent.ensures.step))

pub priority_of-requires : goal.priority_of-requires
priority_of-requires c =
    let g = c.args.branch.now.graph in
    let p = viewed c.args.view in
    subst (λ k. FitsBelow k c.in_ok-history.mark) (sym c.requires.terms.neutral_is)
    (subst (FitsBelow (neutral g)) (sym c.in_ok-history.ensures.mark)
    (mark_fits g p (reached_facts g p c.requires.reached) c.args.branch.now.spread c.requires.spread
    c.in_ok-letter.letter))

pub returns-clause-follows : goal.returns-clause-follows
returns-clause-follows c = record {
  traces = c.in_ok-sequent.traces;
  letter = c.in_ok-letter.letter;
  is_step = subst (λ (ns : List ℕ). IsStep c.args.branch.now.graph ns c.args.branch.now.spread c.args.diamond
      c.in_ok-sequent.sequent
      c.in_ok-sequent.traces) c.requires.sequent c.in_ok-sequent.ensures.step;
  is_letter = subst (λ odds. IsLetterOf odds c.in_ok-sequent.traces c.in_ok-letter.letter)
      (c.deref.ensures.value ∙ c.requires.terms.odds) c.in_ok-letter.ensures;
  history = c.in_ok-history.ensures.history;
  marked = c.priority_of.ensures ∙ ap (λ k. priority k c.in_ok-history.mark) c.requires.terms.neutral_is
      ∙ ap (priority (neutral c.args.branch.now.graph)) c.in_ok-history.ensures.mark;
  unchosen = refl;
}
