use Rattle.std.proofs.Common.{rules, ℕ, ◌≡◌, ◌<◌, ◌∙◌, List, All, map, sym, ap, subst}
use Rattle.ml_graph.specs.Graph.{size}
use Rattle.ml_lists.specs.Ascending.{ascending}
use Rattle.ml_lists.proofs.Member.{member-All}
use Rattle.ml_trace.specs.declared.letters.Triple.{Triple}
use Rattle.ml_sequent.specs.Step.{IsStep}
use Rattle.ml_sequent.specs.private.Exits.{AreTracesFrom}
use Rattle.ml_sequent.proofs.Traces.{sequent_low, step_is}
use Rattle.ml_sequent.proofs.stepping.step_by.Goals as goal

pub traces_along-requires-clause-nodes : goal.traces_along-requires-clause-nodes
traces_along-requires-clause-nodes c =
    subst (λ (nodes : List ℕ). All (λ n. n < size c.args.graph.now) nodes) (sym c.values.ensures.value)
    (member-All (λ n. n < size c.args.graph.now) c.args.sequent.now
    (λ n h. sequent_low c.args.graph.now c.args.sequent.now c.args.spread.now n c.requires.spread h))

pub returns-clause-step : goal.returns-clause-step
returns-clause-step c =
    let traces = c.in_ok-traces.traces.items in
    let targets : c.in_ok-targets.targets.items ≡ map (λ (t : Triple). t.to) traces = search rules in
    let nodes =
    subst (λ (nodes : List ℕ). AreTracesFrom c.args.graph.now c.choice.result.now c.args.diamond nodes traces)
    c.values.ensures.value c.in_ok-traces.ensures.traces
    in
    let all = subst (λ ch. AreTracesFrom c.args.graph.now ch c.args.diamond c.args.sequent.now traces) c.choice.ensures nodes in
    subst
    (λ (made : List Triple).
    IsStep c.args.graph.now c.args.sequent.now c.args.spread.now c.args.diamond c.of_members.result made)
    (sym c.new.ensures)
    (step_is c.args.graph.now c.args.sequent.now c.args.spread.now c.args.diamond c.of_members.result traces
    c.requires.spread c.requires.diamond (c.of_members.ensures ∙ ap ascending targets) all)
