use Rattle.std.proofs.Common.{rules, ℕ, ◌≡◌, ◌∙◌, ◌↔◌, List, All, map, sym, ap, subst}
use Rattle.ml_lists.specs.Ascending.{ascending}
use Rattle.ml_lists.specs.Member.{IsMember}
use Rattle.ml_sequent.specs.Step.{IsTrace}
use Rattle.ml_trace.specs.declared.letters.Triple.{Triple}
use Rattle.ml_refutation.specs.declared.refutation.Item.{Item}
use Rattle.ml_refute_check.specs.private.Sources.{StandAmong}
use Rattle.ml_refute_check.specs.private.Stepping.{KeptList}
use Rattle.ml_refute_check.proofs.FoundByNode.{item_nodes_stand, item_nodes_inside, told_sorted}
use Rattle.ml_refute_check.proofs.stepping.KeptBranch.make_step.Goals as goal

pub traces_from-requires-clause-nodes : goal.traces_from-requires-clause-nodes
traces_from-requires-clause-nodes c =
    let items = c.args.items.now in
    let C = c.self.inside.branch.sequent in
    let nodes : c.in_ok-nodes.nodes.items ≡ map (λ (a : Item). a.node) items = search rules in
    let sources = c.of_members-sources.ensures ∙ ap ascending nodes in
    let stand = subst (λ (b : KeptList). StandAmong b.on.sequent items) (sym c.self.view_is) c.requires.items in
    subst (All (λ n. IsMember n C)) (sym c.values.ensures.value)
    (item_nodes_inside items C c.of_members-sources.result sources stand)

pub returns-clause-step : goal.returns-clause-step
returns-clause-step c =
    let P = λ (b : KeptList) (sources : List ℕ) (t : Triple).
    IsMember t.from sources × IsTrace b.on.graph b.on.sequent b.on.spread c.args.diamond t in
    let made = c.in_ok-traces.traces.items in
    let here = subst (λ (ns : List ℕ). (t : Triple) → IsMember t made
    ↔ (IsMember t.from ns × IsTrace c.self.inside.branch.graph c.self.inside.branch.sequent c.self.inside.branch.spread
    c.args.diamond t)) c.values.ensures.value c.in_ok-traces.ensures.traces in
    let told = subst (λ (b : KeptList). (t : Triple) → IsMember t made ↔ P b c.of_members-sources.result t) c.self.view_is here in
    record {
      step = record {
        targets = c.requires.targets;
        traces =
            told_sorted (P c.args.self.now c.of_members-sources.result) made c.sort_by_target.new.traces.items told
            c.sort_by_target.ensures.same;
      };
      rise = c.sort_by_target.ensures.rise;
    }

pub returns-clause-sources : goal.returns-clause-sources
returns-clause-sources c =
    let items = c.args.items.now in
    let nodes : c.in_ok-nodes.nodes.items ≡ map (λ (a : Item). a.node) items = search rules in
    item_nodes_stand items c.of_members-sources.result (c.of_members-sources.ensures ∙ ap ascending nodes)
