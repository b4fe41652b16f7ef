use Rattle.std.proofs.Common.{ℕ, ◌↔◌, List, get_or, sym, subst}
use Rattle.ml_lists.specs.Member.{IsMember}
use Rattle.ml_lists.proofs.Member.{place-member}
use Rattle.ml_trace.specs.declared.letters.Triple.{Triple}
use Rattle.ml_sequent.specs.Branch.{BranchList}
use Rattle.ml_sequent.specs.Spread.{IsSpreadOf}
use Rattle.ml_sequent.specs.Step.{IsDiamondOf, IsTrace, IsStep}
use Rattle.ml_sequent.specs.private.Exits.{AreTracesFrom}
use Rattle.ml_sequent.specs.private.Trails.{spread_at}
use Rattle.ml_sequent.proofs.OwnSpreads.{own_spread}
use Rattle.ml_sequent.proofs.Traces.{traces_are_from, step_of}
use Rattle.ml_sequent.proofs.branch.Branch.step.Goals as goal

pub targets-requires-clause-spread : goal.targets-requires-clause-spread
targets-requires-clause-spread c =
    let b = c.args.self.now in
    own_spread b.graph b.sequent b.spread.choice b.spread c.requires.spread

pub traces_on-requires-clause-nodes : goal.traces_on-requires-clause-nodes
traces_on-requires-clause-nodes c = λ k d low.
    subst (λ (C : List ℕ). IsMember (get_or c.values.result.now k d) C) c.values.ensures.value
    (place-member c.values.result.now k d low)

pub returns-clause-step : goal.returns-clause-step
returns-clause-step c =
    let b = c.args.self.now in
    let inside = c.self.inside in
    let traces = c.in_ok-traces.traces.items in
    let are = subst (λ (C : List ℕ). AreTracesFrom inside.phase inside.choice c.args.diamond C traces)
    c.values.ensures.value c.in_ok-traces.ensures.traces in
    subst (IsStep b.graph b.sequent b.spread c.args.diamond c.in_ok-targets.targets) (sym c.new.ensures)
    (step_of b.graph b.sequent b.spread c.args.diamond c.in_ok-targets.targets traces
    c.in_ok-targets.ensures.ascends c.in_ok-targets.ensures.targets
    (subst (λ (b : BranchList). IsSpreadOf b.graph b.sequent b.spread.choice b.spread
    → IsDiamondOf b.graph b.spread c.args.diamond
    → (t : Triple)
    → IsMember t traces ↔ (IsMember t.from b.sequent × IsTrace b.graph b.sequent b.spread c.args.diamond t))
    c.self.view_is
    (λ of diamond. traces_are_from inside.phase inside.sequent (spread_at inside.trail.nodes inside.choice) c.args.diamond of
    diamond inside.sequent traces (place-member inside.sequent) are)
    c.requires.spread c.requires.diamond))
