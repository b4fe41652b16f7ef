use Rattle.std.proofs.Common.{◌↔◌, ◌∙◌, All, IsTrue, ap, refl, sym, subst}
use Rattle.ml_refute_check.specs.private.Stepping.{KeptList}
use Rattle.ml_sequent.specs.Spread.{IsSpreadOf}
use Rattle.ml_sequent.specs.Step.{IsDiamondOf, IsTarget}
use Rattle.ml_refutation.specs.Refutation.{Go, Entry}
use Rattle.ml_refute_check.specs.private.Parts.{question, Finds, branch_parts}
use Rattle.ml_refute_check.specs.private.Sources.{StandAmong}
use Rattle.ml_refute_check.specs.private.Stepping.{IsStepFrom, IsStepOn}
use Rattle.ml_refute_check.proofs.BranchesFound.{test_fails, go_refused_7, go_refused_8}
use Rattle.ml_refute_check.proofs.GoFound.{at_go, within_told}
use Rattle.ml_refute_check.proofs.checker.Checker.check_go.Goals as goal
use Rattle.ml_refute_check.proofs.checker.Checker.check_go.Goals.{then-leads, else-leads}

pub returns-then-not-has_diamond-clause-found : goal.returns-then-not-has_diamond-clause-found
returns-then-not-has_diamond-clause-found c =
    let q = question c.args.self.now.graph.now c.args.self.now.refutation.now in
    let diamond =
    subst (λ g. IsTrue c.has_diamond.result ↔ IsDiamondOf g c.args.branch.now.on.spread c.args.diamond) c.requires.graph
    c.has_diamond.ensures in
    go_refused_7 q _ _ _ c.requires.asks.is_graph c.requires.stands c.args.diamond c.args.target c.args.mark
    (test_fails (IsDiamondOf q.graph c.args.branch.now.on.spread c.args.diamond) c.has_diamond.result
    diamond c.if-not-has_diamond.true)

pub take_step-requires-clause-spread : goal.take_step-requires-clause-spread
take_step-requires-clause-spread c =
    subst (λ g. IsSpreadOf g c.args.branch.now.on.sequent c.args.branch.now.on.spread.choice c.args.branch.now.on.spread)
    (sym c.requires.graph) c.requires.stands.is_spread

pub take_step-requires-clause-items : goal.take_step-requires-clause-items
take_step-requires-clause-items c =
    let items = c.args.entry.now.items.items in
    subst (StandAmong c.args.branch.now.on.sequent) (sym c.deref.ensures.value)
    (subst (λ nodes. StandAmong nodes items)
    (sym (c.requires.stands.of_entry ∙ ap (λ (x : Entry). x.sequent) c.requires.entry.is)) c.requires.items)

pub check_step-found-requires-clause-sources : goal.check_step-found-requires-clause-sources
check_step-found-requires-clause-sources c =
    subst (StandAmong c.leads_to.new.step.sources) c.deref.ensures.value
    (subst (λ ns. StandAmong ns c.deref.result.now) (sym c.in_ok-leads.ensures.sources) c.in_ok-step.ensures.sources)

pub keep-requires : goal.keep-requires
keep-requires c = c.in_ok-leads.ensures.step

pub returns-clause-found : goal.returns-clause-found
returns-clause-found c =
    let q = question c.args.self.now.graph.now c.args.self.now.refutation.now in
    let ok = c.requires.asks.is_graph in
    let b = c.args.branch.now in
    let sp = b.on.spread in
    let stands = c.requires.stands in
    let step = c.leads_to.new.step in
    let d_is = c.in_ok-leads.ensures.diamond ∙ c.in_ok-step.ensures.diamond in
    let there = subst (λ (k : KeptList). IsStepOn k.on step) c.in_ok-step.ensures.same c.in_ok-leads.ensures.step in
    let on = subst (λ g. IsStepFrom g b.on.sequent sp step) c.requires.graph there.step in
    let diamond =
    subst (λ d. IsDiamondOf q.graph sp d) (sym d_is)
    (subst (λ g. IsDiamondOf g sp c.args.diamond) c.requires.graph (c.has_diamond.ensures.0 c.if-not-has_diamond.false)) in
    let told =
    subst (λ d. IsTrue c.in_ok-leads.leads ↔ All (IsTarget q.graph sp d) c.sequent.result.now) (sym c.in_ok-leads.ensures.diamond)
    (subst (λ g. IsTrue c.in_ok-leads.leads ↔ All (IsTarget g sp c.in_ok-step.step.diamond) c.sequent.result.now) c.requires.graph
    (subst (λ (k : KeptList). IsTrue c.in_ok-leads.leads
    ↔ All (IsTarget k.on.graph k.on.spread c.in_ok-step.step.diamond) c.sequent.result.now) c.in_ok-step.ensures.same
    c.in_ok-leads.ensures.leads)) in
    let within = within_told (at_go stands ok c.entry.ensures refl on) c.in_ok-leads.leads c.sequent.ensures told in
    let at_step = Finds q c.args.place (branch_parts sp.choice (Go step.diamond c.args.target c.args.mark)) in
    let found : Finds q c.args.place (branch_parts sp.choice (Go step.diamond c.args.target c.args.mark)) c.if-leads.found =
    elim c.if-leads.branch [
      | then-leads w ↦ subst at_step (sym w.found-is)
          (w.check_step-found.ensures b.on.sequent sp stands diamond (within.0 w.if-leads.true) on)
      | else-leads w ↦ subst at_step (sym w.found-is)
          (go_refused_8 q _ _ _ ok stands step.diamond c.args.target c.args.mark diamond
          (test_fails _ c.in_ok-leads.leads within w.if-leads.false))
    ] in
    subst (λ d. Finds q c.args.place (branch_parts sp.choice (Go d c.args.target c.args.mark)) c.if-leads.found) d_is found
