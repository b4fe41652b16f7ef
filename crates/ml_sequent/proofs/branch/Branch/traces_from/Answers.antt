use Rattle.std.proofs.Common.{◌↔◌, All, IfOk, sym, subst}
use Rattle.ml_lists.specs.Member.{IsMember}
use Rattle.ml_trace.specs.declared.letters.Triple.{Triple}
use Rattle.ml_sequent.specs.Branch.{BranchList}
use Rattle.ml_sequent.specs.Spread.{IsSpreadOf}
use Rattle.ml_sequent.specs.Step.{IsDiamondOf, IsTrace}
use Rattle.ml_sequent.specs.private.Trails.{spread_at}
use Rattle.ml_sequent.proofs.Traces.{along_from}
use Rattle.ml_sequent.proofs.branch.Branch.traces_from.Goals as goal

pub traces_on-requires-clause-nodes : goal.traces_on-requires-clause-nodes
traces_on-requires-clause-nodes c =
    subst (λ (b : BranchList). All (λ n. IsMember n b.sequent) c.args.nodes.now) (sym c.self.view_is) c.requires.nodes

pub returns-clause-traces : goal.returns-clause-traces
returns-clause-traces c =
    subst (λ (b : BranchList). IsSpreadOf b.graph b.sequent b.spread.choice b.spread
    → IsDiamondOf b.graph b.spread c.args.diamond
    → All (λ n. IsMember n b.sequent) c.args.nodes.now
    → IfOk c.traces_on.result (λ traces. (t : Triple) → IsMember t traces.items
    ↔ (IsMember t.from c.args.nodes.now × IsTrace b.graph b.sequent b.spread c.args.diamond t)))
    c.self.view_is
    (λ of diamond inside. along_from c.self.inside.phase c.self.inside.sequent
    (spread_at c.self.inside.trail.nodes c.self.inside.choice) c.args.diamond c.args.nodes.now c.traces_on.result of
    diamond inside c.traces_on.ensures.traces)
    c.requires.spread c.requires.diamond c.requires.nodes
