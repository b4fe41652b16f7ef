use Rattle.std.proofs.Common.{◌<◌, All, IfOk, get_or, sym, subst, arith}
use Rattle.ml_graph.specs.Graph.{Graph, size}
use Rattle.ml_lists.specs.Member.{IsMember}
use Rattle.ml_lists.proofs.Member.{All-member, member-All}
use Rattle.ml_sequent.specs.Spread.{IsSpreadOf}
use Rattle.ml_sequent.specs.private.Exits.{AreTracesFrom}
use Rattle.ml_sequent.specs.private.Trails.{spread_at}
use Rattle.ml_sequent.proofs.Traces.{sequent_low, lone_ok}
use Rattle.ml_sequent.proofs.phase.LocalPhase.traces_on.Goals as goal

pub begins_all-requires-clause-node : goal.begins_all-requires-clause-node
begins_all-requires-clause-node c =
    subst (λ (g : Graph). get_or c.args.nodes.now 0 0 < size g) (sym c.self.view_is)
    (sequent_low c.args.self.now c.args.sequent.now (spread_at c.args.trail.now.nodes c.args.choice.now)
    (get_or c.args.nodes.now 0 0) c.requires.spread (c.requires.nodes 0 0 (omega arith)))

pub triples_on-requires-clause-from : goal.triples_on-requires-clause-from
triples_on-requires-clause-from c =
    subst (λ (g : Graph). get_or c.args.nodes.now 0 0 < size g) (sym c.self.view_is)
    (sequent_low c.args.self.now c.args.sequent.now (spread_at c.args.trail.now.nodes c.args.choice.now)
    (get_or c.args.nodes.now 0 0) c.requires.spread (c.requires.nodes 0 0 (omega arith)))

pub traces_along-requires-clause-nodes : goal.traces_along-requires-clause-nodes
traces_along-requires-clause-nodes c =
    subst (λ (g : Graph). All (λ n. n < size g) c.args.nodes.now) (sym c.self.view_is)
    (member-All (λ n. n < size c.args.self.now) c.args.nodes.now
    (λ n h. sequent_low c.args.self.now c.args.sequent.now (spread_at c.args.trail.now.nodes c.args.choice.now) n
    c.requires.spread (All-member (λ k. IsMember k c.args.sequent.now) c.args.nodes.now c.requires.nodes n h)))

pub returns-in-len1-clause-traces : goal.returns-in-len1-clause-traces
returns-in-len1-clause-traces c =
    let g = c.self.inside.graph.now in
    let spread = spread_at c.args.trail.now.nodes c.args.choice.now in
    let of = subst (λ (g : Graph). IsSpreadOf g c.args.sequent.now c.args.choice.now spread) (sym c.self.view_is) c.requires.spread in
    let low = sequent_low g c.args.sequent.now spread (get_or c.args.nodes.now 0 0) of (c.requires.nodes 0 0 (omega arith)) in
    let lone = c.begins_all.ensures.0 c.if-begins_all.true in
    subst (λ (g : Graph). IfOk c.triples_on.result (λ traces. AreTracesFrom g c.args.choice.now c.args.diamond c.args.nodes.now traces.items))
    c.self.view_is
    (lone_ok g c.args.sequent.now c.args.nodes.now c.args.trail.now.nodes c.args.choice.now c.args.diamond c.triples_on.result
    c.keeps.ensures.is_graph lone.0 (omega arith) c.requires.nodes low lone.1 of c.triples_on.ensures)

pub returns-in_default-clause-traces : goal.returns-in_default-clause-traces
returns-in_default-clause-traces c =
    subst (λ (g : Graph). IfOk c.traces_along.result (λ traces. AreTracesFrom g c.args.choice.now c.args.diamond c.args.nodes.now traces.items))
    c.self.view_is c.traces_along.ensures.traces
