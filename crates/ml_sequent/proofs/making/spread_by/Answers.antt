use Rattle.std.proofs.Common.{ℕ, ◌∙◌, List, map, sym, subst}
use Rattle.ml_lists.specs.Ascending.{IsAscending}
use Rattle.ml_lists.proofs.Ascending.{ascending-is}
use Rattle.ml_sequent.specs.declared.reach.Visit.{Visit}
use Rattle.ml_sequent.specs.private.Reach.{onward, unranked, HasReached}
use Rattle.ml_sequent.proofs.MarkedNodes.{ranks_found}
use Rattle.ml_sequent.proofs.SpreadFound.{spread_found}
use Rattle.ml_sequent.proofs.making.spread_by.Goals as goal

pub nodes-requires-clause-ranks : goal.nodes-requires-clause-ranks
nodes-requires-clause-ranks c =
    ranks_found c.args.graph.now c.args.choice.now c.args.levels.now.ranks c.values.result.now
    c.reach_all.new.reach.found c.in_ok-reach_all.ensures.reached

pub of-requires : goal.of-requires
of-requires c =
    subst IsAscending (sym c.in_ok-nodes.ensures)
    (ascending-is (map (λ (v : Visit). v.node) c.reach_all.new.reach.found))

pub returns-clause-of : goal.returns-clause-of
returns-clause-of c =
    let g = c.args.graph.now in
    let choice = c.args.choice.now in
    let found = c.reach_all.new.reach.found in
    let reached = subst (λ (C : List ℕ). HasReached (onward g choice c.args.levels.now.ranks) (map unranked C) found) c.values.ensures.value c.in_ok-reach_all.ensures.reached in
    spread_found g choice c.args.levels.now c.size-size.ensures.is_graph c.requires.ranked c.args.sequent.now c.requires.nodes found reached c.of.result
    (c.of.ensures.nodes ∙ c.in_ok-nodes.ensures) (c.of.ensures.choice ∙ c.in_ok-copy.ensures)
