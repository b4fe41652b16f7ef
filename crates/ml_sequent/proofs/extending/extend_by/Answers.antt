use Rattle.std.proofs.Common.{ℕ, ◌<◌, ◌∙◌, List, ◌∷◌, map, All, sym, ap, subst}
use Rattle.std.proofs.lemmas.List.Elements.{All-cons}
use Rattle.ml_graph.specs.Graph.{size}
use Rattle.ml_lists.specs.Ascending.{IsAscending}
use Rattle.ml_lists.specs.Member.{IsMember}
use Rattle.ml_lists.proofs.Ascending.{ascending-is}
use Rattle.ml_sequent.specs.declared.reach.Visit.{Visit}
use Rattle.ml_sequent.specs.Choice.{with_side}
use Rattle.ml_sequent.specs.LocalWalk.{children}
use Rattle.ml_sequent.specs.Spread.{IsSpreadOf}
use Rattle.ml_sequent.proofs.LongerSpreads.{chosen_low, longer_closed, longer_spread}
use Rattle.ml_sequent.proofs.MarkedNodes.{ranks_found}
use Rattle.ml_sequent.proofs.OwnSpreads.{spread_all}
use Rattle.ml_sequent.proofs.SpreadFound.{spread_found}
use Rattle.ml_sequent.proofs.extending.extend_by.Goals as goal

pub reach_more-requires-clause-nodes : goal.reach_more-requires-clause-nodes
reach_more-requires-clause-nodes c =
    subst (λ (xs : List ℕ). All (λ n. n < size c.args.graph.now) xs) (sym c.nodes.ensures.value) (spread_all c.args.graph.now c.args.spread.now c.requires.spread)

pub reach_more-requires-clause-closed : goal.reach_more-requires-clause-closed
reach_more-requires-clause-closed c = λ n m h child.
    let g = c.args.graph.now in
    let sp = c.args.spread.now in
    let o = c.requires.node.is_open in
    let choice = c.in_ok-choice.ensures ∙ ap (λ ch. with_side ch c.args.node c.args.side) c.choice.ensures in
    let at = c.child_at.ensures o.left o.right o.is_or in
    let here = longer_closed g sp.choice c.args.node c.args.side o.left o.right o.is_or o.unchosen sp c.requires.spread n m
    (subst (IsMember n) c.nodes.ensures.value h) (subst (λ ch. IsMember m (children g ch n)) choice child) in
    subst (λ (xs : List ℕ). IsMember m (c.child_at.result ∷ xs)) (sym c.nodes.ensures.value)
    (subst (λ k. IsMember m (k ∷ sp.nodes)) (sym at) here)

pub reach_more-requires-clause-child : goal.reach_more-requires-clause-child
reach_more-requires-clause-child c =
    let o = c.requires.node.is_open in
    chosen_low c.args.graph.now c.size-size.ensures.is_graph c.args.spread.now c.args.node c.args.side c.requires.spread c.requires.node
    c.child_at.result (c.child_at.ensures o.left o.right o.is_or)

pub nodes-requires-2-clause-ranks : goal.nodes-requires-2-clause-ranks
nodes-requires-2-clause-ranks c =
    ranks_found c.args.graph.now c.in_ok-choice.choice c.args.levels.now.ranks (c.child_at.result ∷ c.nodes.result.now)
    c.reach_more.new.reach.found c.in_ok-reach_more.ensures.reached

pub of-requires : goal.of-requires
of-requires c =
    subst IsAscending (sym c.in_ok-nodes.ensures)
    (ascending-is (map (λ (v : Visit). v.node) c.reach_more.new.reach.found))

pub returns-clause-of : goal.returns-clause-of
returns-clause-of c = λ C is.
    let g = c.args.graph.now in
    let sp = c.args.spread.now in
    let o = c.requires.node.is_open in
    let choice = c.in_ok-choice.ensures ∙ ap (λ ch. with_side ch c.args.node c.args.side) c.choice.ensures in
    let at = c.child_at.ensures o.left o.right o.is_or in
    let found = c.reach_more.new.reach.found in
    let start = c.child_at.result ∷ c.nodes.result.now in
    let all = subst (λ (xs : List ℕ). All (λ n. n < size g) xs) (sym c.nodes.ensures.value) (spread_all g sp c.requires.spread) in
    let low = All-cons (λ n. n < size g) c.child_at.result c.nodes.result.now
    (chosen_low g c.size-size.ensures.is_graph sp c.args.node c.args.side c.requires.spread c.requires.node c.child_at.result at) all in
    let made = spread_found g c.in_ok-choice.choice c.args.levels.now c.size-size.ensures.is_graph c.requires.ranked start low found c.in_ok-reach_more.ensures.reached c.of.result
    (c.of.ensures.nodes ∙ c.in_ok-nodes.ensures) c.of.ensures.choice in
    let as_chosen = subst (λ ch. IsSpreadOf g start ch c.of.result) choice made in
    let as_nodes = subst (λ (xs : List ℕ). IsSpreadOf g (c.child_at.result ∷ xs) (with_side sp.choice c.args.node c.args.side) c.of.result) c.nodes.ensures.value as_chosen in
    longer_spread g sp.choice c.args.node c.args.side o.left o.right o.is_or o.unchosen C sp c.of.result is c.requires.node.member
    (subst (λ k. IsSpreadOf g (k ∷ sp.nodes) (with_side sp.choice c.args.node c.args.side) c.of.result) at as_nodes)
