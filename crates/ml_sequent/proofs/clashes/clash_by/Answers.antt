use Rattle.std.proofs.Common.{List, ℕ, ◌≡◌, ◌<◌, All, find, None, sym, ap, subst, ◌∙◌}
use Rattle.ml_graph.specs.Graph.{size, node_at}
use Rattle.ml_lists.specs.Member.{IsMember}
use Rattle.ml_sequent.specs.Spread.{IsOddCycle}
use Rattle.ml_sequent.specs.private.Tests.{is_false, partner, IsFirstPair, IsFirstOddCycle}
use Rattle.ml_sequent.specs.private.ConnectedParts.{IsClosedIn}
use Rattle.ml_sequent.proofs.Causes.{false_cause, pair_cause, cycle_cause, no_cause}
use Rattle.ml_sequent.proofs.OwnSpreads.{spread_all, spread_closed}
use Rattle.ml_sequent.proofs.clashes.clash_by.Goals as goal

pub first_false-requires : goal.first_false-requires
first_false-requires c =
    subst (λ (xs : List ℕ). All (λ n. n < size c.args.graph.now) xs) (sym c.nodes-nodes.ensures.value) (spread_all c.args.graph.now c.args.spread.now c.requires.spread)

pub first_pair-requires-clause-low : goal.first_pair-requires-clause-low
first_pair-requires-clause-low c =
    subst (λ (xs : List ℕ). All (λ n. n < size c.args.graph.now) xs) (sym c.nodes-nodes.ensures.value) (spread_all c.args.graph.now c.args.spread.now c.requires.spread)

pub first_cycle-requires-clause-nodes : goal.first_cycle-requires-clause-nodes
first_cycle-requires-clause-nodes c =
    let g = c.args.graph.now in
    let sp = c.args.spread.now in
    subst (λ (xs : List ℕ). IsClosedIn g c.choice.result.now xs) (sym c.nodes-nodes.ensures.value)
    (subst (λ ch. IsClosedIn g ch sp.nodes) (sym c.choice.ensures) (spread_closed g sp c.requires.spread))

pub returns-in-Some-clause-cause : goal.returns-in-Some-clause-cause
returns-in-Some-clause-cause c =
    let found = ap (find (λ n. is_false (node_at c.args.graph.now n))) (sym c.nodes-nodes.ensures.value) ∙ sym c.in-Some.ensures in
    false_cause c.args.graph.now c.args.spread.now c.requires.spread.ascends c.in-Some.node found

pub returns-in-Some-2-clause-cause : goal.returns-in-Some-2-clause-cause
returns-in-Some-2-clause-cause c =
    let none = ap (find (λ n. is_false (node_at c.args.graph.now n))) (sym c.nodes-nodes.ensures.value) ∙ sym c.in_default.ensures in
    let pair = rw c.in-Some-2.is at c.in_ok-pair.ensures in
    pair_cause c.args.graph.now c.args.spread.now c.requires.spread.ascends none c.in-Some-2.pair
    (subst (λ (xs : List ℕ). IsFirstPair c.args.graph.now xs c.in-Some-2.pair) c.nodes-nodes.ensures.value pair)

pub returns-in-Some-3-clause-cause : goal.returns-in-Some-3-clause-cause
returns-in-Some-3-clause-cause c =
    let none = ap (find (λ n. is_false (node_at c.args.graph.now n))) (sym c.nodes-nodes.ensures.value) ∙ sym c.in_default.ensures in
    let lonely = rw c.in_default-2.is at c.in_ok-pair.ensures in
    let cycle = rw c.in-Some-3.is at c.in_ok-node.ensures.first in
    cycle_cause c.args.graph.now c.args.spread.now c.requires.spread.ascends none
    (subst (λ (xs : List ℕ). (n : ℕ) → IsMember n xs → partner c.args.graph.now xs (node_at c.args.graph.now n) ≡ None) c.nodes-nodes.ensures.value lonely)
    c.in-Some-3.node
    (subst (λ (xs : List ℕ). IsFirstOddCycle c.args.graph.now c.args.spread.now.choice xs c.in-Some-3.node) c.nodes-nodes.ensures.value
    (subst (λ choice. IsFirstOddCycle c.args.graph.now choice c.nodes-nodes.result.now c.in-Some-3.node) c.choice.ensures cycle))

pub returns-in-None-clause-cause : goal.returns-in-None-clause-cause
returns-in-None-clause-cause c =
    let none = ap (find (λ n. is_false (node_at c.args.graph.now n))) (sym c.nodes-nodes.ensures.value) ∙ sym c.in_default.ensures in
    let lonely = rw c.in_default-2.is at c.in_ok-pair.ensures in
    let cycle = rw c.in-None.is at c.in_ok-node.ensures.first in
    no_cause c.args.graph.now c.args.spread.now c.requires.spread.ascends none
    (subst (λ (xs : List ℕ). (n : ℕ) → IsMember n xs → partner c.args.graph.now xs (node_at c.args.graph.now n) ≡ None) c.nodes-nodes.ensures.value lonely)
    (subst (λ (xs : List ℕ). (n : ℕ) → IsMember n xs → IsOddCycle c.args.graph.now c.args.spread.now.choice n → ⊥) c.nodes-nodes.ensures.value
    (subst (λ choice. (n : ℕ) → IsMember n c.nodes-nodes.result.now → IsOddCycle c.args.graph.now choice n → ⊥) c.choice.ensures cycle))
