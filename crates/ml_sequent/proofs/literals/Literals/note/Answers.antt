-- The proposition of a literal is one of the graph.
use Rattle.std.proofs.Common.{◌≡◌, ◌<◌, ℕ, Bool, length, subst}
use Rattle.ml_graph.specs.declared.node.Node.TheVariants.{Lit}
use Rattle.ml_graph.specs.Graph.{Graph, IsGraph, node_at, size}
use Rattle.ml_graph.proofs.References.{prop_in_range}
use Rattle.ml_sequent.proofs.literals.Literals.note.Goals as goal

known_prop : (g : Graph) → IsGraph g → (n room p : ℕ) (positive : Bool) → n < room → room ≡ size g
    → node_at g n ≡ Lit p positive
    → p < length g.props
known_prop g ok n room p positive low same is = prop_in_range g ok n (subst (λ k. n < k) same low) p positive is

pub note_first-requires-clause-prop : goal.note_first-requires-clause-prop
note_first-requires-clause-prop c =
    let is : node_at c.args.graph.now c.node.result ≡ Lit c.in-Lit-default-true.prop c.in-Lit-default-true.positive
    = cc in
    known_prop c.args.graph.now c.keeps.ensures.is_graph c.node.result c.args.trail.now.room
    c.in-Lit-default-true.prop
    c.in-Lit-default-true.positive c.node.ensures.low c.requires.room is

pub stands_before-requires-clause-prop : goal.stands_before-requires-clause-prop
stands_before-requires-clause-prop c =
    let is : node_at c.args.graph.now c.node.result ≡ Lit c.in-Lit-default-true.prop c.in-Lit-default-true.positive
    = cc in
    known_prop c.args.graph.now c.keeps.ensures.is_graph c.node.result c.args.trail.now.room
    c.in-Lit-default-true.prop
    c.in-Lit-default-true.positive c.node.ensures.low c.requires.room is

pub note_first-requires-in-Lit-default-false-clause-prop :
    goal.note_first-requires-in-Lit-default-false-clause-prop
note_first-requires-in-Lit-default-false-clause-prop c =
    let is : node_at c.args.graph.now c.node.result ≡ Lit c.in-Lit-default-false.prop
    c.in-Lit-default-false.positive = cc in
    known_prop c.args.graph.now c.keeps.ensures.is_graph c.node.result c.args.trail.now.room
    c.in-Lit-default-false.prop
    c.in-Lit-default-false.positive c.node.ensures.low c.requires.room is

pub stands_before-requires-in-Lit-default-false-clause-prop :
    goal.stands_before-requires-in-Lit-default-false-clause-prop
stands_before-requires-in-Lit-default-false-clause-prop c =
    let is : node_at c.args.graph.now c.node.result ≡ Lit c.in-Lit-default-false.prop
    c.in-Lit-default-false.positive = cc in
    known_prop c.args.graph.now c.keeps.ensures.is_graph c.node.result c.args.trail.now.room
    c.in-Lit-default-false.prop
    c.in-Lit-default-false.positive c.node.ensures.low c.requires.room is
