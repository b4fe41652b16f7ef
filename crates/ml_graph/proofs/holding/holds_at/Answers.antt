use Rattle.std.proofs.Common.{◌≡◌, ◌<◌, ap, refl, sym, subst, ◌∙◌, arith}
use Rattle.ml_graph.specs.Graph.{size}
use Rattle.ml_parity.specs.Game.{IsGame}
use Rattle.ml_parity.specs.declared.players.Player.TheVariants.{Even, Odd}
use Rattle.ml_graph.proofs.Winners.{even_holds, vertex_of_game}
use Rattle.ml_graph.proofs.holding.holds_at.Goals as goal

pub index-requires : goal.index-requires
index-requires c =
    let low =
    vertex_of_game c.args.graph.now c.args.structure.now c.args.state c.requires
    (subst (λ r. r < size c.args.graph.now) c.root-root.ensures.value c.root-root.ensures.is_node) c.in_ok-game.game
    c.in_ok-game.ensures.game c.in_ok-solution.solution c.in_ok-solution.ensures.ok c.solution.inside.winner.items
    (ap (λ s. s.winner) c.solution.view_is) c.in_ok-game.vertex c.in_ok-game.ensures.vertex in
    omega (arith, low, c.solution.inside.winner.ok.0)

pub returns-in-Even : goal.returns-in-Even
returns-in-Even c =
    let told =
    even_holds c.args.graph.now c.args.structure.now c.args.state c.requires
    (subst (λ r. r < size c.args.graph.now) c.root-root.ensures.value c.root-root.ensures.is_node) c.in_ok-game.game
    c.in_ok-game.ensures.game c.in_ok-solution.solution c.in_ok-solution.ensures.ok c.solution.inside.winner.items
    (ap (λ s. s.winner) c.solution.view_is) c.in_ok-game.vertex c.in_ok-game.ensures.vertex
    (subst IsGame c.game.view_is c.game.invariant) c.index.result.now c.index.ensures in
    (λ _. told.0 c.in-Even.is, λ _. refl)

pub returns : goal.returns
returns c =
    let told =
    even_holds c.args.graph.now c.args.structure.now c.args.state c.requires
    (subst (λ r. r < size c.args.graph.now) c.root-root.ensures.value c.root-root.ensures.is_node) c.in_ok-game.game
    c.in_ok-game.ensures.game c.in_ok-solution.solution c.in_ok-solution.ensures.ok c.solution.inside.winner.items
    (ap (λ s. s.winner) c.solution.view_is) c.in_ok-game.vertex c.in_ok-game.ensures.vertex
    (subst IsGame c.game.view_is c.game.invariant) c.index.result.now c.index.ensures in
    (λ wrong. absurd (cc), λ holds. let even : Odd ≡ Even = sym c.in-Odd.is ∙ told.1 holds in absurd (cc))
