use Rattle.std.proofs.Common.{ℕ, List, ap, ◌∙◌, ◌<◌, length, get_or, sym, subst, arith}
use Rattle.ml_history.specs.HistoryStep.{live}
use Rattle.ml_refute.specs.private.Found.{position_at}
use Rattle.ml_refute.proofs.PuttingTogether.{vertex_low, index_low, some_numbered, most_none, most_more, most_done}
use Rattle.ml_refute.proofs.making.names_of.Goals as goal

pub vertex_at-requires : goal.vertex_at-requires
vertex_at-requires c =
    some_numbered c.args.game.now.graph.now c.args.game.now.arena.now c.args.game.now.solution.now
    c.args.vertices.now.keys c.requires

pub live_at-most-requires : goal.live_at-most-requires
live_at-most-requires c =
    vertex_low c.args.game.now.graph.now c.args.game.now.arena.now c.args.game.now.solution.now
    c.args.vertices.now.keys c.requires 0 c.vertex_at.result c.vertex_at.ensures

pub loop-v-init : goal.loop-v-init
loop-v-init c =
    most_none c.args.game.now.graph.now c.args.game.now.arena.now c.args.game.now.solution.now
    c.args.vertices.now.keys c.requires c.vertex_at.result c.live_at-most.result c.vertex_at.ensures
    c.live_at-most.ensures

pub live_at-requires : goal.live_at-requires
live_at-requires c =
    let keys = c.as_slice-v-items.ensures.keys in
    subst (λ (xs : List ℕ). get_or xs c.loop-v.v-index 0 < length c.args.game.now.arena.now.positions) (sym keys)
    (index_low c.args.game.now.graph.now c.args.game.now.arena.now c.args.game.now.solution.now
    c.args.vertices.now.keys c.requires c.loop-v.v-index
    (omega (arith, c.loop-v-test.true, ap (λ (xs : List ℕ). length xs) keys)))

pub loop-v-preserved : goal.loop-v-preserved
loop-v-preserved c =
    let keys = c.as_slice-v-items.ensures.keys in
    most_more c.args.game.now.graph.now c.args.game.now.arena.now c.args.game.now.solution.now
    c.args.vertices.now.keys c.requires c.loop-v.v-index c.loop-v.most c.max-most.result c.live_at.result
    (omega (arith, c.loop-v-test.true, ap (λ (xs : List ℕ). length xs) keys)) c.loop-v.invariant
    (c.live_at.ensures
    ∙ ap (λ (xs : List ℕ). live (position_at c.args.game.now.graph.now c.args.game.now.arena.now
    (get_or xs c.loop-v.v-index 0)).history) keys)
    c.max-most.ensures

pub returns : goal.returns
returns c =
    let keys = c.as_slice-v-items.ensures.keys in
    most_done c.args.game.now.graph.now c.args.game.now.arena.now c.args.game.now.solution.now
    c.args.vertices.now.keys c.requires c.loop-v.most c.loop-v.v-index
    (omega (arith, c.loop-v-test.false, ap (λ (xs : List ℕ). length xs) keys)) c.loop-v.invariant
