use Rattle.std.proofs.Common.{◌≡◌, length, subst, arith}
use Rattle.ml_extract.specs.private.Gathered.{AreGathered}
use Rattle.ml_extract.proofs.StateParts.{numbered_few, same_lengths}
use Rattle.ml_extract.proofs.parts.Parts.of.Goals as goal

pub overflow_cast-state-end : goal.overflow_cast-state-end
overflow_cast-state-end c =
    let g = c.args.game.now.graph.now in
    let a = c.args.game.now.arena.now in
    let s = c.args.game.now.solution.now in
    let fs = c.args.states.now.firsts.keys in
    let ls = c.args.states.now.lasts.items in
    let few = numbered_few g a s fs ls c.requires in
    let same = same_lengths g a s fs ls c.requires in
    omega arith

pub returns : goal.returns
returns c =
    λ n. let g = c.args.game.now.graph.now in
    let a = c.args.game.now.arena.now in
    let ls = c.args.states.now.lasts.items in
    let at_end : c.loop-state.state ≡ length ls = omega arith in
    subst (λ k. AreGathered g a n.states k c.loop-state.parts.labels.items c.loop-state.parts.edges.items) at_end
    (c.loop-state.invariant.1 n)
