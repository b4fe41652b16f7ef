-- The spread of a state is that of the position where Even's choices end, which `lasts` has.
use Rattle.ml_extract.proofs.StateParts.{here_at}
use Rattle.ml_extract.proofs.parts.Parts.add.Goals as goal

pub spread_at-requires-clause-has_spread : goal.spread_at-requires-clause-has_spread
spread_at-requires-clause-has_spread c =
    let h =
    here_at c.args.game.now.graph.now c.args.game.now.arena.now c.args.game.now.solution.now c.args.states.now.firsts.keys
    c.args.states.now.lasts.items c.requires.numbered c.args.state c.index-last.result.now c.requires.state
    c.index-last.ensures in
    (h.state.spread, h.at)
