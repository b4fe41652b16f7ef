-- The vector at the vertex has its moves, since the fields are those of a game.
use Rattle.ml_parity.proofs.GameFields.{read_some, read_low}
use Rattle.ml_progress.proofs.reading.moves_at.Goals as goal

pub returns-clause-goes_on : goal.returns-clause-goes_on
returns-clause-goes_on c =
    read_some c.game.inside.owner c.game.inside.priority c.game.inside.successors c.args.game.now
    (record { is = c.game.view_is; game = c.game.invariant }) c.args.vertex c.requires c.index.result.now
    c.index.ensures c.deref.result.now c.deref.ensures.value

pub returns-clause-in_range : goal.returns-clause-in_range
returns-clause-in_range c =
    read_low c.game.inside.owner c.game.inside.priority c.game.inside.successors c.args.game.now
    (record { is = c.game.view_is; game = c.game.invariant }) c.args.vertex c.requires c.index.result.now
    c.index.ensures c.deref.result.now c.deref.ensures.value
