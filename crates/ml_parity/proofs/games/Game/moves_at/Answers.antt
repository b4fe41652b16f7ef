-- The vector at the vertex has its moves, since the fields are those of a game.
use Rattle.ml_parity.proofs.GameFields.{read_some, read_low}
use Rattle.ml_parity.proofs.games.Game.moves_at.Goals as goal

pub returns-clause-goes_on : goal.returns-clause-goes_on
returns-clause-goes_on c =
    read_some c.self.inside.owner c.self.inside.priority c.self.inside.successors c.args.self.now
    (record { is = c.self.view_is; game = c.self.invariant }) c.args.vertex c.requires c.index.result.now
    c.index.ensures c.deref.result.now c.deref.ensures.value

pub returns-clause-in_range : goal.returns-clause-in_range
returns-clause-in_range c =
    read_low c.self.inside.owner c.self.inside.priority c.self.inside.successors c.args.self.now
    (record { is = c.self.view_is; game = c.self.invariant }) c.args.vertex c.requires c.index.result.now
    c.index.ensures c.deref.result.now c.deref.ensures.value
