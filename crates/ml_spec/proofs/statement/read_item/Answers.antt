use Rattle.std.proofs.Common.{arith}
use Rattle.ml_spec.proofs.statement.read_item.Goals as goal

pub returns-in-Ok : goal.returns-in-Ok
returns-in-Ok c =
    λ ss same context.
    c.read_by_kind.ensures ss (omega (arith, same, c.requires.room, c.in-Ok.ensures.few)) context

pub returns-in-Err : goal.returns-in-Err
returns-in-Err c = λ ss same context. c.in-Err.ensures.refused ss same
