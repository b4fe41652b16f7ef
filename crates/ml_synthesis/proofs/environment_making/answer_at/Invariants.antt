use Rattle.std.proofs.Common.{take}
use Rattle.ml_parity.specs.Game.{size}
use Rattle.ml_synthesis.specs.private.Numbered.{AreNumbersOf, IsRowMet}
use Rattle.ml_synthesis.proofs.environment_making.answer_at.Given as goal

abbrev pub invariant-loop-state : goal.invariant-loop-state
invariant-loop-state l =
    AreNumbersOf l.states.keys (take l.state-index l.moves) l.numbers.items
    × IsRowMet l.arena.base (size l.arena.game) l.fn.states.keys l.numbers.items l.states.keys
