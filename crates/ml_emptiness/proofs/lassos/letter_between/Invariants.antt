use Rattle.std.proofs.Common.{◌≡◌, take}
use Rattle.ml_lists.specs.Member.{IsMember}
use Rattle.ml_emptiness.specs.Systems.{moves_of, table_of}
use Rattle.ml_emptiness.specs.private.Pairs.{Joins}
use Rattle.ml_emptiness.specs.declared.systems.Move.{Move}
use Rattle.ml_emptiness.proofs.lassos.letter_between.Given as goal

abbrev pub invariant-loop-step : goal.invariant-loop-step
invariant-loop-step l = (m : Move)
    → IsMember m (take l.step-index (moves_of (table_of l.both.system.now) l.from.state))
    → m.to ≡ l.to.state
    → ¬ (Joins l.both.letters.now (table_of l.both.system.now) l.from m.letter l.to l.accepting)
