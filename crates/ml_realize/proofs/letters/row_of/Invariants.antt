use Rattle.std.proofs.Common.{◌≡◌, ◌++◌, length}
use Rattle.ml_realize.specs.private.Rows.{AreFirst}
use Rattle.ml_realize.proofs.letters.row_of.Given as goal

abbrev pub invariant-loop-valuation : goal.invariant-loop-valuation
invariant-loop-valuation l =
    (length l.row.items ≡ l.valuation) × AreFirst (l.inputs ++ l.outputs) l.automaton l.row.items
