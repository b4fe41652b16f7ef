use Rattle.std.proofs.Common.{◌≡◌, Some}
use Rattle.ml_text.specs.private.Machine as machine
use Rattle.ml_text.specs.private.Views.{stack_view}
use Rattle.ml_text.proofs.stack.reduce.Given as goal

abbrev pub invariant-loop-frame : goal.invariant-loop-frame
invariant-loop-frame g l =
    machine.reduce g.L.Notation.tables.grammar (Some (g.L.Notation.tables.sign l.fn.sign))
    (stack_view g.L.Notation.tables l.stack.items) (g.L.Notation.tables.tree l.tree)
    ≡ machine.reduce g.L.Notation.tables.grammar (Some (g.L.Notation.tables.sign l.fn.sign))
    (stack_view g.L.Notation.tables l.initial.stack.items) (g.L.Notation.tables.tree l.initial.tree)

abbrev pub decreases-loop-frame : goal.decreases-loop-frame
decreases-loop-frame g l = goal.left-loop-frame g l
