use Rattle.std.proofs.Common.{◌≡◌, ◌+◌, [], length}
use Rattle.ml_answers.specs.Texts as texts
use Rattle.ml_answers.proofs.cut.first_line.Given as goal

abbrev pub invariant-loop-end : goal.invariant-loop-end
invariant-loop-end l =
    (l.from + length l.rest ≡ length l.text) × (texts.first_line l.line l.text ≡ texts.line_from l.line l.from [] l.rest)

abbrev pub decreases-loop-end : goal.decreases-loop-end
decreases-loop-end l = length l.rest
