use Rattle.std.proofs.Common.{All, take, ◌<◌}
use Rattle.ml_labelled.specs.declared.labelled.Literal.{Literal}
use Rattle.ml_labelled.proofs.fitting.is_below.Given as goal

abbrev pub invariant-loop-literal : goal.invariant-loop-literal
invariant-loop-literal l = All (λ (x : Literal). x.prop < l.props) (take l.literal-index l.cube)
