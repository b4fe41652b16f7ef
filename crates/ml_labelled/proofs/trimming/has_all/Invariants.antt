use Rattle.std.proofs.Common.{All, take}
use Rattle.ml_lists.specs.Member.{IsMember}
use Rattle.ml_labelled.specs.declared.labelled.Literal.{Literal}
use Rattle.ml_labelled.proofs.trimming.has_all.Given as goal

abbrev pub invariant-loop-literal : goal.invariant-loop-literal
invariant-loop-literal l = All (λ (x : Literal). IsMember x l.cube) (take l.literal-index l.part)
