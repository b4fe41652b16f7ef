use Rattle.std.proofs.Common.{sym, ◌∙◌}
use Rattle.ml_labelled.proofs.KeptEdges.{literal_found}
use Rattle.ml_labelled.proofs.trimming.has.Goals as goal

pub returns : goal.returns
returns c = λ is. literal_found c.args.cube.now c.args.literal.now (sym c.contains.ensures.value ∙ is)
