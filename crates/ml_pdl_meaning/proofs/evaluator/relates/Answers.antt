use Rattle.std.proofs.Common.{false, ap, ◌∙◌, arith}
use Rattle.std.proofs.lemmas.List.{get_or_default}
use Rattle.ml_pdl.specs.Meaning.{relation}
use Rattle.ml_pdl.specs.Term.{program_of}
use Rattle.ml_pdl_meaning.proofs.RunsIntoSets.{before}
use Rattle.ml_pdl_meaning.proofs.Evaluation.{related_value}
use Rattle.ml_pdl_meaning.proofs.evaluator.relates.Goals as goal

pub returns : goal.returns
returns c =
    let r = relation c.args.structure.now (program_of c.args.program.now) in
    related_value c.args.structure.now r c.args.from c.args.to c.in_ok-end.end.items c.in_ok-states.states.items
    c.index.result.now c.requires.from c.requires.to c.in_ok-end.ensures.value
    (c.in_ok-states.ensures.value ∙ ap (before c.args.structure.now r) c.deref.ensures.value)
    (c.index.ensures
    ∙ get_or_default c.in_ok-states.states.items c.args.from c.index.result.now false
    (omega (arith, c.requires.from, c.in_ok-states.ensures.flags)))
