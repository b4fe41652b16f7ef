use Rattle.std.proofs.lemmas.Result.{IfErr-at_err, IfOk-weaker}
use Rattle.ml_spec.specs.Specification.{IsSpecification, IsSpecified}
use Rattle.ml_spec.specs.private.Stages.{TellsRefusal}
use Rattle.ml_spec.proofs.OneAnswer.{never_both}
use Rattle.ml_spec.proofs.SpecifiedItems.{specified}
use Rattle.ml_spec.proofs.reading.read.Goals as goal

pub returns-clause-specified : goal.returns-clause-specified
returns-clause-specified c =
    IfOk-weaker c.read_text.result (λ s. IsSpecification c.args.text.now s.logic s.items.items)
    (λ s. IsSpecified s.logic s.items.items) (λ s is. specified c.args.text.now s.logic s.items.items is)
    c.read_text.ensures.specification

pub returns-clause-no_specification : goal.returns-clause-no_specification
returns-clause-no_specification c =
    λ line column rule is l xs spec.
    never_both c.args.text.now l xs line column rule spec
    (IfErr-at_err (TellsRefusal c.args.text.now) is c.read_text.ensures.refused)
