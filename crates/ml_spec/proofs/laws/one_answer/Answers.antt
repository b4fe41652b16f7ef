use Rattle.ml_spec.proofs.OneAnswer.{never_both, one_refusal, one_specification, some_reading}
use Rattle.ml_spec.proofs.laws.one_answer.Goals as goal

pub returns : goal.returns
returns c = record {
  some = some_reading;
  never_both = never_both;
  one_specification = one_specification;
  one_refusal = one_refusal;
}
