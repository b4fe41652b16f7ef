use Rattle.ml_pgsolver.proofs.OneChecked.{never_both_checked, one_checked, one_check_refusal}
use Rattle.ml_pgsolver.proofs.SomeChecked.{some_checked_answer}
use Rattle.ml_pgsolver.proofs.laws.one_checked_answer.Goals as goal

pub returns : goal.returns
returns c = record {
  some = some_checked_answer;
  unambiguous = one_checked;
  refused = one_check_refusal;
  exclusive = never_both_checked;
}
