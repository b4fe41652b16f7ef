-- The numbers of the rules of the lines of answers.
--
--   rule_number r == the number of a rule
use Rattle.std.specs.Prelude.{ℕ}
use Rattle.ml_answers.specs.declared.rule.AnswersRule.{AnswersRule}
use Rattle.ml_answers.specs.declared.rule.AnswersRule.TheVariants.{OfKind, Names}

abbrev pub rule_number : AnswersRule → ℕ
rule_number OfKind = 71
rule_number Names = 72
