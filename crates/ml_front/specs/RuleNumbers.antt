-- The numbers of the rules of a head, as a refusal tells them. (Nobody has to believe them: the rules have their numbers in
-- `HeadRules`.)
--
--   rule_number r == the number of a rule, from 1 to 3
use Rattle.std.specs.Prelude.{ℕ}
use Rattle.ml_front.specs.declared.head_rule.HeadRule.{HeadRule}
use Rattle.ml_front.specs.declared.head_rule.HeadRule.TheVariants.{OfKind, Parses, Answers}

abbrev pub rule_number : HeadRule → ℕ
rule_number OfKind = 1
rule_number Parses = 2
rule_number Answers = 3
