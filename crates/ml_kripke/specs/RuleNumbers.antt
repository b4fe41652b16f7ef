-- The numbers of the rules of a document's body, by the names that the program gives them.
--
--   rule_number r == the number of a rule, from 11 on
use Rattle.std.specs.Prelude.{ℕ}
use Rattle.ml_kripke.specs.declared.body_rule.BodyRule.{BodyRule}
use Rattle.ml_kripke.specs.declared.body_rule.BodyRule.TheVariants.{OfKind, Numbers, HasStates, StartInRange, NextState, Labels, Edges}

abbrev pub rule_number : BodyRule → ℕ
rule_number OfKind = 11
rule_number Numbers = 12
rule_number HasStates = 13
rule_number StartInRange = 14
rule_number NextState = 15
rule_number Labels = 16
rule_number Edges = 17
