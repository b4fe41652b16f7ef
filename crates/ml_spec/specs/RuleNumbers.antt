-- The rules of specification texts, by the numbers by which refusals tell them: 1 to 6 are those of a formula's parser, 61 to
-- 69 those of the items around the formulas.
--
--   rule_number r == the number of a rule
use Rattle.std.specs.Prelude.{ℕ}
use Rattle.ml_spec.specs.declared.rule.SpecRule.{SpecRule}
use Rattle.ml_spec.specs.declared.rule.SpecRule.TheVariants.{Syntax, Unbound, NotPositive, TooMany, TooNested, NameTooLong}
use Rattle.ml_spec.specs.declared.rule.SpecRule.TheVariants.{NoLogic, NoKind, NoName, NoColon, NameTaken, TooManyItems, TooLarge, Undeclared, DefinedLate}

abbrev pub rule_number : SpecRule → ℕ
rule_number Syntax = 1
rule_number Unbound = 2
rule_number NotPositive = 3
rule_number TooMany = 4
rule_number TooNested = 5
rule_number NameTooLong = 6
rule_number NoLogic = 61
rule_number NoKind = 62
rule_number NoName = 63
rule_number NoColon = 64
rule_number NameTaken = 65
rule_number TooManyItems = 66
rule_number TooLarge = 67
rule_number Undeclared = 68
rule_number DefinedLate = 69
