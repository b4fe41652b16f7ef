-- The numbers of the rules of a body, as the program names them. (Nobody has to believe it: `BodyRules` says which rule has
-- which number.)
--
--   rule_number r == the number of a rule, from 21 on
use Rattle.std.specs.Prelude.{ℕ}
use Rattle.ml_refutation_text.specs.declared.body_rule.BodyRule.{BodyRule}
use Rattle.ml_refutation_text.specs.declared.body_rule.BodyRule.TheVariants.{OfKind, Numbers, HasEntries, NextEntry, SequentAscends, LiveWithin, ItemsAscend}
use Rattle.ml_refutation_text.specs.declared.body_rule.BodyRule.TheVariants.{HeightForEach, GoInRange, Nesting, InTables}

abbrev pub rule_number : BodyRule → ℕ
rule_number OfKind = 21
rule_number Numbers = 22
rule_number HasEntries = 23
rule_number NextEntry = 24
rule_number SequentAscends = 25
rule_number LiveWithin = 26
rule_number ItemsAscend = 27
rule_number HeightForEach = 28
rule_number GoInRange = 29
rule_number Nesting = 30
rule_number InTables = 31
