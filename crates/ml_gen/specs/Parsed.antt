-- The texts of the families stand for their formulas, and for no others.
--
--   StandsFor f n  == the text of the family f for n is parsed as its formula, in its logic
--   AreParsed      == so is the text of each family, for each number of its range
--   OnlyAs f n     == each formula as which it is parsed is that one
--   ParsedAsOne    == so it is for each family and each number
use Rattle.std.specs.Prelude.{ℕ, ◌≡◌, true}
use Rattle.ml_ctl.specs.Formula as ctl
use Rattle.ml_ctl.specs.Parsing as ctl_parsing
use Rattle.ml_ctl.specs.declared.language.Language.TheVariants.{Ltl}
use Rattle.ml_mu.specs.Formula as mu
use Rattle.ml_mu.specs.Parsing as mu_parsing
use Rattle.ml_pdl.specs.Formula as pdl
use Rattle.ml_pdl.specs.Parsing as pdl_parsing
use Rattle.ml_gen.specs.Families.{formula_text}
use Rattle.ml_gen.specs.FamilyRanges.{is_in_range}
use Rattle.ml_gen.specs.Formulas.{and_formula, fair_formula, loop_formula, or_formula, step_formula}
use Rattle.ml_gen.specs.declared.family.Family.{Family}
use Rattle.ml_gen.specs.declared.family.Family.TheVariants.{And, Or, Step, Fair, Loop}

abbrev pub StandsFor : Family → ℕ → Type 0
StandsFor And n = mu_parsing.IsParsedAs (formula_text And n) (and_formula n)
StandsFor Or n = mu_parsing.IsParsedAs (formula_text Or n) (or_formula n)
StandsFor Step n = pdl_parsing.IsParsedAs (formula_text Step n) (step_formula n)
StandsFor Fair n = ctl_parsing.IsParsedAs Ltl (formula_text Fair n) (fair_formula n)
StandsFor Loop n = pdl_parsing.IsParsedAs (formula_text Loop n) (loop_formula n)

abbrev pub AreParsed : Type 0
AreParsed = (family : Family) (n : ℕ) → is_in_range family n ≡ true → StandsFor family n

abbrev pub OnlyAs : Family → ℕ → Type 0
OnlyAs And n = (f : mu.Formula) → mu_parsing.IsParsedAs (formula_text And n) f → f ≡ and_formula n
OnlyAs Or n = (f : mu.Formula) → mu_parsing.IsParsedAs (formula_text Or n) f → f ≡ or_formula n
OnlyAs Step n = (f : pdl.Formula) → pdl_parsing.IsParsedAs (formula_text Step n) f → f ≡ step_formula n
OnlyAs Fair n = (f : ctl.Formula) → ctl_parsing.IsParsedAs Ltl (formula_text Fair n) f → f ≡ fair_formula n
OnlyAs Loop n = (f : pdl.Formula) → pdl_parsing.IsParsedAs (formula_text Loop n) f → f ≡ loop_formula n

abbrev pub ParsedAsOne : Type 0
ParsedAsOne = (family : Family) (n : ℕ) → is_in_range family n ≡ true → OnlyAs family n
