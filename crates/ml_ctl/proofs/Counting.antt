-- What a text counts is what its formula has.
--
--   count_signs ts  == the occurrences that the signs count
--   counts          == what is read has as many occurrences as its signs count
--   few_names       == a formula has no more names than occurrences
use Rattle.std.proofs.Common.{◌≡◌, ℕ, ◌+◌, ◌≤◌, List, length, arith, length-append}
use Rattle.ml_text.specs.Levels.{Level}
use Rattle.ml_text.proofs.TableItems.{count_from}
use Rattle.ml_ctl.specs.Formula as plain
use Rattle.ml_ctl.specs.Formula.{Formula, occurrences}
use Rattle.ml_ctl.specs.FormulaNames.{names}
use Rattle.ml_ctl.specs.declared.language.Language.{Language}
use Rattle.ml_ctl.specs.Signs.{Sign}
use Rattle.ml_ctl.specs.Grammar.{Reads, alone, joined, pair_alone, pair, negation, temporal, quantified, group, constant, proposition}
use Rattle.ml_ctl.specs.declared.language.Sort.{Sort}
use Rattle.ml_ctl.specs.Text.{ctl_signs}

abbrev pub count_signs : List Sign → ℕ
count_signs = count_from ctl_signs tt

module _ {w : Language} where
  pub counts : {s : Sort} {l : Level} {ts rest : List Sign} {f : Formula}
      → Reads w s l ts f rest
      → count_signs ts ≡ occurrences f + count_signs rest
  counts (alone o r) = counts r
  counts (joined o a b) = let x = counts a in let y = counts b in omega (arith, x, y)
  counts (pair_alone r) = counts r
  counts (pair p a b) = let x = counts a in let y = counts b in omega (arith, x, y)
  counts (negation r) = let x = counts r in omega (arith, x)
  counts (temporal t r) = let x = counts r in omega (arith, x)
  counts (quantified q e r) = let x = counts r in omega (arith, x)
  counts (group r) = let x = counts r in omega (arith, x)
  counts (constant b) = omega arith
  counts (proposition p) = omega arith

pub few_names : (f : Formula) → length (names f) ≤ occurrences f
few_names (plain.Const b) = omega arith
few_names (plain.Prop p) = omega arith
few_names (plain.Not f) = omega (arith, few_names f)
few_names (plain.Binary op f g) = omega (arith, length-append (names f) (names g), few_names f, few_names g)
few_names (plain.Temporal t f) = omega (arith, few_names f)
few_names (plain.Paired p f g) = omega (arith, length-append (names f) (names g), few_names f, few_names g)
few_names (plain.Quantified q f) = omega (arith, few_names f)
