-- The propositions of a formula of CTL* or LTL, each once, in the order of the text.
--
--   props_onto f ps   == the names ps, and behind them the propositions of f
use Rattle.std.specs.Prelude.{ℕ, List}
use Rattle.ml_text.specs.NameLists.{with_names}
use Rattle.ml_text.specs.Names.{Proposition, of_kind}
use Rattle.ml_ctl.specs.Formula.{Formula}
use Rattle.ml_ctl.specs.FormulaNames.{names}

abbrev pub props_onto : Formula → List (List ℕ) → List (List ℕ)
props_onto f ps = with_names ps (of_kind Proposition (names f))
