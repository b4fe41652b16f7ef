-- How large formulas are where they are joined. Private contracts and proofs cite this.
--
--   total fs == the occurrences of the formulas, one more for each
use Rattle.std.specs.Prelude.{ℕ, ◌+◌, List, sum_by}
use Rattle.ml_front.specs.Connectives.{occurrences}
use Rattle.ml_front.specs.declared.problem.AnyFormula.{AnyFormula}

abbrev pub total : List AnyFormula → ℕ
total fs = sum_by (λ f. 1 + occurrences f) fs
