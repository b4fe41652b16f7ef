-- Formulas behind negations.
--
--   negated_less == one negation is put in front, and one fewer is left
use Rattle.std.proofs.Common.{◌≡◌, ℕ, zero, suc, ◌-◌, ◌<◌, ap, arith}
use Rattle.ml_pdl.specs.Formula.{Formula, Not}
use Rattle.ml_pdl.specs.Tables.{negated}

pub negated_less : (n : ℕ) (f : Formula) → 0 < n → negated (n - 1) (Not f) ≡ negated n f
negated_less zero f some = absurd (omega arith)
negated_less (suc n) f some = let same : suc n - 1 ≡ n = omega arith in ap (λ k. negated k (Not f)) same
