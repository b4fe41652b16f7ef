-- How many occurrences the formulas of the families have.
--
--   are_counted == as many as is said of them, for each number from 1 on
use Rattle.std.proofs.Common.{ℕ, zero, suc, ◌+◌, ◌*◌, ◌≡◌, refl, arith}
use Rattle.ml_text.specs.declared.token.Operator.TheVariants as operator
use Rattle.ml_ctl.specs.Formula as ltl
use Rattle.ml_mu.specs.Formula as mu
use Rattle.ml_pdl.specs.Formula as pdl
use Rattle.ml_gen.specs.Formulas.{act, acts, AreCounted, and_formula, and_part, fair_formula, fair_part, or_formula, or_part}
use Rattle.ml_gen.specs.declared.family.Family.TheVariants.{And, Or, Step, Fair, Loop}
use Rattle.ml_gen.proofs.Joined.{joined_counts}

pub acts_count : (k : ℕ) → pdl.program_occurrences (acts (suc k)) + 1 ≡ 2 * (k + 1)
acts_count k = joined_counts pdl.Seq (λ i. act) pdl.program_occurrences 1 k (λ p q. refl) (λ i. refl)

and_count : (k : ℕ) → mu.occurrences (and_formula (suc k)) + 1 ≡ 2 * (k + 1)
and_count k = joined_counts (mu.Binary operator.And) and_part mu.occurrences 1 k (λ f g. refl) (λ i. refl)

pub or_count : (k : ℕ) → mu.occurrences (or_formula (suc k)) + 1 ≡ 4 * (k + 1)
or_count k = joined_counts (mu.Binary operator.And) or_part mu.occurrences 3 k (λ f g. refl) (λ i. refl)

fair_count : (k : ℕ) → ltl.occurrences (fair_formula (suc k)) + 1 ≡ 4 * (k + 1)
fair_count k = joined_counts (ltl.Binary operator.And) fair_part ltl.occurrences 3 k (λ f g. refl) (λ i. refl)

pub are_counted : AreCounted
are_counted family zero low = absurd (omega arith)
are_counted And (suc k) low = omega (arith, and_count k)
are_counted Or (suc k) low = omega (arith, or_count k)
are_counted Step (suc k) low = omega (arith, acts_count k)
are_counted Fair (suc k) low = omega (arith, fair_count k)
are_counted Loop (suc k) low = omega (arith, acts_count k)
