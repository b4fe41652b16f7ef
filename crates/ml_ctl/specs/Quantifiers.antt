-- Formulas of CTL* that begin with a quantifier over a formula of LTL.
--
--   Quantifies h q f   == h is the quantifier q with f behind it, and f has no quantifier
--   QuantifiesNone h   == h is no such formula
use Rattle.std.specs.Prelude.{◌≡◌, true}
use Rattle.ml_ctl.specs.Formula.{Formula, Quantified}
use Rattle.ml_ctl.specs.Sorts.{is_linear}
use Rattle.ml_ctl.specs.declared.term.Quantifier.{Quantifier}

abbrev pub Quantifies : Formula → Quantifier → Formula → Type 0
Quantifies h q f = (h ≡ Quantified q f) × (is_linear f ≡ true)

abbrev pub QuantifiesNone : Formula → Type 0
QuantifiesNone h = (q : Quantifier) (f : Formula) → ¬ (Quantifies h q f)
