-- The equality of formulas is decided: a formula is told by its symbols.
--
--   same_formula == formulas are equal or not
use Rattle.std.proofs.Common.{◌≡◌, sym, ap, ◌∙◌}
use Rattle.ml_lists.proofs.Decided.{Decided, decided_same, decided_both, decided_number, decided_bytes, decided_list}
use Rattle.ml_text.specs.private.Codes.{Symbol}
use Rattle.ml_ctl.specs.Formula.{Formula}
use Rattle.ml_ctl.specs.private.FormulaCode.{symbols_of, formula_from, formula_from-symbols_of}

same_symbol : (s t : Symbol) → Decided (s ≡ t)
same_symbol s t =
    decided_same (λ (both : (s.0 ≡ t.0) × (s.1 ≡ t.1)) i. (both.0 i, both.1 i))
    (λ e. (ap (λ (x : Symbol). x.0) e, ap (λ (x : Symbol). x.1) e))
    (decided_both (decided_number s.0 t.0) (decided_bytes s.1 t.1))

pub same_formula : (f g : Formula) → Decided (f ≡ g)
same_formula f g =
    decided_same (λ e. sym (formula_from-symbols_of f) ∙ ap formula_from e ∙ formula_from-symbols_of g) (ap symbols_of)
    (decided_list same_symbol (symbols_of f) (symbols_of g))
