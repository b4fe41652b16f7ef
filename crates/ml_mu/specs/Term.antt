-- The plain formula that a term stands for: the same tree without the places of its boxes. Two terms are the same
-- formula exactly where these are equal.
--
--   formula_of t  == the plain formula of the term t
use Rattle.ml_mu.specs.Formula as plain
use Rattle.ml_mu.specs.declared.term.Term.{Term}
use Rattle.ml_mu.specs.declared.term.Term.TheVariants.{Const, Prop, Var, Not', Binary', Modal', Binder'}

abbrev pub formula_of : Term → plain.Formula
formula_of (Const b) = plain.Const b
formula_of (Prop p) = plain.Prop p
formula_of (Var x) = plain.Var x
formula_of (Not' at f) = plain.Not (formula_of f)
formula_of (Binary' op at f at_right g) = plain.Binary op (formula_of f) (formula_of g)
formula_of (Modal' m a at f) = plain.Modal m a (formula_of f)
formula_of (Binder' q x at f) = plain.Binder q x (formula_of f)
