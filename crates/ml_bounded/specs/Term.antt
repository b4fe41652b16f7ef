-- The plain formula that a term stands for: the same tree without the places of its boxes. Two terms are the same formula
-- exactly where these are equal.
--
--   formula_of t   == the plain formula of the term t
use Rattle.ml_bounded.specs.Formula as plain
use Rattle.ml_bounded.specs.declared.term.Term.{Term}
use Rattle.ml_bounded.specs.declared.term.Term.TheVariants as term

abbrev pub formula_of : Term → plain.Formula
formula_of (term.Const b) = plain.Const b
formula_of (term.Prop p) = plain.Prop p
formula_of (term.Not' at f) = plain.Not (formula_of f)
formula_of (term.Binary' op at f at_right g) = plain.Binary op (formula_of f) (formula_of g)
formula_of (term.Temporal' t at f) = plain.Temporal t (formula_of f)
formula_of (term.Paired' p at f at_right g) = plain.Paired p (formula_of f) (formula_of g)
formula_of (term.Bounded' b at f) = plain.Bounded b (formula_of f)
