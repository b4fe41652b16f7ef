-- The plain formula that a term stands for, and the plain program that a program stands for: the same trees without the
-- places of their boxes. Two terms are the same formula exactly where these are equal.
--
--   formula_of t   == the plain formula of the term t
--   program_of p   == the plain program of the program p
use Rattle.ml_pdl.specs.Formula as plain
use Rattle.ml_pdl.specs.declared.term.Term.{Term}
use Rattle.ml_pdl.specs.declared.term.Term.TheVariants as term
use Rattle.ml_pdl.specs.declared.term.Program.{Program}
use Rattle.ml_pdl.specs.declared.term.Program.TheVariants as program

abbrev mutual
  pub formula_of : Term → plain.Formula
  formula_of (term.Const b) = plain.Const b
  formula_of (term.Prop p) = plain.Prop p
  formula_of (term.Not' at f) = plain.Not (formula_of f)
  formula_of (term.Binary' op at f at_right g) = plain.Binary op (formula_of f) (formula_of g)
  formula_of (term.Modal' m p at f) = plain.Modal m (program_of p) (formula_of f)
  formula_of (term.Repeat p) = plain.Repeat (program_of p)

  pub program_of : Program → plain.Program
  program_of (program.Act a) = plain.Act a
  program_of (program.Seq' at p at_right q) = plain.Seq (program_of p) (program_of q)
  program_of (program.Alt' at p at_right q) = plain.Alt (program_of p) (program_of q)
  program_of (program.Star' at p) = plain.Star (program_of p)
  program_of (program.Test' at f) = plain.Test (formula_of f)
