-- The trees and forms that the program holds, as those of the tables.
--
--   phrase_view v == a tree of a part of a text
--   wait_view q   == a form of which a sign is to come
--   hold_view k   == a form of which an operand is to come
use Rattle.ml_pdl.specs.Tables as tables
use Rattle.ml_pdl.specs.Term.{formula_of, program_of}
use Rattle.ml_pdl.specs.declared.forms.Phrase.{Phrase}
use Rattle.ml_pdl.specs.declared.forms.Phrase.TheVariants as phrase
use Rattle.ml_pdl.specs.declared.forms.Wait.{Wait}
use Rattle.ml_pdl.specs.declared.forms.Wait.TheVariants as wait
use Rattle.ml_pdl.specs.declared.forms.Hold.{Hold}
use Rattle.ml_pdl.specs.declared.forms.Hold.TheVariants as hold

abbrev pub phrase_view : Phrase → tables.Phrase
phrase_view (phrase.Formula t) = tables.OfFormula (formula_of t)
phrase_view (phrase.Program p) = tables.OfProgram (program_of p)
phrase_view (phrase.Name a) = tables.Name a

abbrev pub wait_view : Wait → tables.Wait
wait_view wait.FormulaStart = tables.FormulaStart
wait_view wait.ProgramStart = tables.ProgramStart
wait_view (wait.BehindBegin m) = tables.BehindBegin m
wait_view (wait.BehindProgram m p) = tables.BehindProgram m (program_of p)
wait_view wait.BehindRepeat = tables.BehindRepeat
wait_view (wait.BehindRepeatInside p) = tables.BehindRepeatInside (program_of p)
wait_view (wait.BehindFormulaInside t) = tables.BehindFormulaInside (formula_of t)
wait_view (wait.BehindProgramInside p) = tables.BehindProgramInside (program_of p)
wait_view (wait.BehindTestInside t) = tables.BehindTestInside (formula_of t)
wait_view (wait.BehindNegations n) = tables.BehindNegations n
wait_view (wait.BehindTested t) = tables.BehindTested (formula_of t)

abbrev pub hold_view : Hold → tables.Hold
hold_view hold.Negation = tables.Negation
hold_view (hold.ModalProgram m) = tables.ModalProgram m
hold_view (hold.Modal m p) = tables.Modal m (program_of p)
hold_view hold.FormulaGroup = tables.FormulaGroup
hold_view hold.ProgramGroup = tables.ProgramGroup
hold_view hold.RepeatGroup = tables.RepeatGroup
hold_view (hold.TestGroup n) = tables.TestGroup n
