-- Documents of decisions, all in version 2. The one with a structure is `satisfiable_document` of `ml_model_check`,
-- the one with a refutation `document_of` of `ml_refute_check`.
--
--   cause_line c               == the line for a cause: `cause positions N` or `cause closure 4096`
--   undecided_document p c     == the document that says that p stays undecided, for the cause c
--   decision_document p d      == the document about p with the decision d
--   IsShown d                  == the structure of d, where it has one, has a text and is in order
use Rattle.std.specs.Prelude.{ℕ, List, [], ◌∷◌, ◌++◌, codes}
use Rattle.ml_base.specs.declared.version.Version.TheVariants.{Two}
use Rattle.ml_kripke.specs.ModelText.{IsWritten}
use Rattle.ml_kripke.specs.Ordered.{IsOrdered}
use Rattle.ml_lines.specs.Lines.{Line, number, text_of}
use Rattle.ml_front.specs.Head.{head_lines}
use Rattle.ml_front.specs.declared.answer.Answer.TheVariants as answer
use Rattle.ml_front.specs.declared.problem.Problem.{Problem}
use Rattle.ml_front.specs.declared.problem.TheConstants.{MOST_NODES}
use Rattle.ml_refutation.specs.Views.{of_parts}
use Rattle.ml_refute_check.specs.WrittenDocument.{document_of}
use Rattle.ml_decide.specs.declared.cause.Cause.{Cause}
use Rattle.ml_decide.specs.declared.cause.Cause.TheVariants.{Positions, Closure}
use Rattle.ml_decide.specs.declared.deciding.Decision.{Decision}
use Rattle.ml_decide.specs.declared.deciding.Decision.TheVariants.{Satisfiable, Unsatisfiable, Undecided}
use Rattle.ml_model_check.specs.WrittenDocument.{satisfiable_document}

abbrev pub cause_line : Cause → Line
cause_line (Positions n) = codes "cause" ∷ codes "positions" ∷ number n ∷ []
cause_line Closure = codes "cause" ∷ codes "closure" ∷ number MOST_NODES ∷ []

abbrev pub undecided_document : Problem → Cause → List ℕ
undecided_document p c =
    text_of (head_lines Two answer.Undecided p) ++ text_of (cause_line c ∷ (codes "end" ∷ []) ∷ [])

abbrev pub decision_document : Problem → Decision → List ℕ
decision_document p (Satisfiable m) = satisfiable_document p m.structure m.start
decision_document p (Unsatisfiable r) = document_of p (of_parts r.names r.sequents r.stacks r.entries)
decision_document p (Undecided c) = undecided_document p c

abbrev pub IsShown : Decision → Type 0
IsShown (Satisfiable m) = IsWritten m.structure m.start × IsOrdered m.structure
IsShown _ = Unit {0}
