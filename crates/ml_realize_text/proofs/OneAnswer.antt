-- A text is of a task and an outcome, or has one first bad line, and never both.
--
--   text_or_fault, some_reading, one_fault   == so it is
--   rules_rise                               == the numbers of the rules of a line rise
use Rattle.std.proofs.Common.{ℕ, ◌<◌, [], ◌∷◌, inl, inr, ⊎_elim, arith}
use Rattle.ml_base.specs.declared.doc_fault.DocFault.{DocFault}
use Rattle.ml_lines.specs.Reading.{left_of, lines_of}
use Rattle.ml_lines.proofs.Faults as faults
use Rattle.ml_lists.specs.Ascending.{IsAscending}
use Rattle.ml_lists.specs.Readings.{IsReadable}
use Rattle.ml_lists.proofs.Ascending.{ascending-cons, ascending-one}
use Rattle.ml_task.specs.TaskText as task
use Rattle.ml_task.proofs.OneAnswer as tasks
use Rattle.ml_realize_text.specs.Laws.{OneFault, RulesRise, SomeReading, TextOrFault}
use Rattle.ml_realize_text.specs.RealizeRules.{AtAnswer, AtEnd, AtFormula, AtInputs, AtNothing, AtOutputs, AtPlay, AtReply, AtState, AtStates, AtStep, AtTitle, IsRealizeFault, realize}
use Rattle.ml_realize_text.proofs.DecidedBodies.{judges}
use Rattle.ml_realize_text.proofs.Documents.{document_readable, readable_document}

pub text_or_fault : TextOrFault
text_or_fault text t r fault is found =
    faults.readable_no_fault realize 1 AtTitle text fault (document_readable text t r is) found

pub some_reading : SomeReading
some_reading text =
    ⊎_elim
    (λ (readable : IsReadable (realize (left_of text)) AtTitle (lines_of text)). inl (readable_document text readable))
    (λ (found : (fault : DocFault) × IsRealizeFault text fault). inr found)
    (faults.readable_or_fault realize 1 AtTitle text (judges (left_of text)))

pub one_fault : OneFault
one_fault text e f x y = faults.one_fault realize 1 AtTitle text e f x y

two : (x y : ℕ) → x < y → IsAscending (x ∷ y ∷ [])
two x y less = ascending-cons x y [] less (ascending-one y)

three : (x y z : ℕ) → x < y → y < z → IsAscending (x ∷ y ∷ z ∷ [])
three x y z first second = ascending-cons x y (z ∷ []) first (two y z second)

pub rules_rise : RulesRise
rules_rise left AtTitle = ascending-one 1
rules_rise left AtAnswer = two 1 3 (omega arith)
rules_rise left (AtInputs a) = tasks.task_rules_rise task.AtInputs
rules_rise left (AtOutputs a inputs) = tasks.task_rules_rise (task.AtOutputs inputs)
rules_rise left (AtFormula g) = tasks.task_rules_rise (task.AtFormula [])
rules_rise left (AtStates g) = three 51 52 53 (omega arith) (omega arith)
rules_rise left (AtState g n i) = three 51 52 54 (omega arith) (omega arith)
rules_rise left (AtPlay g n i) = two 51 55 (omega arith)
rules_rise left (AtStep g n i s) =
    ascending-cons 51 52 (55 ∷ 56 ∷ []) (omega arith) (three 52 55 56 (omega arith) (omega arith))
rules_rise left (AtReply g n i s) = three 51 52 56 (omega arith) (omega arith)
rules_rise left AtEnd = ascending-one 51
rules_rise left AtNothing = ascending-one 51
