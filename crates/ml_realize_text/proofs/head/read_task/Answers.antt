use Rattle.std.proofs.Common.{◌+◌, ◌-◌, ◌≤◌, Fits, w64, Err, sym, ap, subst, arith}
use Rattle.ml_base.specs.declared.doc_fault.DocFault.{DocFault}
use Rattle.ml_base.specs.declared.doc_refusal.DocRefusal.TheVariants as refused
use Rattle.ml_realize_text.specs.RealizeRules.{AtInputs}
use Rattle.ml_realize_text.specs.declared.realizability.Realizability.{Realizability}
use Rattle.ml_realize_text.specs.private.Reads.{TellsFault}
use Rattle.ml_realize_text.proofs.HeadRead.{task_bad_within, task_refused}
use Rattle.ml_realize_text.proofs.head.read_task.Goals as goal

pub overflow_sub-result : goal.overflow_sub-result
overflow_sub-result c =
    let told = c.in-Err-Fault in
    let found = told.ensures.refused told.fault (ap Err told.field-0-is) in
    let within =
    task_bad_within c.args.at c.behind_task-rest.result c.text_before.result.now told.fault c.behind_task-rest.ensures
    c.text_before.ensures found in
    subst (λ (f : DocFault). 1 ≤ f.line) (sym told.fault-is) within.0

pub overflow_add-result : goal.overflow_add-result
overflow_add-result c =
    let told = c.in-Err-Fault in
    let line = c.args.at.line in
    let found = told.ensures.refused told.fault (ap Err told.field-0-is) in
    let room = c.requires in
    let within =
    task_bad_within c.args.at c.behind_task-rest.result c.text_before.result.now told.fault c.behind_task-rest.ensures
    c.text_before.ensures found in
    subst (λ (f : DocFault). Fits w64 (line + (f.line - 1))) (sym told.fault-is) (omega (arith, within.0, within.1, room))

pub returns-in-Err-Fault-clause-refused : goal.returns-in-Err-Fault-clause-refused
returns-in-Err-Fault-clause-refused c =
    let told = c.in-Err-Fault in
    let at = c.args.at in
    let found = told.ensures.refused told.fault (ap Err told.field-0-is) in
    subst
    (λ (f : DocFault). (a : Realizability)
    → TellsFault (AtInputs a) at (refused.Fault (record { line = at.line + (f.line - 1); rule = f.rule })))
    (sym told.fault-is)
    (task_refused at c.behind_task-rest.result c.text_before.result.now told.fault c.behind_task-rest.ensures c.text_before.ensures
    found)
