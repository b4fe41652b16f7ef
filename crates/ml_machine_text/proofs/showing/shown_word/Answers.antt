use Rattle.std.proofs.Common.{◌++◌, ◌∙◌, ap}
use Rattle.ml_ctl.specs.declared.language.Language.TheVariants.{Ltl}
use Rattle.ml_ctl.proofs.Parsed.{parsed_well}
use Rattle.ml_model_check.specs.WrittenDocument.{satisfiable_document}
use Rattle.ml_task.specs.Task.{task_of}
use Rattle.ml_machine_text.proofs.Confirmed.{text_holds}
use Rattle.ml_machine_text.proofs.showing.shown_word.Goals as goal

pub returns-clause-confirmed : goal.returns-clause-confirmed
returns-clause-confirmed c =
    let task = c.args.document.task in
    let t = task_of task.inputs.items task.outputs.items task.formula in
    let is = c.requires.is_text in
    let m = c.in_ok-structure.structure in
    let p = c.problem_of.result in
    let model = c.new.result in
    text_holds t c.args.document.outcome c.args.word.now m c.requires.breaks c.keeps.ensures.is_structure c.in_ok-structure.ensures
    c.new-2.result p model.structure model.start is.is_task
    (parsed_well Ltl is.formula_text task.formula is.is_parsed)
    (c.new-2.ensures ∙ c.in_ok-append_satisfied.ensures.text
    ∙ ap (λ t. t ++ satisfiable_document p model.structure model.start) c.new-text.ensures.items)
    c.problem_of.ensures c.new.ensures.structure c.new.ensures.start c.keeps.ensures.is_ordered
    c.in_ok-append_satisfied.ensures.written
