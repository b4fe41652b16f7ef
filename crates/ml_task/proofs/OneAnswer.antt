-- A text is one of a task or has one first bad line, and never both.
--
--   one_task          == a text is one of one task at most
--   some_answer       == it is one of a task, or has a first bad line
--   task_or_fault     == never both
--   one_fault         == it has one first bad line at most
--   task_rules_rise   == the numbers of the rules of a line rise
use Rattle.std.proofs.Common.{◌≡◌, ℕ, List, [], ◌∷◌, drop, slice_index_or, inl, inr, sym, ap, subst, ◌∙◌, ⊎_elim, arith}
use Rattle.std.specs.List.{join_with_byte}
use Rattle.std.proofs.lemmas.List.Splits.{join_with_byte-slice_split}
use Rattle.ml_ctl.specs.Parsing.{IsParsedAs}
use Rattle.ml_ctl.specs.declared.language.Language.TheVariants.{Ltl}
use Rattle.ml_ctl.proofs.OneAnswer as formulas
use Rattle.ml_lines.specs.Lines.{Line}
use Rattle.ml_lines.specs.Reading.{words_of}
use Rattle.ml_lists.specs.Ascending.{IsAscending}
use Rattle.ml_lists.specs.Readings.{IsReadable}
use Rattle.ml_lists.proofs.Ascending.{ascending-one, ascending-cons}
use Rattle.ml_lists.proofs.Documents.{one_bad, readable_no_bad, readable_or_bad}
use Rattle.ml_task.specs.Laws.{OneTask, SomeAnswer, TaskOrFault, OneFault, TaskRulesRise}
use Rattle.ml_task.specs.TaskText.{AtInputs, AtOutputs, AtFormula, AtNothing, task, task_lines}
use Rattle.ml_task.proofs.JudgedLines.{judges}
use Rattle.ml_task.proofs.ReadableTasks.{readable_task, task_readable}

pub one_task : OneTask
one_task text t u a b =
    let same = sym a.lines_are ∙ b.lines_are in
    let line : ℕ → List Line → Line = λ k lines. slice_index_or lines k [] in
    let words : words_of a.formula_text ≡ words_of b.formula_text = ap (λ lines. drop 1 (line 2 lines)) same in
    let given : a.formula_text ≡ b.formula_text =
    sym (join_with_byte-slice_split 32 a.formula_text) ∙ ap (join_with_byte 32) words ∙ join_with_byte-slice_split 32 b.formula_text in
    let inputs : t.inputs ≡ u.inputs = ap (λ lines. drop 1 (line 0 lines)) same in
    let outputs : t.outputs ≡ u.outputs = ap (λ lines. drop 1 (line 1 lines)) same in
    let formula : t.formula ≡ u.formula =
    (formulas.one_answer Ltl).parsed b.formula_text t.formula u.formula (subst (λ g. IsParsedAs Ltl g t.formula) given a.is_parsed) b.is_parsed in
    λ i. record { inputs = inputs i; outputs = outputs i; formula = formula i }

pub some_answer : SomeAnswer
some_answer text =
    ⊎_elim
    (λ (readable : IsReadable task AtInputs (task_lines text)). inl (readable_task text readable))
    (λ found. inr (record { line = found.0; rule = found.1 }, found.2))
    (readable_or_bad task judges 1 AtInputs (task_lines text))

pub task_or_fault : TaskOrFault
task_or_fault text t fault is found =
    readable_no_bad task 1 AtInputs (task_lines text) fault.line fault.rule (task_readable text t is) found

pub one_fault : OneFault
one_fault text e f x y =
    let same = one_bad task 1 AtInputs (task_lines text) e.line f.line e.rule f.rule x y in
    λ i. record { line = same.0 i; rule = same.1 i }

names_rise : IsAscending (41 ∷ 42 ∷ 43 ∷ 44 ∷ [])
names_rise =
    ascending-cons 41 42 (43 ∷ 44 ∷ []) (omega arith)
    (ascending-cons 42 43 (44 ∷ []) (omega arith) (ascending-cons 43 44 [] (omega arith) (ascending-one 44)))

pub task_rules_rise : TaskRulesRise
task_rules_rise AtInputs = names_rise
task_rules_rise (AtOutputs inputs) = names_rise
task_rules_rise (AtFormula names) =
    ascending-cons 41 45 (46 ∷ []) (omega arith) (ascending-cons 45 46 [] (omega arith) (ascending-one 46))
task_rules_rise AtNothing = ascending-one 41
