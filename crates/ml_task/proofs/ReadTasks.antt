-- The text of a task, read line by line.
--
--   front             == the signals are read
--   formula_told      == behind it a line that is no good formula is the first bad one
--   end_told          == behind it and the formula a further line is
--   task_read         == with nothing behind the formula it is the text of a task
use Rattle.std.proofs.Common.{◌≡◌, ℕ, true, List, [], ◌∷◌, ◌++◌, length, codes, inl, inr, refl, sym, ap, subst, ◌∙◌, arith}
use Rattle.ml_ctl.specs.Formula.{Formula}
use Rattle.ml_ctl.specs.Parsing.{IsParsedAs}
use Rattle.ml_ctl.specs.declared.language.Language.TheVariants.{Ltl}
use Rattle.ml_ctl.proofs.OneAnswer.{one_answer}
use Rattle.ml_lines.specs.Lines.{Line}
use Rattle.ml_lines.specs.Reading.{is_blank, words_of}
use Rattle.ml_lines.proofs.Cuts.{some_part}
use Rattle.ml_lists.specs.Documents.{IsFirstBad, IsFirstBroken, KeepsAll}
use Rattle.ml_task.specs.Task.{knows, task_of}
use Rattle.ml_task.specs.TaskText.{AtFormula, AtInputs, AtNothing, IsTaskText, Place, names_rules, rules, task, task_lines}
use Rattle.ml_lines.specs.declared.refusal.LineRefusal.{LineRefusal}
use Rattle.ml_lines.specs.declared.refusal.LineRefusal.TheVariants as line
use Rattle.ml_task.specs.declared.task_rule.TaskRule.TheVariants.{OfKind}
use Rattle.ml_task.specs.declared.task_rule.TaskRule.{TaskRule}
use Rattle.ml_task.specs.private.Stages.{AreNamesRead, AreSignalsRead, IsFormulaRead, Tells, TellsFault, at_line, first_of}
use Rattle.ml_task.proofs.FormulaRead.{given_bytes, is_formula_line}
use Rattle.ml_task.proofs.ReadableTasks.{good_task}

-- a rule that the first line breaks makes it the first bad one
first_bad : (k : ℕ) (place : Place) (lines : List Line) (r : ℕ)
    → IsFirstBroken (rules place) (first_of lines) r
    → IsFirstBad task k place lines k r
first_bad k place [] r broken = (refl, broken)
first_bad k place (l ∷ lines) r broken = inl (refl, broken)

pub front : (text behind : List ℕ) (inputs outputs none seen : List (List ℕ)) (rest : List Line)
    → none ≡ []
    → AreNamesRead (codes "inputs") none (task_lines text) inputs (task_lines behind)
    → seen ≡ none ++ inputs
    → AreNamesRead (codes "outputs") seen (task_lines behind) outputs rest
    → AreSignalsRead text inputs outputs rest
front text behind inputs outputs none seen rest empty first added second = record {
  lines_are = first.lines_are ∙ ap (λ ls. (codes "inputs" ∷ inputs) ∷ ls) second.lines_are;
  inputs_good = subst (λ s. KeepsAll (names_rules (codes "inputs") s) (codes "inputs" ∷ inputs)) empty first.keeps;
  outputs_good =
      subst (λ s. KeepsAll (names_rules (codes "outputs") s) (codes "outputs" ∷ outputs))
      (added ∙ ap (λ s. s ++ inputs) empty) second.keeps;
}

module _ (text : List ℕ) (inputs outputs seen : List (List ℕ)) (rest : List Line)
    (so_far : AreSignalsRead text inputs outputs rest) (are : seen ≡ inputs ++ outputs) where
  behind : (bad r : ℕ) → IsFirstBad task 3 (AtFormula (inputs ++ outputs)) rest bad r
      → IsFirstBad task 1 AtInputs (task_lines text) bad r
  behind bad r found =
      subst (λ ls. IsFirstBad task 1 AtInputs ls bad r) (sym so_far.lines_are)
      (inr (so_far.inputs_good, inr (so_far.outputs_good, found)))

  pub formula_told : (e : LineRefusal TaskRule) → Tells (rules (AtFormula seen)) (first_of rest) e → TellsFault text (at_line 3 e)
  formula_told line.NoMemory told = tt
  formula_told (line.Breaks rule) told =
      behind 3 _ (first_bad 3 (AtFormula (inputs ++ outputs)) rest _
      (subst (λ s. Tells (rules (AtFormula s)) (first_of rest) (line.Breaks rule)) are told))

  module _ (f : Formula) (more : List Line) (read : IsFormulaRead seen rest f more) where
    known : knows (inputs ++ outputs) f ≡ true
    known = subst (λ s. knows s f ≡ true) are read.is_known

    formula_good : KeepsAll (rules (AtFormula (inputs ++ outputs))) (codes "formula" ∷ words_of read.given)
    formula_good =
        let same = given_bytes read.given in (
          is_formula_line read.given,
          (
            (f, subst (λ given. IsParsedAs Ltl given f) (sym same) read.is_parsed),
            (
              λ g parsed.
                  subst (λ h. knows (inputs ++ outputs) h ≡ true)
                  ((one_answer Ltl).parsed read.given f g read.is_parsed (subst (λ given. IsParsedAs Ltl given g) same parsed))
                  known,
              tt,
            ),
          ),
        )

    pub end_told : (part : List ℕ) (others : List Line)
        → more ≡ words_of part ∷ others
        → TellsFault text (at_line 4 (line.Breaks OfKind))
    end_told part others is =
        behind 4 41
        (subst (λ ls. IsFirstBad task 3 (AtFormula (inputs ++ outputs)) ls 4 41) (sym read.lines_are)
        (inr (
          formula_good,
          subst (λ ls. IsFirstBad task 4 AtNothing ls 4 41) (sym is)
              (inl (refl, inl (refl, λ none. let some = some_part is_blank part in absurd (omega (arith, some, ap length none))))),
        )))

    pub task_read : more ≡ [] → IsTaskText text (task_of inputs outputs f)
    task_read none =
        good_task text read.given inputs outputs f
        (so_far.lines_are
        ∙ ap (λ ls. (codes "inputs" ∷ inputs) ∷ (codes "outputs" ∷ outputs) ∷ ls)
        (read.lines_are ∙ ap (λ ls. (codes "formula" ∷ words_of read.given) ∷ ls) none))
        so_far.inputs_good so_far.outputs_good read.is_parsed known
