-- The line of the formula of a task.
--
--   given_bytes    == what stands behind the first blank of the line
--   no_formula     == a text that the parser refuses stands for no formula, unless memory was wanting
--   unknown_broken == a line whose formula has a proposition that isn't known breaks the last rule
--   refused_broken == a line whose text is refused breaks the rule before it
use Rattle.std.proofs.Common.{◌≡◌, ◌≢◌, ◌<◌, ℕ, true, false, List, [], ◌∷◌, length, codes, inl, inr, refl, sym, ap, subst, ◌∙◌, arith}
use Rattle.std.proofs.lemmas.Bool.{true≢false}
use Rattle.std.proofs.lemmas.List.Splits.{join_with_byte-slice_split}
use Rattle.ml_base.specs.declared.parse_refusal.ParseRefusal.{ParseRefusal}
use Rattle.ml_base.specs.declared.parse_refusal.ParseRefusal.TheVariants as parser
use Rattle.ml_ctl.specs.Formula.{Formula}
use Rattle.ml_ctl.specs.Parsing.{IsParsedAs, IsRefusedBy}
use Rattle.ml_ctl.specs.declared.language.Language.TheVariants.{Ltl}
use Rattle.ml_ctl.proofs.OneAnswer.{one_answer}
use Rattle.ml_lines.specs.Lines.{Line}
use Rattle.ml_lines.specs.Reading.{IsTextBehind, words_of, is_blank}
use Rattle.ml_lines.proofs.Cuts.{some_part}
use Rattle.ml_task.specs.Task.{knows}
use Rattle.ml_task.specs.TaskText.{formula_bytes, rules, AtFormula}
use Rattle.ml_lines.specs.declared.refusal.LineRefusal.{LineRefusal}
use Rattle.ml_lines.specs.declared.refusal.LineRefusal.TheVariants as line
use Rattle.ml_task.specs.declared.task_rule.TaskRule.{TaskRule}
use Rattle.ml_task.specs.declared.task_rule.TaskRule.TheVariants.{Parses, Known}
use Rattle.ml_task.specs.private.Stages.{Breaks, Tells, formula_refusal}

abbrev rule_told : LineRefusal TaskRule → TaskRule
rule_told (line.Breaks r) = r
rule_told line.NoMemory = Parses

same_rule : (r : TaskRule) → line.Breaks Parses ≡ line.Breaks r → Parses ≡ r
same_rule r told = ap rule_told told

told_other : (e : ParseRefusal) (r : TaskRule)
    → formula_refusal e ≡ line.Breaks r
    → (e ≢ parser.NoMemory) × (Parses ≡ r)
told_other parser.NoMemory r told = absurd (cc)
told_other (parser.Syntax at) r told = (λ is. cc, same_rule r told)
told_other (parser.Unbound at) r told = (λ is. cc, same_rule r told)
told_other (parser.NotPositive at) r told = (λ is. cc, same_rule r told)
told_other (parser.TooMany at) r told = (λ is. cc, same_rule r told)
told_other (parser.TooNested at) r told = (λ is. cc, same_rule r told)
told_other (parser.NameTooLong at) r told = (λ is. cc, same_rule r told)

formula_line : (ws : Line) → 0 < length ws → IsTextBehind (codes "formula") (codes "formula" ∷ ws)
formula_line [] some = absurd (omega arith)
formula_line (w ∷ ws) some = (w, ws, refl)

pub is_formula_line : (given : List ℕ) → IsTextBehind (codes "formula") (codes "formula" ∷ words_of given)
is_formula_line given = formula_line (words_of given) (some_part is_blank given)

pub given_bytes : (given : List ℕ) → formula_bytes (codes "formula" ∷ words_of given) ≡ given
given_bytes given = join_with_byte-slice_split 32 given

module _ (names : List (List ℕ)) (words : Line) (given : List ℕ) (is : words ≡ codes "formula" ∷ words_of given) where
  pub unknown_broken : (f : Formula)
      → IsParsedAs Ltl given f
      → knows names f ≡ false
      → Breaks (rules (AtFormula names)) words Known
  unknown_broken f parsed unknown =
      let here = subst (λ text. IsParsedAs Ltl text f) (sym (given_bytes given)) parsed in
      subst (λ l. Breaks (rules (AtFormula names)) l Known) (sym is) (
      inr (
        is_formula_line given,
        inr ((f, here), inl (refl, λ all. true≢false (sym (all f here) ∙ unknown))),
      )
      )

  pub refused_broken : (e : ParseRefusal)
      → IsRefusedBy Ltl given e
      → Tells (rules (AtFormula names)) words (formula_refusal e)
  refused_broken e refused = go (formula_refusal e) refl
    where
      go : (r : LineRefusal TaskRule) → formula_refusal e ≡ r → Tells (rules (AtFormula names)) words r
      go line.NoMemory told = tt
      go (line.Breaks rule) told =
          let some = told_other e rule told in
          subst (λ x. Breaks (rules (AtFormula names)) words x) some.1
          (subst (λ l. Breaks (rules (AtFormula names)) l Parses) (sym is) (
          inr (
            is_formula_line given,
            inl (
              refl,
              λ (f, parsed).
                  some.0 ((one_answer Ltl).exclusive given f e (subst (λ text. IsParsedAs Ltl text f) (given_bytes given) parsed) refused),
            ),
          )
          ))
