-- Whether a line keeps the rules of its place in a task is decided.
--
--   judges   == each line is judged at each place
use Rattle.std.proofs.Common.{◌≡◌, ◌≢◌, ℕ, suc, ◌+◌, ◌<◌, ◌≤◌, ◌⊎◌, List, [], ◌∷◌, length, drop, codes, get_or, inl, inr, ap, subst, arith, IsTrue}
use Rattle.std.specs.List.{list_all}
use Rattle.ml_base.specs.declared.parse_refusal.ParseRefusal.{ParseRefusal}
use Rattle.ml_base.specs.declared.parse_refusal.ParseRefusal.TheVariants as parser
use Rattle.ml_ctl.specs.Formula.{Formula}
use Rattle.ml_ctl.specs.Parsing.{IsParsedAs, IsRefusedBy}
use Rattle.ml_ctl.specs.declared.language.Language.TheVariants.{Ltl}
use Rattle.ml_ctl.proofs.OneAnswer.{one_answer}
use Rattle.ml_lines.specs.Lines.{Word, Line}
use Rattle.ml_lines.specs.Reading.{IsTextBehind}
use Rattle.ml_lines.proofs.DecidedWords.{decided_line, decided_words}
use Rattle.ml_lists.specs.Readings.{Judges, IsJudged}
use Rattle.ml_lists.proofs.Decided as is
use Rattle.ml_lists.proofs.Decided.{Decided}
use Rattle.ml_lists.proofs.Documents.{judged}
use Rattle.ml_task.specs.Task.{are_new, is_named, knows, most_names}
use Rattle.ml_task.specs.TaskText.{AtInputs, AtOutputs, AtFormula, AtNothing, IsNamesLine, formula_bytes, names_rules, rules, task}

is_names_line : (fixed : Word) (line : Line) → Decided (IsNamesLine fixed line)
is_names_line fixed line = is.decided_both (decided_words line) (decided_line line (fixed ∷ drop 1 line))

are_few : (n m : ℕ) → Decided (n ≤ m)
are_few n m = is.decided_same (λ (h : n < suc m). omega arith) (λ h. omega arith) (is.decided_less n (suc m))

names_judged : (fixed : Word) (seen : List (List ℕ)) (line : Line) → IsJudged (names_rules fixed seen) line
names_judged fixed seen line =
    judged line (names_rules fixed seen) (
      is_names_line fixed line,
      λ _. (
        is.decided_test (list_all is_named (drop 1 line)),
        λ _. (
          is.decided_test (are_new seen (drop 1 line)),
          λ _. (are_few (length seen + length (drop 1 line)) most_names, λ _. tt),
        ),
      ),
    )

is_formula_line : (line : Line) → Decided (IsTextBehind (codes "formula") line)
is_formula_line [] = inr (λ (w, ws, same). cc)
is_formula_line (x ∷ []) = inr (λ (w, ws, same). cc)
is_formula_line (x ∷ w ∷ ws) =
    is.decided_same (λ (same : x ≡ codes "formula"). (w, ws, ap (λ v. v ∷ w ∷ ws) same))
    (λ (v, vs, same). ap (λ l. get_or l 0 []) same) (is.decided_bytes x (codes "formula"))

has_formula : (text : List ℕ) → Decided ((f : Formula) × IsParsedAs Ltl text f)
has_formula text = go ((one_answer Ltl).some text)
  where
    go : ((f : Formula) × IsParsedAs Ltl text f) ⊎ ((e : ParseRefusal) × (e ≢ parser.NoMemory) × IsRefusedBy Ltl text e)
        → Decided ((f : Formula) × IsParsedAs Ltl text f)
    go (inl formula) = inl formula
    go (inr (e, some, refused)) = inr (λ (f, parsed). some ((one_answer Ltl).exclusive text f e parsed refused))

-- the one formula that the text stands for has these names alone, or it hasn't
is_known : (names : List (List ℕ)) (text : List ℕ) → (f : Formula) × IsParsedAs Ltl text f
    → Decided ((g : Formula) → IsParsedAs Ltl text g → IsTrue (knows names g))
is_known names text (f, parsed) =
    is.decided_same
    (λ (known : IsTrue (knows names f)) g again.
    subst (λ h. IsTrue (knows names h)) ((one_answer Ltl).parsed text f g parsed again) known)
    (λ all. all f parsed)
    (is.decided_test (knows names f))

pub judges : Judges task
judges AtInputs line = names_judged (codes "inputs") [] line
judges (AtOutputs inputs) line = names_judged (codes "outputs") inputs line
judges (AtFormula names) line =
    judged line (rules (AtFormula names))
    (is_formula_line line, λ _. (has_formula (formula_bytes line), λ parsed. (is_known names (formula_bytes line) parsed, λ _. tt)))
judges AtNothing line = judged line (rules AtNothing) (decided_line line [], λ _. tt)
