-- A text is readable as a task exactly where it is one of a task.
--
--   new_append       == names are new one after the other exactly where the later ones are new behind the earlier ones
--   good_task        == good lines of names and of a formula make a task
--   task_readable    == the text of a task is readable
--   readable_task    == what is readable is the text of a task
use Rattle.std.proofs.Common.{◌≡◌, ℕ, ◌+◌, ◌≤◌, Bool, true, false, not, ◌&&◌, List, [], ◌∷◌, ◌++◌, length, map, drop, codes, refl, sym, ap, subst, ◌∙◌, append_assoc, arith, IsTrue}
use Rattle.std.specs.List.{AllByRecursion, list_all, list_any, join_with_byte, slice_split}
use Rattle.std.specs.Str.{bytes_eq}
use Rattle.std.proofs.lemmas.Bool.{and_from, and_parts}
use Rattle.std.proofs.lemmas.List.{append-nil, length-append}
use Rattle.std.proofs.lemmas.List.Folds.{list_all-append}
use Rattle.std.proofs.lemmas.List.Splits.{join_with_byte-slice_split, slice_split_at}
use Rattle.ml_ctl.specs.Formula.{Formula}
use Rattle.ml_ctl.specs.Parsing.{IsParsedAs}
use Rattle.ml_ctl.specs.declared.language.Language.TheVariants.{Ltl}
use Rattle.ml_ctl.proofs.OneAnswer.{one_answer}
use Rattle.ml_ctl.proofs.Parsed.{parsed_well}
use Rattle.ml_lines.specs.Lines.{Word, Line}
use Rattle.ml_lines.specs.Reading.{fronts, is_blank, is_line_end, is_word, left_of, words_of}
use Rattle.ml_lines.proofs.Cuts.{some_part}
use Rattle.ml_lines.proofs.LineFronts.{none_passes}
use Rattle.ml_lists.specs.Documents.{KeepsAll}
use Rattle.ml_lists.specs.Readings.{IsReadable}
use Rattle.ml_task.specs.Task.{Task, are_new, is_named, knows, most_names, names_of, task_of}
use Rattle.ml_task.specs.TaskText.{IsTaskText, AtInputs, AtFormula, formula_bytes, last_line, names_rules, rules, task, task_lines}
use Rattle.ml_task.proofs.FormulaRead.{given_bytes, is_formula_line}

-- ---- names

pub new_append : (seen xs ys : List (List ℕ)) → are_new seen (xs ++ ys) ≡ (are_new seen xs && are_new (seen ++ xs) ys)
new_append seen [] ys = ap (λ s. are_new s ys) (sym (append-nil seen))
new_append seen (x ∷ xs) ys =
    ap (λ b. not (list_any (bytes_eq x) seen) && b)
    (new_append (seen ++ x ∷ []) xs ys
    ∙ ap (λ s. are_new (seen ++ x ∷ []) xs && are_new s ys) (append_assoc seen (x ∷ []) xs))
    ∙ and_assoc (not (list_any (bytes_eq x) seen)) (are_new (seen ++ x ∷ []) xs) (are_new (seen ++ (x ∷ xs)) ys)
  where
    and_assoc : (a b c : Bool) → (a && (b && c)) ≡ ((a && b) && c)
    and_assoc true b c = refl
    and_assoc false b c = refl

-- a name has a byte
pub some_byte : (w : Word) → is_named w ≡ true → is_word w ≡ true
some_byte [] is = absurd (cc)
some_byte (b ∷ bs) is = refl

pub are_words : (ws : Line) → list_all is_named ws ≡ true → list_all is_word ws ≡ true
are_words [] all = refl
are_words (w ∷ ws) all =
    let parts = and_parts (is_named w) (list_all is_named ws) all in
    and_from (is_word w) (list_all is_word ws) (some_byte w parts.0) (are_words ws parts.1)

names_good : (fixed : Word) (seen names : List (List ℕ))
    → is_word fixed ≡ true
    → list_all is_named names ≡ true
    → are_new seen names ≡ true
    → length seen + length names ≤ most_names
    → KeepsAll (names_rules fixed seen) (fixed ∷ names)
names_good fixed seen names some named new few =
    ((and_from (is_word fixed) (list_all is_word names) some (are_words names named), refl), (named, (new, (few, tt))))

-- ---- the text of a task is readable

module _ (text : List ℕ) (t : Task) (is : IsTaskText text t) where
  named_parts : (list_all is_named t.inputs ≡ true) × (list_all is_named t.outputs ≡ true)
  named_parts =
      and_parts (list_all is_named t.inputs) (list_all is_named t.outputs)
      (sym (list_all-append is_named t.inputs t.outputs) ∙ is.is_task.are_named)

  new_parts : (are_new [] t.inputs ≡ true) × (are_new t.inputs t.outputs ≡ true)
  new_parts =
      and_parts (are_new [] t.inputs) (are_new t.inputs t.outputs)
      (sym (new_append [] t.inputs t.outputs) ∙ is.is_task.each_once)

  few : length t.inputs + length t.outputs ≤ most_names
  few = subst (λ n. n ≤ most_names) (length-append t.inputs t.outputs) is.is_task.few

  formula_good : KeepsAll (rules (AtFormula (names_of t))) (codes "formula" ∷ words_of is.formula_text)
  formula_good =
      let same = given_bytes is.formula_text in (
        is_formula_line is.formula_text,
        (
          (t.formula, subst (λ given. IsParsedAs Ltl given t.formula) (sym same) is.is_parsed),
          (
            λ f parsed.
                subst (λ g. IsTrue (knows (names_of t) g))
                ((one_answer Ltl).parsed is.formula_text t.formula f is.is_parsed (subst (λ given. IsParsedAs Ltl given f) same parsed))
                is.is_task.is_known,
            tt,
          ),
        ),
      )

  pub task_readable : IsReadable task AtInputs (task_lines text)
  task_readable =
      subst (IsReadable task AtInputs) (sym is.lines_are) (
        names_good (codes "inputs") [] t.inputs refl named_parts.0 new_parts.0 (omega (arith, few)),
        (
          names_good (codes "outputs") t.inputs t.outputs refl named_parts.1 new_parts.1 few,
          (formula_good, (refl, tt)),
        ),
      )

-- ---- what is readable is the text of a task

pub good_task : (text given : List ℕ) (inputs outputs : List (List ℕ)) (f : Formula)
    → task_lines text ≡ (codes "inputs" ∷ inputs) ∷ (codes "outputs" ∷ outputs) ∷ (codes "formula" ∷ words_of given) ∷ []
    → KeepsAll (names_rules (codes "inputs") []) (codes "inputs" ∷ inputs)
    → KeepsAll (names_rules (codes "outputs") inputs) (codes "outputs" ∷ outputs)
    → IsParsedAs Ltl given f
    → knows (inputs ++ outputs) f ≡ true
    → IsTaskText text (task_of inputs outputs f)
good_task text given inputs outputs f lines_are ins outs parsed known = record {
  formula_text = given;
  lines_are = lines_are;
  is_parsed = parsed;
  is_task = record {
    are_named =
        list_all-append is_named inputs outputs
        ∙ and_from (list_all is_named inputs) (list_all is_named outputs) ins.1.0 outs.1.0;
    each_once =
        new_append [] inputs outputs ∙ and_from (are_new [] inputs) (are_new inputs outputs) ins.1.1.0 outs.1.1.0;
    few = subst (λ n. n ≤ most_names) (sym (length-append inputs outputs)) outs.1.1.1.0;
    is_linear = (parsed_well Ltl given f parsed).is_of_logic;
    is_known = known;
  };
}

-- each line is cut out of a text
abbrev IsCut : Line → Type 0
IsCut line = (part : List ℕ) × (line ≡ words_of part)

cut_parts : (parts : List (List ℕ)) (more : List Line)
    → AllByRecursion IsCut more
    → AllByRecursion IsCut (map words_of parts ++ more)
cut_parts [] more all = all
cut_parts (part ∷ parts) more all = ((part, refl), cut_parts parts more all)

cut_last : (left : List ℕ) → AllByRecursion IsCut (last_line left)
cut_last [] = tt
cut_last (b ∷ bs) = ((b ∷ bs, refl), tt)

cut_lines : (text : List ℕ) → AllByRecursion IsCut (task_lines text)
cut_lines text = cut_parts (fronts (slice_split is_line_end text)) (last_line (left_of text)) (cut_last (left_of text))

-- what stands behind the first word of the line of a formula
cut_words : (w : Word) (ws : Line)
    → IsCut (codes "formula" ∷ w ∷ ws)
    → words_of (join_with_byte 32 (w ∷ ws)) ≡ w ∷ ws
cut_words w ws (part, is) =
    let rest = join_with_byte 32 (w ∷ ws) in
    ap (drop 1)
    (sym (slice_split_at is_blank (codes "formula") 32 rest (none_passes is_blank (codes "formula") refl) refl)
    ∙ ap words_of (ap (join_with_byte 32) is ∙ join_with_byte-slice_split 32 part)
    ∙ sym is)

module _ (text : List ℕ) (l1 l2 l3 : Line) (same : task_lines text ≡ l1 ∷ l2 ∷ l3 ∷ []) (cut : IsCut l3)
    (ins : KeepsAll (names_rules (codes "inputs") []) l1)
    (outs : KeepsAll (names_rules (codes "outputs") (drop 1 l1)) l2) where
  task_of_lines : (w : Word) (ws : Line)
      → l3 ≡ codes "formula" ∷ w ∷ ws
      → (f : Formula)
      → IsParsedAs Ltl (formula_bytes l3) f
      → knows (drop 1 l1 ++ drop 1 l2) f ≡ true
      → (t : Task) × IsTaskText text t
  task_of_lines w ws is f parsed known =
      let given = join_with_byte 32 (w ∷ ws) in
      let words = cut_words w ws (subst IsCut is cut) in (
        task_of (drop 1 l1) (drop 1 l2) f,
        good_task text given (drop 1 l1) (drop 1 l2) f
            (same
            ∙ (λ i. ins.0.1 i ∷ outs.0.1 i ∷ is i ∷ [])
            ∙ ap (λ v. (codes "inputs" ∷ drop 1 l1) ∷ (codes "outputs" ∷ drop 1 l2) ∷ (codes "formula" ∷ v) ∷ []) (sym words))
            (subst (KeepsAll (names_rules (codes "inputs") [])) ins.0.1 ins)
            (subst (KeepsAll (names_rules (codes "outputs") (drop 1 l1))) outs.0.1 outs)
            (subst (λ l. IsParsedAs Ltl (formula_bytes l) f) is parsed)
            known,
      )

  pub three_lines : KeepsAll (rules (AtFormula (drop 1 l1 ++ drop 1 l2))) l3 → (t : Task) × IsTaskText text t
  three_lines ((w, ws, is), ((f, parsed), (known, end))) = task_of_lines w ws is f parsed (known f parsed)

pub readable_task : (text : List ℕ) → IsReadable task AtInputs (task_lines text) → (t : Task) × IsTaskText text t
readable_task text readable = go (task_lines text) refl (cut_lines text) readable
  where
    go : (lines : List Line)
        → task_lines text ≡ lines
        → AllByRecursion IsCut lines
        → IsReadable task AtInputs lines
        → (t : Task) × IsTaskText text t
    go [] same cut r = let apart : [] ≡ codes "inputs" ∷ [] = r.0.1 in absurd (cc)
    go (l1 ∷ []) same cut r = let apart : [] ≡ codes "outputs" ∷ [] = r.1.0.1 in absurd (cc)
    go (l1 ∷ l2 ∷ []) same cut r =
        let kind = r.1.1.0 in let apart : [] ≡ codes "formula" ∷ kind.0 ∷ kind.1 = kind.2 in absurd (cc)
    go (l1 ∷ l2 ∷ l3 ∷ []) same cut r = three_lines text l1 l2 l3 same cut.1.1.0 r.0 r.1.0 r.1.1.0
    go (l1 ∷ l2 ∷ l3 ∷ l4 ∷ more) same cut r =
        let part = cut.1.1.1.0.0 in
        let some = some_part is_blank part in
        let none : l4 ≡ [] = r.1.1.1.0.0 in
        absurd (omega (arith, some, ap length (sym none ∙ cut.1.1.1.0.1)))
