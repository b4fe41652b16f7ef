-- What stands before the body of a document, as it is read.
--
--   other_title, no_answer        == another line than the title; one that tells no answer
--   head_runs                     == the title and the answer lead to the lines of the task
--   behind_title                  == where the answer is refused, the document is
--   IsBehind n at rest            == the rest stands behind n lines, or behind all, where there are fewer
--   behind_next                   == one line more
--   lines_back                    == lines that are cut out of a text are those of their text
--   task_lines_are                == the text before a rest has the lines before it
--   bad_within                    == the first bad line is one of the lines, or the one behind them
--   task_bad_within, task_refused == where the task is refused, its first bad line is one of these, and that of the document
use Rattle.std.proofs.Common.{◌≡◌, ◌≢◌, ℕ, suc, ◌+◌, ◌-◌, ◌≤◌, List, [], ◌∷◌, ◌++◌, length, take, drop, codes, inl, inr, refl, sym, ap, subst, ◌∙◌, append_assoc, length-append, arith}
use Rattle.std.specs.List.{AllByRecursion}
use Rattle.std.proofs.lemmas.List.{append-nil}
use Rattle.ml_lists.proofs.AllOf.{all_parts}
use Rattle.ml_base.specs.declared.doc_fault.DocFault.{DocFault}
use Rattle.ml_base.specs.declared.doc_refusal.DocRefusal.{DocRefusal}
use Rattle.ml_base.specs.declared.doc_refusal.DocRefusal.TheVariants as refused
use Rattle.ml_lines.specs.Lines.{Line, line_text, text_of}
use Rattle.ml_lines.specs.Reading.{left_of, lines_of, words_of}
use Rattle.ml_lines.proofs.LineFronts.{line_front}
use Rattle.ml_lines.proofs.WrittenLines.{text_read}
use Rattle.ml_lists.specs.Documents.{Format, IsFirstBad}
use Rattle.ml_task.specs.TaskText as tasks
use Rattle.ml_task.specs.TaskText.{IsTaskFault, last_line, task, task_lines}
use Rattle.ml_realize_text.specs.RealizeRules.{AtAnswer, AtFormula, AtInputs, AtOutputs, AtTitle, Signals, realize}
use Rattle.ml_realize_text.specs.RealizeText.{title_line, told_line}
use Rattle.ml_realize_text.specs.declared.realizability.Realizability.{Realizability}
use Rattle.ml_realize_text.specs.declared.realizability.Realizability.TheVariants.{Realizable, Undecided, Unrealizable}
use Rattle.ml_realize_text.specs.declared.head.BodyOf.{BodyOf}
use Rattle.ml_realize_text.specs.declared.head.BodyOf.TheVariants.{AMachine, AnEnvironment}
use Rattle.ml_realize_text.specs.declared.line_rule.LineRule.TheVariants.{OfHead}
use Rattle.ml_realize_text.specs.declared.rest.Rest.{Rest}
use Rattle.ml_realize_text.specs.private.Reads.{AreFirst, Breaks, Goes, IsBehindLine, IsBehindTask, TellsFault, answer_of}
use Rattle.ml_realize_text.proofs.CutLines.{IsCut, bytes_of, cut_lines}
use Rattle.ml_realize_text.proofs.Documents.{apart, told_back}
use Rattle.ml_realize_text.proofs.Going.{goes_on, told_behind}
use Rattle.ml_lists.specs.Readings.{Runs}
use Rattle.ml_realize_text.proofs.SetReads.{text_is}

-- ---- the title and the answer

pub other_title : (line : List ℕ) → line ≢ codes "mlsolver realize 1" → Breaks AtTitle (words_of line) OfHead
other_title line other left = inl (refl, λ same. other (text_is line (codes "mlsolver realize 1") same))

pub no_answer : (line : List ℕ)
    → line ≢ codes "answer realizable"
    → line ≢ codes "answer unrealizable"
    → line ≢ codes "answer undecided"
    → Breaks AtAnswer (words_of line) OfHead
no_answer line x y z left = inl (refl, λ (a, is). one a is)
  where
    one : (a : Realizability) → words_of line ≡ told_line a → ⊥
    one Realizable is = x (text_is line (codes "answer realizable") is)
    one Unrealizable is = y (text_is line (codes "answer unrealizable") is)
    one Undecided is = z (text_is line (codes "answer undecided") is)

pub decided : (body : BodyOf) → ¬ (told_line (answer_of body) ≡ told_line Undecided)
decided AMachine same = let e = apart Realizable same in cc
decided AnEnvironment same = let e = apart Unrealizable same in cc

pub head_runs : (body : BodyOf) (left : List ℕ)
    → Runs (realize left) AtTitle (title_line ∷ told_line (answer_of body) ∷ []) (AtInputs (answer_of body))
head_runs body left = (
  (refl, tt),
  (((answer_of body, refl), (decided body, tt)), ap AtInputs (told_back (answer_of body) (decided body))),
)

pub behind_title : (at rest : Rest) (e : DocRefusal)
    → Goes at (title_line ∷ []) rest
    → TellsFault AtAnswer rest e
    → TellsFault AtTitle at e
behind_title at rest e goes tells =
    told_behind AtTitle AtAnswer at rest (title_line ∷ []) e goes (λ left. ((refl, tt), refl)) tells

-- ---- the lines of the task are cut off

abbrev pub IsBehind : ℕ → Rest → Rest → Type 0
IsBehind n at rest = (lines : List Line) × Goes at lines rest × AreFirst n lines (lines_of rest.text.now)

behind_more : (n : ℕ) (at mid rest : Rest) (line : Line)
    → IsBehind n at mid
    → Goes mid (line ∷ []) rest
    → IsBehind (n + 1) at rest
behind_more n at mid rest line (lines, goes, inl long) next =
    (lines ++ line ∷ [], goes_on goes next, inl (length-append lines (line ∷ []) ∙ ap (λ k. k + 1) long))
behind_more n at mid rest line (lines, goes, inr (few, none)) next =
    let apart = sym next.lines_are ∙ none in absurd (cc)

behind_none : (n : ℕ) (at rest : Rest)
    → IsBehind n at rest
    → lines_of rest.text.now ≡ []
    → IsBehind (n + 1) at rest
behind_none n at rest (lines, goes, inl long) none = (lines, goes, inr (omega (arith, long), none))
behind_none n at rest (lines, goes, inr (few, also)) none = (lines, goes, inr (omega (arith, few), none))

pub behind_next : (n : ℕ) (at mid rest : Rest)
    → IsBehind n at mid
    → IsBehindLine mid rest
    → IsBehind (n + 1) at rest
behind_next n at mid rest behind (inl (line, goes)) = behind_more n at mid rest line behind goes
behind_next n at mid rest behind (inr (none, same)) =
    subst (IsBehind (n + 1) at) (sym same) (behind_none n at mid behind none)

pub lines_back : (ls : List Line) → AllByRecursion IsCut ls → (lines_of (text_of ls) ≡ ls) × (left_of (text_of ls) ≡ [])
lines_back [] all = (refl, refl)
lines_back (l ∷ ls) all =
    let text = append_assoc (bytes_of l) (10 ∷ []) (text_of ls) in
    let first = line_front (bytes_of l) (text_of ls) all.0.in_line in
    let others = lines_back ls all.1 in (
      ap lines_of text ∙ first.0 ∙ (λ i. all.0.words i ∷ others.0 i),
      ap left_of text ∙ first.1 ∙ others.1,
    )

text_append : (ls ks : List Line) → text_of (ls ++ ks) ≡ text_of ls ++ text_of ks
text_append [] ks = refl
text_append (l ∷ ls) ks =
    ap (λ more. line_text l ++ more) (text_append ls ks) ∙ sym (append_assoc (line_text l) (text_of ls) (text_of ks))

take_front : (xs ys : List ℕ) (n : ℕ) → n ≡ length xs → take n (xs ++ ys) ≡ xs
take_front xs ys n is = ap (λ k. take k (xs ++ ys)) is ∙ front xs
  where
    front : (zs : List ℕ) → take (length zs) (zs ++ ys) ≡ zs
    front [] = refl
    front (z ∷ zs) = ap (λ more. z ∷ more) (front zs)

module _ (at rest : Rest) (lines : List Line) (goes : Goes at lines rest) where
  whole : at.text.now ≡ text_of lines ++ rest.text.now
  whole =
      sym (text_read at.text.now)
      ∙ (λ i. text_of (goes.lines_are i) ++ goes.left_is i)
      ∙ ap (λ front. front ++ left_of rest.text.now) (text_append lines (lines_of rest.text.now))
      ∙ append_assoc (text_of lines) (text_of (lines_of rest.text.now)) (left_of rest.text.now)
      ∙ ap (λ behind. text_of lines ++ behind) (text_read rest.text.now)

  cut : AllByRecursion IsCut lines
  cut = (all_parts IsCut lines (lines_of rest.text.now) (subst (AllByRecursion IsCut) goes.lines_are (cut_lines at.text.now))).0

  pub task_lines_are : (text : List ℕ)
      → text ≡ take (length at.text.now - length rest.text.now) at.text.now
      → task_lines text ≡ lines
  task_lines_are text is =
      let long : length at.text.now - length rest.text.now ≡ length (text_of lines) =
      omega (arith, ap length whole, length-append (text_of lines) rest.text.now) in
      let front : text ≡ text_of lines =
      is ∙ ap (take (length at.text.now - length rest.text.now)) whole
      ∙ take_front (text_of lines) rest.text.now (length at.text.now - length rest.text.now) long in
      let back = lines_back lines cut in
      ap task_lines front ∙ (λ i. back.0 i ++ last_line (back.1 i)) ∙ append-nil lines

-- ---- the task is refused

shorter : (n : ℕ) (l : Line) (ls more : List Line) → AreFirst (suc n) (l ∷ ls) more → AreFirst n ls more
shorter n l ls more (inl long) = inl (omega (arith, long))
shorter n l ls more (inr (few, none)) = inr (omega (arith, few), none)

none_behind : (n : ℕ) (more : List Line) → AreFirst (suc n) [] more → more ≡ []
none_behind n more (inl long) = absurd (omega (arith, long))
none_behind n more (inr (few, none)) = none

module _ (left : List ℕ) (bad out r : ℕ) where
  formula_bad : (g : Signals) (j k : ℕ) (ls more : List Line)
      → AreFirst 1 ls more
      → bad + k ≡ out + j
      → IsFirstBad task j (tasks.AtFormula (g.inputs ++ g.outputs)) ls bad r
      → IsFirstBad (realize left) k (AtFormula g) (ls ++ more) out r
  formula_bad g j k [] more first moved (is, broken) =
      subst (λ ms. IsFirstBad (realize left) k (AtFormula g) ms out r) (sym (none_behind 0 more first)) (omega (arith, moved, is), broken)
  formula_bad g j k (l ∷ []) more first moved (inl (is, broken)) = inl (omega (arith, moved, is), broken)
  formula_bad g j k (l ∷ []) more first moved (inr (good, (is, inl (number, none)))) = absurd (none refl)
  formula_bad g j k (l ∷ []) more first moved (inr (good, (is, inr (kept, none)))) = absurd none
  formula_bad g j k (l ∷ m ∷ ls) more (inl long) moved found = absurd (omega (arith, long))
  formula_bad g j k (l ∷ m ∷ ls) more (inr (few, none)) moved found = absurd (omega (arith, few))

  outputs_bad : (a : Realizability) (inputs : List (List ℕ)) (j k : ℕ) (ls more : List Line)
      → AreFirst 2 ls more
      → bad + k ≡ out + j
      → IsFirstBad task j (tasks.AtOutputs inputs) ls bad r
      → IsFirstBad (realize left) k (AtOutputs a inputs) (ls ++ more) out r
  outputs_bad a inputs j k [] more first moved (is, broken) =
      subst (λ ms. IsFirstBad (realize left) k (AtOutputs a inputs) ms out r) (sym (none_behind 1 more first)) (omega (arith, moved, is), broken)
  outputs_bad a inputs j k (l ∷ ls) more first moved (inl (is, broken)) = inl (omega (arith, moved, is), broken)
  outputs_bad a inputs j k (l ∷ ls) more first moved (inr (good, found)) =
      inr (
        good,
        formula_bad (record { answer = a; inputs = inputs; outputs = drop 1 l }) (j + 1) (k + 1) ls more (shorter 1 l ls more first)
            (omega (arith, moved)) found,
      )

  inputs_bad : (a : Realizability) (j k : ℕ) (ls more : List Line)
      → AreFirst 3 ls more
      → bad + k ≡ out + j
      → IsFirstBad task j tasks.AtInputs ls bad r
      → IsFirstBad (realize left) k (AtInputs a) (ls ++ more) out r
  inputs_bad a j k [] more first moved (is, broken) =
      subst (λ ms. IsFirstBad (realize left) k (AtInputs a) ms out r) (sym (none_behind 2 more first)) (omega (arith, moved, is), broken)
  inputs_bad a j k (l ∷ ls) more first moved (inl (is, broken)) = inl (omega (arith, moved, is), broken)
  inputs_bad a j k (l ∷ ls) more first moved (inr (good, found)) =
      inr (good, outputs_bad a (drop 1 l) (j + 1) (k + 1) ls more (shorter 2 l ls more first) (omega (arith, moved)) found)

-- the first bad line is one of the lines, or the one behind them
pub bad_within : {L P : Type 0} (F : Format L P) (k : ℕ) (p : P) (lines : List L) (bad r : ℕ)
    → IsFirstBad F k p lines bad r
    → (k ≤ bad) × (bad ≤ k + length lines)
bad_within F k p [] bad r (is, broken) = (omega (arith, is), omega (arith, is))
bad_within F k p (l ∷ ls) bad r (inl (is, broken)) = (omega (arith, is), omega (arith, is))
bad_within F k p (l ∷ ls) bad r (inr (good, found)) =
    let within = bad_within F (k + 1) (F.after p l) ls bad r found in
    (omega (arith, within.0), omega (arith, within.1))

module _ (at rest : Rest) (text : List ℕ) (fault : DocFault) (behind : IsBehindTask at rest)
    (are : (lines : List Line) → Goes at lines rest → task_lines text ≡ lines) (found : IsTaskFault text fault) where
  pub task_bad_within : (1 ≤ fault.line) × (fault.line ≤ 1 + length at.text.now)
  task_bad_within =
      let (lines, goes, first) = behind in
      let within = bad_within task 1 tasks.AtInputs (task_lines text) fault.line fault.rule found in
      (within.0, omega (arith, within.1, ap length (are lines goes), goes.shorter))

  pub task_refused : (a : Realizability) → TellsFault (AtInputs a) at (refused.Fault (record { line = at.line + (fault.line - 1); rule = fault.rule }))
  task_refused a =
      let (lines, goes, first) = behind in
      let within = bad_within task 1 tasks.AtInputs (task_lines text) fault.line fault.rule found in
      let here = subst (λ ls. IsFirstBad task 1 tasks.AtInputs ls fault.line fault.rule) (are lines goes) found in
      subst (λ ls. IsFirstBad (realize (left_of at.text.now)) at.line (AtInputs a) ls (at.line + (fault.line - 1)) fault.rule) (sym goes.lines_are)
      (inputs_bad (left_of at.text.now) fault.line (at.line + (fault.line - 1)) fault.rule a 1 at.line lines (lines_of rest.text.now) first
      (omega (arith, within.0)) here)
