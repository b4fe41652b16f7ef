-- What is written of a task and an outcome is read as them.
--
--   are_plain            == the lines of an outcome that fits are made of such words
--   lines_of_all         == the lines of written ones, whose bytes have no LF
--   written_reads_back   == so it is
use Rattle.std.proofs.Common.{◌≡◌, ℕ, ◌+◌, ◌<◌, ◌≤◌, ◌^◌, ◌/◌, ◌%◌, ◌==◌, Bool, true, false, nat_le}
use Rattle.std.proofs.Common.{List, [], ◌∷◌, ◌++◌, length, map, get_or, codes, refl, sym, ap, subst, ◌∙◌, append_assoc, if◌then◌else◌, arith}
use Rattle.std.specs.List.{AllByRecursion, enumerate_from, flat_map, list_all}
use Rattle.std.proofs.lemmas.Bool.{and_parts}
use Rattle.std.proofs.lemmas.Grind.{flat_map-append}
use Rattle.std.proofs.lemmas.List.Folds.{list_all-append}
use Rattle.ml_base.specs.Name.{longest_name}
use Rattle.ml_ctl.specs.Canonical.{canonical_text}
use Rattle.ml_ctl.specs.Spelling.{is_proposition}
use Rattle.ml_ctl.specs.declared.language.Language.TheVariants.{Ltl}
use Rattle.ml_ctl.specs.Signs.{own}
use Rattle.ml_ctl.proofs.CanonicalLines.{canonical_in_line}
use Rattle.ml_ctl.proofs.CanonicalParsed.{canonical_parsed}
use Rattle.ml_lines.specs.Lines.{Line, line_text, number, text_of}
use Rattle.ml_lines.specs.Reading.{left_of, lines_of, words_of}
use Rattle.ml_lines.proofs.LineFronts.{IsInLine, line_front}
use Rattle.ml_lines.proofs.PlainWords.{ArePlainWords, Plain, number_plain, numbered_plain, plain_append, plain_line}
use Rattle.ml_lines.proofs.Unique.{ArePlain, IsPlain}
use Rattle.ml_lists.proofs.AllOf.{all_both}
use Rattle.ml_text.proofs.WithoutByte.{proposition_without}
use Rattle.ml_lines.proofs.WrittenLines.{lines_read}
use Rattle.ml_synthesis.specs.declared.machines.MachineStep.{MachineStep}
use Rattle.ml_synthesis.specs.declared.outcome.Outcome.{Outcome}
use Rattle.ml_synthesis.specs.declared.outcome.Outcome.TheVariants as outcome
use Rattle.ml_task.specs.NameSets.{members}
use Rattle.ml_task.specs.Task.{IsTask, Task, is_named}
use Rattle.ml_realize_text.specs.Laws.{WrittenReadsBack}
use Rattle.ml_realize_text.specs.ReadText.{Fits, states_of}
use Rattle.ml_realize_text.specs.RealizeText.{answer_line, end_line, environment_lines, head_lines, machine_state_lines, or_dash}
use Rattle.ml_realize_text.specs.RealizeText.{outcome_answer, outcome_lines, play_line, set_words, state_line, step_line, title_line, told_line}
use Rattle.ml_realize_text.specs.declared.realizability.Realizability.{Realizability}
use Rattle.ml_realize_text.specs.declared.realizability.Realizability.TheVariants.{Realizable, Undecided, Unrealizable}
use Rattle.ml_realize_text.specs.private.Reads.{PlayFits, PlayRow, RowFits, StepFits}
use Rattle.ml_realize_text.proofs.CutLines.{IsCut, bytes_of, cut_lines}
use Rattle.ml_realize_text.proofs.LastWords.{words_around}
use Rattle.ml_realize_text.proofs.Tables.{environment_rows, environment_turn, lines_from, machine_rows, nexts_of, play_rows, plays_of, row_at, row_count, rows_back, table_of}

-- ---- words

plain_names : (ns : Line) → list_all is_named ns ≡ true → ArePlainWords ns
plain_names [] all = tt
plain_names (n ∷ ns) all =
    let parts = and_parts (is_named n) (list_all is_named ns) all in
    let named = (and_parts (is_proposition n) (nat_le (length n) longest_name) parts.0).0 in
    ((proposition_without 32 refl own n named, proposition_without 10 refl own n named), plain_names ns parts.1)

plain_members : (ns : Line) (s : ℕ) → ArePlainWords ns → ArePlainWords (members ns s)
plain_members [] s all = tt
plain_members (n ∷ ns) s all = go (s % 2 == 1) (plain_members ns (s / 2) all.1)
  where
    go : (b : Bool)
        → ArePlainWords (members ns (s / 2))
        → ArePlainWords (if b then n ∷ members ns (s / 2) else members ns (s / 2))
    go true rest = (all.0, rest)
    go false rest = rest

plain_dash : (ws : Line) → ArePlainWords ws → ArePlainWords (or_dash ws)
plain_dash [] all = ((refl, refl), tt)
plain_dash (w ∷ ws) all = all

plain_set : (ns : Line) (s : ℕ) → ArePlainWords ns → ArePlainWords (set_words ns s)
plain_set ns s all = plain_dash (members ns s) (plain_members ns s all)

-- ---- lines

module _ (ins outs : Line) (n : ℕ) (few : n < 2 ^ 32) (plain_ins : ArePlainWords ins) (plain_outs : ArePlainWords outs) where
  plain_goto : (x : ℕ) → x < n → ArePlainWords (codes "goto" ∷ number x ∷ [])
  plain_goto x below = ((refl, refl), (number_plain x (omega (arith, below, few)), tt))

  plain_steps : (s : ℕ) (xs : List MachineStep)
      → AllByRecursion (StepFits (length outs) n) xs
      → ArePlain (map (step_line ins outs) (enumerate_from s xs))
  plain_steps s [] all = tt
  plain_steps s (x ∷ xs) all = (
    plain_line (codes "on") (set_words ins s ++ (codes "give" ∷ (set_words outs x.give ++ (codes "goto" ∷ number x.next ∷ [])))) (
      (refl, refl),
      all_both Plain (set_words ins s) (codes "give" ∷ (set_words outs x.give ++ (codes "goto" ∷ number x.next ∷ [])))
          (plain_set ins s plain_ins) (
            (refl, refl),
            all_both Plain (set_words outs x.give) (codes "goto" ∷ number x.next ∷ []) (plain_set outs x.give plain_outs)
                (plain_goto x.next all.0.leads),
          ),
    ),
    plain_steps (s + 1) xs all.1,
  )

  plain_replies : (s : ℕ) (xs : List ℕ)
      → AllByRecursion (λ x. x < n) xs
      → ArePlain (map (answer_line outs) (enumerate_from s xs))
  plain_replies s [] all = tt
  plain_replies s (x ∷ xs) all = (
    plain_line (codes "on") (set_words outs s ++ (codes "goto" ∷ number x ∷ []))
        ((refl, refl), all_both Plain (set_words outs s) (codes "goto" ∷ number x ∷ []) (plain_set outs s plain_outs) (plain_goto x all.0)),
    plain_replies (s + 1) xs all.1,
  )

  plain_rows : (i : ℕ) (rows : List (List MachineStep))
      → i + length rows ≤ n
      → AllByRecursion (RowFits (length ins) (length outs) n) rows
      → ArePlain (flat_map (machine_state_lines ins outs) (enumerate_from i rows))
  plain_rows i [] most all = tt
  plain_rows i (row ∷ rows) most all =
      plain_append (machine_state_lines ins outs (i, row)) (flat_map (machine_state_lines ins outs) (enumerate_from (i + 1) rows))
      (numbered_plain (codes "state") i (refl, refl) (omega (arith, most, few)), plain_steps 0 row all.0.fit)
      (plain_rows (i + 1) rows (omega (arith, most)) all.1)

  plain_plays : (next : List (List ℕ)) (i : ℕ) (rows : List PlayRow)
      → i + length rows ≤ n
      → AllByRecursion (PlayFits (length ins) (length outs) n) rows
      → ArePlain (lines_from ins outs next i rows)
  plain_plays next i [] most all = tt
  plain_plays next i (row ∷ rows) most all =
      plain_append (state_line i ∷ play_line ins row.0 ∷ map (answer_line outs) (enumerate_from 0 row.1))
      (lines_from ins outs next (i + 1) rows) (
        numbered_plain (codes "state") i (refl, refl) (omega (arith, most, few)),
        (
          plain_line (codes "play") (set_words ins row.0) ((refl, refl), plain_set ins row.0 plain_ins),
          plain_replies 0 row.1 all.0.lead,
        ),
      )
      (plain_plays next (i + 1) rows (omega (arith, most)) all.1)

plain_environment : (ins outs : Line) (rows : List PlayRow)
    → length rows < 2 ^ 32
    → ArePlainWords ins
    → ArePlainWords outs
    → AllByRecursion (PlayFits (length ins) (length outs) (length rows)) rows
    → ArePlain (environment_lines ins outs (table_of rows))
plain_environment ins outs rows few plain_ins plain_outs all =
    let turned =
    environment_turn ins outs (nexts_of rows) 0 rows (λ k below.
    let e : 0 + k ≡ k = omega arith in ap (λ j. get_or (nexts_of rows) j []) e ∙ (row_at rows k).1) in (
      numbered_plain (codes "states") (length (plays_of rows)) (refl, refl) (omega (arith, few, (row_count rows).0)),
      subst ArePlain (sym turned) (plain_plays ins outs (length rows) few plain_ins plain_outs (nexts_of rows) 0 rows (omega arith) all),
    )

module _ (t : Task) (is : IsTask t) where
  plain_signals : ArePlainWords t.inputs × ArePlainWords t.outputs
  plain_signals =
      let parts =
      and_parts (list_all is_named t.inputs) (list_all is_named t.outputs)
      (sym (list_all-append is_named t.inputs t.outputs) ∙ is.are_named) in
      (plain_names t.inputs parts.0, plain_names t.outputs parts.1)

  plain_outcome : (r : Outcome) → Fits t r → states_of r < 2 ^ 32 → ArePlain (outcome_lines t r)
  plain_outcome (outcome.Made m) fits few = (
    numbered_plain (codes "states") (length m) (refl, refl) (omega (arith, few)),
    plain_rows t.inputs t.outputs (length m) few plain_signals.0 plain_signals.1 0 m (omega arith)
        (machine_rows (length t.inputs) (length t.outputs) m fits),
  )
  plain_outcome (outcome.Defeated e) fits few =
      let rows = play_rows e.plays e.next in
      let back = rows_back e.plays e.next fits.a_row_each in
      let same : table_of rows ≡ e = λ i. record { plays = back.0 i; next = back.1 i } in
      let count = (row_count rows).0 in
      subst (λ x. ArePlain (environment_lines t.inputs t.outputs x)) same
      (plain_environment t.inputs t.outputs rows (omega (arith, few, count, ap length back.0)) plain_signals.0 plain_signals.1
      (environment_rows (length t.inputs) (length t.outputs) rows
      (subst (λ x. Fits t (outcome.Defeated x)) (sym same) fits)))

-- ---- texts

lines_of_all : (ls : List Line) (rest : List ℕ)
    → AllByRecursion (λ l. IsInLine (bytes_of l)) ls
    → (lines_of (text_of ls ++ rest) ≡ map (λ l. words_of (bytes_of l)) ls ++ lines_of rest)
    × (left_of (text_of ls ++ rest) ≡ left_of rest)
lines_of_all [] rest all = (refl, refl)
lines_of_all (l ∷ ls) rest all =
    let grouped : text_of (l ∷ ls) ++ rest ≡ bytes_of l ++ 10 ∷ (text_of ls ++ rest) =
    append_assoc (line_text l) (text_of ls) rest ∙ append_assoc (bytes_of l) (10 ∷ []) (text_of ls ++ rest) in
    let front = line_front (bytes_of l) (text_of ls ++ rest) all.0 in
    let others = lines_of_all ls rest all.1 in (
      ap lines_of grouped ∙ front.0 ∙ ap (λ more. words_of (bytes_of l) ∷ more) others.0,
      ap left_of grouped ∙ front.1 ∙ others.1,
    )

plain_told : (a : Realizability) → IsPlain (told_line a)
plain_told Realizable = plain_line (codes "answer") (codes "realizable" ∷ []) ((refl, refl), ((refl, refl), tt))
plain_told Unrealizable = plain_line (codes "answer") (codes "unrealizable" ∷ []) ((refl, refl), ((refl, refl), tt))
plain_told Undecided = plain_line (codes "answer") (codes "undecided" ∷ []) ((refl, refl), ((refl, refl), tt))

pub written_reads_back : WrittenReadsBack
written_reads_back t r is well fits few =
    let a = outcome_answer r in
    let signals = plain_signals t is in
    let first = title_line ∷ told_line a ∷ (codes "inputs" ∷ t.inputs) ∷ (codes "outputs" ∷ t.outputs) ∷ [] in
    let plain : ArePlain first = (
      plain_line (codes "mlsolver") (codes "realize" ∷ codes "1" ∷ []) ((refl, refl), ((refl, refl), ((refl, refl), tt))),
      (
        plain_told a,
        (
          plain_line (codes "inputs") t.inputs ((refl, refl), signals.0),
          (plain_line (codes "outputs") t.outputs ((refl, refl), signals.1), tt),
        ),
      ),
    ) in
    let cut : AllByRecursion IsCut first = subst (AllByRecursion IsCut) (lines_read first plain).0 (cut_lines (text_of first)) in
    let formula = codes "formula" ∷ canonical_text t.formula ∷ [] in
    let behind = outcome_lines t r ++ end_line ∷ [] in
    let body =
    lines_read behind
    (plain_append (outcome_lines t r) (end_line ∷ []) (plain_outcome t is r fits few) (plain_line (codes "end") [] ((refl, refl), tt), tt)) in
    let rest = text_of (outcome_lines t r) ++ text_of (end_line ∷ []) in
    let rest_is : rest ≡ text_of behind = sym (flat_map-append line_text (outcome_lines t r) (end_line ∷ [])) in
    let head =
    lines_of_all (head_lines a t) rest
    (cut.0.in_line, (cut.1.0.in_line, (cut.1.1.0.in_line, (cut.1.1.1.0.in_line, (canonical_in_line t.formula well.names_are_spelled, tt))))) in
    let told : words_of (bytes_of formula) ≡ codes "formula" ∷ words_of (canonical_text t.formula) =
    words_around (codes "formula") (canonical_text t.formula) in
    record {
      formula_text = canonical_text t.formula;
      lines_are =
          head.0
          ∙ (λ i. cut.0.words i ∷ cut.1.0.words i ∷ cut.1.1.0.words i ∷ cut.1.1.1.0.words i ∷ told i ∷ lines_of (rest_is i))
          ∙ ap
          (λ ls. title_line ∷ told_line a ∷ (codes "inputs" ∷ t.inputs) ∷ (codes "outputs" ∷ t.outputs)
          ∷ (codes "formula" ∷ words_of (canonical_text t.formula)) ∷ ls)
          body.0;
      none_left = head.1 ∙ ap left_of rest_is ∙ body.1;
      is_parsed = canonical_parsed Ltl t.formula well;
      is_task = is;
      fits = fits;
      few = few;
    }
