-- The lines of a machine or an environment are those of no other one.
--
--   Names ns            == each name comes once, and none is `-`
--   one_machine, one_environment == so it is
use Rattle.std.proofs.Common.{◌≡◌, ℕ, ◌+◌, ◌<◌, ◌^◌, false, List, [], ◌∷◌, ◌++◌, length, map, drop, get_or, codes, refl, sym, ap, subst, ◌∙◌, append_assoc, arith}
use Rattle.std.specs.List.{AllByRecursion, enumerate_from, flat_map}
use Rattle.std.proofs.lemmas.List.{append_cancel_left}
use Rattle.ml_lines.specs.Lines.{Line, Word, number}
use Rattle.ml_lines.specs.Reading.{value, word}
use Rattle.ml_synthesis.specs.Machines.{EnvironmentFits, EnvironmentTable, MachineFits, MachineTable}
use Rattle.ml_synthesis.specs.declared.machines.MachineStep.{MachineStep}
use Rattle.ml_realize_text.specs.RealizeText.{answer_line, end_line, environment_lines, environment_state_lines, machine_lines, machine_state_lines, play_line, set_words, state_line, step_line}
use Rattle.ml_realize_text.specs.private.Reads.{PlayFits, PlayRow, RowFits, StepFits}
use Rattle.ml_realize_text.proofs.BodyLines.{value_back}
use Rattle.ml_realize_text.proofs.LineWords.{last_two}
use Rattle.ml_realize_text.proofs.OneSet.{Once, is_in, one_set}
use Rattle.ml_realize_text.proofs.Tables.{environment_rows, environment_turn, lines_from, machine_rows, nexts_of, play_rows, plays_of, row_at, row_count, rows_back, table_of}

-- ---- items one after the other

module _ {Item : Type 0} (lines : ℕ → Item → List Line) (Fits : Item → Type 0) where
  abbrev pub joined : ℕ → List Item → List Line
  joined s [] = []
  joined s (x ∷ xs) = lines s x ++ joined (s + 1) xs

  abbrev pub OneItem : Type 0
  OneItem = (s : ℕ) (x y : Item) (a b : List Line) → Fits x → Fits y → lines s x ++ a ≡ lines s y ++ b → (x ≡ y) × (a ≡ b)

  pub one_in_turn : OneItem → (s : ℕ) (xs ys : List Item) (a b : List Line)
      → length xs ≡ length ys
      → AllByRecursion Fits xs
      → AllByRecursion Fits ys
      → joined s xs ++ a ≡ joined s ys ++ b
      → (xs ≡ ys) × (a ≡ b)
  one_in_turn each s [] [] a b long all_xs all_ys same = (refl, same)
  one_in_turn each s [] (y ∷ ys) a b long all_xs all_ys same = absurd (omega (arith, long))
  one_in_turn each s (x ∷ xs) [] a b long all_xs all_ys same = absurd (omega (arith, long))
  one_in_turn each s (x ∷ xs) (y ∷ ys) a b long all_xs all_ys same =
      let grouped =
      sym (append_assoc (lines s x) (joined (s + 1) xs) a) ∙ same ∙ append_assoc (lines s y) (joined (s + 1) ys) b in
      let first = each s x y (joined (s + 1) xs ++ a) (joined (s + 1) ys ++ b) all_xs.0 all_ys.0 grouped in
      let rest = one_in_turn each (s + 1) xs ys a b (omega (arith, long)) all_xs.1 all_ys.1 first.1 in
      (λ i. first.0 i ∷ rest.0 i, rest.1)

abbrev first_of : List Line → Line
first_of ls = get_or ls 0 []

pub one_number : (m n : ℕ) → m < 2 ^ 32 → n < 2 ^ 32 → number m ≡ number n → m ≡ n
one_number m n first second same = sym (value_back m first) ∙ ap value same ∙ value_back n second

pub record Names (ns : List Word) : Type 0 where
  pub once : Once ns
  pub no_dash : is_in (codes "-") ns ≡ false

module _ (ins outs : List Word) (n : ℕ) (few : n < 2 ^ 32) (named_ins : Names ins) (named_outs : Names outs) where
  -- ---- machines

  abbrev step_lines : ℕ → MachineStep → List Line
  step_lines s x = step_line ins outs (s, x) ∷ []

  one_step_item : OneItem step_lines (StepFits (length outs) n)
  one_step_item s x y a b fits_x fits_y same =
      let line : step_line ins outs (s, x) ≡ step_line ins outs (s, y) = ap first_of same in
      let behind =
      ap (drop 1)
      (append_cancel_left (set_words ins s) (codes "give" ∷ (set_words outs x.give ++ (codes "goto" ∷ number x.next ∷ [])))
      (codes "give" ∷ (set_words outs y.give ++ (codes "goto" ∷ number y.next ∷ []))) (ap (drop 1) line)) in
      let parts =
      last_two (set_words outs x.give) (set_words outs y.give) (codes "goto") (codes "goto") (number x.next) (number y.next) behind in
      let give = one_set outs x.give y.give named_outs.once named_outs.no_dash fits_x.gives fits_y.gives parts.0 in
      let next = one_number x.next y.next (omega (arith, few, fits_x.leads)) (omega (arith, few, fits_y.leads)) parts.2 in
      (λ i. record { give = give i; next = next i }, ap (drop 1) same)

  steps_joined : (s : ℕ) (xs : List MachineStep)
      → joined step_lines (StepFits (length outs) n) s xs ≡ map (step_line ins outs) (enumerate_from s xs)
  steps_joined s [] = refl
  steps_joined s (x ∷ xs) = ap (λ ls. step_line ins outs (s, x) ∷ ls) (steps_joined (s + 1) xs)

  abbrev row_lines : ℕ → List MachineStep → List Line
  row_lines i row = machine_state_lines ins outs (i, row)

  one_row_item : OneItem row_lines (RowFits (length ins) (length outs) n)
  one_row_item s x y a b fits_x fits_y same =
      one_in_turn step_lines (StepFits (length outs) n) one_step_item 0 x y a b
      (fits_x.a_step_each ∙ sym fits_y.a_step_each) fits_x.fit fits_y.fit
      (ap (λ ls. ls ++ a) (steps_joined 0 x) ∙ ap (drop 1) same ∙ ap (λ ls. ls ++ b) (sym (steps_joined 0 y)))

  rows_joined : (i : ℕ) (rows : MachineTable)
      → joined row_lines (RowFits (length ins) (length outs) n) i rows
      ≡ flat_map (machine_state_lines ins outs) (enumerate_from i rows)
  rows_joined i [] = refl
  rows_joined i (row ∷ rows) = ap (λ ls. row_lines i row ++ ls) (rows_joined (i + 1) rows)

  pub one_machine_of : (m k : MachineTable)
      → length m ≡ n
      → length k ≡ n
      → AllByRecursion (RowFits (length ins) (length outs) n) m
      → AllByRecursion (RowFits (length ins) (length outs) n) k
      → flat_map (machine_state_lines ins outs) (enumerate_from 0 m) ++ end_line ∷ []
      ≡ flat_map (machine_state_lines ins outs) (enumerate_from 0 k) ++ end_line ∷ []
      → m ≡ k
  one_machine_of m k long_m long_k fit_m fit_k same =
      (one_in_turn row_lines (RowFits (length ins) (length outs) n) one_row_item 0 m k (end_line ∷ []) (end_line ∷ [])
      (long_m ∙ sym long_k) fit_m fit_k
      (ap (λ ls. ls ++ end_line ∷ []) (rows_joined 0 m) ∙ same ∙ ap (λ ls. ls ++ end_line ∷ []) (sym (rows_joined 0 k)))).0

  -- ---- environments

  abbrev reply_lines : ℕ → ℕ → List Line
  reply_lines s x = answer_line outs (s, x) ∷ []

  one_reply_item : OneItem reply_lines (λ x. x < n)
  one_reply_item s x y a b fits_x fits_y same =
      let line : answer_line outs (s, x) ≡ answer_line outs (s, y) = ap first_of same in
      let behind =
      append_cancel_left (set_words outs s) (codes "goto" ∷ number x ∷ []) (codes "goto" ∷ number y ∷ []) (ap (drop 1) line) in
      let next = one_number x y (omega (arith, few, fits_x)) (omega (arith, few, fits_y)) (ap (λ l. word l 1) behind) in
      (next, ap (drop 1) same)

  replies_joined : (s : ℕ) (xs : List ℕ)
      → joined reply_lines (λ x. x < n) s xs ≡ map (answer_line outs) (enumerate_from s xs)
  replies_joined s [] = refl
  replies_joined s (x ∷ xs) = ap (λ ls. answer_line outs (s, x) ∷ ls) (replies_joined (s + 1) xs)

  abbrev play_lines : ℕ → PlayRow → List Line
  play_lines i row = state_line i ∷ play_line ins row.0 ∷ map (answer_line outs) (enumerate_from 0 row.1)

  one_play_item : OneItem play_lines (PlayFits (length ins) (length outs) n)
  one_play_item s x y a b fits_x fits_y same =
      let played : play_line ins x.0 ≡ play_line ins y.0 = ap (λ ls. first_of (drop 1 ls)) same in
      let play =
      one_set ins x.0 y.0 named_ins.once named_ins.no_dash fits_x.plays fits_y.plays (ap (drop 1) played) in
      let rest =
      one_in_turn reply_lines (λ x. x < n) one_reply_item 0 x.1 y.1 a b (fits_x.a_next_each ∙ sym fits_y.a_next_each)
      fits_x.lead fits_y.lead
      (ap (λ ls. ls ++ a) (replies_joined 0 x.1) ∙ ap (λ ls. drop 1 (drop 1 ls)) same ∙ ap (λ ls. ls ++ b) (sym (replies_joined 0 y.1))) in
      (λ i. (play i, rest.0 i), rest.1)

  plays_joined : (next : List (List ℕ)) (i : ℕ) (rows : List PlayRow)
      → joined play_lines (PlayFits (length ins) (length outs) n) i rows ≡ lines_from ins outs next i rows
  plays_joined next i [] = refl
  plays_joined next i (row ∷ rows) = ap (λ ls. play_lines i row ++ ls) (plays_joined next (i + 1) rows)

  pub one_play_rows : (xs ys : List PlayRow) (next more : List (List ℕ))
      → length xs ≡ n
      → length ys ≡ n
      → AllByRecursion (PlayFits (length ins) (length outs) n) xs
      → AllByRecursion (PlayFits (length ins) (length outs) n) ys
      → lines_from ins outs next 0 xs ++ end_line ∷ [] ≡ lines_from ins outs more 0 ys ++ end_line ∷ []
      → xs ≡ ys
  one_play_rows xs ys next more long_xs long_ys fit_xs fit_ys same =
      (one_in_turn play_lines (PlayFits (length ins) (length outs) n) one_play_item 0 xs ys (end_line ∷ []) (end_line ∷ [])
      (long_xs ∙ sym long_ys) fit_xs fit_ys
      (ap (λ ls. ls ++ end_line ∷ []) (plays_joined next 0 xs) ∙ same
      ∙ ap (λ ls. ls ++ end_line ∷ []) (sym (plays_joined more 0 ys)))).0

-- ---- whole bodies

module _ (ins outs : List Word) (named_ins : Names ins) (named_outs : Names outs) where
  pub one_machine : (m k : MachineTable)
      → MachineFits (length ins) (length outs) m
      → MachineFits (length ins) (length outs) k
      → length m < 2 ^ 32
      → length k < 2 ^ 32
      → machine_lines ins outs m ++ end_line ∷ [] ≡ machine_lines ins outs k ++ end_line ∷ []
      → m ≡ k
  one_machine m k fits_m fits_k few_m few_k same =
      let n = length m in
      let long : length k ≡ n = sym (one_number (length m) (length k) few_m few_k (ap (λ ls. word (first_of ls) 1) same)) in
      one_machine_of ins outs n few_m named_ins named_outs m k refl long (machine_rows (length ins) (length outs) m fits_m)
      (subst (λ j. AllByRecursion (RowFits (length ins) (length outs) j) k) long (machine_rows (length ins) (length outs) k fits_k))
      (ap (drop 1) same)

  one_environment_rows : (xs ys : List PlayRow)
      → EnvironmentFits (length ins) (length outs) (table_of xs)
      → EnvironmentFits (length ins) (length outs) (table_of ys)
      → length xs < 2 ^ 32
      → length ys < 2 ^ 32
      → environment_lines ins outs (table_of xs) ++ end_line ∷ [] ≡ environment_lines ins outs (table_of ys) ++ end_line ∷ []
      → xs ≡ ys
  one_environment_rows xs ys fits_xs fits_ys few_xs few_ys same =
      let n = length xs in
      let count_xs = (row_count xs).0 in
      let count_ys = (row_count ys).0 in
      let counts =
      one_number (length (plays_of xs)) (length (plays_of ys)) (omega (arith, few_xs, count_xs)) (omega (arith, few_ys, count_ys))
      (ap (λ ls. word (first_of ls) 1) same) in
      let long : length ys ≡ n = omega (arith, counts, count_xs, count_ys) in
      one_play_rows ins outs n few_xs named_ins named_outs xs ys (nexts_of xs) (nexts_of ys) refl long
      (environment_rows (length ins) (length outs) xs fits_xs)
      (subst (λ j. AllByRecursion (PlayFits (length ins) (length outs) j) ys) long (environment_rows (length ins) (length outs) ys fits_ys))
      (ap (λ ls. ls ++ end_line ∷ []) (sym (turned xs)) ∙ ap (drop 1) same ∙ ap (λ ls. ls ++ end_line ∷ []) (turned ys))
    where
      turned : (rows : List PlayRow)
          → flat_map (environment_state_lines ins outs (nexts_of rows)) (enumerate_from 0 (plays_of rows))
          ≡ lines_from ins outs (nexts_of rows) 0 rows
      turned rows =
          environment_turn ins outs (nexts_of rows) 0 rows (λ k below.
          let e : 0 + k ≡ k = omega arith in ap (λ j. get_or (nexts_of rows) j []) e ∙ (row_at rows k).1)

  pub one_environment : (e f : EnvironmentTable)
      → EnvironmentFits (length ins) (length outs) e
      → EnvironmentFits (length ins) (length outs) f
      → length e.plays < 2 ^ 32
      → length f.plays < 2 ^ 32
      → environment_lines ins outs e ++ end_line ∷ [] ≡ environment_lines ins outs f ++ end_line ∷ []
      → e ≡ f
  one_environment e f fits_e fits_f few_e few_f same =
      let xs = play_rows e.plays e.next in
      let ys = play_rows f.plays f.next in
      let back_e = rows_back e.plays e.next fits_e.a_row_each in
      let back_f = rows_back f.plays f.next fits_f.a_row_each in
      let is_e : table_of xs ≡ e = λ i. record { plays = back_e.0 i; next = back_e.1 i } in
      let is_f : table_of ys ≡ f = λ i. record { plays = back_f.0 i; next = back_f.1 i } in
      let rows =
      one_environment_rows xs ys (subst (EnvironmentFits (length ins) (length outs)) (sym is_e) fits_e)
      (subst (EnvironmentFits (length ins) (length outs)) (sym is_f) fits_f)
      (omega (arith, few_e, ap length back_e.0, (row_count xs).0)) (omega (arith, few_f, ap length back_f.0, (row_count ys).0))
      (ap (λ t. environment_lines ins outs t ++ end_line ∷ []) is_e ∙ same
      ∙ ap (λ t. environment_lines ins outs t ++ end_line ∷ []) (sym is_f)) in
      sym is_e ∙ ap table_of rows ∙ is_f
