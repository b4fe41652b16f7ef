-- The body of a document: what is written of a machine or an environment that fits is readable, and what is readable is so
-- written.
--
--   machine_body, environment_body   == the lines of one that fits are readable
--   MachineBody, EnvironmentBody     == the lines are those of one that fits
--   read_machine, read_environment   == readable lines are
use Rattle.std.proofs.Common.{◌≡◌, ℕ, ◌+◌, ◌<◌, ◌^◌, List, [], ◌∷◌, ◌++◌, length, get_or, codes, refl, sym, ap, subst, ◌∙◌, arith}
use Rattle.std.specs.List.{AllByRecursion, enumerate_from, flat_map}
use Rattle.ml_lines.specs.Lines.{Line, Word}
use Rattle.ml_lines.specs.Reading.{AreWords, value, word}
use Rattle.ml_lists.specs.Documents.{rule}
use Rattle.ml_lists.specs.Readings.{IsReadable, Runs}
use Rattle.ml_synthesis.specs.Machines.{EnvironmentFits, EnvironmentTable, MachineFits, MachineTable}
use Rattle.ml_realize_text.specs.RealizeRules.{AtEnd, AtStates, Signals, at_state, realize}
use Rattle.ml_realize_text.specs.RealizeText.{end_line, environment_lines, environment_state_lines, machine_lines, machine_state_lines, states_line}
use Rattle.ml_realize_text.specs.private.Reads.{PlayFits, PlayRow, RowFits, environment_of, machine_of}
use Rattle.ml_realize_text.proofs.BodyLines.{numbered_back, states_good, value_back}
use Rattle.ml_realize_text.proofs.BodyRows.{play_lines, plays_at, plays_lead, plays_read, row_lines, rows_at, rows_lead, rows_read, rows_turn}
use Rattle.ml_realize_text.proofs.CutLines.{IsCut, no_empty_line}
use Rattle.ml_lists.proofs.AllOf.{all_parts}
use Rattle.ml_realize_text.proofs.InTurn.{AreRead, in_turn, read_in_turn, runs_in_turn}
use Rattle.ml_realize_text.proofs.Places.{states_done}
use Rattle.ml_lists.proofs.Runs.{runs_readable}
use Rattle.ml_realize_text.proofs.Tables.{environment_rows, environment_turn, lines_from, machine_rows, nexts_of, play_rows, plays_of, row_at, row_count, rows_back, rows_environment, rows_machine, table_of}

-- ---- the end

module _ (g : Signals) (n : ℕ) (left : List ℕ) where
  end_readable : left ≡ [] → IsReadable (realize left) (at_state g n n) (end_line ∷ [])
  end_readable none =
      subst (λ p. IsReadable (realize left) p (end_line ∷ [])) (sym (states_done g n n (omega arith)))
      ((refl, tt), ((refl, none), tt))

  end_read : (rest : List Line)
      → AllByRecursion IsCut rest
      → IsReadable (realize left) (at_state g n n) rest
      → (rest ≡ end_line ∷ []) × (left ≡ [])
  end_read rest cut readable = go rest cut (subst (λ p. IsReadable (realize left) p rest) (states_done g n n (omega arith)) readable)
    where
      go : (rest : List Line)
          → AllByRecursion IsCut rest
          → IsReadable (realize left) AtEnd rest
          → (rest ≡ end_line ∷ []) × (left ≡ [])
      go [] cut r = let apart = r.0 in absurd (cc)
      go (l ∷ []) cut r = (ap (λ x. x ∷ []) r.0.0, r.1.0.1)
      go (l ∷ m ∷ more) cut r = absurd (no_empty_line m cut.1.0 r.1.0.0.0)

-- ---- machines

module _ (left : List ℕ) (ins outs : List Word) where
  pub machine_body : (m : MachineTable)
      → MachineFits (length ins) (length outs) m
      → length m < 2 ^ 32
      → AreWords ins
      → AreWords outs
      → left ≡ []
      → IsReadable (realize left) (AtStates (machine_of ins outs)) (machine_lines ins outs m ++ end_line ∷ [])
  machine_body m fits few are_ins are_outs none =
      let n = length m in
      let g = machine_of ins outs in
      let rows : Runs (realize left) (at_state g n 0) (flat_map (machine_state_lines ins outs) (enumerate_from 0 m)) (at_state g n n) =
      subst (λ ls. Runs (realize left) (at_state g n 0) ls (at_state g n n)) (rows_turn left ins outs n 0 m)
      (runs_in_turn (realize left) (rows_at left ins outs n) (row_lines left ins outs n) (RowFits (length ins) (length outs) n) n
      (rows_lead left ins outs n are_ins are_outs few) 0 m n (omega arith) (omega arith) (machine_rows (length ins) (length outs) m fits)) in
      let all : IsReadable (realize left) (at_state g n 0) (flat_map (machine_state_lines ins outs) (enumerate_from 0 m) ++ end_line ∷ []) =
      runs_readable (realize left) (at_state g n 0) (at_state g n n) (flat_map (machine_state_lines ins outs) (enumerate_from 0 m))
      (end_line ∷ []) rows (end_readable g n left none) in (
        states_good g (states_line n) n few refl fits.some left,
        subst
            (λ k. IsReadable (realize left) (at_state g k 0) (flat_map (machine_state_lines ins outs) (enumerate_from 0 m) ++ end_line ∷ []))
            (sym (value_back n few)) all,
      )

  pub record MachineBody (lines : List Line) : Type 0 where
    pub table : MachineTable
    pub fits : MachineFits (length ins) (length outs) table
    pub few : length table < 2 ^ 32
    pub lines_are : lines ≡ machine_lines ins outs table ++ end_line ∷ []
    pub none_left : left ≡ []

  pub read_machine : (lines : List Line)
      → AllByRecursion IsCut lines
      → IsReadable (realize left) (AtStates (machine_of ins outs)) lines
      → MachineBody lines
  read_machine [] cut readable = let apart = readable.0.1 in absurd (cc)
  read_machine (line ∷ rest) cut readable =
      let (n, few, line_is, value_is) =
      numbered_back (codes "states") (rule 53 (λ l. 0 < value (word l 1)) ∷ []) line readable.0 in
      let some : 0 < n = subst (λ k. 0 < k) value_is readable.0.1.1.0 in
      whole n few line_is some
      (read_in_turn (realize left) (rows_at left ins outs n) (row_lines left ins outs n) (RowFits (length ins) (length outs) n) n
      (rows_read left ins outs n few) n 0 rest (omega arith)
      (subst (λ k. IsReadable (realize left) (at_state (machine_of ins outs) k 0) rest) value_is readable.1))
    where
      whole : (n : ℕ)
          → n < 2 ^ 32
          → line ≡ states_line n
          → 0 < n
          → AreRead (realize left) (rows_at left ins outs n) (row_lines left ins outs n) (RowFits (length ins) (length outs) n) n 0 rest
          → MachineBody (line ∷ rest)
      whole n few line_is some rows =
          let long : n ≡ length rows.items = omega (arith, rows.long) in
          let lines = in_turn (realize left) (rows_at left ins outs n) (row_lines left ins outs n) (RowFits (length ins) (length outs) n) n 0 rows.items in
          let behind = end_read (machine_of ins outs) n left rows.rest
          ((all_parts IsCut lines rows.rest (subst (AllByRecursion IsCut) rows.all_is cut.1)).1) rows.readable in
          record {
            table = rows.items;
            fits =
                rows_machine (length ins) (length outs) rows.items (omega (arith, some, long))
                (subst (λ k. AllByRecursion (RowFits (length ins) (length outs) k) rows.items) long rows.fit);
            few = omega (arith, few, long);
            lines_are =
                (λ i. line_is i ∷ rows.all_is i)
                ∙ (λ i. states_line (long i) ∷ (rows_turn left ins outs n 0 rows.items i ++ behind.0 i));
            none_left = behind.1;
          }

-- ---- environments

-- the lines of its rows are those of an environment
rows_lines : (left : List ℕ) (ins outs : List Word) (n : ℕ) (next : List (List ℕ)) (i : ℕ) (rows : List PlayRow)
    → in_turn (realize left) (plays_at left ins outs n) (play_lines left ins outs n) (PlayFits (length ins) (length outs) n) n i rows
    ≡ lines_from ins outs next i rows
rows_lines left ins outs n next i [] = refl
rows_lines left ins outs n next i (row ∷ rows) =
    ap (λ ls. play_lines left ins outs n i row ++ ls) (rows_lines left ins outs n next (i + 1) rows)

module _ (left : List ℕ) (ins outs : List Word) where
  state_lines_of : (n : ℕ) (rows : List PlayRow)
      → in_turn (realize left) (plays_at left ins outs n) (play_lines left ins outs n) (PlayFits (length ins) (length outs) n) n 0 rows
      ≡ flat_map (environment_state_lines ins outs (nexts_of rows)) (enumerate_from 0 (plays_of rows))
  state_lines_of n rows =
      rows_lines left ins outs n (nexts_of rows) 0 rows
      ∙ sym (environment_turn ins outs (nexts_of rows) 0 rows (λ k below.
      let e : 0 + k ≡ k = omega arith in ap (λ j. get_or (nexts_of rows) j []) e ∙ (row_at rows k).1))

  rows_body : (rows : List PlayRow)
      → EnvironmentFits (length ins) (length outs) (table_of rows)
      → length rows < 2 ^ 32
      → AreWords ins
      → AreWords outs
      → left ≡ []
      → IsReadable (realize left) (AtStates (environment_of ins outs)) (environment_lines ins outs (table_of rows) ++ end_line ∷ [])
  rows_body rows fits few are_ins are_outs none =
      let n = length rows in
      let g = environment_of ins outs in
      let count = (row_count rows).0 in
      let lines = flat_map (environment_state_lines ins outs (nexts_of rows)) (enumerate_from 0 (plays_of rows)) in
      let run : Runs (realize left) (at_state g n 0) lines (at_state g n n) =
      subst (λ ls. Runs (realize left) (at_state g n 0) ls (at_state g n n)) (state_lines_of n rows)
      (runs_in_turn (realize left) (plays_at left ins outs n) (play_lines left ins outs n) (PlayFits (length ins) (length outs) n) n
      (plays_lead left ins outs n are_ins are_outs few) 0 rows n (omega arith) (omega arith)
      (environment_rows (length ins) (length outs) rows fits)) in
      let all : IsReadable (realize left) (at_state g n 0) (lines ++ end_line ∷ []) =
      runs_readable (realize left) (at_state g n 0) (at_state g n n) lines (end_line ∷ []) run (end_readable g n left none) in
      let some : 0 < n = omega (arith, fits.some, count) in
      subst (λ k. IsReadable (realize left) (AtStates g) (states_line k ∷ (lines ++ end_line ∷ []))) (sym count) (
        states_good g (states_line n) n few refl some left,
        subst (λ k. IsReadable (realize left) (at_state g k 0) (lines ++ end_line ∷ [])) (sym (value_back n few)) all,
      )

  pub environment_body : (e : EnvironmentTable)
      → EnvironmentFits (length ins) (length outs) e
      → length e.plays < 2 ^ 32
      → AreWords ins
      → AreWords outs
      → left ≡ []
      → IsReadable (realize left) (AtStates (environment_of ins outs)) (environment_lines ins outs e ++ end_line ∷ [])
  environment_body e fits few are_ins are_outs none =
      let rows = play_rows e.plays e.next in
      let back = rows_back e.plays e.next fits.a_row_each in
      let same : table_of rows ≡ e = λ i. record { plays = back.0 i; next = back.1 i } in
      subst
      (λ x. IsReadable (realize left) (AtStates (environment_of ins outs)) (environment_lines ins outs x ++ end_line ∷ []))
      same
      (rows_body rows (subst (EnvironmentFits (length ins) (length outs)) (sym same) fits)
      (omega (arith, few, ap length back.0, (row_count rows).0)) are_ins are_outs none)

  pub record EnvironmentBody (lines : List Line) : Type 0 where
    pub table : EnvironmentTable
    pub fits : EnvironmentFits (length ins) (length outs) table
    pub few : length table.plays < 2 ^ 32
    pub lines_are : lines ≡ environment_lines ins outs table ++ end_line ∷ []
    pub none_left : left ≡ []

  pub read_environment : (lines : List Line)
      → AllByRecursion IsCut lines
      → IsReadable (realize left) (AtStates (environment_of ins outs)) lines
      → EnvironmentBody lines
  read_environment [] cut readable = let apart = readable.0.1 in absurd (cc)
  read_environment (line ∷ rest) cut readable =
      let (n, few, line_is, value_is) =
      numbered_back (codes "states") (rule 53 (λ l. 0 < value (word l 1)) ∷ []) line readable.0 in
      let some : 0 < n = subst (λ k. 0 < k) value_is readable.0.1.1.0 in
      whole n few line_is some
      (read_in_turn (realize left) (plays_at left ins outs n) (play_lines left ins outs n) (PlayFits (length ins) (length outs) n) n
      (plays_read left ins outs n) n 0 rest (omega arith)
      (subst (λ k. IsReadable (realize left) (at_state (environment_of ins outs) k 0) rest) value_is readable.1))
    where
      whole : (n : ℕ)
          → n < 2 ^ 32
          → line ≡ states_line n
          → 0 < n
          → AreRead (realize left) (plays_at left ins outs n) (play_lines left ins outs n) (PlayFits (length ins) (length outs) n) n 0 rest
          → EnvironmentBody (line ∷ rest)
      whole n few line_is some rows =
          let long : n ≡ length rows.items = omega (arith, rows.long) in
          let count : n ≡ length (plays_of rows.items) = long ∙ sym (row_count rows.items).0 in
          let lines = in_turn (realize left) (plays_at left ins outs n) (play_lines left ins outs n) (PlayFits (length ins) (length outs) n) n 0 rows.items in
          let behind = end_read (environment_of ins outs) n left rows.rest
          ((all_parts IsCut lines rows.rest (subst (AllByRecursion IsCut) rows.all_is cut.1)).1) rows.readable in
          record {
            table = table_of rows.items;
            fits =
                rows_environment (length ins) (length outs) rows.items (omega (arith, some, long))
                (subst (λ k. AllByRecursion (PlayFits (length ins) (length outs) k) rows.items) long rows.fit);
            few = omega (arith, few, count);
            lines_are =
                (λ i. line_is i ∷ rows.all_is i)
                ∙ (λ i. states_line (count i) ∷ (state_lines_of n rows.items i ++ behind.0 i));
            none_left = behind.1;
          }
