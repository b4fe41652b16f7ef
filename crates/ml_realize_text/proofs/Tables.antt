-- Machines and environments as lists of rows.
--
--   at_place          == what is true of each item is true of that at a place
--   all_from          == and the other way
--   machine_rows      == a machine that fits has rows that fit
--   rows_machine      == rows that fit are a machine that fits
--   play_rows         == an environment as rows: what a state plays, with its next states
--   rows_back         == the two lists of these rows are those of the environment
--   environment_rows, rows_environment == so with environments
--   environment_turn  == the lines of an environment are those of its rows
use Rattle.std.proofs.Common.{◌≡◌, ℕ, zero, suc, ◌+◌, ◌<◌, ◌^◌, List, [], ◌∷◌, ◌++◌, length, map, get_or, refl, sym, ap, subst, ◌∙◌, arith}
use Rattle.std.specs.List.{AllByRecursion, enumerate_from, flat_map}
use Rattle.ml_lines.specs.Lines.{Line, Word}
use Rattle.ml_synthesis.specs.Machines.{EnvironmentFits, EnvironmentTable, MachineFits, MachineTable, next_at, step_at}
use Rattle.ml_synthesis.specs.declared.machines.MachineStep.{MachineStep}
use Rattle.ml_realize_text.specs.RealizeText.{answer_line, environment_state_lines, play_line, state_line}
use Rattle.ml_realize_text.specs.private.Reads.{PlayFits, PlayRow, RowFits, StepFits}

module _ {X : Type 0} (P : X → Type 0) where
  pub at_place : (xs : List X) (k : ℕ) (d : X) → AllByRecursion P xs → k < length xs → P (get_or xs k d)
  at_place [] k d all below = absurd (omega (arith, below))
  at_place (x ∷ xs) zero d all below = all.0
  at_place (x ∷ xs) (suc k) d all below = at_place xs k d all.1 (omega (arith, below))

  pub all_from : (xs : List X) (d : X) → ((k : ℕ) → k < length xs → P (get_or xs k d)) → AllByRecursion P xs
  all_from [] d each = tt
  all_from (x ∷ xs) d each =
      (each 0 (omega arith), all_from xs d (λ k below. each (suc k) (omega (arith, below))))

abbrev none : MachineStep
none = record { give = 0; next = 0 }

module _ (i o : ℕ) where
  pub machine_rows : (m : MachineTable) → MachineFits i o m → AllByRecursion (RowFits i o (length m)) m
  machine_rows m fits =
      all_from (RowFits i o (length m)) m [] (λ s below.
      let long = fits.a_step_each s below in
      record {
        a_step_each = long;
        fit =
            all_from (StepFits o (length m)) (get_or m s []) none (λ k less.
            let set : k < 2 ^ i = omega (arith, long, less) in
            record { gives = fits.gives s k below set; leads = fits.leads s k below set });
      })

  pub rows_machine : (m : MachineTable) → 0 < length m → AllByRecursion (RowFits i o (length m)) m → MachineFits i o m
  rows_machine m some all =
      let row : (s : ℕ) → s < length m → RowFits i o (length m) (get_or m s []) =
      λ s below. at_place (RowFits i o (length m)) m s [] all below in
      let step : (s k : ℕ) → s < length m → k < 2 ^ i → StepFits o (length m) (step_at m s k) =
      λ s k below set. at_place (StepFits o (length m)) (get_or m s []) k none (row s below).fit (omega (arith, (row s below).a_step_each, set)) in
      record {
        some = some;
        a_step_each = λ s below. (row s below).a_step_each;
        gives = λ s k below set. (step s k below set).gives;
        leads = λ s k below set. (step s k below set).leads;
      }

-- ---- environments

abbrev pub plays_of : List PlayRow → List ℕ
plays_of rows = map (λ row. row.0) rows

abbrev pub nexts_of : List PlayRow → List (List ℕ)
nexts_of rows = map (λ row. row.1) rows

abbrev pub play_rows : List ℕ → List (List ℕ) → List PlayRow
play_rows [] nexts = []
play_rows (p ∷ ps) [] = (p, []) ∷ play_rows ps []
play_rows (p ∷ ps) (n ∷ ns) = (p, n) ∷ play_rows ps ns

pub rows_back : (ps : List ℕ) (ns : List (List ℕ))
    → length ns ≡ length ps
    → (plays_of (play_rows ps ns) ≡ ps) × (nexts_of (play_rows ps ns) ≡ ns)
rows_back [] [] long = (refl, refl)
rows_back [] (n ∷ ns) long = absurd (omega (arith, long))
rows_back (p ∷ ps) [] long = absurd (omega (arith, long))
rows_back (p ∷ ps) (n ∷ ns) long =
    let rest = rows_back ps ns (omega (arith, long)) in (λ i. p ∷ rest.0 i, λ i. n ∷ rest.1 i)

pub row_count : (rows : List PlayRow) → (length (plays_of rows) ≡ length rows) × (length (nexts_of rows) ≡ length rows)
row_count [] = (refl, refl)
row_count (row ∷ rows) = let rest = row_count rows in (ap suc rest.0, ap suc rest.1)

pub row_at : (rows : List PlayRow) (s : ℕ)
    → (get_or (plays_of rows) s 0 ≡ (get_or rows s (0, [])).0) × (get_or (nexts_of rows) s [] ≡ (get_or rows s (0, [])).1)
row_at [] s = (refl, refl)
row_at (row ∷ rows) zero = (refl, refl)
row_at (row ∷ rows) (suc s) = row_at rows s

abbrev pub table_of : List PlayRow → EnvironmentTable
table_of rows = record { plays = plays_of rows; next = nexts_of rows }

module _ (i o : ℕ) (rows : List PlayRow) where
  abbrev plays_count : length (plays_of rows) ≡ length rows
  plays_count = (row_count rows).0

  pub environment_rows : EnvironmentFits i o (table_of rows) → AllByRecursion (PlayFits i o (length rows)) rows
  environment_rows fits =
      all_from (PlayFits i o (length rows)) rows (0, []) (λ s below.
      let less : s < length (plays_of rows) = omega (arith, below, (row_count rows).0) in
      let at = row_at rows s in
      let long : length (get_or rows s (0, [])).1 ≡ 2 ^ o = ap length (sym at.1) ∙ fits.a_next_each s less in
      record {
        plays = subst (λ k. k < 2 ^ i) at.0 (fits.plays_sets s less);
        a_next_each = long;
        lead =
            all_from (λ x. x < length rows) (get_or rows s (0, [])).1 0 (λ k set.
            let leads : next_at (table_of rows) s k < length (plays_of rows) = fits.leads s k less (omega (arith, set, long)) in
            let same = ap (λ ns. get_or ns k 0) at.1 in
            omega (arith, leads, same, (row_count rows).0));
      })

  pub rows_environment : 0 < length rows → AllByRecursion (PlayFits i o (length rows)) rows → EnvironmentFits i o (table_of rows)
  rows_environment some all =
      let count = row_count rows in
      let row : (s : ℕ) → s < length (plays_of rows) → PlayFits i o (length rows) (get_or rows s (0, [])) =
      λ s below. at_place (PlayFits i o (length rows)) rows s (0, []) all (omega (arith, below, count.0)) in
      record {
        some = omega (arith, some, count.0);
        a_row_each = count.1 ∙ sym count.0;
        a_next_each = λ s below. ap length (row_at rows s).1 ∙ (row s below).a_next_each;
        plays_sets = λ s below. subst (λ k. k < 2 ^ i) (sym (row_at rows s).0) (row s below).plays;
        leads = λ s k below set.
            let at = row_at rows s in
            let leads =
            at_place (λ x. x < length rows) (get_or rows s (0, [])).1 k 0 (row s below).lead
            (omega (arith, (row s below).a_next_each, set)) in
            let same = ap (λ ns. get_or ns k 0) at.1 in
            omega (arith, leads, same, count.0);
      }

-- the lines of an environment, and those of its rows
module _ (ins outs : List Word) (next : List (List ℕ)) where
  abbrev pub row_lines : ℕ → PlayRow → List Line
  row_lines i row = state_line i ∷ play_line ins row.0 ∷ map (answer_line outs) (enumerate_from 0 row.1)

  abbrev pub lines_from : ℕ → List PlayRow → List Line
  lines_from i [] = []
  lines_from i (row ∷ rows) = row_lines i row ++ lines_from (i + 1) rows

  pub environment_turn : (i : ℕ) (rows : List PlayRow)
      → ((k : ℕ) → k < length rows → get_or next (i + k) [] ≡ (get_or rows k (0, [])).1)
      → flat_map (environment_state_lines ins outs next) (enumerate_from i (plays_of rows)) ≡ lines_from i rows
  environment_turn i [] each = refl
  environment_turn i (row ∷ rows) each =
      let here : get_or next i [] ≡ row.1 = let e : i ≡ i + 0 = omega arith in ap (λ k. get_or next k []) e ∙ each 0 (omega arith) in
      let rest = environment_turn (i + 1) rows (λ k below.
      let e : i + 1 + k ≡ i + suc k = omega arith in ap (λ j. get_or next j []) e ∙ each (suc k) (omega (arith, below))) in
      ap
      (λ ns. (state_line i ∷ play_line ins row.0 ∷ map (answer_line outs) (enumerate_from 0 ns))
      ++ flat_map (environment_state_lines ins outs next) (enumerate_from (i + 1) (plays_of rows)))
      here
      ∙ ap (λ ls. row_lines i row ++ ls) rest
