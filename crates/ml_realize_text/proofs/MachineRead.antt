-- The steps and the rows of a machine, as they are read one after the other.
--
--   StepsTo at xs rest   == the steps xs of a state were read, and the rest is left
--   steps_begin, steps_more, steps_done == none yet; one more; all of the state
--   steps_refused        == where the next one is refused, the state is
--   row_read, row_refused == the line of the state, and its steps
--   RowsTo, rows_begin, rows_more_read, rows_refused == so with the rows of a machine
use Rattle.std.proofs.Common.{◌≡◌, ℕ, ◌<◌, ◌≤◌, ◌^◌, List, [], ◌∷◌, ◌++◌, length, map, refl, sym, subst, length-append, arith}
use Rattle.std.specs.List.{AllByRecursion, enumerate_from, flat_map}
use Rattle.ml_base.specs.declared.doc_refusal.DocRefusal.{DocRefusal}
use Rattle.ml_lines.specs.Lines.{Word}
use Rattle.ml_lines.specs.Reading.{AreWords}
use Rattle.ml_synthesis.specs.Machines.{MachineTable}
use Rattle.ml_synthesis.specs.declared.machines.MachineStep.{MachineStep}
use Rattle.ml_realize_text.specs.RealizeRules.{AtState, AtStep, at_state, at_step, realize}
use Rattle.ml_realize_text.specs.RealizeText.{machine_state_lines, state_line, step_line}
use Rattle.ml_realize_text.specs.private.Reads.{Goes, RowFits, StepFits, TellsFault, machine_of}
use Rattle.ml_realize_text.specs.declared.rest.Rest.{Rest}
use Rattle.ml_realize_text.proofs.BodyLines.{state_good}
use Rattle.ml_realize_text.proofs.BodyRows.{row_lines, rows_at, rows_lead, rows_turn, step_lines, steps_at, steps_lead, steps_turn}
use Rattle.ml_realize_text.proofs.Going.{goes_begin, goes_on, told_behind}
use Rattle.ml_realize_text.proofs.InTurn.{runs_in_turn}
use Rattle.ml_lists.proofs.AllOf.{all_last}
use Rattle.ml_realize_text.proofs.ListedLines.{lines_more, rows_more}
use Rattle.ml_realize_text.proofs.Places.{state_next, step_next}
use Rattle.ml_lists.specs.Readings.{Runs}

module _ (ins outs : List Word) (n : ℕ) where
  -- ---- the steps of a state

  pub record StepsTo (at : Rest) (xs : List MachineStep) (rest : Rest) : Type 0 where
    pub goes : Goes at (map (step_line ins outs) (enumerate_from 0 xs)) rest
    pub fit : AllByRecursion (StepFits (length outs) n) xs
    pub most : length xs ≤ 2 ^ length ins

  pub steps_begin : (at : Rest) → StepsTo at [] at
  steps_begin at = record { goes = goes_begin at; fit = tt; most = omega arith }

  pub steps_more : (at mid rest : Rest) (xs ys : List MachineStep) (x : MachineStep)
      → StepsTo at xs mid
      → length xs < 2 ^ length ins
      → Goes mid (step_line ins outs (length xs, x) ∷ []) rest
      → StepFits (length outs) n x
      → ys ≡ xs ++ x ∷ []
      → StepsTo at ys rest
  steps_more at mid rest xs ys x so_far below goes fits is =
      subst (λ zs. StepsTo at zs rest) (sym is) (record {
        goes =
            subst (λ ls. Goes at ls rest) (sym (lines_more (step_line ins outs) 0 (length xs) xs x (omega arith)))
            (goes_on so_far.goes goes);
        fit = all_last (StepFits (length outs) n) xs x so_far.fit fits;
        most = omega (arith, below, length-append xs (x ∷ []));
      })

  pub steps_done : (at rest : Rest) (xs : List MachineStep)
      → StepsTo at xs rest
      → 2 ^ length ins ≤ length xs
      → RowFits (length ins) (length outs) n xs
  steps_done at rest xs so_far full = record { a_step_each = omega (arith, full, so_far.most); fit = so_far.fit }

  module _ (are_ins : AreWords ins) (are_outs : AreWords outs) (few : n < 2 ^ 32) where
    pub steps_refused : (at mid : Rest) (xs : List MachineStep) (e : DocRefusal)
        → StepsTo at xs mid
        → length xs < 2 ^ length ins
        → ((i : ℕ) → TellsFault (AtStep (machine_of ins outs) n i (length xs)) mid e)
        → (i : ℕ)
        → TellsFault (at_step (machine_of ins outs) n i 0) at e
    steps_refused at mid xs e so_far below tells i =
        let g = machine_of ins outs in
        let lines = map (step_line ins outs) (enumerate_from 0 xs) in
        told_behind (at_step g n i 0) (at_step g n i (length xs)) at mid lines e so_far.goes
        (λ left.
        subst (λ ls. Runs (realize left) (at_step g n i 0) ls (at_step g n i (length xs))) (steps_turn left ins outs n i 0 xs)
        (runs_in_turn (realize left) (steps_at left ins outs n i) (step_lines left ins outs n i) (StepFits (length outs) n) (2 ^ length ins)
        (steps_lead left ins outs n i are_ins are_outs few) 0 xs (length xs) (omega arith) so_far.most so_far.fit))
        (subst (λ p. TellsFault p mid e) (sym (step_next g n i (length xs) below)) (tells i))

    -- ---- the row of a state

    pub row_refused : (at mid : Rest) (i : ℕ) (e : DocRefusal)
        → i < n
        → Goes at (state_line i ∷ []) mid
        → TellsFault (at_step (machine_of ins outs) n i 0) mid e
        → TellsFault (at_state (machine_of ins outs) n i) at e
    row_refused at mid i e below goes tells =
        let g = machine_of ins outs in
        told_behind (at_state g n i) (at_step g n i 0) at mid (state_line i ∷ []) e goes
        (λ left.
        subst (λ p. Runs (realize left) p (state_line i ∷ []) (at_step g n i 0)) (sym (state_next g n i below))
        (state_good g n i (state_line i) i (omega (arith, below, few)) refl refl left, refl))
        tells

    pub first_refused : (at : Rest) (i : ℕ) (e : DocRefusal)
        → i < n
        → TellsFault (AtState (machine_of ins outs) n i) at e
        → TellsFault (at_state (machine_of ins outs) n i) at e
    first_refused at i e below tells =
        subst (λ p. TellsFault p at e) (sym (state_next (machine_of ins outs) n i below)) tells

  -- ---- the rows of a machine

  pub record RowsTo (at : Rest) (rows : MachineTable) (rest : Rest) : Type 0 where
    pub goes : Goes at (flat_map (machine_state_lines ins outs) (enumerate_from 0 rows)) rest
    pub fit : AllByRecursion (RowFits (length ins) (length outs) n) rows
    pub most : length rows ≤ n

  pub rows_begin : (at : Rest) → RowsTo at [] at
  rows_begin at = record { goes = goes_begin at; fit = tt; most = omega arith }

  pub one_row_more : (at mid rest : Rest) (rows more : MachineTable) (row : List MachineStep)
      → RowsTo at rows mid
      → length rows < n
      → Goes mid (machine_state_lines ins outs (length rows, row)) rest
      → RowFits (length ins) (length outs) n row
      → more ≡ rows ++ row ∷ []
      → RowsTo at more rest
  one_row_more at mid rest rows more row so_far below goes fits is =
      subst (λ zs. RowsTo at zs rest) (sym is) (record {
        goes =
            subst (λ ls. Goes at ls rest) (sym (rows_more (machine_state_lines ins outs) 0 (length rows) rows row (omega arith)))
            (goes_on so_far.goes goes);
        fit = all_last (RowFits (length ins) (length outs) n) rows row so_far.fit fits;
        most = omega (arith, below, length-append rows (row ∷ []));
      })

  module _ (are_ins : AreWords ins) (are_outs : AreWords outs) (few : n < 2 ^ 32) where
    rows_run : (at rest : Rest) (rows : MachineTable)
        → RowsTo at rows rest
        → (left : List ℕ)
        → Runs (realize left) (at_state (machine_of ins outs) n 0)
        (flat_map (machine_state_lines ins outs) (enumerate_from 0 rows)) (at_state (machine_of ins outs) n (length rows))
    rows_run at rest rows so_far left =
        let g = machine_of ins outs in
        subst (λ ls. Runs (realize left) (at_state g n 0) ls (at_state g n (length rows))) (rows_turn left ins outs n 0 rows)
        (runs_in_turn (realize left) (rows_at left ins outs n) (row_lines left ins outs n) (RowFits (length ins) (length outs) n) n
        (rows_lead left ins outs n are_ins are_outs few) 0 rows (length rows) (omega arith) so_far.most so_far.fit)

    pub rows_refused : (at mid : Rest) (rows : MachineTable) (e : DocRefusal)
        → RowsTo at rows mid
        → TellsFault (at_state (machine_of ins outs) n (length rows)) mid e
        → TellsFault (at_state (machine_of ins outs) n 0) at e
    rows_refused at mid rows e so_far tells =
        told_behind (at_state (machine_of ins outs) n 0) (at_state (machine_of ins outs) n (length rows)) at mid
        (flat_map (machine_state_lines ins outs) (enumerate_from 0 rows)) e so_far.goes (rows_run at mid rows so_far) tells
