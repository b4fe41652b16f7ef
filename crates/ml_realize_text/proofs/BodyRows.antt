-- The lines of the states of a machine, and of those of an environment: they lead from the first state to the end, and what
-- leads there is lines of states.
--
--   steps_turn, replies_turn   == the lines of the sets of a state, one after the other
--   steps_lead, replies_lead   == each leads on to the next one
--   steps_read, replies_read   == each good one is that of a step, or of a next state
--   RowFits                    == a row has a step for each set of inputs, each of which fits
--   rows_lead, rows_read       == so with the rows of a machine
--   PlayFits                   == a state plays a set of inputs, and has a next state for each set of outputs
--   plays_lead, plays_read     == so with the states of an environment
use Rattle.std.proofs.Common.{codes, ◌≡◌, ℕ, ◌+◌, ◌<◌, ◌^◌, List, [], ◌∷◌, ◌++◌, length, map, refl, sym, ap, subst, ◌∙◌, arith}
use Rattle.std.specs.List.{AllByRecursion, enumerate_from, flat_map}
use Rattle.ml_lines.specs.Lines.{Line, Word}
use Rattle.ml_lines.specs.Reading.{AreWords, value, word}
use Rattle.ml_lists.specs.Documents.{Format, rule}
use Rattle.ml_lists.specs.Readings.{IsReadable, Runs}
use Rattle.ml_synthesis.specs.declared.machines.MachineStep.{MachineStep}
use Rattle.ml_realize_text.specs.RealizeRules.{AtReply, AtState, AtStep, Place, Signals, at_reply, at_state, at_step, realize}
use Rattle.ml_realize_text.specs.RealizeText.{answer_line, machine_state_lines, play_line, state_line, step_line}
use Rattle.ml_realize_text.specs.private.Reads.{PlayFits, PlayRow, RowFits, StepFits, environment_of, machine_of}
use Rattle.ml_realize_text.proofs.BodyLines.{numbered_back, play_back, play_good, reply_back, reply_good, state_good, step_back, step_good}
use Rattle.ml_realize_text.proofs.InTurn.{AreRead, LeadOn, Read, Reads, in_turn, read_in_turn, runs_in_turn}
use Rattle.ml_realize_text.proofs.Places.{replies_done, reply_next, state_next, step_next, steps_done}

-- ---- one line for each item

module _ {Item : Type 0} (line : ℕ → Item → Line) where
  abbrev pub alone : ℕ → Item → List Line
  alone s x = line s x ∷ []

module _ (left : List ℕ) (ins outs : List Word) (n i : ℕ) where
  abbrev form : Format Line Place
  form = realize left

  -- ---- the steps of a state

  abbrev machine : Signals
  machine = machine_of ins outs

  abbrev pub step_lines : ℕ → MachineStep → List Line
  step_lines s x = step_line ins outs (s, x) ∷ []

  abbrev pub steps_at : ℕ → Place
  steps_at s = at_step machine n i s

  pub steps_turn : (s : ℕ) (xs : List MachineStep)
      → in_turn form steps_at step_lines (StepFits (length outs) n) (2 ^ length ins) s xs
      ≡ map (step_line ins outs) (enumerate_from s xs)
  steps_turn s [] = refl
  steps_turn s (x ∷ xs) = ap (λ ls. step_line ins outs (s, x) ∷ ls) (steps_turn (s + 1) xs)

  pub steps_lead : AreWords ins → AreWords outs → n < 2 ^ 32
      → LeadOn form steps_at step_lines (StepFits (length outs) n) (2 ^ length ins)
  steps_lead are_ins are_outs few s x below fits =
      subst (λ p. Runs form p (step_lines s x) (steps_at (s + 1))) (sym (step_next machine n i s below)) (
        step_good machine n i s (step_line ins outs (s, x)) x (record { line_is = refl; fits = fits }) are_ins are_outs few left,
        refl,
      )

  pub steps_read : Reads form steps_at step_lines (StepFits (length outs) n) (2 ^ length ins)
  steps_read s all below readable = go all (subst (λ p. IsReadable form p all) (step_next machine n i s below) readable)
    where
      go : (all : List Line)
          → IsReadable form (AtStep machine n i s) all
          → Read form steps_at step_lines (StepFits (length outs) n) (2 ^ length ins) s all
      go [] good = let apart = good.0.2.line_is in absurd (cc)
      go (line ∷ rest) (good, behind) =
          let (x, step) = step_back machine n i s line left good in
          record {
            item = x;
            rest = rest;
            fits = step.fits;
            all_is = ap (λ l. l ∷ rest) step.line_is;
            readable = behind;
          }

  -- ---- the replies of a state

  abbrev environment : Signals
  environment = environment_of ins outs

  abbrev pub reply_lines : ℕ → ℕ → List Line
  reply_lines s x = answer_line outs (s, x) ∷ []

  abbrev pub replies_at : ℕ → Place
  replies_at s = at_reply environment n i s

  pub replies_turn : (s : ℕ) (xs : List ℕ)
      → in_turn form replies_at reply_lines (λ x. x < n) (2 ^ length outs) s xs
      ≡ map (answer_line outs) (enumerate_from s xs)
  replies_turn s [] = refl
  replies_turn s (x ∷ xs) = ap (λ ls. answer_line outs (s, x) ∷ ls) (replies_turn (s + 1) xs)

  pub replies_lead : AreWords outs → n < 2 ^ 32
      → LeadOn form replies_at reply_lines (λ x. x < n) (2 ^ length outs)
  replies_lead are_outs few s x below leads =
      subst (λ p. Runs form p (reply_lines s x) (replies_at (s + 1))) (sym (reply_next environment n i s below)) (
        reply_good environment n i s (answer_line outs (s, x)) x (record { line_is = refl; leads = leads }) are_outs few left,
        refl,
      )

  pub replies_read : Reads form replies_at reply_lines (λ x. x < n) (2 ^ length outs)
  replies_read s all below readable = go all (subst (λ p. IsReadable form p all) (reply_next environment n i s below) readable)
    where
      go : (all : List Line)
          → IsReadable form (AtReply environment n i s) all
          → Read form replies_at reply_lines (λ x. x < n) (2 ^ length outs) s all
      go [] good = let apart = good.0.1.line_is in absurd (cc)
      go (line ∷ rest) (good, behind) =
          let (x, reply) = reply_back environment n i s line left good in
          record {
            item = x;
            rest = rest;
            fits = reply.leads;
            all_is = ap (λ l. l ∷ rest) reply.line_is;
            readable = behind;
          }

-- ---- the states of a machine

module _ (left : List ℕ) (ins outs : List Word) (n : ℕ) where
  abbrev pub row_lines : ℕ → List MachineStep → List Line
  row_lines i row = machine_state_lines ins outs (i, row)

  abbrev pub rows_at : ℕ → Place
  rows_at i = at_state (machine_of ins outs) n i

  pub rows_turn : (i : ℕ) (rows : List (List MachineStep))
      → in_turn (realize left) rows_at row_lines (RowFits (length ins) (length outs) n) n i rows
      ≡ flat_map (machine_state_lines ins outs) (enumerate_from i rows)
  rows_turn i [] = refl
  rows_turn i (row ∷ rows) = ap (λ ls. row_lines i row ++ ls) (rows_turn (i + 1) rows)

  pub steps_run : AreWords ins → AreWords outs → n < 2 ^ 32 → (i : ℕ) (row : List MachineStep)
      → RowFits (length ins) (length outs) n row
      → Runs (realize left) (at_step (machine_of ins outs) n i 0) (map (step_line ins outs) (enumerate_from 0 row)) (rows_at (i + 1))
  steps_run are_ins are_outs few i row fits =
      let m = 2 ^ length ins in
      subst
      (λ ls. Runs (realize left) (at_step (machine_of ins outs) n i 0) ls (rows_at (i + 1)))
      (steps_turn left ins outs n i 0 row)
      (subst
      (λ q. Runs (realize left) (at_step (machine_of ins outs) n i 0)
      (in_turn (realize left) (steps_at left ins outs n i) (step_lines left ins outs n i) (StepFits (length outs) n) m 0 row) q)
      (steps_done (machine_of ins outs) n i m (omega arith))
      (runs_in_turn (realize left) (steps_at left ins outs n i) (step_lines left ins outs n i) (StepFits (length outs) n) m
      (steps_lead left ins outs n i are_ins are_outs few) 0 row m (omega (arith, fits.a_step_each)) (omega arith) fits.fit))

  pub rows_lead : AreWords ins → AreWords outs → n < 2 ^ 32
      → LeadOn (realize left) rows_at row_lines (RowFits (length ins) (length outs) n) n
  rows_lead are_ins are_outs few i row below fits =
      subst (λ p. Runs (realize left) p (row_lines i row) (rows_at (i + 1))) (sym (state_next (machine_of ins outs) n i below)) (
        state_good (machine_of ins outs) n i (state_line i) i (omega (arith, below, few)) refl refl left,
        steps_run are_ins are_outs few i row fits,
      )

  pub rows_read : n < 2 ^ 32 → Reads (realize left) rows_at row_lines (RowFits (length ins) (length outs) n) n
  rows_read few i all below readable =
      go all (subst (λ p. IsReadable (realize left) p all) (state_next (machine_of ins outs) n i below) readable)
    where
      row_of : (line : Line) (rest : List Line)
          → line ≡ state_line i
          → AreRead (realize left) (steps_at left ins outs n i) (step_lines left ins outs n i) (StepFits (length outs) n) (2 ^ length ins) 0 rest
          → Read (realize left) rows_at row_lines (RowFits (length ins) (length outs) n) n i (line ∷ rest)
      row_of line rest is steps =
          record {
            item = steps.items;
            rest = steps.rest;
            fits = record { a_step_each = omega (arith, steps.long); fit = steps.fit };
            all_is =
                (λ j. is j ∷ steps.all_is j)
                ∙ ap (λ ls. state_line i ∷ (ls ++ steps.rest)) (steps_turn left ins outs n i 0 steps.items);
            readable =
                subst (λ p. IsReadable (realize left) p steps.rest)
                (steps_done (machine_of ins outs) n i (2 ^ length ins) (omega arith)) steps.readable;
          }

      go : (all : List Line)
          → IsReadable (realize left) (AtState (machine_of ins outs) n i) all
          → Read (realize left) rows_at row_lines (RowFits (length ins) (length outs) n) n i all
      go [] good = let apart = good.0.1 in absurd (cc)
      go (line ∷ rest) (good, behind) =
          let (k, fits, is, value_is) = numbered_back (codes "state") (rule 54 (λ l. value (word l 1) ≡ i) ∷ []) line good in
          let same : k ≡ i = sym value_is ∙ good.1.1.0 in
          row_of line rest (is ∙ ap state_line same)
          (read_in_turn (realize left) (steps_at left ins outs n i) (step_lines left ins outs n i) (StepFits (length outs) n)
          (2 ^ length ins) (steps_read left ins outs n i) (2 ^ length ins) 0 rest (omega arith) behind)

-- ---- the states of an environment

module _ (left : List ℕ) (ins outs : List Word) (n : ℕ) where
  abbrev pub play_lines : ℕ → PlayRow → List Line
  play_lines i row = state_line i ∷ play_line ins row.0 ∷ map (answer_line outs) (enumerate_from 0 row.1)

  abbrev pub plays_at : ℕ → Place
  plays_at i = at_state (environment_of ins outs) n i

  pub replies_run : AreWords outs → n < 2 ^ 32 → (i : ℕ) (row : List ℕ)
      → length row ≡ 2 ^ length outs
      → AllByRecursion (λ x. x < n) row
      → Runs (realize left) (at_reply (environment_of ins outs) n i 0) (map (answer_line outs) (enumerate_from 0 row)) (plays_at (i + 1))
  replies_run are_outs few i row long lead =
      let m = 2 ^ length outs in
      subst
      (λ ls. Runs (realize left) (at_reply (environment_of ins outs) n i 0) ls (plays_at (i + 1)))
      (replies_turn left ins outs n i 0 row)
      (subst
      (λ q. Runs (realize left) (at_reply (environment_of ins outs) n i 0)
      (in_turn (realize left) (replies_at left ins outs n i) (reply_lines left ins outs n i) (λ x. x < n) m 0 row) q)
      (replies_done (environment_of ins outs) n i m (omega arith))
      (runs_in_turn (realize left) (replies_at left ins outs n i) (reply_lines left ins outs n i) (λ x. x < n) m
      (replies_lead left ins outs n i are_outs few) 0 row m (omega (arith, long)) (omega arith) lead))

  pub plays_lead : AreWords ins → AreWords outs → n < 2 ^ 32
      → LeadOn (realize left) plays_at play_lines (PlayFits (length ins) (length outs) n) n
  plays_lead are_ins are_outs few i row below fits =
      subst (λ p. Runs (realize left) p (play_lines i row) (plays_at (i + 1))) (sym (state_next (environment_of ins outs) n i below)) (
        state_good (environment_of ins outs) n i (state_line i) i (omega (arith, below, few)) refl refl left,
        (
          play_good (environment_of ins outs) n i (play_line ins row.0) row.0 refl fits.plays are_ins left,
          replies_run are_outs few i row.1 fits.a_next_each fits.lead,
        ),
      )

  pub plays_read : Reads (realize left) plays_at play_lines (PlayFits (length ins) (length outs) n) n
  plays_read i all below readable =
      go all (subst (λ p. IsReadable (realize left) p all) (state_next (environment_of ins outs) n i below) readable)
    where
      row_of : (first second : Line) (rest : List Line) (play : ℕ)
          → first ≡ state_line i
          → second ≡ play_line ins play
          → play < 2 ^ length ins
          → AreRead (realize left) (replies_at left ins outs n i) (reply_lines left ins outs n i) (λ x. x < n) (2 ^ length outs) 0 rest
          → Read (realize left) plays_at play_lines (PlayFits (length ins) (length outs) n) n i (first ∷ second ∷ rest)
      row_of first second rest play first_is second_is set replies =
          record {
            item = (play, replies.items);
            rest = replies.rest;
            fits = record { plays = set; a_next_each = omega (arith, replies.long); lead = replies.fit };
            all_is =
                (λ j. first_is j ∷ second_is j ∷ replies.all_is j)
                ∙ ap (λ ls. state_line i ∷ play_line ins play ∷ (ls ++ replies.rest)) (replies_turn left ins outs n i 0 replies.items);
            readable =
                subst (λ p. IsReadable (realize left) p replies.rest)
                (replies_done (environment_of ins outs) n i (2 ^ length outs) (omega arith)) replies.readable;
          }

      go : (all : List Line)
          → IsReadable (realize left) (AtState (environment_of ins outs) n i) all
          → Read (realize left) plays_at play_lines (PlayFits (length ins) (length outs) n) n i all
      go [] good = let apart = good.0.1 in absurd (cc)
      go (line ∷ []) (good, played) = let apart = played.0.1.2 in absurd (cc)
      go (line ∷ second ∷ rest) (good, (played, behind)) =
          let (k, fits, is, value_is) = numbered_back (codes "state") (rule 54 (λ l. value (word l 1) ≡ i) ∷ []) line good in
          let same : k ≡ i = sym value_is ∙ good.1.1.0 in
          let (play, set, play_is) = play_back (environment_of ins outs) n i second left played in
          row_of line second rest play (is ∙ ap state_line same) play_is set
          (read_in_turn (realize left) (replies_at left ins outs n i) (reply_lines left ins outs n i) (λ x. x < n)
          (2 ^ length outs) (replies_read left ins outs n i) (2 ^ length outs) 0 rest (omega arith) behind)
