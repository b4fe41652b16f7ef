-- The states of an environment, as they are read one after the other.
--
--   RepliesTo at xs rest   == the next states xs of a state were read, and the rest is left
--   replies_begin, replies_more, replies_done == none yet; one more; all of the state
--   replies_refused        == where the next one is refused, the state is
--   play_refused, row_refused == so where its `play` is refused, and what stands behind it
--   PlaysTo, plays_begin, plays_more, plays_refused == so with the rows of an environment
--   rows_last, rows_count, turned == one more row; how many there are; the lines of the rows are those of the environment
use Rattle.std.proofs.Common.{◌≡◌, ℕ, ◌<◌, ◌≤◌, ◌+◌, ◌^◌, List, [], ◌∷◌, ◌++◌, length, map, get_or, refl, sym, ap, subst, ◌∙◌, length-append, arith}
use Rattle.std.specs.List.{AllByRecursion, enumerate_from, flat_map}
use Rattle.ml_base.specs.declared.doc_refusal.DocRefusal.{DocRefusal}
use Rattle.ml_lines.specs.Lines.{Line, Word}
use Rattle.ml_lines.specs.Reading.{AreWords}
use Rattle.ml_synthesis.specs.Machines.{EnvironmentFits, EnvironmentTable}
use Rattle.ml_realize_text.specs.RealizeRules.{AtPlay, AtReply, AtState, Signals, at_reply, at_state, realize}
use Rattle.ml_realize_text.specs.RealizeText.{answer_line, environment_state_lines, play_line, state_line}
use Rattle.ml_realize_text.specs.private.Reads.{Goes, PlayFits, PlayRow, TellsFault, environment_of, played_lines}
use Rattle.ml_realize_text.specs.declared.rest.Rest.{Rest}
use Rattle.ml_realize_text.proofs.BodyLines.{play_good, state_good}
use Rattle.ml_realize_text.proofs.BodyRows.{play_lines, plays_at, plays_lead, replies_at, replies_lead, replies_turn, reply_lines}
use Rattle.ml_realize_text.proofs.Going.{goes_begin, goes_on, told_behind}
use Rattle.ml_realize_text.proofs.InTurn.{in_turn, runs_in_turn}
use Rattle.ml_lists.proofs.AllOf.{all_last}
use Rattle.ml_realize_text.proofs.ListedLines.{lines_more, rows_more}
use Rattle.ml_realize_text.proofs.Places.{reply_next, state_next}
use Rattle.ml_lists.specs.Readings.{Runs}
use Rattle.ml_realize_text.proofs.Tables.{environment_rows, environment_turn, lines_from, nexts_of, play_rows, plays_of, row_at, row_count, rows_back, rows_environment, table_of}

-- ---- the next states of a state

module _ (outs : List Word) (n : ℕ) where
  pub record RepliesTo (at : Rest) (xs : List ℕ) (rest : Rest) : Type 0 where
    pub goes : Goes at (map (answer_line outs) (enumerate_from 0 xs)) rest
    pub lead : AllByRecursion (λ x. x < n) xs
    pub most : length xs ≤ 2 ^ length outs

  pub replies_begin : (at : Rest) → RepliesTo at [] at
  replies_begin at = record { goes = goes_begin at; lead = tt; most = omega arith }

  pub replies_more : (at mid rest : Rest) (xs ys : List ℕ) (x : ℕ)
      → RepliesTo at xs mid
      → length xs < 2 ^ length outs
      → Goes mid (answer_line outs (length xs, x) ∷ []) rest
      → x < n
      → ys ≡ xs ++ x ∷ []
      → RepliesTo at ys rest
  replies_more at mid rest xs ys x so_far below goes leads is =
      subst (λ zs. RepliesTo at zs rest) (sym is) (record {
        goes =
            subst (λ ls. Goes at ls rest) (sym (lines_more (answer_line outs) 0 (length xs) xs x (omega arith)))
            (goes_on so_far.goes goes);
        lead = all_last (λ y. y < n) xs x so_far.lead leads;
        most = omega (arith, below, length-append xs (x ∷ []));
      })

  pub replies_refused : AreWords outs
      → n < 2 ^ 32
      → (at mid : Rest) (xs : List ℕ) (e : DocRefusal) (ins : List Word)
      → RepliesTo at xs mid
      → length xs < 2 ^ length outs
      → ((i : ℕ) → TellsFault (AtReply (environment_of ins outs) n i (length xs)) mid e)
      → (i : ℕ)
      → TellsFault (at_reply (environment_of ins outs) n i 0) at e
  replies_refused are_outs few at mid xs e ins so_far below tells i =
      let g = environment_of ins outs in
      let lines = map (answer_line outs) (enumerate_from 0 xs) in
      told_behind (at_reply g n i 0) (at_reply g n i (length xs)) at mid lines e so_far.goes
      (λ left.
      subst (λ ls. Runs (realize left) (at_reply g n i 0) ls (at_reply g n i (length xs))) (replies_turn left ins outs n i 0 xs)
      (runs_in_turn (realize left) (replies_at left ins outs n i) (reply_lines left ins outs n i) (λ x. x < n) (2 ^ length outs)
      (replies_lead left ins outs n i are_outs few) 0 xs (length xs) (omega arith) so_far.most so_far.lead))
      (subst (λ p. TellsFault p mid e) (sym (reply_next g n i (length xs) below)) (tells i))

-- ---- the row of a state

module _ (ins outs : List Word) (n : ℕ) (few : n < 2 ^ 32) (at : Rest) (i : ℕ) (e : DocRefusal) (below : i < n) where
  abbrev g : Signals
  g = environment_of ins outs

  pub first_refused : TellsFault (AtState g n i) at e → TellsFault (at_state g n i) at e
  first_refused tells = subst (λ p. TellsFault p at e) (sym (state_next g n i below)) tells

  pub play_refused : (mid : Rest)
      → Goes at (state_line i ∷ []) mid
      → TellsFault (AtPlay g n i) mid e
      → TellsFault (at_state g n i) at e
  play_refused mid goes tells =
      told_behind (at_state g n i) (AtPlay g n i) at mid (state_line i ∷ []) e goes
      (λ left.
      subst (λ p. Runs (realize left) p (state_line i ∷ []) (AtPlay g n i)) (sym (state_next g n i below))
      (state_good g n i (state_line i) i (omega (arith, below, few)) refl refl left, refl))
      tells

  pub row_refused : AreWords ins
      → (mid rest : Rest) (s : ℕ)
      → s < 2 ^ length ins
      → Goes at (state_line i ∷ []) mid
      → Goes mid (play_line ins s ∷ []) rest
      → TellsFault (at_reply g n i 0) rest e
      → TellsFault (at_state g n i) at e
  row_refused are_ins mid rest s set goes plays tells =
      play_refused mid goes
      (told_behind (AtPlay g n i) (at_reply g n i 0) mid rest (play_line ins s ∷ []) e plays
      (λ left. (play_good g n i (play_line ins s) s refl set are_ins left, refl)) tells)

-- ---- the rows of an environment

pub rows_last : (ps : List ℕ) (ns : List (List ℕ)) (p : ℕ) (r : List ℕ)
    → length ns ≡ length ps
    → play_rows (ps ++ p ∷ []) (ns ++ r ∷ []) ≡ play_rows ps ns ++ (p, r) ∷ []
rows_last [] [] p r long = refl
rows_last [] (s ∷ ns) p r long = absurd (omega (arith, long))
rows_last (q ∷ ps) [] p r long = absurd (omega (arith, long))
rows_last (q ∷ ps) (s ∷ ns) p r long = ap (λ rows. (q, s) ∷ rows) (rows_last ps ns p r (omega (arith, long)))

pub rows_count : (ps : List ℕ) (ns : List (List ℕ)) (k : ℕ)
    → length ps ≡ k
    → length ns ≡ k
    → length (play_rows ps ns) ≡ k
rows_count ps ns k plays nexts =
    let back = rows_back ps ns (nexts ∙ sym plays) in
    sym (row_count (play_rows ps ns)).0 ∙ ap length back.0 ∙ plays

module _ (ins outs : List Word) where
  abbrev pub row_of : ℕ × PlayRow → List Line
  row_of x = played_lines ins outs x.0 x.1

  abbrev pub all_rows : List PlayRow → List Line
  all_rows rows = flat_map row_of (enumerate_from 0 rows)

  listed : (next : List (List ℕ)) (i : ℕ) (rows : List PlayRow)
      → lines_from ins outs next i rows ≡ flat_map row_of (enumerate_from i rows)
  listed next i [] = refl
  listed next i (row ∷ rows) = ap (λ ls. played_lines ins outs i row ++ ls) (listed next (i + 1) rows)

  pub turned : (rows : List PlayRow)
      → all_rows rows ≡ flat_map (environment_state_lines ins outs (nexts_of rows)) (enumerate_from 0 (plays_of rows))
  turned rows =
      sym (listed (nexts_of rows) 0 rows)
      ∙ sym (environment_turn ins outs (nexts_of rows) 0 rows (λ k below.
      let e : 0 + k ≡ k = omega arith in ap (λ j. get_or (nexts_of rows) j []) e ∙ (row_at rows k).1))

module _ (ins outs : List Word) (n : ℕ) where
  pub record PlaysTo (at : Rest) (rows : List PlayRow) (rest : Rest) : Type 0 where
    pub goes : Goes at (all_rows ins outs rows) rest
    pub fit : AllByRecursion (PlayFits (length ins) (length outs) n) rows
    pub most : length rows ≤ n

  pub plays_begin : (at : Rest) → PlaysTo at [] at
  plays_begin at = record { goes = goes_begin at; fit = tt; most = omega arith }

  pub plays_more : (at mid rest : Rest) (rows more : List PlayRow) (row : PlayRow)
      → PlaysTo at rows mid
      → length rows < n
      → Goes mid (played_lines ins outs (length rows) row) rest
      → PlayFits (length ins) (length outs) n row
      → more ≡ rows ++ row ∷ []
      → PlaysTo at more rest
  plays_more at mid rest rows more row so_far below goes fits is =
      subst (λ zs. PlaysTo at zs rest) (sym is) (record {
        goes =
            subst (λ ls. Goes at ls rest) (sym (rows_more (row_of ins outs) 0 (length rows) rows row (omega arith)))
            (goes_on so_far.goes goes);
        fit = all_last (PlayFits (length ins) (length outs) n) rows row so_far.fit fits;
        most = omega (arith, below, length-append rows (row ∷ []));
      })

  module _ (are_ins : AreWords ins) (are_outs : AreWords outs) (few : n < 2 ^ 32) where
    plays_turn : (left : List ℕ) (i : ℕ) (rows : List PlayRow)
        → in_turn (realize left) (plays_at left ins outs n) (play_lines left ins outs n) (PlayFits (length ins) (length outs) n) n i rows
        ≡ flat_map (row_of ins outs) (enumerate_from i rows)
    plays_turn left i [] = refl
    plays_turn left i (row ∷ rows) = ap (λ ls. played_lines ins outs i row ++ ls) (plays_turn left (i + 1) rows)

    pub plays_refused : (at mid : Rest) (rows : List PlayRow) (e : DocRefusal)
        → PlaysTo at rows mid
        → TellsFault (at_state (environment_of ins outs) n (length rows)) mid e
        → TellsFault (at_state (environment_of ins outs) n 0) at e
    plays_refused at mid rows e so_far tells =
        let g = environment_of ins outs in
        told_behind (at_state g n 0) (at_state g n (length rows)) at mid (all_rows ins outs rows) e so_far.goes
        (λ left.
        subst (λ ls. Runs (realize left) (at_state g n 0) ls (at_state g n (length rows))) (plays_turn left 0 rows)
        (runs_in_turn (realize left) (plays_at left ins outs n) (play_lines left ins outs n) (PlayFits (length ins) (length outs) n) n
        (plays_lead left ins outs n are_ins are_outs few) 0 rows (length rows) (omega arith) so_far.most so_far.fit))
        tells

  -- what was read of an environment, as rows and as its two lists
  pub environment_lines_read : (at rest : Rest) (ps : List ℕ) (ns : List (List ℕ))
      → length ns ≡ length ps
      → PlaysTo at (play_rows ps ns) rest
      → Goes at (flat_map (environment_state_lines ins outs ns) (enumerate_from 0 ps)) rest
  environment_lines_read at rest ps ns long read =
      let back = rows_back ps ns long in
      subst (λ ls. Goes at ls rest)
      (turned ins outs (play_rows ps ns)
      ∙ (λ j. flat_map (environment_state_lines ins outs (back.1 j)) (enumerate_from 0 (back.0 j))))
      read.goes

  pub environment_fits : (at rest : Rest) (ps : List ℕ) (ns : List (List ℕ))
      → length ns ≡ length ps
      → 0 < n
      → length ps ≡ n
      → PlaysTo at (play_rows ps ns) rest
      → EnvironmentFits (length ins) (length outs) (record { plays = ps; next = ns })
  environment_fits at rest ps ns long some all read =
      let back = rows_back ps ns long in
      let rows = play_rows ps ns in
      let count : length rows ≡ n = sym (row_count rows).0 ∙ ap length back.0 ∙ all in
      subst (EnvironmentFits (length ins) (length outs)) (λ j. record { plays = back.0 j; next = back.1 j })
      (rows_environment (length ins) (length outs) rows (omega (arith, some, count))
      (subst (λ k. AllByRecursion (PlayFits (length ins) (length outs) k) rows) (sym count) read.fit))

  pub rows_read : (at rest : Rest) (e : EnvironmentTable)
      → Goes at (flat_map (environment_state_lines ins outs e.next) (enumerate_from 0 e.plays)) rest
      → length e.plays ≡ n
      → EnvironmentFits (length ins) (length outs) e
      → PlaysTo at (play_rows e.plays e.next) rest × (length (play_rows e.plays e.next) ≡ n)
  rows_read at rest e goes all fits =
      let rows = play_rows e.plays e.next in
      let back = rows_back e.plays e.next fits.a_row_each in
      let count : length rows ≡ n = sym (row_count rows).0 ∙ ap length back.0 ∙ all in
      let same : table_of rows ≡ e = λ j. record { plays = back.0 j; next = back.1 j } in (
        record {
          goes =
              subst (λ ls. Goes at ls rest)
              (sym (turned ins outs rows
              ∙ (λ j. flat_map (environment_state_lines ins outs (back.1 j)) (enumerate_from 0 (back.0 j)))))
              goes;
          fit =
              subst (λ k. AllByRecursion (PlayFits (length ins) (length outs) k) rows) count
              (environment_rows (length ins) (length outs) rows (subst (EnvironmentFits (length ins) (length outs)) (sym same) fits));
          most = omega (arith, count);
        },
        count,
      )
