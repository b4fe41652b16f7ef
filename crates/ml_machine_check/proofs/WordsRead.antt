-- Words of valuations, as the word automaton of a task's formula reads them.
--
--   read_word   == it accepts exactly the words that satisfy the formula, or its negation where the problem is negated
--   found_sought, none_sought == so a word of a system that it accepts is one that is looked for, and where it accepts none
--                  there is none
--   not_large   == an automaton with few nodes isn't large
--   sought_of   == what is found of a system tells whether it has such a word
use Rattle.std.proofs.Common.{ℕ, ◌≡◌, ◌↔◌, ◌+◌, ◌^◌, ◌<◌, ◌≤◌, Bool, List, All, length, get_or, Option, None, Some, MatchOption, sym, subst, arith}
use Rattle.std.proofs.lemmas.List.{get_or_default, length-append}
use Rattle.ml_blocks.specs.Closures.{HasMoreThan}
use Rattle.ml_emptiness.specs.Emptiness.{IsAccepted, IsEmpty, IsFound, reads}
use Rattle.ml_emptiness.specs.Systems.{IsSystem, IsWordOn, SystemTable}
use Rattle.ml_emptiness.specs.declared.lassos.SystemLasso.{SystemLasso}
use Rattle.ml_graph.specs.Graph.{size}
use Rattle.ml_lists.specs.Lasso.{Lasso, round}
use Rattle.ml_ltl.specs.Problem.{in_sense}
use Rattle.ml_realize.specs.Realizing.{inputs_of, outputs_of, word_of}
use Rattle.ml_realize.specs.TaskGame.{IsRowOf, valuations}
use Rattle.ml_realize.proofs.RightOutcomes.{AreValuations, letters, same_letters, transitions}
use Rattle.ml_task.specs.Task.{IsTask, Task, names_of}
use Rattle.ml_trace.specs.WordAutomata.{IsAcceptedFrom, WordLasso}
use Rattle.ml_trace.specs.declared.letters.Transition.{Transition}
use Rattle.ml_word_automaton.specs.Letters as rows
use Rattle.ml_word_automaton.specs.Letters.{Automaton, IsAutomatonOf}
use Rattle.ml_word_automaton.specs.WordAutomaton.{start_block}
use Rattle.ml_word_automaton.specs.Words.{SatisfiedBy}
use Rattle.ml_word_automaton.proofs.BlockGraphs.{one_size}
use Rattle.ml_word_automaton.proofs.RowsAccept.{rows_accept}
use Rattle.ml_machine_check.specs.Checked.{most_nodes}
use Rattle.ml_machine_check.specs.private.AsSystems.{IsSought, IsSoughtIn}

module _ (t : Task) (ok : IsTask t) (negated : Bool) (a : Automaton) (row : List (List Transition))
    (is : IsAutomatonOf a t.formula negated) (is_row : IsRowOf (names_of t) a row) where
  pub read_word : (w : WordLasso ℕ) → w.loop_start < length w.word → AreValuations (inputs_of t) (outputs_of t) w
      → IsAcceptedFrom (reads row) 0 w ↔ IsSought t negated w
  read_word w loops low = (
    λ h. subst (λ u. SatisfiedBy u (in_sense negated t.formula)) same (read.0 h),
    λ h. read.1 (subst (λ u. SatisfiedBy u (in_sense negated t.formula)) (sym same) h),
  )
    where
      all_low : All (λ v. v < valuations (names_of t)) w.word
      all_low k d inside =
          subst (λ v. v < valuations (names_of t)) (get_or_default w.word k 0 d inside)
          (subst (λ n. get_or w.word k 0 < 2 ^ n) (sym (length-append t.inputs t.outputs)) (low k inside))

      in_row : All (λ v. v < length row) w.word
      in_row k d inside = subst (λ n. get_or w.word k d < n) (sym is_row.one_each) (all_low k d inside)

      same : rows.word_of (letters (names_of t) a row is_row) w ≡ word_of (names_of t) w
      same = λ j. record { word = same_letters (names_of t) a row is_row w.word all_low j; loop_start = w.loop_start }

      read : IsAcceptedFrom (rows.leads_by row) 0 w
          ↔ SatisfiedBy (rows.word_of (letters (names_of t) a row is_row) w) (in_sense negated t.formula)
      read =
          rows_accept t.formula negated a (letters (names_of t) a row is_row) row w ok.is_linear is
          (transitions (names_of t) a row is_row) loops in_row

  module _ (s : SystemTable) (sys : IsSystem (2 ^ (inputs_of t + outputs_of t)) s) where
    -- the letters of a word of the system are valuations
    low_letters : (lasso : Lasso) (w : WordLasso ℕ) → IsWordOn s lasso w → AreValuations (inputs_of t) (outputs_of t) w
    low_letters lasso w on k low =
        sys.read (get_or (round lasso) k 0) (record { letter = get_or w.word k 0; to = get_or (round lasso) (k + 1) 0 })
        (on.goes_on k low)

    pub found_sought : (lasso : Lasso) (w : WordLasso ℕ) → IsAccepted row s lasso w → IsSought t negated w
    found_sought lasso w found =
        (read_word w found.is_word.loops (low_letters lasso w found.is_word)).0 found.is_accepted

    pub none_sought : IsEmpty row s → (lasso : Lasso) (w : WordLasso ℕ) → IsWordOn s lasso w → ¬ (IsSought t negated w)
    none_sought empty lasso w on sought = empty lasso w (record {
      is_word = on;
      is_accepted = (read_word w on.loops (low_letters lasso w on)).1 sought;
    })

    pub sought_of : (o : Option SystemLasso)
        → MatchOption o (IsEmpty row s) (λ l. IsFound row s l.states.items l.letters.items l.loop_start)
        → IsSoughtIn t negated s o
    sought_of None empty = none_sought empty
    sought_of (Some l) found =
        let lasso : Lasso = record { entries = l.states.items; start = l.loop_start } in
        let w : WordLasso ℕ = record { word = l.letters.items; loop_start = l.loop_start } in
        (lasso, found.is_word, found_sought lasso w found)

-- an automaton with few nodes is one of which no more are reached
pub not_large : (t : Task) (negated : Bool) (a : Automaton) → IsAutomatonOf a t.formula negated
    → size a.graph ≤ most_nodes
    → ¬ (HasMoreThan (start_block t.formula negated) most_nodes)
not_large t negated a is few more =
    let low = (one_size t.formula negated a.graph most_nodes is.is_graph).0 more in absurd (omega (arith, low, few))
