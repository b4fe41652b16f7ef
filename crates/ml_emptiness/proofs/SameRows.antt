-- Rows whose letters have the same transitions accept the same words.
--
--   told_of == what is found over one row is found over the other
use Rattle.std.proofs.Common.{ℕ, Bool, inl, inr, List, [], ◌∷◌, Option, None, Some, MatchOption}
use Rattle.ml_trace.specs.declared.letters.Transition.{Transition}
use Rattle.ml_trace.specs.Run.{Run, AcceptingRun}
use Rattle.ml_trace.specs.WordAutomata.{IsAcceptedFrom, WordLasso}
use Rattle.ml_emptiness.specs.Emptiness.{IsEmpty, IsFound, reads}
use Rattle.ml_emptiness.specs.Systems.{SystemTable}
use Rattle.ml_emptiness.specs.private.Leaving.{AreSameLetters}
use Rattle.ml_emptiness.specs.declared.lassos.SystemLasso.{SystemLasso}

module _ {S L : Type 0} (leads more : L → S → S → Bool → Type 0) (as_well : (l : L) (p q : S) (b : Bool) → leads l p q b → more l p q b) where
  run_as : (us : List L) (p q : S) → Run leads us p q → Run more us p q
  run_as [] p q run = run
  run_as (u ∷ us) p q run = (run.0, run.1, as_well u p run.0 run.1 run.2, run_as us run.0 q run.3)

  accepting_as : (us : List L) (p q : S) → AcceptingRun leads us p q → AcceptingRun more us p q
  accepting_as [] p q run = run
  accepting_as (u ∷ us) p q (inl here) = inl (here.0, as_well u p here.0 _ here.1, run_as us here.0 q here.2)
  accepting_as (u ∷ us) p q (inr later) =
      inr (later.0, later.1, as_well u p later.0 later.1 later.2, accepting_as us later.0 q later.3)

  accepted_as : (q : S) (w : WordLasso L) → IsAcceptedFrom leads q w → IsAcceptedFrom more q w
  accepted_as q w a = record {
    turns = a.turns;
    state = a.state;
    comes = run_as _ q a.state a.comes;
    rounds = a.rounds;
    once = a.once;
    returns = accepting_as _ a.state a.state a.returns;
  }

module _ (row all : List (List Transition)) (s : SystemTable) (same : AreSameLetters row all) where
  to_row : (l p q : ℕ) (b : Bool) → reads all l p q b → reads row l p q b
  to_row l p q b h = (same.same l (record { from = p; to = q; accepting = b })).0 h

  to_all : (l p q : ℕ) (b : Bool) → reads row l p q b → reads all l p q b
  to_all l p q b h = (same.same l (record { from = p; to = q; accepting = b })).1 h

  pub told_of : (o : Option SystemLasso)
      → MatchOption o (IsEmpty all s) (λ l. IsFound all s l.states.items l.letters.items l.loop_start)
      → MatchOption o (IsEmpty row s) (λ l. IsFound row s l.states.items l.letters.items l.loop_start)
  told_of None empty = λ lasso w a. empty lasso w (record {
    is_word = a.is_word;
    is_accepted = accepted_as (reads row) (reads all) to_all 0 w a.is_accepted;
  })
  told_of (Some l) found = record {
    is_word = found.is_word;
    is_accepted = accepted_as (reads all) (reads row) to_row 0 _ found.is_accepted;
  }
