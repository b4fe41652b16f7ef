-- Runs along a word: one behind another.
--
--   run-append             == a run and a further one make a run along both words
--   accepting-is_run       == a run with an accepting transition is a run
--   accepting-append       == an accepting run and a further run
use Rattle.std.proofs.Common.{inl, inr, Bool, true, List, [], ◌∷◌, ◌++◌, subst, sym}
use Rattle.ml_trace.specs.Run.{Run, AcceptingRun}

module _ {S L : Type 0} (leads : L → S → S → Bool → Type 0) where
  -- a run and a further one make a run along both words
  pub run-append : (u v : List L) (p q r : S) → Run leads u p q → Run leads v q r → Run leads (u ++ v) p r
  run-append [] v p q r same run = subst (λ s. Run leads v s r) (sym same) run
  run-append (l ∷ u) v p q r first run = (first.0, first.1, first.2, run-append u v first.0 q r first.3 run)

  -- a run with an accepting transition is a run
  pub accepting-is_run : (u : List L) (p q : S) → AcceptingRun leads u p q → Run leads u p q
  accepting-is_run [] p q run = absurd run
  accepting-is_run (l ∷ u) p q (inl here) = (here.0, true, here.1, here.2)
  accepting-is_run (l ∷ u) p q (inr later) = (later.0, later.1, later.2, accepting-is_run u later.0 q later.3)

  -- an accepting run and a further run make an accepting run
  pub accepting-append : (u v : List L) (p q r : S)
      → AcceptingRun leads u p q
      → Run leads v q r
      → AcceptingRun leads (u ++ v) p r
  accepting-append [] v p q r run more = absurd run
  accepting-append (l ∷ u) v p q r (inl here) more = inl (here.0, here.1, run-append u v here.0 q r here.2 more)
  accepting-append (l ∷ u) v p q r (inr later) more = inr (later.0, later.1, later.2, accepting-append u v later.0 q r later.3 more)
