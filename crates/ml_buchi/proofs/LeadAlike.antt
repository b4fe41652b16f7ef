-- Büchi automata that lead alike: where each transition of one along a letter of the word is one of the other, the other
-- accepts the word if the one does.
--
--   LeadsAlso leads other P == what leads somewhere along a letter of P does so by the other automaton
--   accepted_also           == so the words of such letters that are accepted are accepted by the other one
use Rattle.std.proofs.Common.{inl, inr, Bool, true, List, [], ◌∷◌, ◌++◌, refl}
use Rattle.ml_lists.specs.Member.{IsMember}
use Rattle.ml_lists.specs.Repeated.{repeated}
use Rattle.ml_lists.proofs.Member.{member-append_right}
use Rattle.ml_trace.specs.Run.{AcceptingRun, Run}
use Rattle.ml_trace.specs.WordAutomata.{IsAcceptedFrom, WordLasso, stem, turn}
use Rattle.ml_determinise.proofs.AlikeAutomata.{word_letter}

-- each transition of the first along a letter of P is one of the other
abbrev pub LeadsAlso : {S L : Type 0} → (L → S → S → Bool → Type 0) → (L → S → S → Bool → Type 0) → (L → Type 0) → Type 0
LeadsAlso {S} {L} leads other P = (l : L) (s t : S) (b : Bool) → P l → leads l s t b → other l s t b

module _ {S L : Type 0} (leads other : L → S → S → Bool → Type 0) (P : L → Type 0) (also : LeadsAlso leads other P) where
  run_also : (u : List L) (p q : S) → ((l : L) → IsMember l u → P l) → Run leads u p q → Run other u p q
  run_also [] p q all run = run
  run_also (l ∷ u) p q all run =
      (run.0, run.1, also l p run.0 run.1 (all l (inl refl)) run.2, run_also u run.0 q (λ k m. all k (inr m)) run.3)

  accepting_also : (u : List L) (p q : S)
      → ((l : L) → IsMember l u → P l)
      → AcceptingRun leads u p q
      → AcceptingRun other u p q
  accepting_also [] p q all run = run
  accepting_also (l ∷ u) p q all (inl here) =
      inl (here.0, also l p here.0 true (all l (inl refl)) here.1, run_also u here.0 q (λ k m. all k (inr m)) here.2)
  accepting_also (l ∷ u) p q all (inr later) =
      inr (
        later.0,
        later.1,
        also l p later.0 later.1 (all l (inl refl)) later.2,
        accepting_also u later.0 q (λ k m. all k (inr m)) later.3,
      )

  pub accepted_also : (w : WordLasso L) (q : S)
      → ((l : L) → IsMember l w.word → P l)
      → IsAcceptedFrom leads q w
      → IsAcceptedFrom other q w
  accepted_also w q all a = record {
    turns = a.turns;
    state = a.state;
    comes = run_also (stem w ++ repeated a.turns (turn w)) q a.state (λ l m. all l (word_letter l w a.turns m)) a.comes;
    rounds = a.rounds;
    once = a.once;
    returns =
        accepting_also (repeated a.rounds (turn w)) a.state a.state
        (λ l m. all l (word_letter l w a.rounds (member-append_right l (stem w) (repeated a.rounds (turn w)) m)))
        a.returns;
  }
