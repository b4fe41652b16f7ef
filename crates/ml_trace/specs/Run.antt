-- Runs along a word.
--
-- The theory is of any automaton with accepting transitions: a letter l leads from p to q, accepting or not, where
-- `leads l p q accepting` holds. A word is a list of letters, and a run along it has one transition for each letter.
--
--   Run leads w p q          == some run along w leads from p to q
--   AcceptingRun leads w p q == some run along w from p to q has an accepting transition
--   in_letter                == how a letter of the trace automaton, a set of transitions, leads
use Rattle.std.specs.Prelude.{◌≡◌, ◌⊎◌, ℕ, Bool, true, List, [], ◌∷◌}
use Rattle.ml_lists.specs.Member.{IsMember}
use Rattle.ml_trace.specs.declared.letters.Transition.{Transition}

-- some run along the word leads from p to q
abbrev pub Run : {S L : Type 0} → (L → S → S → Bool → Type 0) → List L → S → S → Type 0
Run leads [] p q = p ≡ q
Run {S} leads (l ∷ w) p q = (next : S) × (accepting : Bool) × leads l p next accepting × Run leads w next q

-- some run along the word leads from p to q, with an accepting transition
abbrev pub AcceptingRun : {S L : Type 0} → (L → S → S → Bool → Type 0) → List L → S → S → Type 0
AcceptingRun leads [] p q = ⊥
AcceptingRun {S} leads (l ∷ w) p q =
    ((next : S) × leads l p next true × Run leads w next q) ⊎ ((next : S) × (accepting : Bool) × leads l p next accepting × AcceptingRun leads w next q)

-- the letter has the transition from p to q
abbrev pub in_letter : List Transition → ℕ → ℕ → Bool → Type 0
in_letter letter p q accepts = IsMember (record { from = p; to = q; accepting = accepts }) letter
