-- Loops of marked steps.
--
-- A path is a list of steps, each with a letter and a mark, of which each satisfies the condition on names from one
-- entry to the next. A loop leads from an entry back to it. Let each name in use stand in some item of this entry. If
-- the lowest mark of the loop is green, the green name is traced round the loop for ever, and is green again and again:
-- so some item has a run to its own state that accepts. Nothing else is asked of how entries and marks were made; where
-- the green name stood in no item there would be nothing to trace, and so no run.
--
--   MarkedStep               == the letter and the mark of a step
--   letters, marks           == those of a list of steps
--   IsPath leads steps e f   == the steps lead from the entry e to the entry f
--   CyclicRun leads e w      == some item of e has an accepting run to its own state along w, one or more times over
--   OddLoopHasRun            == the theorem, for letters of the trace automaton
use Rattle.std.specs.Prelude.{◌≡◌, ℕ, ◌≤◌, Bool, true, List, [], ◌∷◌, map}
use Rattle.ml_lists.specs.Member.{IsMember}
use Rattle.ml_lists.specs.Repeated.{repeated}
use Rattle.ml_trace.specs.declared.letters.Transition.{Transition}
use Rattle.ml_trace.specs.declared.marks.Mark.{Mark}
use Rattle.ml_trace.specs.MarkOrder.{lowest_mark, is_odd}
use Rattle.ml_trace.specs.NamesCondition.{NamesCondition, EachNameStands}
use Rattle.ml_trace.specs.Run.{AcceptingRun, in_letter}
use Rattle.ml_trace.specs.Stack.{Item, Entry}

-- the letter and the mark of a step
pub record MarkedStep (L : Type 0) : Type 0 where
  pub letter : L
  pub mark : Mark

-- the letters of a list of steps: a word
abbrev pub letters : {L : Type 0} → List (MarkedStep L) → List L
letters steps = map (λ s. s.letter) steps

-- the marks of a list of steps
abbrev pub marks : {L : Type 0} → List (MarkedStep L) → List Mark
marks steps = map (λ s. s.mark) steps

-- the steps lead from the entry e to the entry f, each with the condition on names
abbrev pub IsPath : {S L : Type 0} → (L → S → S → Bool → Type 0) → List (MarkedStep L) → Entry S → Entry S → Type 0
IsPath leads [] e f = e ≡ f
IsPath {S} leads (s ∷ steps) e f = (next : Entry S) × NamesCondition leads s.letter s.mark e next × IsPath leads steps next f

-- some item of e has an accepting run to its own state along w, one or more times over
pub record CyclicRun {S L : Type 0} (leads : L → S → S → Bool → Type 0) (e : Entry S) (w : List L) : Type 0 where
  pub item : Item S
  pub member : IsMember item e.items
  pub times : ℕ
  pub once : 1 ≤ times
  pub run : AcceptingRun leads (repeated times w) item.state item.state

-- On a loop of steps that satisfy the condition on names, from an entry of which each name in use stands in some item,
-- and whose lowest mark is odd, some item has an accepting run to its own state. (Said of letters of the trace
-- automaton; `proofs/OddLoop` has it for any automaton.)
abbrev pub OddLoopHasRun : Type 0
OddLoopHasRun =
    (steps : List (MarkedStep (List Transition))) (e : Entry ℕ) → IsPath in_letter steps e e → EachNameStands e → is_odd (lowest_mark (marks steps)) ≡ true → CyclicRun in_letter e (letters steps)
