-- The laws of histories: what one step keeps, and the two cycle laws, over the trace automaton and the history step
-- alone.
--
-- Let the steps along a nonempty word lead from a history back to it. Then the lowest mark of these steps tells whether
-- a state with a stack in the history has an accepting run to itself along the word, some number of times over.
--
--   entry h                == the items of the history, with the number of names in use
--   AcceptingCycle h w     == some state with a stack in h has an accepting run to itself along w, one or more times over
--   ReturnsTo h w          == the steps along the word w, which is not empty, lead from the history h back to it
--   OddMarkHasRun          == the first law: if the lowest mark is odd, there is such a run
--   RunHasOddMark          == the second law: if there is such a run, the lowest mark is odd
--   StepsAreHistories      == the start is a history, and so is what a step makes of one
--   LettersAreSets         == neither the order nor repeats of the transitions of a letter change a step
--   StepsTraceNames        == each step of a history satisfies the condition on names
--   HasState h q           == the state q has a stack in h
--   StepsFollowLetters     == behind a step those states have a stack to which a transition leads from one that had one
use Rattle.std.specs.Prelude.{◌≡◌, ◌≢◌, ◌↔◌, ℕ, Bool, true, List, []}
use Rattle.ml_lists.specs.Member.{IsMember}
use Rattle.ml_trace.specs.declared.letters.Transition.{Transition}
use Rattle.ml_trace.specs.LabelledLoop.{CyclicRun}
use Rattle.ml_trace.specs.NamesCondition.{NamesCondition}
use Rattle.ml_trace.specs.MarkOrder.{is_odd, lowest_mark}
use Rattle.ml_trace.specs.Run.{in_letter}
use Rattle.ml_trace.specs.Stack.{Item, Entry}
use Rattle.ml_history.specs.History.{IsHistory}
use Rattle.ml_history.specs.HistoryStep.{start}
use Rattle.ml_history.specs.HistoryStep.{live, stepped, step_mark}
use Rattle.ml_history.specs.HistoryRuns.{after, marks_along}

-- the items of the history, with the number of names in use
abbrev pub entry : List (Item ℕ) → Entry ℕ
entry h = record { live = live h; items = h }

-- some state with a stack in h has an accepting run to itself along w, one or more times over
abbrev pub AcceptingCycle : List (Item ℕ) → List (List Transition) → Type 0
AcceptingCycle h w = CyclicRun in_letter (entry h) w

-- the steps along the word w, which is not empty, lead from the history h back to it
pub record ReturnsTo (h : List (Item ℕ)) (w : List (List Transition)) : Type 0 where
  pub history : IsHistory h
  pub not_empty : w ≢ []
  pub returns : after h w ≡ h

-- the first law: if the lowest mark is odd, some state has an accepting run to itself
abbrev pub OddMarkHasRun : Type 0
OddMarkHasRun = (h : List (Item ℕ)) (w : List (List Transition)) → ReturnsTo h w
    → is_odd (lowest_mark (marks_along h w)) ≡ true → AcceptingCycle h w

-- the second law: if some state has an accepting run to itself, the lowest mark is odd
abbrev pub RunHasOddMark : Type 0
RunHasOddMark = (h : List (Item ℕ)) (w : List (List Transition)) → ReturnsTo h w → AcceptingCycle h w
    → is_odd (lowest_mark (marks_along h w)) ≡ true

-- the start is a history, and so is what a step makes of one
abbrev pub StepsAreHistories : Type 0
StepsAreHistories = ((q : ℕ) → IsHistory (start q))
    × ((h : List (Item ℕ)) (letter : List Transition) → IsHistory h → IsHistory (stepped h letter))

-- neither the order nor repeats of the transitions of a letter change a step or its mark
abbrev pub LettersAreSets : Type 0
LettersAreSets =
    (h : List (Item ℕ)) (l m : List Transition) → ((t : Transition) → IsMember t l → IsMember t m)
    → ((t : Transition) → IsMember t m → IsMember t l) → (stepped h l ≡ stepped h m)
    × (step_mark h l ≡ step_mark h m)

-- each step of a history satisfies the condition on names
abbrev pub StepsTraceNames : Type 0
StepsTraceNames = (h : List (Item ℕ)) (letter : List Transition) → IsHistory h
    → NamesCondition in_letter letter (step_mark h letter) (entry h) (entry (stepped h letter))

-- the state q has a stack in h
pub record HasState (h : List (Item ℕ)) (q : ℕ) : Type 0 where
  pub item : Item ℕ
  pub member : IsMember item h
  pub state_is : item.state ≡ q

-- a transition of the letter leads to q from a state that has a stack in h
pub record IsLedTo (h : List (Item ℕ)) (letter : List Transition) (q : ℕ) : Type 0 where
  pub from : ℕ
  pub accepting : Bool
  pub has_stack : HasState h from
  pub transition : in_letter letter from q accepting

-- behind a step exactly the states have a stack to which a transition leads from one that had one
abbrev pub StepsFollowLetters : Type 0
StepsFollowLetters = (h : List (Item ℕ)) (letter : List Transition) (q : ℕ)
    → HasState (stepped h letter) q ↔ IsLedTo h letter q
