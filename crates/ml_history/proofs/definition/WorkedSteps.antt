-- Worked steps, computed from the definition.
--
--   red_loses_all   == a step with no transition from the start: nothing is left, and the mark is Red 0
--   green_start     == an accepting transition from the start to itself: the start again, and the mark is Green 0
--   made            == the history 5: 0; 6: 0 1; 7: 0 2, made from the start at 5 in two steps
--   red_renumbers   == with 5 to 5 and 7 to 7, none accepting: 5: 0; 7: 0 1, and Red 1
--   green_cuts      == from 5: 0; 6: 0 1 with 5 to 5, accepting, and 6 to 6: 5: 0; 6: 0, and Green 0
--   older_wins      == with 5 to 5, 6 to 8 and 7 to 8, none accepting: 5: 0; 8: 0 1, and Red 2
use Rattle.std.proofs.Common.{ℕ, ◌≡◌, true, false, List, [], ◌∷◌, refl}
use Rattle.ml_trace.specs.declared.letters.Transition.{Transition}
use Rattle.ml_trace.specs.declared.marks.Mark.TheVariants.{Red, Green}
use Rattle.ml_trace.specs.Stack.{Item}
use Rattle.ml_history.specs.HistoryStep.{start}
use Rattle.ml_history.specs.HistoryStep.{stepped, step_mark}
use Rattle.ml_history.specs.HistoryRuns.{after}

-- a transition that does not accept, and one that does
abbrev plain : ℕ → ℕ → Transition
plain p q = record { from = p; to = q; accepting = false }

abbrev accepts : ℕ → ℕ → Transition
accepts p q = record { from = p; to = q; accepting = true }

abbrev item : ℕ → List ℕ → Item ℕ
item q s = record { state = q; stack = s }

-- nothing is left, and the mark is Red 0
red_loses_all : (stepped (start 0) [] ≡ []) × (step_mark (start 0) [] ≡ Red 0)
red_loses_all = (refl, refl)

-- the start again, and the mark is Green 0
green_start : (stepped (start 0) (accepts 0 0 ∷ []) ≡ start 0) × (step_mark (start 0) (accepts 0 0 ∷ []) ≡ Green 0)
green_start = (refl, refl)

-- the history 5: 0; 6: 0 1; 7: 0 2
abbrev three : List (Item ℕ)
three = item 5 (0 ∷ []) ∷ (item 6 (0 ∷ (1 ∷ [])) ∷ (item 7 (0 ∷ (2 ∷ [])) ∷ []))

-- it is made from the start at 5 in two steps
made : after (start 5) ((plain 5 5 ∷ (accepts 5 6 ∷ [])) ∷ ((plain 5 5 ∷ (plain 6 6 ∷ (accepts 5 7 ∷ []))) ∷ []))
    ≡ three
made = refl

-- a lost name: later ones move up
red_renumbers : (stepped three (plain 5 5 ∷ (plain 7 7 ∷ [])) ≡ item 5 (0 ∷ []) ∷ (item 7 (0 ∷ (1 ∷ [])) ∷ []))
    × (step_mark three (plain 5 5 ∷ (plain 7 7 ∷ [])) ≡ Red 1)
red_renumbers = (refl, refl)

-- two offers to one state: the older name wins
older_wins : (stepped three (plain 5 5 ∷ (plain 6 8 ∷ (plain 7 8 ∷ [])))
    ≡ item 5 (0 ∷ []) ∷ (item 8 (0 ∷ (1 ∷ [])) ∷ []))
    × (step_mark three (plain 5 5 ∷ (plain 6 8 ∷ (plain 7 8 ∷ []))) ≡ Red 2)
older_wins = (refl, refl)

-- a name that only stands inside stacks: they are cut behind it
green_cuts :
    (stepped (item 5 (0 ∷ []) ∷ item 6 (0 ∷ 1 ∷ []) ∷ []) (accepts 5 5 ∷ plain 6 6 ∷ [])
    ≡ item 5 (0 ∷ []) ∷ item 6 (0 ∷ []) ∷ [])
    × (step_mark (item 5 (0 ∷ []) ∷ item 6 (0 ∷ 1 ∷ []) ∷ []) (accepts 5 5 ∷ plain 6 6 ∷ []) ≡ Green 0)
green_cuts = (refl, refl)
