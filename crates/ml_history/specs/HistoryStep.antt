-- The history step: from a history along a letter to the next history, with a mark.
--
-- A history is a list of items: states of the trace automaton, by their numbers, with nonempty stacks of names. (What
-- more it satisfies is in History; the step needs none of it.) The step has six parts, each with a name here, on
-- lists of items alone. Names are ages: they are 0 to live - 1, a smaller one is older, and the new names of a step
-- are live + x, for x the last name of a stack. Source: the history trees of Schewe with the ages of Piterman, in a form
-- of this project.
--
--   live h             == the number of names in use in h: one more than the greatest
--   offers h l         == 1. the offers: stacks for the targets of the transitions of the letter l
--   beats s t          == s is a better offer than t: it properly extends t, or is smaller where they first differ
--   best ss            == the best of the stacks ss
--   taken os           == 2. each state to which there is an offer, ascending, with the best offer
--   is_full t y        == 3. y stands in a stack of t, and no stack of t ends in y
--   cut t              ==    each stack of t, up to its first full name and with it
--   survives t y       == 4. y still stands in a cut stack
--   is_green t y       ==    y is full and survives
--   is_red r t y       ==    y, in use before the step, does not survive
--   renumbered c       == 5. the names of c, numbered from 0 in their order
--   mark_of            == 6. the mark: the least red name if it is below every green one, or the least green name
--   stepped h l        == the history after the step
--   step_mark h l      == the mark of the step
--   start q           == the history of the state q alone, with the stack 0
use Rattle.std.specs.Prelude.{ℕ, ◌+◌, ◌*◌, max, Bool, true, false, not, ◌&&◌, if◌then◌else◌, ◌==◌, nat_lt, List, [], ◌∷◌, ◌++◌, map, filter, Option, Some, None}
use Rattle.std.specs.List.{flat_map, list_any}
use Rattle.ml_lists.specs.Ascending.{ascending}
use Rattle.ml_lists.specs.Counting.{count}
use Rattle.ml_lists.specs.Least.{least}
use Rattle.ml_trace.specs.declared.letters.Transition.{Transition}
use Rattle.ml_trace.specs.declared.marks.Mark.{Mark}
use Rattle.ml_trace.specs.declared.marks.Mark.TheVariants.{Red, Green, Neutral}
use Rattle.ml_trace.specs.Stack.{Item, has, ends_in}

-- one more than the greatest name of the stack
abbrev pub above : List ℕ → ℕ
above [] = 0
above (x ∷ xs) = max (x + 1) (above xs)

-- the number of names in use: one more than the greatest
abbrev pub live : List (Item ℕ) → ℕ
live [] = 0
live (a ∷ as') = max (above a.stack) (live as')

-- ---- 1. offers

-- the last name of the stack
abbrev pub last_name : List ℕ → ℕ
last_name [] = 0
last_name (x ∷ []) = x
last_name (x ∷ (y ∷ ys)) = last_name (y ∷ ys)

-- what a stack becomes along a transition, where r names are in use: an accepting one adds the new name r + x at the
-- end, x being the last name
abbrev pub offered : ℕ → Bool → List ℕ → List ℕ
offered r accepting s = if accepting then s ++ (r + last_name s) ∷ [] else s

-- the offers of one transition: the stack of its source, where it has one, for its target
abbrev pub offers_along : List (Item ℕ) → Transition → List (Item ℕ)
offers_along h t = map (λ (a : Item ℕ). record { state = t.to; stack = offered (live h) t.accepting a.stack })
    (filter (λ (a : Item ℕ). a.state == t.from) h)

-- the offers of all transitions of a letter
abbrev pub offers : List (Item ℕ) → List Transition → List (Item ℕ)
offers h letter = flat_map (offers_along h) letter

-- ---- 2. the best offer

-- s properly extends t, or has the smaller number where they first differ
abbrev pub beats : List ℕ → List ℕ → Bool
beats [] t = false
beats (x ∷ xs) [] = true
beats (x ∷ xs) (y ∷ ys) = if x == y then beats xs ys else nat_lt x y

-- the better of two stacks
abbrev pub better : List ℕ → List ℕ → List ℕ
better s t = if beats t s then t else s

-- the best of the stacks
abbrev pub best : List (List ℕ) → List ℕ
best [] = []
best (s ∷ ss) = better s (best ss)

-- the stacks that are offered to the state q
abbrev pub offered_to : ℕ → List (Item ℕ) → List (List ℕ)
offered_to q os = map (λ (a : Item ℕ). a.stack) (filter (λ (a : Item ℕ). a.state == q) os)

-- each state to which there is an offer, ascending, with the best one
abbrev pub taken : List (Item ℕ) → List (Item ℕ)
taken os = map (λ q. record { state = q; stack = best (offered_to q os) })
    (ascending (map (λ (a : Item ℕ). a.state) os))

-- ---- 3. full names, and the cut

-- the name stands in some stack
abbrev pub stands : List (Item ℕ) → ℕ → Bool
stands t y = list_any (λ (a : Item ℕ). has y a.stack) t

-- some stack ends in the name
abbrev pub is_last : List (Item ℕ) → ℕ → Bool
is_last t y = list_any (λ (a : Item ℕ). ends_in y a.stack) t

-- the name stands in some stack, and no stack ends in it
abbrev pub is_full : List (Item ℕ) → ℕ → Bool
is_full t y = stands t y && not (is_last t y)

-- the stack up to its first name that passes the test and with it; the whole stack where none does
abbrev pub through : (ℕ → Bool) → List ℕ → List ℕ
through test [] = []
through test (x ∷ xs) = if test x then x ∷ [] else x ∷ through test xs

-- each stack, cut after its first full name
abbrev pub cut : List (Item ℕ) → List (Item ℕ)
cut t = map (λ (a : Item ℕ). record { state = a.state; stack = through (is_full t) a.stack }) t

-- ---- 4. what becomes of names

-- the name stands in a stack that was cut
abbrev pub survives : List (Item ℕ) → ℕ → Bool
survives t y = stands (cut t) y

-- a full name that survives is green
abbrev pub is_green : List (Item ℕ) → ℕ → Bool
is_green t y = is_full t y && survives t y

-- a name below r, the number of names in use before the step, that does not survive is red
abbrev pub is_red : ℕ → List (Item ℕ) → ℕ → Bool
is_red r t y = nat_lt y r && not (survives t y)

-- ---- 5. new numbers

-- the number of a name among those that stand in stacks of c: how many of them are below it
abbrev pub new_number : List (Item ℕ) → ℕ → ℕ
new_number c y = count (stands c) y

-- the names of c, numbered from 0 in their order
abbrev pub renumbered : List (Item ℕ) → List (Item ℕ)
renumbered c = map (λ (a : Item ℕ). record { state = a.state; stack = map (new_number c) a.stack }) c

-- ---- 6. the mark

-- the mark, from the least red name and the least green name
abbrev pub mark_of : Option ℕ → Option ℕ → Mark
mark_of None None = Neutral
mark_of None (Some y) = Green y
mark_of (Some x) None = Red x
mark_of (Some x) (Some y) = if nat_lt x y then Red x else Green y

-- ---- the step

-- what the targets take
abbrev pub taken_along : List (Item ℕ) → List Transition → List (Item ℕ)
taken_along h letter = taken (offers h letter)

-- the history after the step
abbrev pub stepped : List (Item ℕ) → List Transition → List (Item ℕ)
stepped h letter = renumbered (cut (taken_along h letter))

-- the mark of the step (each name is below 2r, where r names are in use before the step)
abbrev pub step_mark : List (Item ℕ) → List Transition → Mark
step_mark h letter = mark_of (least (is_red (live h) (taken_along h letter)) (2 * live h))
    (least (is_green (taken_along h letter)) (2 * live h))

-- the history of the state q alone, with the stack 0
abbrev pub start : ℕ → List (Item ℕ)
start q = record { state = q; stack = 0 ∷ [] } ∷ []
