-- How the machine and the limits read a text together, item by item. Where texts are refused is said in `Refusals.antt`.
--
--   Outcome                                == the tree, or a cause with its offset
--   cause_at count open is_long            == the limit that an item passes behind which these are counted, if any
--   outcome g end m stack count open items == what comes of the items from this state on
use Rattle.std.specs.Prelude.{ℕ, ◌+◌, Bool, if◌then◌else◌, nat_lt, List, [], ◌∷◌, Option, Some, None}
use Rattle.ml_text.specs.Grammar.{Grammar, Mode}
use Rattle.ml_text.specs.private.Machine.{Stack, start_state, step, finish}
use Rattle.ml_text.specs.Refusals.{Item, Cause, Syntax, TooMany, TooNested, NameTooLong, open_behind_one}
use Rattle.ml_text.specs.Limits.{most_occurrences, most_open}

pub data Outcome (Tree : Type 0) : Type 0 where
  Found : Tree → Outcome Tree
  Refused : Cause → ℕ → Outcome Tree

-- what is counted behind an item: occurrences, and open parentheses; and the limit that it passes, if any
abbrev pub cause_at : ℕ → ℕ → Bool → Option Cause
cause_at count depth is_long =
    if nat_lt most_occurrences count then Some TooMany
    else (if nat_lt most_open depth then Some TooNested
    else (if is_long then Some NameTooLong else None))

abbrev pub next_outcome : {Tree S : Type 0} → (S → Outcome Tree) → Option Cause → Option S → ℕ → Outcome Tree
next_outcome next c None at = Refused Syntax at
next_outcome next (Some c) (Some s) at = Refused c at
next_outcome next None (Some s) at = next s

abbrev pub end_outcome : {Tree : Type 0} → ℕ → Option Tree → Outcome Tree
end_outcome end None = Refused Syntax end
end_outcome end (Some f) = Found f

abbrev pub outcome : (g : Grammar) → ℕ → Mode g.Tree g.Wait → Stack g → ℕ → ℕ → List (Item g.Sign) → Outcome g.Tree
outcome g end m stack count depth [] = end_outcome end (finish g m stack)
outcome g end m stack count depth (i ∷ items) =
    next_outcome
    (λ s. outcome g end s.0 s.1 (count + i.weight) (open_behind_one i.bracket depth) items)
    (cause_at (count + i.weight) (open_behind_one i.bracket depth) i.is_long)
    (step g m stack i.sign)
    i.at

-- what comes of a whole text
abbrev pub text_outcome : (g : Grammar) → ℕ → List (Item g.Sign) → Outcome g.Tree
text_outcome g end items = outcome g end (start_state g g.whole) [] 0 0 items
