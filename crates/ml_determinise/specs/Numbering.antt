-- The deterministic automaton of histories with its states numbered, as lists of moves.
--
-- A history is reached if letters of the row lead to it from the start. The histories that are reached are numbered
-- breadth first: the start, then those behind the start, letter by letter, then those behind the next one, and so on,
-- each where it comes first. (Without saying that each is reached, a history could stand there because of itself
-- alone.) A move has the priority of a step, and the number of the history that it leads to.
--
-- Of lists of values `ml_lists` has three notions (`proofs/FirstEntries`), with a test `eq` that tells equal ones:
--
--   firsts eq xs             == the values of xs, each where it stands first
--   number eq xs x           == the place where x stands first in xs
--   AreApart xs              == nothing stands in xs twice
--
--   IsReached row q h        == letters lead to h from the history of the state q alone
--   successors row h         == the histories behind h, letter by letter
--   IsNumbering row q hs     == hs are the histories that are reached, breadth first
--   move_along states hs h l == the move from h along the letter l, where hs are numbered
--   moves_of states row hs   == the moves from each of hs, letter by letter
--   IsNumbered states row q moves == the moves are those of a numbering
--   rows_of all              == the lists of moves that the vectors hold
--   HasMoreThan row q n      == more than n different histories are reached
--   automaton_of moves       == the deterministic parity automaton that has these moves
--   most_histories states    == how many histories over so many states there are at most
--   IsWord row w             == the letters of w are numbers of letters of the row
--   NumberedSameWords        == from 0 it accepts the words that the Büchi automaton accepts from q
--   OneNumbering             == histories have one numbering at most
--   SomeNumbering            == at most n histories have a numbering, or more than n are reached
--   NeverBoth                == and never both
--   HistoriesAreBounded      == no more are reached than there are at most
use Rattle.std.specs.Prelude.{ℕ, ◌≡◌, ◌+◌, ◌*◌, ◌^◌, ◌<◌, ◌≤◌, ◌⊎◌, ◌↔◌, List, [], ◌∷◌, length, map, get_or}
use Rattle.std.specs.Global.{Vec}
use Rattle.std.specs.List.{flat_map}
use Rattle.ml_lists.specs.Member.{IsMember}
use Rattle.ml_lists.proofs.FirstEntries.{AreApart, firsts, number}
use Rattle.ml_trace.specs.declared.letters.Transition.{Transition}
use Rattle.ml_trace.specs.Marks.{priority}
use Rattle.ml_trace.specs.Stack.{Item}
use Rattle.ml_trace.specs.WordAutomata.{WordLasso, IsWordLasso, IsAcceptedFrom, DetAutomaton, IsDetAcceptedFrom}
use Rattle.ml_history.specs.HistoryStep.{start}
use Rattle.ml_history.specs.HistoryOrder.{history_eq}
use Rattle.ml_history.specs.HistoryStep.{stepped, step_mark}
use Rattle.ml_determinise.specs.Histories.{StaysBelow, leads_in, neutral}
use Rattle.ml_determinise.specs.declared.moves.DetMove.{DetMove}

-- ---- what is reached

-- letters lead to h from the history of q alone
pub data IsReached (row : List (List Transition)) (q : ℕ) : List (Item ℕ) → Type 0 where
  at_start : IsReached row q (start q)
  along : (h : List (Item ℕ)) (letter : List Transition)
      → IsReached row q h
      → IsMember letter row
      → IsReached row q (stepped h letter)

-- more than n different histories are reached
pub record HasMoreThan (row : List (List Transition)) (q n : ℕ) : Type 0 where
  pub histories : List (List (Item ℕ))
  pub are_apart : AreApart histories
  pub are_reached : (h : List (Item ℕ)) → IsMember h histories → IsReached row q h
  pub are_more : n < length histories

-- ---- numbers

-- the histories behind h
abbrev pub successors : List (List Transition) → List (Item ℕ) → List (List (Item ℕ))
successors row h = map (stepped h) row

-- hs are the histories that are reached, breadth first
pub record IsNumbering (row : List (List Transition)) (q : ℕ) (hs : List (List (Item ℕ))) : Type 0 where
  pub in_order : hs ≡ firsts history_eq (start q ∷ flat_map (successors row) hs)
  pub are_reached : (h : List (Item ℕ)) → IsMember h hs → IsReached row q h

-- ---- moves

-- the move from h along a letter
abbrev pub move_along : ℕ → List (List (Item ℕ)) → List (Item ℕ) → List Transition → DetMove
move_along states hs h letter = record {
  priority = priority (neutral states) (step_mark h letter);
  to = number history_eq hs (stepped h letter);
}

-- the moves from h, letter by letter
abbrev pub moves_from : ℕ → List (List Transition) → List (List (Item ℕ)) → List (Item ℕ) → List DetMove
moves_from states row hs h = map (move_along states hs h) row

-- the moves from each of hs
abbrev pub moves_of : ℕ → List (List Transition) → List (List (Item ℕ)) → List (List DetMove)
moves_of states row hs = map (moves_from states row hs) hs

-- the lists of moves that the vectors hold
abbrev pub rows_of : List (Vec DetMove) → List (List DetMove)
rows_of all = map (λ (moves : Vec DetMove). moves.items) all

-- the moves are those of a numbering
pub record IsNumbered (states : ℕ) (row : List (List Transition)) (q : ℕ) (moves : List (List DetMove)) : Type 0 where
  pub histories : List (List (Item ℕ))
  pub is_numbering : IsNumbering row q histories
  pub moves_are : moves ≡ moves_of states row histories

-- ---- the automaton

-- move number i of the list number v
abbrev pub move_at : List (List DetMove) → ℕ → ℕ → DetMove
move_at moves v i = get_or (get_or moves v []) i (record { priority = 0; to = 0 })

-- the deterministic parity automaton that has these moves
abbrev pub automaton_of : List (List DetMove) → DetAutomaton ℕ ℕ
automaton_of moves = record {
  next = λ v i. (move_at moves v i).to;
  priority = λ v i. (move_at moves v i).priority;
}

-- ---- laws

-- the letters are numbers of letters of the row
abbrev pub IsWord : List (List Transition) → WordLasso ℕ → Type 0
IsWord row w = (i : ℕ) → IsMember i w.word → i < length row

abbrev pub NumberedSameWords : Type 0
NumberedSameWords = (states : ℕ) (row : List (List Transition)) (q : ℕ) (moves : List (List DetMove)) (w : WordLasso ℕ)
    → StaysBelow states row
    → q < states
    → IsNumbered states row q moves
    → IsWordLasso w
    → IsWord row w
    → IsAcceptedFrom (leads_in row) q w ↔ IsDetAcceptedFrom (automaton_of moves) 0 w

abbrev pub OneNumbering : Type 0
OneNumbering = (row : List (List Transition)) (q : ℕ) (hs ks : List (List (Item ℕ)))
    → IsNumbering row q hs
    → IsNumbering row q ks
    → hs ≡ ks

-- a numbering of at most n histories
pub record IsNumberingWithin (row : List (List Transition)) (q n : ℕ) (hs : List (List (Item ℕ))) : Type 0 where
  pub is_numbering : IsNumbering row q hs
  pub few : length hs ≤ n

abbrev pub SomeNumbering : Type 0
SomeNumbering = (row : List (List Transition)) (q n : ℕ)
    → ((hs : List (List (Item ℕ))) × IsNumberingWithin row q n hs) ⊎ HasMoreThan row q n

abbrev pub NeverBoth : Type 0
NeverBoth = (row : List (List Transition)) (q n : ℕ) (hs : List (List (Item ℕ)))
    → IsNumberingWithin row q n hs
    → ¬ (HasMoreThan row q n)

-- one number below `states` for each name, its parent, and one of at most `states` for each state, its last name
abbrev pub most_histories : ℕ → ℕ
most_histories states = states ^ states * (states + 1) ^ states

abbrev pub HistoriesAreBounded : Type 0
HistoriesAreBounded = (states : ℕ) (row : List (List Transition)) (q : ℕ)
    → StaysBelow states row
    → q < states
    → ¬ (HasMoreThan row q (most_histories states))
