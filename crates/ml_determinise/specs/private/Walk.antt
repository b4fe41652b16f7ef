-- The walk that numbers histories.
--
--   history_at hs v     == the history at the place v of hs
--   FitAll top h letters == the marks of the steps from h along the letters have numbers below top
--   HasNoRoom limit hs h == h is a new one, and there are as many as are allowed
--   IsPartway           == some letters were followed from a history
--   IsWalked            == all letters were followed from the histories that have moves
use Rattle.std.specs.Prelude.{ℕ, ◌≡◌, ◌≤◌, List, [], ◌++◌, length, map, get_or}
use Rattle.ml_lists.specs.Member.{IsMember}
use Rattle.ml_lists.proofs.FirstEntries.{firsts}
use Rattle.ml_lists.proofs.BreadthFirstSearch.{Looked}
use Rattle.ml_trace.specs.declared.letters.Transition.{Transition}
use Rattle.ml_trace.specs.MarkOrder.{FitsBelow}
use Rattle.ml_trace.specs.Stack.{Item}
use Rattle.ml_history.specs.HistoryStep.{start}
use Rattle.ml_history.specs.HistoryOrder.{history_eq}
use Rattle.ml_history.specs.HistoryStep.{step_mark}
use Rattle.ml_determinise.specs.Numbering.{IsReached, successors, move_along, moves_from}
use Rattle.ml_determinise.specs.declared.moves.DetMove.{DetMove}

-- the history at a place
abbrev pub history_at : List (List (Item ℕ)) → ℕ → List (Item ℕ)
history_at hs v = get_or hs v []

-- the marks of the steps from h along the letters have numbers below top
abbrev pub FitAll : ℕ → List (Item ℕ) → List (List Transition) → Type 0
FitAll top h letters = (letter : List Transition) → IsMember letter letters → FitsBelow top (step_mark h letter)

-- h is a new one, and there are as many as are allowed
pub record HasNoRoom (limit : ℕ) (hs : List (List (Item ℕ))) (h : List (Item ℕ)) : Type 0 where
  pub full : length hs ≡ limit
  pub is_new : ¬ (IsMember h hs)

-- these letters were followed from h, where the histories were hs and are now ks
pub record IsPartway (states limit : ℕ) (hs : List (List (Item ℕ))) (h : List (Item ℕ))
    (letters : List (List Transition)) (ks : List (List (Item ℕ))) (moves : List DetMove) : Type 0 where
  pub met : ks ≡ firsts history_eq (hs ++ successors letters h)
  pub moves_are : moves ≡ map (move_along states ks h) letters
  pub few : length ks ≤ limit

-- all letters were followed from the histories that have moves
pub record IsWalked (states : ℕ) (row : List (List Transition)) (q limit : ℕ) (hs : List (List (Item ℕ)))
    (all : List (List DetMove)) : Type 0 where
  pub front : List (List (Item ℕ))
  pub back : List (List (Item ℕ))
  pub histories_are : hs ≡ front ++ back
  pub looked : Looked history_eq (successors row) (start q) (IsReached row q) front back
  pub moves_are : all ≡ map (moves_from states row hs) front
  pub few : length hs ≤ limit
