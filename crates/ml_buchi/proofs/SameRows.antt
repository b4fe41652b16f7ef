-- Rows of letters that stand for the same sets: the same histories are reached, with the same numbers and moves.
--
--   same_behind    == the same histories are behind each
--   same_moves     == by the same moves
--   same_inside    == the letters have the same transitions
--   same_numbered  == the moves of a numbering of one are those of the other
--   same_stays     == and stay below the same number of states
--   many_of_row, many_of_made == more than n histories are reached along both or along neither
use Rattle.std.proofs.Common.{ℕ, zero, suc, ◌≡◌, List, [], ◌∷◌, map, refl, sym, subst}
use Rattle.std.specs.List.{flat_map}
use Rattle.ml_lists.specs.Member.{IsMember}
use Rattle.ml_lists.specs.Within.{Within}
use Rattle.ml_lists.proofs.FirstEntries.{firsts, number}
use Rattle.ml_lists.proofs.Member.{member-map}
use Rattle.ml_trace.specs.declared.letters.Transition.{Transition}
use Rattle.ml_trace.specs.Marks.{priority}
use Rattle.ml_trace.specs.Stack.{Item}
use Rattle.ml_history.specs.HistoryStep.{start}
use Rattle.ml_history.specs.HistoryOrder.{history_eq}
use Rattle.ml_history.specs.HistoryStep.{stepped}
use Rattle.ml_history.proofs.definition.LetterSets.{letters_are_sets}
use Rattle.ml_determinise.specs.Histories.{StaysBelow, letter_at, neutral}
use Rattle.ml_determinise.specs.Numbering.{HasMoreThan, IsNumbered, IsNumbering, IsReached, at_start, along, moves_from, successors}
use Rattle.ml_determinise.specs.declared.moves.DetMove.{DetMove}
use Rattle.ml_determinise.proofs.ReachedHistories.{behind}
use Rattle.ml_buchi.specs.Valuations.{SameLetters}

-- ---- what is behind a history

pub same_behind : (row made : List (List Transition)) → SameLetters row made → (h : List (Item ℕ))
    → successors row h ≡ successors made h
same_behind [] [] same h = refl
same_behind [] (m ∷ made) same h = absurd same
same_behind (l ∷ row) [] same h = absurd same
same_behind (l ∷ row) (m ∷ made) same h =
    let here = (letters_are_sets h l m same.0.to same.0.back).0 in
    let later = same_behind row made same.1 h in
    λ i. here i ∷ later i

pub same_moves : (states : ℕ) (row made : List (List Transition)) → SameLetters row made
    → (hs : List (List (Item ℕ))) (h : List (Item ℕ))
    → moves_from states row hs h ≡ moves_from states made hs h
same_moves states [] [] same hs h = refl
same_moves states [] (m ∷ made) same hs h = absurd same
same_moves states (l ∷ row) [] same hs h = absurd same
same_moves states (l ∷ row) (m ∷ made) same hs h =
    let here = letters_are_sets h l m same.0.to same.0.back in
    let later = same_moves states row made same.1 hs h in
    λ i. record { priority = priority (neutral states) (here.1 i); to = number history_eq hs (here.0 i) } ∷ later i

pub same_inside : (row made : List (List Transition)) → SameLetters row made → (v : ℕ)
    → Within (letter_at made v) (letter_at row v)
same_inside [] [] same v = λ m i. i
same_inside [] (m ∷ made) same v = absurd same
same_inside (l ∷ row) [] same v = absurd same
same_inside (l ∷ row) (m ∷ made) same zero = same.0.back
same_inside (l ∷ row) (m ∷ made) same (suc v) = same_inside row made same.1 v

pub same_stays : (states : ℕ) (row made : List (List Transition)) → SameLetters row made
    → StaysBelow states row
    → StaysBelow states made
same_stays states row made same stays v m i = stays v m (same_inside row made same v m i)

-- ---- what is reached

module _ (row made : List (List Transition)) (q : ℕ)
    (same : (h : List (Item ℕ)) → successors row h ≡ successors made h) where
  reached : (h : List (Item ℕ)) → IsReached row q h → IsReached made q h
  reached h at_start = at_start
  reached k (along h letter r m) =
      behind made q h (stepped h letter) (reached h r)
      (subst (IsMember (stepped h letter)) (same h) (member-map (stepped h) letter row m))

  numbering : (hs : List (List (Item ℕ))) → IsNumbering row q hs → IsNumbering made q hs
  numbering hs n = record {
    in_order =
        subst (λ next. hs ≡ firsts history_eq (start q ∷ flat_map next hs)) (λ i h. same h i) n.in_order;
    are_reached = λ h m. reached h (n.are_reached h m);
  }

  more : (n : ℕ) → HasMoreThan row q n → HasMoreThan made q n
  more n many = record {
    histories = many.histories;
    are_apart = many.are_apart;
    are_reached = λ h m. reached h (many.are_reached h m);
    are_more = many.are_more;
  }

-- ---- rows that stand for the same sets

module _ (row made : List (List Transition)) (q : ℕ) (same : SameLetters row made) where
  pub same_numbered : (states : ℕ) (moves : List (List DetMove))
      → IsNumbered states made q moves
      → IsNumbered states row q moves
  same_numbered states moves n = record {
    histories = n.histories;
    is_numbering = numbering made row q (λ h. sym (same_behind row made same h)) n.histories n.is_numbering;
    moves_are =
        subst (λ from. moves ≡ map from n.histories) (λ i h. sym (same_moves states row made same n.histories h) i)
        n.moves_are;
  }

  pub many_of_row : (n : ℕ) → HasMoreThan made q n → HasMoreThan row q n
  many_of_row = more made row q (λ h. sym (same_behind row made same h))

  pub many_of_made : (n : ℕ) → HasMoreThan row q n → HasMoreThan made q n
  many_of_made = more row made q (same_behind row made same)
