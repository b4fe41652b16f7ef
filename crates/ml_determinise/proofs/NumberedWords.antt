-- The numbered automaton accepts the words that the automaton of histories does, and so those of the Büchi automaton.
--
-- A history and the number that it has go alike.
--
--   starts          == the start has the number 0
--   inside          == what is behind a numbered history along a letter is numbered
--   move_is         == the move that is read at a number and a letter is that of its history
--   numbered_same_words == the law
use Rattle.std.proofs.Common.{ℕ, ◌≡◌, ◌<◌, ◌↔◌, List, [], ◌∷◌, length, get_or, Some, sym, ap, ◌∙◌, subst, inr}
use Rattle.std.specs.List.{flat_map, slice_get}
use Rattle.std.proofs.lemmas.List.{get_or-map}
use Rattle.std.proofs.lemmas.Option.{slice_get_within, get_or_from_slice_get}
use Rattle.ml_lists.specs.Member.{IsMember}
use Rattle.ml_lists.proofs.FirstEntries.{AreApart, apart_places, firsts-apart, member-firsts, number_is}
use Rattle.ml_lists.proofs.Member.{member-flat_map, member-map, member_of_get, place-member}
use Rattle.ml_trace.specs.declared.letters.Transition.{Transition}
use Rattle.ml_trace.specs.Stack.{Item}
use Rattle.ml_trace.specs.WordAutomata.{WordLasso, IsDetAcceptedFrom}
use Rattle.ml_history.specs.HistoryStep.{start}
use Rattle.ml_history.specs.HistoryOrder.{history_eq, history_eq-decides}
use Rattle.ml_history.specs.HistoryStep.{stepped}
use Rattle.ml_determinise.specs.Histories.{histories_of, letter_at}
use Rattle.ml_determinise.specs.Numbering.{IsNumbering, IsNumbered, NumberedSameWords, IsWord, automaton_of, move_along, move_at, moves_from, moves_of, successors}
use Rattle.ml_determinise.specs.declared.moves.DetMove.{DetMove}
use Rattle.ml_determinise.proofs.AlikeAutomata.{GoAlike, accepted_alike}
use Rattle.ml_determinise.proofs.SameWords.{same_words}

some_same : {X : Type 0} {x y : X} → Some x ≡ Some y → x ≡ y
some_same e = cc

-- ---- what a numbering has

module _ (row : List (List Transition)) (q : ℕ) (hs : List (List (Item ℕ))) (n : IsNumbering row q hs) where
  pub apart : AreApart hs
  apart =
      subst AreApart (sym n.in_order)
      (firsts-apart history_eq history_eq-decides (start q ∷ flat_map (successors row) hs))

  pub starts : slice_get hs 0 ≡ Some (start q)
  starts = ap (λ ks. slice_get ks 0) n.in_order

  -- what the start and these lead to is numbered
  pub listed : (h : List (Item ℕ)) → IsMember h (start q ∷ flat_map (successors row) hs) → IsMember h hs
  listed h m =
      subst (IsMember h) (sym n.in_order)
      (member-firsts history_eq history_eq-decides h (start q ∷ flat_map (successors row) hs) m)

  pub inside : (h : List (Item ℕ)) (letter : List Transition)
      → IsMember h hs
      → IsMember letter row
      → IsMember (stepped h letter) hs
  inside h letter m i =
      listed (stepped h letter) (inr (member-flat_map (successors row) h (stepped h letter) hs m
      (member-map (stepped h) letter row i)))

-- ---- moves

module _ (states : ℕ) (row : List (List Transition)) (hs : List (List (Item ℕ))) where
  pub move_is : (v i : ℕ) (h : List (Item ℕ))
      → slice_get hs v ≡ Some h
      → i < length row
      → move_at (moves_of states row hs) v i ≡ move_along states hs h (letter_at row i)
  move_is v i h at low =
      ap (λ ms. get_or ms i (record { priority = 0; to = 0 }))
      (get_or-map (moves_from states row hs) hs v [] [] (slice_get_within hs v h at)
      ∙ ap (moves_from states row hs) (get_or_from_slice_get hs v h [] at))
      ∙ get_or-map (move_along states hs h) row i [] (record { priority = 0; to = 0 }) low

-- ---- the law

module _ (states : ℕ) (row : List (List Transition)) (q : ℕ) (moves : List (List DetMove))
    (m : IsNumbered states row q moves) where
  abbrev hs : List (List (Item ℕ))
  hs = m.histories

  -- the number v is that of the history h
  abbrev HasNumber : List (Item ℕ) → ℕ → Type 0
  HasNumber h v = slice_get hs v ≡ Some h

  abbrev IsOf : ℕ → List (Item ℕ) → Type 0
  IsOf v h = HasNumber h v

  abbrev InRow : ℕ → Type 0
  InRow i = i < length row

  pub read : (v i : ℕ) (h : List (Item ℕ))
      → HasNumber h v
      → InRow i
      → move_at moves v i ≡ move_along states hs h (letter_at row i)
  read v i h at low = ap (λ ms. move_at ms v i) m.moves_are ∙ move_is states row hs v i h at low

  pub next_has : (h : List (Item ℕ)) (v i : ℕ)
      → HasNumber h v
      → InRow i
      → HasNumber (stepped h (letter_at row i)) ((automaton_of moves).next v i)
  next_has h v i at low =
      ap (λ (k : DetMove). slice_get hs k.to) (read v i h at low)
      ∙ number_is history_eq history_eq-decides hs (stepped h (letter_at row i))
      (inside row q hs m.is_numbering h (letter_at row i) (member_of_get hs v h at) (place-member row i [] low))

  one_number : (h : List (Item ℕ)) (v w : ℕ) → HasNumber h v → HasNumber h w → v ≡ w
  one_number h v w = apart_places hs (apart row q hs m.is_numbering) v w h

  to_numbers : GoAlike (histories_of states row) (automaton_of moves) HasNumber InRow
  to_numbers = record {
    next = next_has;
    priority = λ h v i at low. sym (ap (λ (k : DetMove). k.priority) (read v i h at low));
    one = one_number;
  }

  to_histories : GoAlike (automaton_of moves) (histories_of states row) IsOf InRow
  to_histories = record {
    next = λ v h i at low. next_has h v i at low;
    priority = λ v h i at low. ap (λ (k : DetMove). k.priority) (read v i h at low);
    one = λ v h k at same. some_same (sym at ∙ same);
  }

  pub same_acceptance : (w : WordLasso ℕ)
      → IsWord row w
      → IsDetAcceptedFrom (histories_of states row) (start q) w ↔ IsDetAcceptedFrom (automaton_of moves) 0 w
  same_acceptance w letters = (
    accepted_alike (histories_of states row) (automaton_of moves) HasNumber InRow to_numbers w (start q) 0 letters
        (starts row q hs m.is_numbering),
    accepted_alike (automaton_of moves) (histories_of states row) IsOf InRow to_histories w 0 (start q) letters
        (starts row q hs m.is_numbering),
  )

pub numbered_same_words : NumberedSameWords
numbered_same_words states row q moves w stays low m is_lasso letters =
    let one = same_words states row q w stays low is_lasso in
    let two = same_acceptance states row q moves m w letters in
    (λ a. two.0 (one.0 a), λ a. one.1 (two.1 a))
