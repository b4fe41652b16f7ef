-- The letters that were followed from one history, one more at a time.
--
--   next_letter     == the letters up to the next one
--   read_history    == what is read of a table of histories
--   has_room, no_room == where a number is below the limit, there was room; and where it isn't, there was none
--   moves_stay      == moves stay the same where the histories grow
--   partway_none    == no letter was followed
--   partway_grows   == the histories begin with those that were
--   partway_at      == so a history keeps its place
--   partway_more    == one letter more
--   partway_passed  == where there is no room for what it leads to, all letters lead to too many
use Rattle.std.proofs.Common.{ℕ, ◌≡◌, ◌+◌, ◌<◌, ◌≤◌, ◌⊎◌, inl, inr, arith, List, [], ◌∷◌, ◌++◌, length, map, get_or, take}
use Rattle.std.proofs.Common.{refl, sym, ap, ◌∙◌, subst, append_assoc, append-nil, length-append}
use Rattle.std.proofs.lemmas.Bool.{cases_lt}
use Rattle.std.proofs.lemmas.List.{get_or_append_left, get_or_default, map_push, map-append, take_more}
use Rattle.std.proofs.lemmas.Option.{slice_get_within}
use Rattle.ml_lists.specs.Added.{IsAdded}
use Rattle.ml_lists.specs.Member.{IsMember}
use Rattle.ml_lists.proofs.Added.{added_early, added_long}
use Rattle.ml_lists.proofs.FirstEntries.{AreApart, firsts, firsts-apart, firsts-front, member-firsts, number_at}
use Rattle.ml_lists.proofs.Member.{member-append_right, member-map}
use Rattle.ml_trace.specs.declared.letters.Transition.{Transition}
use Rattle.ml_trace.specs.Marks.{priority}
use Rattle.ml_trace.specs.Stack.{Item}
use Rattle.ml_history.specs.HistoryOrder.{history_eq, history_eq-decides}
use Rattle.ml_history.specs.HistoryStep.{stepped, step_mark}
use Rattle.ml_determinise.specs.Histories.{neutral}
use Rattle.ml_determinise.specs.Numbering.{successors, move_along}
use Rattle.ml_determinise.specs.private.Walk.{history_at, HasNoRoom, IsPartway}
use Rattle.ml_determinise.specs.declared.moves.DetMove.{DetMove}
use Rattle.ml_determinise.proofs.Firsts.{firsts_of_apart, firsts_new, firsts_added, number_grows}

-- the letters up to the next one
pub next_letter : (row : List (List Transition)) (i : ℕ) (letter : List Transition)
    → i < length row
    → letter ≡ get_or row i letter
    → take (i + 1) row ≡ take i row ++ letter ∷ []
next_letter row i letter low is = take_more row i letter low ∙ ap (λ l. take i row ++ l ∷ []) (sym is)

-- what is read at a place is the history there
pub read_history : (hs ks : List (List (Item ℕ))) (v : ℕ) (h : List (Item ℕ))
    → ks ≡ hs
    → v < length hs
    → h ≡ get_or ks v h
    → h ≡ history_at hs v
read_history hs ks v h same low is = is ∙ ap (λ xs. get_or xs v h) same ∙ get_or_default hs v h [] low

module _ (limit : ℕ) (hs ks : List (List (Item ℕ))) (h : List (Item ℕ)) (i : ℕ) (few : length hs ≤ limit)
    (a : IsAdded hs h ks i) where
  pub has_room : i < limit → length ks ≤ limit
  has_room low = by_place (cases_lt i (length hs))
    where
      by_place : (i < length hs) ⊎ (length hs ≤ i) → length ks ≤ limit
      by_place (inl early) = let long = ap length (added_early hs ks h i a early) in omega arith
      by_place (inr late) = let long = (added_long hs ks h i a).1 in omega arith

  pub no_room : limit ≤ i → HasNoRoom limit hs h
  no_room high = by_kind a.grown
    where
      within : i < length ks
      within = slice_get_within ks i h a.stands

      by_kind : (ks ≡ hs) ⊎ ((ks ≡ hs ++ h ∷ []) × ¬ (IsMember h hs)) → HasNoRoom limit hs h
      by_kind (inl old) = let long = ap length old in let low = within in absurd (omega arith)
      by_kind (inr new) =
          let long : length ks ≡ length hs + 1 = ap length new.0 ∙ length-append hs (h ∷ []) in
          let low = within in
          record { full = omega arith; is_new = new.1 }

-- moves stay the same where the histories grow
pub moves_stay : (states : ℕ) (h : List (Item ℕ)) (hs more : List (List (Item ℕ))) (letters : List (List Transition))
    → ((letter : List Transition) → IsMember letter letters → IsMember (stepped h letter) hs)
    → map (move_along states hs h) letters ≡ map (move_along states (hs ++ more) h) letters
moves_stay states h hs more [] listed = refl
moves_stay states h hs more (letter ∷ letters) listed =
    let here = number_grows history_eq history_eq-decides hs more (stepped h letter) (listed letter (inl refl)) in
    let later = moves_stay states h hs more letters (λ l m. listed l (inr m)) in
    λ i. record { priority = priority (neutral states) (step_mark h letter); to = sym here i } ∷ later i

module _ (states limit : ℕ) (hs : List (List (Item ℕ))) (h : List (Item ℕ)) (apart : AreApart hs) where
  themselves : firsts history_eq hs ≡ hs
  themselves = firsts_of_apart history_eq history_eq-decides hs apart

  pub partway_none : length hs ≤ limit → IsPartway states limit hs h [] hs []
  partway_none few = record {
    met = sym (ap (firsts history_eq) (append-nil hs) ∙ themselves);
    moves_are = refl;
    few = few;
  }

  module _ (letters : List (List Transition)) (ks : List (List (Item ℕ))) (moves : List DetMove)
      (p : IsPartway states limit hs h letters ks moves) where
    pub partway_grows : (more : List (List (Item ℕ))) × (ks ≡ hs ++ more)
    partway_grows =
        let front = firsts-front history_eq hs (successors letters h) in
        (front.0, p.met ∙ front.1 ∙ ap (λ xs. xs ++ front.0) themselves)

    pub partway_at : (v : ℕ) → v < length hs → (v < length ks) × (history_at ks v ≡ history_at hs v)
    partway_at v low =
        let grown = partway_grows in
        let long : length ks ≡ length hs + length grown.0 = ap length grown.1 ∙ length-append hs grown.0 in
        (omega arith, ap (λ xs. history_at xs v) grown.1 ∙ get_or_append_left hs grown.0 [] v low)

    met_listed : (letter : List Transition) → IsMember letter letters → IsMember (stepped h letter) ks
    met_listed letter m =
        subst (IsMember (stepped h letter)) (sym p.met)
        (member-firsts history_eq history_eq-decides (stepped h letter) (hs ++ successors letters h)
        (member-append_right (stepped h letter) hs (successors letters h) (member-map (stepped h) letter letters m)))

    module _ (letter : List Transition) where
      one_more : hs ++ successors (letters ++ letter ∷ []) h ≡ (hs ++ successors letters h) ++ stepped h letter ∷ []
      one_more =
          ap (λ xs. hs ++ xs) (map_push (stepped h) letters letter)
          ∙ sym (append_assoc hs (successors letters h) (stepped h letter ∷ []))

      pub partway_more : (ls : List (List Transition)) (js : List (List (Item ℕ))) (longer : List DetMove) (m : DetMove)
          → ls ≡ letters ++ letter ∷ []
          → IsAdded ks (stepped h letter) js m.to
          → m.priority ≡ priority (neutral states) (step_mark h letter)
          → length js ≤ limit
          → longer ≡ moves ++ m ∷ []
          → IsPartway states limit hs h ls js longer
      partway_more ls js longer m ls_are a prioritised few pushed =
          subst (λ xs. IsPartway states limit hs h xs js longer) (sym ls_are)
          (record { met = met ∙ ap (firsts history_eq) (sym one_more); moves_are = moves_are; few = few })
        where
          met : js ≡ firsts history_eq ((hs ++ successors letters h) ++ stepped h letter ∷ [])
          met =
              firsts_added history_eq history_eq-decides (hs ++ successors letters h) ks js (stepped h letter) m.to
              p.met a

          js_apart : AreApart js
          js_apart =
              subst AreApart (sym met)
              (firsts-apart history_eq history_eq-decides ((hs ++ successors letters h) ++ stepped h letter ∷ []))

          grown : (more : List (List (Item ℕ))) × (js ≡ ks ++ more)
          grown = by_kind a.grown
            where
              by_kind : (js ≡ ks) ⊎ ((js ≡ ks ++ stepped h letter ∷ []) × ¬ (IsMember (stepped h letter) ks))
                  → (more : List (List (Item ℕ))) × (js ≡ ks ++ more)
              by_kind (inl old) = ([], old ∙ sym (append-nil ks))
              by_kind (inr new) = (stepped h letter ∷ [], new.0)

          move_is : m ≡ move_along states js h letter
          move_is =
              let to_is = number_at history_eq history_eq-decides js js_apart m.to (stepped h letter) a.stands in
              λ i. record { priority = prioritised i; to = sym to_is i }

          earlier : map (move_along states ks h) letters ≡ map (move_along states js h) letters
          earlier =
              moves_stay states h ks grown.0 letters met_listed
              ∙ ap (λ xs. map (move_along states xs h) letters) (sym grown.1)

          moves_are : longer ≡ map (move_along states js h) (letters ++ letter ∷ [])
          moves_are =
              pushed
              ∙ ap (λ xs. xs ++ m ∷ []) (p.moves_are ∙ earlier)
              ∙ ap (λ x. map (move_along states js h) letters ++ x ∷ []) move_is
              ∙ sym (map_push (move_along states js h) letters letter)

      pub partway_passed : (ls rest : List (List Transition))
          → (letters ++ letter ∷ []) ++ rest ≡ ls
          → HasNoRoom limit ks (stepped h letter)
          → limit < length (firsts history_eq (hs ++ successors ls h))
      partway_passed ls rest whole none =
          let long : length (firsts history_eq (hs ++ successors ls h)) ≡ limit + 1 + length front.0 =
          ap length longer ∙ length-append (ks ++ stepped h letter ∷ []) front.0
          ∙ ap (λ n. n + length front.0) (length-append ks (stepped h letter ∷ []) ∙ ap (λ n. n + 1) none.full) in
          omega arith
        where
          so_far : List (List (Item ℕ))
          so_far = (hs ++ successors letters h) ++ stepped h letter ∷ []

          is_new : IsMember (stepped h letter) (hs ++ successors letters h) → ⊥
          is_new m =
              none.is_new (subst (IsMember (stepped h letter)) (sym p.met)
              (member-firsts history_eq history_eq-decides (stepped h letter) (hs ++ successors letters h) m))

          front : (more : List (List (Item ℕ)))
              × (firsts history_eq (so_far ++ successors rest h) ≡ firsts history_eq so_far ++ more)
          front = firsts-front history_eq so_far (successors rest h)

          parts : hs ++ successors ls h ≡ so_far ++ successors rest h
          parts =
              ap (λ xs. hs ++ successors xs h) (sym whole)
              ∙ ap (λ xs. hs ++ xs) (map-append (stepped h) (letters ++ letter ∷ []) rest)
              ∙ sym (append_assoc hs (successors (letters ++ letter ∷ []) h) (successors rest h))
              ∙ ap (λ xs. xs ++ successors rest h) one_more

          longer : firsts history_eq (hs ++ successors ls h) ≡ (ks ++ stepped h letter ∷ []) ++ front.0
          longer =
              ap (firsts history_eq) parts
              ∙ front.1
              ∙ ap (λ xs. xs ++ front.0)
              (firsts_new history_eq history_eq-decides (hs ++ successors letters h) (stepped h letter) is_new
              ∙ ap (λ xs. xs ++ stepped h letter ∷ []) (sym p.met))
