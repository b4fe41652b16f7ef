-- The game over the histories of a Büchi automaton, whose states are numbered.
--
-- There is a letter for each valuation.
--
--   by_numbers, by_histories == a history goes as its number does
--   same_positions  == so the game over histories has more than n positions exactly if the game over their numbers has
--   is_automaton    == the moves are those of an automaton over valuations
--   is_accessible   == each of whose states is reached
--   many_positions  == many histories make more positions
--   starts_many     == the start is one
use Rattle.std.proofs.Common.{ℕ, suc, ◌≡◌, ◌+◌, ◌*◌, ◌/◌, ◌%◌, ◌^◌, ◌<◌, ◌≤◌, List, [], ◌∷◌, ◌++◌, Some, All, length, get_or, sym, ap, subst, ◌∙◌, arith, ⊎_elim}
use Rattle.std.specs.List.{slice_get}
use Rattle.std.proofs.Math.Nat.{div-lt_iff_lt-mul, lt-mul-div-succ, mod-add-div, mod-lt, mul_comm, mul-le-mul_left, mul-mod_right}
use Rattle.std.proofs.lemmas.List.{get_or-map, length-map}
use Rattle.std.proofs.lemmas.List.Elements.{All-append, All-cons, All-nil}
use Rattle.std.proofs.lemmas.Nat.{pow-add, pow_pos}
use Rattle.std.proofs.lemmas.Option.{get_or_from_slice_get, slice_get-get_or, slice_get_within}
use Rattle.ml_lists.specs.Member.{IsMember}
use Rattle.ml_lists.proofs.FirstEntries.{AreApart, apart_places, number, number_at, number_is, one_number}
use Rattle.ml_lists.proofs.Member.{Place, member-place, member_of_get, place-member}
use Rattle.ml_trace.specs.Stack.{Item}
use Rattle.ml_trace.specs.WordAutomata.{state_behind}
use Rattle.ml_trace.specs.declared.letters.Transition.{Transition}
use Rattle.ml_trace.proofs.Priorities.{priority-most}
use Rattle.ml_history.specs.HistoryStep.{start}
use Rattle.ml_history.specs.HistoryOrder.{history_eq, history_eq-decides}
use Rattle.ml_history.specs.HistoryStep.{step_mark, stepped}
use Rattle.ml_determinise.specs.Histories.{StaysBelow, histories_of, letter_at, neutral}
use Rattle.ml_determinise.specs.Numbering.{HasMoreThan, IsNumbered, IsReached, along, at_start, automaton_of, move_at, move_along, moves_from}
use Rattle.ml_determinise.specs.declared.moves.DetMove.{DetMove}
use Rattle.ml_determinise.proofs.NumberedWords as numbered
use Rattle.ml_determinise.proofs.ReachedHistories.{reached_fits}
use Rattle.ml_synthesis.specs.Game as game
use Rattle.ml_synthesis.specs.Game.{HasMorePositions, Position, at_state, with_inputs}
use Rattle.ml_synthesis.specs.Machines.{valuation}
use Rattle.ml_synthesis.specs.Synthesis.{IsAccessible, IsAutomaton}
use Rattle.ml_synthesis.proofs.Positions.{IsValue, length-listed, listed, listed-apart, listed-member}
use Rattle.ml_synthesis.proofs.Runs.{state_behind-append}
use Rattle.ml_realize.proofs.GameImages.{Renames, more_positions}

abbrev History : Type 0
History = List (Item ℕ)

module _ (states : ℕ) (row : List (List Transition)) (i o : ℕ) (one_each : length row ≡ 2 ^ (i + o)) where
  sets : 0 < 2 ^ i
  sets = pow_pos i

  in_row : (v : ℕ) → v < 2 ^ (i + o) → v < length row
  in_row v low = omega (arith, low, one_each)

  -- ---- numbers for histories

  module _ (moves : List (List DetMove)) (m : IsNumbered states row 0 moves) where
    abbrev hs : List History
    hs = m.histories

    apart : AreApart hs
    apart = numbered.apart row 0 hs m.is_numbering

    starts : slice_get hs 0 ≡ Some (start 0)
    starts = numbered.starts row 0 hs m.is_numbering

    at : (q : ℕ) → q < length hs → slice_get hs q ≡ Some (get_or hs q [])
    at q low = slice_get-get_or hs q [] low

    goes : (q v : ℕ) (h : History) → slice_get hs q ≡ Some h → v < 2 ^ (i + o)
        → move_at moves q v ≡ move_along states hs h (letter_at row v)
    goes q v h is low = numbered.read states row 0 moves m q v h is (in_row v low)

    leads : (q v : ℕ) (h : History) → slice_get hs q ≡ Some h → v < 2 ^ (i + o)
        → slice_get hs (move_at moves q v).to ≡ Some (stepped h (letter_at row v))
    leads q v h is low = numbered.next_has states row 0 moves m h q v is (in_row v low)

    by_numbers : Renames (histories_of states row) (automaton_of moves) (start 0) 0 i o
    by_numbers = record {
      Has = λ h. IsMember h hs;
      name = number history_eq hs;
      starts = member_of_get hs 0 (start 0) starts;
      goes_on = λ h v has low.
          numbered.inside row 0 hs m.is_numbering h (letter_at row v) has (place-member row v [] (in_row v low));
      begins = number_at history_eq history_eq-decides hs apart 0 (start 0) starts;
      next = λ h v has low.
          sym (ap (λ (k : DetMove). k.to)
          (goes (number history_eq hs h) v h (number_is history_eq history_eq-decides hs h has) low));
      priority = λ h v has low.
          sym (ap (λ (k : DetMove). k.priority)
          (goes (number history_eq hs h) v h (number_is history_eq history_eq-decides hs h has) low));
      one = λ h k here there same. one_number history_eq history_eq-decides hs h k here there same;
    }

    by_histories : Renames (automaton_of moves) (histories_of states row) 0 (start 0) i o
    by_histories = record {
      Has = λ q. q < length hs;
      name = λ q. get_or hs q [];
      starts = slice_get_within hs 0 (start 0) starts;
      goes_on = λ q v has low.
          slice_get_within hs (move_at moves q v).to (stepped (get_or hs q []) (letter_at row v))
          (leads q v (get_or hs q []) (at q has) low);
      begins = get_or_from_slice_get hs 0 (start 0) [] starts;
      next = λ q v has low.
          get_or_from_slice_get hs (move_at moves q v).to (stepped (get_or hs q []) (letter_at row v)) []
          (leads q v (get_or hs q []) (at q has) low);
      priority = λ q v has low. ap (λ (k : DetMove). k.priority) (goes q v (get_or hs q []) (at q has) low);
      one = λ q k here there same.
          apart_places hs apart q k (get_or hs q []) (at q here) (at k there ∙ ap Some (sym same));
    }

    pub to_numbers : (n : ℕ)
        → HasMorePositions (histories_of states row) (start 0) (neutral states) i o n
        → HasMorePositions (automaton_of moves) 0 (neutral states) i o n
    to_numbers n more =
        more_positions (histories_of states row) (automaton_of moves) (start 0) 0 i o by_numbers (neutral states) n more

    pub to_histories : (n : ℕ)
        → HasMorePositions (automaton_of moves) 0 (neutral states) i o n
        → HasMorePositions (histories_of states row) (start 0) (neutral states) i o n
    to_histories n more =
        more_positions (automaton_of moves) (histories_of states row) 0 (start 0) i o by_histories (neutral states) n more

    -- ---- the automaton over valuations

    size_is : length moves ≡ length hs
    size_is = ap length m.moves_are ∙ length-map hs (moves_from states row hs)

    pub is_automaton : StaysBelow states row → 0 < states → IsAutomaton i o (neutral states) moves
    is_automaton stays some = record {
      some = omega (arith, size_is, slice_get_within hs 0 (start 0) starts);
      a_move_each = λ q low.
          ap (λ ms. length (get_or ms q [])) m.moves_are
          ∙ ap length (get_or-map (moves_from states row hs) hs q [] [] (omega (arith, low, size_is)))
          ∙ length-map row (move_along states hs (get_or hs q []))
          ∙ one_each;
      leads = λ q v low few.
          omega (arith, size_is, stays_numbered q v (omega (arith, low, size_is)) few);
      low = λ q v low few. priorities q v (omega (arith, low, size_is)) few;
      neutral_even = mul-mod_right 2 (states + 1);
    }
      where
        stays_numbered : (q v : ℕ) → q < length hs → v < 2 ^ (i + o) → (move_at moves q v).to < length hs
        stays_numbered q v low few =
            slice_get_within hs (move_at moves q v).to (stepped (get_or hs q []) (letter_at row v))
            (leads q v (get_or hs q []) (at q low) few)

        priorities : (q v : ℕ) → q < length hs → v < 2 ^ (i + o) → (move_at moves q v).priority ≤ neutral states
        priorities q v low few =
            let h = get_or hs q [] in
            let letter = letter_at row v in
            let fits =
            reached_fits states row 0 stays some h letter (m.is_numbering.are_reached h (place-member hs q [] low))
            (place-member row v [] (in_row v few)) in
            subst (λ p. p ≤ neutral states) (sym (ap (λ (k : DetMove). k.priority) (goes q v h (at q low) few)))
            (priority-most (neutral states) (step_mark h letter) fits)

    -- a word leads to each history that is reached
    record IsWordTo (h : History) : Type 0 where
      pub word : List ℕ
      pub low : All (λ v. v < 2 ^ (i + o)) word
      pub comes : slice_get hs (state_behind (automaton_of moves) 0 word) ≡ Some h

    word_to : (h : History) → IsReached row 0 h → IsWordTo h
    word_to h at_start = record { word = []; low = All-nil (λ v. v < 2 ^ (i + o)); comes = starts }
    word_to k (along h letter r member) = by (word_to h r) (member-place letter row member)
      where
        by : IsWordTo h → Place letter row → IsWordTo (stepped h letter)
        by w p =
            let v = p.place in
            let few : v < 2 ^ (i + o) = omega (arith, p.below, one_each) in
            let q = state_behind (automaton_of moves) 0 w.word in
            record {
              word = w.word ++ v ∷ [];
              low =
                  All-append (λ u. u < 2 ^ (i + o)) w.word (v ∷ []) w.low
                  (All-cons (λ u. u < 2 ^ (i + o)) v [] few (All-nil (λ u. u < 2 ^ (i + o))));
              comes =
                  ap (slice_get hs) (state_behind-append (automaton_of moves) 0 w.word (v ∷ []))
                  ∙ leads q v h w.comes few
                  ∙ ap (λ l. Some (stepped h l)) (p.holds []);
            }

    pub is_accessible : IsAccessible i o moves
    is_accessible q low =
        let has : q < length hs = omega (arith, low, size_is) in
        let h = get_or hs q [] in
        let w = word_to h (m.is_numbering.are_reached h (place-member hs q [] has)) in
        (w.word, w.low, apart_places hs apart (state_behind (automaton_of moves) 0 w.word) q h w.comes (at q has))

  -- ---- many histories

  -- a history that is reached, with the priority of a step to it
  record IsMet (h : History) : Type 0 where
    pub priority : ℕ
    pub reached : game.IsReached (histories_of states row) (start 0) (neutral states) i o (at_state h priority)

  met : (h : History) → IsReached row 0 h → IsMet h
  met h at_start = record { priority = neutral states; reached = game.at_start }
  met k (along h letter r member) = by (met h r) (member-place letter row member)
    where
      by : IsMet h → Place letter row → IsMet (stepped h letter)
      by w p =
          let v = p.place in
          let few : v < 2 ^ (i + o) = omega (arith, p.below, one_each) in
          let ins = v % 2 ^ i in
          let outs = v / 2 ^ i in
          let d = histories_of states row in
          let d = histories_of states row in
          let u = valuation i ins outs in
          let whole : u ≡ v = mod-add-div v (2 ^ i) in
          let next : stepped h (letter_at row u) ≡ stepped h letter =
          ap (λ k. stepped h (letter_at row k)) whole ∙ ap (stepped h) (p.holds []) in
          let low : ins < 2 ^ i = mod-lt v sets in
          let few_outs : outs < 2 ^ o = (div-lt_iff_lt-mul {k = 2 ^ i} {x = v} {y = 2 ^ o} sets).1 (omega (arith, few, pow-add 2 i o, mul_comm (2 ^ i) (2 ^ o))) in
          record {
            priority = d.priority h u;
            reached =
                subst (λ k. game.IsReached d (start 0) (neutral states) i o (at_state k (d.priority h u))) next
                (game.along (with_inputs h ins) (at_state (d.next h u) (d.priority h u))
                (game.along (at_state h w.priority) (with_inputs h ins) w.reached (game.by_inputs h w.priority ins low))
                (game.by_outputs h ins outs few_outs));
          }

  module _ (n : ℕ) (more : HasMoreThan row 0 (n / 2 ^ i)) where
    abbrev ks : List History
    ks = more.histories

    abbrev count : ℕ
    count = length ks * 2 ^ i

    abbrev history : ℕ → History
    history v = get_or ks (v / 2 ^ i) []

    abbrev position : ℕ → Position History
    position v = with_inputs (history v) (v % 2 ^ i)

    place_low : (v : ℕ) → v < count → v / 2 ^ i < length ks
    place_low v low = (div-lt_iff_lt-mul {k = 2 ^ i} {x = v} {y = length ks} sets).1 low

    one : (v w : ℕ) → v < count → w < count → position v ≡ position w → v ≡ w
    one v w v_low w_low same =
        let histories : history v ≡ history w = cc in
        let rests : v % 2 ^ i ≡ w % 2 ^ i = cc in
        let places : v / 2 ^ i ≡ w / 2 ^ i =
        apart_places ks more.are_apart (v / 2 ^ i) (w / 2 ^ i) (history v)
        (slice_get-get_or ks (v / 2 ^ i) [] (place_low v v_low))
        (slice_get-get_or ks (w / 2 ^ i) [] (place_low w w_low) ∙ ap Some (sym histories)) in
        sym (mod-add-div v (2 ^ i)) ∙ (λ j. rests j + 2 ^ i * places j) ∙ mod-add-div w (2 ^ i)

    by_value : (x : Position History) → IsValue position count x
        → game.IsReached (histories_of states row) (start 0) (neutral states) i o x
    by_value x found =
        let h = history found.place in
        let m = met h (more.are_reached h (place-member ks (found.place / 2 ^ i) [] (place_low found.place found.low))) in
        subst (game.IsReached (histories_of states row) (start 0) (neutral states) i o) (sym found.is)
        (game.along (at_state h m.priority) (with_inputs h (found.place % 2 ^ i)) m.reached
        (game.by_inputs h m.priority (found.place % 2 ^ i) (mod-lt found.place sets)))

    pub many_positions : HasMorePositions (histories_of states row) (start 0) (neutral states) i o n
    many_positions = record {
      positions = listed position count;
      are_apart = listed-apart position count one;
      are_reached = λ x member. by_value x (listed-member position count x member);
      are_more =
          let long = length-listed position count in
          let much : n < 2 ^ i * suc (n / 2 ^ i) = omega (arith, lt-mul-div-succ n sets) in
          let whole : 2 ^ i * suc (n / 2 ^ i) ≤ 2 ^ i * length ks = mul-le-mul_left (2 ^ i) more.are_more in
          omega (arith, long, much, whole, mul_comm (2 ^ i) (length ks));
    }

  pub starts_many : HasMoreThan row 0 0
  starts_many = record {
    histories = start 0 ∷ [];
    are_apart = ((λ none. none), tt);
    are_reached = λ h member. ⊎_elim (λ (same : h ≡ start 0). subst (IsReached row 0) (sym same) at_start) (λ none. absurd none) member;
    are_more = omega arith;
  }
