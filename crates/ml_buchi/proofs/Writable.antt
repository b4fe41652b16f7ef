-- What is made deterministic can be written.
--
--   determinised_writable == the deterministic automaton of a Büchi automaton can be written
use Rattle.std.proofs.Common.{ℕ, ◌≡◌, ◌^◌, ◌<◌, ◌≤◌, List, length, sym, subst, ap, ◌∙◌, arith}
use Rattle.std.proofs.lemmas.List.{length-map}
use Rattle.std.proofs.lemmas.List.FromFn.{length-map-range_with_len}
use Rattle.std.proofs.lemmas.Option.{slice_get_within}
use Rattle.ml_lists.specs.Member.{IsMember}
use Rattle.ml_lists.proofs.FirstEntries.{number, number_is}
use Rattle.ml_lists.proofs.Member.{Image, member-All, member-map_from}
use Rattle.ml_trace.specs.declared.letters.Transition.{Transition}
use Rattle.ml_trace.specs.Marks.{priority}
use Rattle.ml_trace.specs.Stack.{Item}
use Rattle.ml_trace.proofs.Priorities.{priority-most}
use Rattle.ml_history.specs.HistoryStep.{start}
use Rattle.ml_history.specs.HistoryOrder.{history_eq, history_eq-decides}
use Rattle.ml_history.specs.HistoryStep.{stepped, step_mark}
use Rattle.ml_hoa.specs.Automaton.{Automaton, IsAutomaton, most_props}
use Rattle.ml_determinise.specs.Histories.{neutral}
use Rattle.ml_determinise.specs.Numbering.{move_along, moves_from}
use Rattle.ml_determinise.specs.declared.moves.DetMove.{DetMove}
use Rattle.ml_determinise.proofs.NumberedWords.{inside, starts}
use Rattle.ml_determinise.proofs.ReachedHistories.{reached_fits}
use Rattle.ml_buchi.specs.Deterministic.{Deterministic, IsDeterminised}
use Rattle.ml_buchi.specs.Valuations.{letter_of, letters_of, valuations}
use Rattle.ml_buchi.specs.WrittenText.{IsRow, IsWritable}
use Rattle.ml_buchi.proofs.EdgesTaken.{letters_stay}

module _ (a : Automaton) (d : Deterministic) (automaton : IsAutomaton a) (of : IsDeterminised a d) where
  abbrev row : List (List Transition)
  row = letters_of a

  abbrev hs : List (List (Item ℕ))
  hs = of.numbered.histories

  states_are : length d.moves ≡ length hs
  states_are = ap length of.numbered.moves_are ∙ length-map hs (moves_from a.states row hs)

  row_long : length row ≡ 2 ^ length d.props
  row_long =
      length-map-range_with_len (letter_of a) 0 (valuations a) ∙ ap (λ props. 2 ^ length props) (sym of.same_props)

  move_fits : (h : List (Item ℕ)) (letter : List Transition)
      → IsMember h hs
      → IsMember letter row
      → (priority (neutral a.states) (step_mark h letter) < d.top) × (number history_eq hs (stepped h letter) < length d.moves)
  move_fits h letter m i =
      let fits = reached_fits a.states row a.start (letters_stay a automaton) automaton.start_below h letter
      (of.numbered.is_numbering.are_reached h m) i in
      let low = priority-most (neutral a.states) (step_mark h letter) fits in
      let numbered = inside row a.start hs of.numbered.is_numbering h letter m i in
      let below = slice_get_within hs (number history_eq hs (stepped h letter)) (stepped h letter)
      (number_is history_eq history_eq-decides hs (stepped h letter) numbered) in
      (omega (arith, low, of.top_is), omega (arith, below, states_are))

  row_fits : (moves : List DetMove) → IsMember moves d.moves → IsRow (length d.props) d.top (length d.moves) moves
  row_fits moves m =
      from (member-map_from (moves_from a.states row hs) moves hs (subst (IsMember moves) of.numbered.moves_are m))
    where
      from : Image (moves_from a.states row hs) moves hs → IsRow (length d.props) d.top (length d.moves) moves
      from j = record {
        one_each = ap length j.holds ∙ length-map row (move_along a.states hs j.from) ∙ row_long;
        fit = member-All (λ (k : DetMove). (k.priority < d.top) × (k.to < length d.moves)) moves
            (λ k i. each k (member-map_from (move_along a.states hs j.from) k row (subst (IsMember k) j.holds i)));
      }
        where
          each : (k : DetMove) → Image (move_along a.states hs j.from) k row
              → (k.priority < d.top) × (k.to < length d.moves)
          each k l =
              subst (λ (m : DetMove). (m.priority < d.top) × (m.to < length d.moves)) (sym l.holds)
              (move_fits j.from l.from j.member l.member)

  pub determinised_writable : IsWritable d
  determinised_writable = record {
    odd_top = omega (arith, of.top_is);
    few_props = subst (λ props. length props ≤ most_props) (sym of.same_props) automaton.few_props;
    some_state =
        let first = slice_get_within hs 0 (start a.start) (starts row a.start hs of.numbered.is_numbering) in
        omega (arith, first, states_are);
    rows = member-All (IsRow (length d.props) d.top (length d.moves)) d.moves row_fits;
  }
