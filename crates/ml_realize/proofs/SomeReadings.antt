-- Each task has a reading, since its problem has an automaton, and each letter its transitions.
--
--   some_row         == the row of all valuations
--   some_reading     == the reading
use Rattle.std.proofs.Common.{◌≡◌, ℕ, ◌<◌, Bool, true, List, [], length, map, get_or, sym, subst, arith}
use Rattle.std.specs.List.{range_with_len}
use Rattle.std.proofs.lemmas.List.FromFn.{get_or-map-range_with_len, length-map-range_with_len}
use Rattle.ml_ctl.specs.Formula.{Formula}
use Rattle.ml_trace.specs.declared.letters.Transition.{Transition}
use Rattle.ml_word_automaton.proofs.Listed.{some_automaton, some_transitions}
use Rattle.ml_task.specs.NameSets.{members}
use Rattle.ml_task.specs.Task.{Task, names_of}
use Rattle.ml_word_automaton.specs.Letters.{Automaton, HasTransitions, IsAutomatonOf}
use Rattle.ml_realize.specs.TaskGame.{IsRowOf, Reading, valuations}

pub some_row : (ns : List (List ℕ)) (f : Formula) (negated : Bool) (a : Automaton) → IsAutomatonOf a f negated
    → (row : List (List Transition)) × IsRowOf ns a row
some_row ns f negated a is = (
  row,
  record {
    one_each = length-map-range_with_len letter 0 (valuations ns);
    transitions = λ v low.
        subst (HasTransitions a (members ns v)) (sym (letter_is v (omega (arith, low, long))))
        (some_transitions f negated a (members ns v) is).1;
  },
)
  where
    letter : ℕ → List Transition
    letter v = (some_transitions f negated a (members ns v) is).0

    row : List (List Transition)
    row = map letter (range_with_len 0 (valuations ns))

    long : length row ≡ valuations ns
    long = length-map-range_with_len letter 0 (valuations ns)

    letter_is : (v : ℕ) → v < valuations ns → get_or row v [] ≡ letter v
    letter_is v low = get_or-map-range_with_len letter 0 (valuations ns) v v [] low (omega arith)

pub some_reading : (t : Task) → Reading t
some_reading t =
    let a = some_automaton t.formula true in
    let row = some_row (names_of t) t.formula true a.0 a.1 in
    record { automaton = a.0; row = row.0; is_automaton = a.1; is_row = row.1 }
