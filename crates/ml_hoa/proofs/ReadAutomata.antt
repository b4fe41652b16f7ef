-- What a text is read as keeps the limits, and all its numbers are in range.
--
--   read_is_automaton == so it is an automaton
use Rattle.std.proofs.Common.{ℕ, List, subst, sym}
use Rattle.ml_hoa.specs.Automaton.{Automaton, IsAutomaton}
use Rattle.ml_hoa.specs.Refusals.{IsReadAs}
use Rattle.ml_hoa.proofs.Values.{is_automaton}

pub read_is_automaton : (text : List ℕ) (a : Automaton) → IsReadAs text a → IsAutomaton a
read_is_automaton text a is =
    subst IsAutomaton (sym is.is_automaton) (is_automaton is.draft is.stands.is_small is.in_range)
