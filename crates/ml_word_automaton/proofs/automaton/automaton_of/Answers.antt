use Rattle.std.proofs.Common.{◌≤◌, ◌^◌, List, Bool, subst, arith}
use Rattle.ml_graph.specs.Graph.{size}
use Rattle.ml_word_automaton.specs.private.Numbers.{AreNumbered, IsHeld}
use Rattle.ml_word_automaton.proofs.NumberedStates.{numbers_held}
use Rattle.ml_word_automaton.proofs.automaton.automaton_of.Goals as goal

held : (c : goal.After-drop-marks-2)
    → IsHeld c.in_ok-graph.graph c.in_ok-states.states.items c.in_ok-states.numbers.items
held c =
    let g = c.in_ok-graph.graph in
    let marks = c.in_ok-marks.marks.items in
    let N = subst (λ (ms : List Bool). AreNumbered ms c.in_ok-states.states.items c.in_ok-states.numbers.items)
    c.deref.ensures.value c.in_ok-states.ensures in
    let small : size g ≤ 2 ^ 30 =
    (let fits = c.in_ok-graph.ensures.fits in let max = c.requires in omega (arith, fits, max)) in
    numbers_held g marks c.in_ok-states.states.items c.in_ok-states.numbers.items c.in_ok-marks.ensures N small

pub returns-clause-automaton : goal.returns-clause-automaton
returns-clause-automaton c = record { is_graph = c.in_ok-graph.ensures.graph; states = (held c).listed }
