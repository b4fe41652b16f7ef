use Rattle.std.proofs.Common.{rules, ◌≡◌}
use Rattle.ml_graph.specs.Graph.{size}
use Rattle.ml_word_automaton.proofs.MarkedStates.{all_marked}
use Rattle.ml_word_automaton.proofs.automaton.state_marks.Goals as goal

pub returns : goal.returns
returns c =
    let all : c.loop-n.n ≡ size c.args.graph.now = search (rules) in
    all_marked c.args.graph.now c.loop-n.marks.items c.loop-n.n c.loop-n.invariant.as_long all c.loop-n.invariant.marked
