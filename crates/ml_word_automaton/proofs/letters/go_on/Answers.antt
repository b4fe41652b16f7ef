use Rattle.std.proofs.Common.{◌∙◌, sym, arith}
use Rattle.ml_graph.proofs.References.{and_left, diamond_target}
use Rattle.ml_word_automaton.proofs.letters.go_on.Goals as goal

pub is_true-requires : goal.is_true-requires
is_true-requires c =
    and_left c.args.reading.now.graph.now c.requires.graph c.args.n c.requires.node c.in-And.left c.in-And.right
    (sym c.node.ensures ∙ c.in-And.is)

pub bounds-reading-to : goal.bounds-reading-to
bounds-reading-to c =
    let low =
    diamond_target c.args.reading.now.graph.now c.requires.graph c.args.n c.requires.node c.in-Diamond.action
    c.in-Diamond.to (sym c.node.ensures ∙ c.in-Diamond.is) in
    let long = c.requires.numbers in
    omega (arith, low, long)
