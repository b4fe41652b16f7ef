use Rattle.std.proofs.Common.{rules, ◌∙◌, subst, sym, arith, set, true}
use Rattle.ml_graph.proofs.References.{and_right, diamond_target, or_left, or_right}
use Rattle.ml_word_automaton.specs.private.Numbers.{IsMarkedMore, Makes}
use Rattle.ml_word_automaton.proofs.MarkedStates.{marked_one}
use Rattle.ml_word_automaton.proofs.automaton.mark_behind.Goals as goal

pub index_mut-requires : goal.index_mut-requires
index_mut-requires c =
    let low =
    diamond_target c.args.graph.now c.requires.graph c.args.n c.requires.node c.in-Diamond.action c.in-Diamond.to
    (sym c.node.ensures ∙ c.in-Diamond.is) in
    search (rules, low)

pub mark_true-requires-clause-node : goal.mark_true-requires-clause-node
mark_true-requires-clause-node c =
    and_right c.args.graph.now c.requires.graph c.args.n c.requires.node c.in-And.left c.in-And.right
    (sym c.node.ensures ∙ c.in-And.is)

pub mark_true-requires-in-Or-clause-node : goal.mark_true-requires-in-Or-clause-node
mark_true-requires-in-Or-clause-node c =
    or_left c.args.graph.now c.requires.graph c.args.n c.requires.node c.in-Or.left c.in-Or.right
    (sym c.node.ensures ∙ c.in-Or.is)

pub mark_true-requires-in-Or-2-clause-node : goal.mark_true-requires-in-Or-2-clause-node
mark_true-requires-in-Or-2-clause-node c =
    or_right c.args.graph.now c.requires.graph c.args.n c.requires.node c.in-Or.left c.in-Or.right
    (sym c.node.ensures ∙ c.in-Or.is)

pub returns-in-Diamond : goal.returns-in-Diamond
returns-in-Diamond c =
    let g = c.args.graph.now in
    let e = sym c.node.ensures ∙ c.in-Diamond.is in
    let low =
    diamond_target g c.requires.graph c.args.n c.requires.node c.in-Diamond.action c.in-Diamond.to e in
    subst (λ v. IsMarkedMore (Makes g v) c.args.marks.now.items (set c.args.marks.now.items c.in-Diamond.to true)) (sym e)
    (marked_one c.args.marks.now.items c.in-Diamond.to (let long = c.requires.marks in omega (arith, low, long)))
