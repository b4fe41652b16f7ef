use Rattle.std.proofs.Common.{rules, ◌≡◌, ◌∙◌, None, sym, arith}
use Rattle.ml_graph.specs.Graph.{node_at}
use Rattle.ml_lists.proofs.Member.{place-member}
use Rattle.ml_sequent.specs.private.Tests.{partner}
use Rattle.ml_sequent.proofs.Causes.{no_partner}
use Rattle.ml_sequent.proofs.Firsts.{first_of, none_of}
use Rattle.ml_sequent.proofs.clashes.first_pair.Goals as goal

pub returns-then-is_none : goal.returns-then-is_none
returns-then-is_none c = λ n h.
    let none : c.first_negative.result ≡ None = search rules in
    no_partner c.args.graph.now c.args.nodes.now (sym c.first_negative.ensures ∙ none) (node_at c.args.graph.now n)

pub returns-in-Some : goal.returns-in-Some
returns-in-Some c = record {
  member = place-member c.args.nodes.now c.loop-node.node-index 0 c.loop-node-test.true;
  has = sym c.in-Some.ensures;
  first =
      first_of c.args.nodes.now c.requires.ascends
      (λ n. partner c.args.graph.now c.args.nodes.now (node_at c.args.graph.now n) ≡ None) c.loop-node.node-index
      c.loop-node-test.true c.loop-node.invariant;
}

pub returns : goal.returns
returns c =
    none_of c.args.nodes.now (λ n. partner c.args.graph.now c.args.nodes.now (node_at c.args.graph.now n) ≡ None)
    c.loop-node.node-index (omega arith) c.loop-node.invariant
