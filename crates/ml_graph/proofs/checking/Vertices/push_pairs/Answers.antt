use Rattle.std.proofs.Common.{◌≡◌, sym, subst, arith, append-nil, ◌++◌, map}
use Rattle.std.specs.List.{range_with_len}
use Rattle.ml_graph.specs.Graph.{size}
use Rattle.ml_graph.specs.CheckingGame.{Pair}
use Rattle.ml_graph.specs.private.Making.{HasVertices}
use Rattle.ml_graph.proofs.Making.{pair_more}
use Rattle.ml_graph.proofs.checking.Vertices.push_pairs.Goals as goal

pub loop-n-init : goal.loop-n-init
loop-n-init c = λ vs has. subst (HasVertices c.args.graph.now c.args.structure.now c.args.self.now)
    (sym (append-nil vs)) has

pub loop-n-preserved : goal.loop-n-preserved
loop-n-preserved c = λ vs has.
    pair_more c.args.graph.now c.args.structure.now _ _ vs c.args.state c.loop-n.n (c.loop-n.invariant vs has)
    c.in_ok-push_pair.ensures

pub returns : goal.returns
returns c = λ vs has.
    let all : c.loop-n.n ≡ size c.args.graph.now = omega arith in
    subst (λ k. HasVertices c.args.graph.now c.args.structure.now c.loop-n.self
    (vs ++ map (Pair c.args.state) (range_with_len 0 k))) all (c.loop-n.invariant vs has)
