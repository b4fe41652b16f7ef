use Rattle.std.proofs.Common.{ℕ, ◌≡◌, ◌<◌, [], ◌∷◌, ◌++◌, map, take, length, sym, ap, ◌∙◌, subst, arith, length-append}
use Rattle.std.specs.List.{zip}
use Rattle.std.proofs.lemmas.List.{take_all}
use Rattle.std.proofs.lemmas.Slice.Zip.{zip_turn, zip_end, length-zip}
use Rattle.ml_lists.specs.Member.{IsMember}
use Rattle.ml_graph.specs.Graph.{size, node_at}
use Rattle.ml_extract.specs.private.Gathered.{edge_to}
use Rattle.ml_extract.proofs.GatheredParts.{edges_more, pair_at}
use Rattle.ml_extract.proofs.parts.add_edges.Goals as goal

pub edge-requires : goal.edge-requires
edge-requires c =
    let ds = c.args.diamonds.now in
    let vs = c.args.moves.now in
    let k = length c.loop-diamond.yielded in
    let turn =
    zip_turn ds vs c.loop-diamond.yielded c.into_iter-diamond-iterator.result c.loop-diamond.diamond-iterator
    c.next.new.self c.next.result (cc) (cc) c.loop-diamond.yielded_by (c.in-Some.diamond, c.in-Some.next) c.in-Some.is
    c.next.ensures.steps in
    let p = pair_at ds vs k c.in-Some.diamond.now c.in-Some.next.now turn.0 turn.1 (turn.2 0) (turn.3 0) in
    record {
      node = subst (λ n. n < size c.args.graph.now) p.diamond_is (c.requires.nodes k 0 p.diamond_low);
      is_diamond = subst (λ n. Rattle.ml_sequent.specs.Spread.is_diamond
          (node_at c.args.graph.now n) ≡ Rattle.std.proofs.Common.true) p.diamond_is
          (c.requires.are_diamonds k 0 p.diamond_low);
      begins = subst (λ (x : ℕ × ℕ). IsMember x.1 c.args.firsts.now.keys) (sym p.pair_is) (c.requires.begin k
          (0, 0) p.low);
      few = c.requires.few;
    }

pub loop-diamond-preserved : goal.loop-diamond-preserved
loop-diamond-preserved c =
    let ds = c.args.diamonds.now in
    let vs = c.args.moves.now in
    let k = length c.loop-diamond.yielded in
    let turn =
    zip_turn ds vs c.loop-diamond.yielded c.into_iter-diamond-iterator.result c.loop-diamond.diamond-iterator
    c.next.new.self c.next.result (cc) (cc) c.loop-diamond.yielded_by (c.in-Some.diamond, c.in-Some.next) c.in-Some.is
    c.next.ensures.steps in
    let p = pair_at ds vs k c.in-Some.diamond.now c.in-Some.next.now turn.0 turn.1 (turn.2 0) (turn.3 0) in
    let more =
    edges_more c.args.graph.now c.args.state c.args.firsts.now.keys
    (zip ds vs) k c.in-Some.diamond.now c.in-Some.next.now
    c.push.new.self.items c.loop-diamond.edges.items c.args.edges.now.items c.in_ok-edge.field-0 p.low p.pair_is
    c.in_ok-edge.ensures c.loop-diamond.invariant.2 c.in_ok-push.ensures.items in (
      (tt, tt),
      tt,
      more
          ∙ ap (λ n. c.args.edges.now.items ++ map (edge_to c.args.graph.now c.args.firsts.now.keys c.args.state)
          (take n (zip ds vs))) (sym (length-append c.loop-diamond.yielded ((c.in-Some.diamond, c.in-Some.next) ∷ []))),
    )

pub returns : goal.returns
returns c =
    let ds = c.args.diamonds.now in
    let vs = c.args.moves.now in
    let end =
    zip_end ds vs c.loop-diamond.yielded c.into_iter-diamond-iterator.result c.loop-diamond.diamond-iterator
    c.next.new.self c.next.result (cc) (cc) c.loop-diamond.yielded_by c.in-None.is c.next.ensures.steps in
    c.loop-diamond.invariant.2
    ∙ ap (λ ps. c.args.edges.now.items ++ map (edge_to c.args.graph.now c.args.firsts.now.keys c.args.state) ps)
    (take_all (length c.loop-diamond.yielded) (zip ds vs) (omega (arith, length-zip ds vs, end)))
