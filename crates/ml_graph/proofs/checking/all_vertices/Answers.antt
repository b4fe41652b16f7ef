use Rattle.std.proofs.Common.{◌≡◌, ◌+◌, ◌∙◌, ap, arith, drop, sym, subst, take}
use Rattle.ml_parity.specs.Game.{IsGame}
use Rattle.ml_graph.proofs.CheckingGame.{is_game}
use Rattle.ml_graph.specs.private.Making.{AreEdgesOf, AreLeft}
use Rattle.ml_graph.proofs.EdgesLeft.{count_fits, edges_of, left_behind}
use Rattle.ml_graph.proofs.Making.{all_pairs, with_sinks, made_game}
use Rattle.ml_graph.proofs.checking.all_vertices.Goals as goal

pub split_at-requires : goal.split_at-requires
split_at-requires c = omega (arith, c.count_leaving.ensures, count_fits c.loop-state.state c.loop-state.edges.now)

pub look-requires-clause-edges : goal.look-requires-clause-edges
look-requires-clause-edges c =
    let m = c.args.structure.now in
    let es = c.loop-state.edges.now in
    let s = c.loop-state.state in
    let front = c.split_at.ensures.front ∙ ap (λ k. take k es) c.count_leaving.ensures in
    subst (AreEdgesOf m s) (sym front) (edges_of m s es c.loop-state.invariant.left)

pub loop-state-preserved : goal.loop-state-preserved
loop-state-preserved c =
    let g = c.args.graph.now in
    let m = c.args.structure.now in
    let es = c.loop-state.edges.now in
    let s = c.loop-state.state in
    let back = c.split_at.ensures.back ∙ ap (λ k. drop k es) c.count_leaving.ensures in
    record {
      made = all_pairs g m c.loop-state.made c.push_pairs.new.self s c.loop-state.invariant.made
          c.in_ok-push_pairs.ensures;
      left = subst (AreLeft m (s + 1)) (sym back) (left_behind m s es c.loop-state.invariant.left);
      names = c.in_ok-look.ensures.names;
    }

pub returns-clause-made : goal.returns-clause-made
returns-clause-made c =
    let all : c.loop-state.state ≡ c.args.structure.now.states = omega arith in
    with_sinks c.args.graph.now c.args.structure.now c.loop-state.made _ _ c.loop-state.state all
    c.loop-state.invariant.made c.in_ok-push_sink.ensures c.in_ok-push_sink-2.ensures

pub returns-clause-game : goal.returns-clause-game
returns-clause-game c =
    subst IsGame (sym (made_game c.args.graph.now c.args.structure.now _ (returns-clause-made c)))
    (is_game c.args.graph.now c.args.structure.now c.size.ensures.is_graph c.states-state-end.ensures.is_structure)
