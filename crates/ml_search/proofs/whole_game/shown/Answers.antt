use Rattle.ml_search.proofs.FewEdges.{few_edges}
use Rattle.ml_search.proofs.whole_game.shown.Goals as goal

pub returns-in_ok-model-in-Even : goal.returns-in_ok-model-in-Even
returns-in_ok-model-in-Even c =
    let model = c.in_ok-model-in-Even.model in
    record {
      extracted = c.in_ok-model-in-Even.ensures.holds;
      few_edges =
          few_edges c.args.graph.now c.args.game.now.arena c.args.game.now.solution model.structure model.start
          c.in_ok-model-in-Even.ensures.is;
    }
