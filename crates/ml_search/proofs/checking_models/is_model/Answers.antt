use Rattle.std.proofs.Common.{rules}
use Rattle.ml_search.proofs.Edges.{has_some, only_one}
use Rattle.ml_search.proofs.checking_models.is_model.Goals as goal

pub returns-then-reached : goal.returns-then-reached
returns-then-reached c =
    λ yes.
    let few = c.has_few_edges.ensures c.if-has_few_edges.true in
    record {
      extracted = record {
        is_structure = c.keeps-2.ensures.is_structure;
        is_state = search rules;
        holds = c.in_ok-is_met.ensures yes;
        reached = c.in_ok-reached.ensures c.if-reached.true;
        along_diamonds = has_some c.args.graph.now c.args.model.now.structure few;
        only_edge = only_one c.args.graph.now c.args.model.now.structure few;
      };
      few_edges = few;
    }
