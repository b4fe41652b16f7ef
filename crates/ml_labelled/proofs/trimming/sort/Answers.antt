use Rattle.ml_labelled.proofs.KeptEdges.{sorted_edges}
use Rattle.ml_labelled.proofs.trimming.sort.Goals as goal

pub returns : goal.returns
returns c = sorted_edges c.args.row.now.items c.sort_by_key.new.self.items c.sort_by_key.ensures.permutation
