use Rattle.ml_extract.proofs.GatheredParts.{some_found}
use Rattle.ml_extract.proofs.parts.edge.Goals as goal

pub unwrap-target-requires : goal.unwrap-target-requires
unwrap-target-requires c =
    some_found c.args.firsts.now.keys c.args.next c.get_index_of.result c.get_index_of.ensures.found c.requires.begins
