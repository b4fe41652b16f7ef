use Rattle.std.proofs.Common.{◌∙◌}
use Rattle.ml_kripke.proofs.Labels.{found_is_listed}
use Rattle.ml_kripke.proofs.structure.Structure.has_label.Goals as goal

pub returns : goal.returns
returns c =
    c.is_ok.ensures.value
    ∙ found_is_listed c.args.self.now c.args.state c.args.name.now c.labels_of.result.now c.binary_search.result c.keeps.ensures.is_structure
    c.keeps.ensures.is_ordered c.requires c.labels_of.ensures c.binary_search.ensures.bound c.binary_search.ensures.position
