use Rattle.std.proofs.Common.{◌∙◌}
use Rattle.ml_bisim.proofs.Steps.{sources_low, targets_low}
use Rattle.ml_bisim.proofs.edges.edges_of.Goals as goal

pub of-requires : goal.of-requires
of-requires c =
    sources_low c.args.structure.now c.states-states.ensures.is_structure c.deref.result.now
    (c.deref.ensures.value ∙ c.in_ok-sources.ensures) c.states-states.result c.states-states.ensures.value

pub of-requires-2 : goal.of-requires-2
of-requires-2 c =
    targets_low c.args.structure.now c.states-states.ensures.is_structure c.deref-2.result.now
    (c.deref-2.ensures.value ∙ c.in_ok-targets.ensures) c.states-states.result c.states-states.ensures.value
