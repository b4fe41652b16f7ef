use Rattle.std.proofs.Common.{◌++◌, [], ◌∷◌, if◌then◌else◌, ◌∙◌}
use Rattle.std.specs.List.{list_any}
use Rattle.std.specs.Str.{bytes_eq}
use Rattle.ml_graph.proofs.Places.{name_added}
use Rattle.ml_graph.proofs.at_state.places_of_actions.Goals as goal

pub loop-action-preserved : goal.loop-action-preserved
loop-action-preserved c =
    c.in_ok-insert.ensures.keys
    ∙ (λ j. let ks = c.loop-action.invariant j in let k = c.in_ok-copy.ensures j in
    if list_any (bytes_eq k) ks then ks else ks ++ k ∷ [])
    ∙ name_added c.args.actions.now c.requires c.loop-action.action-index c.action-item.result c.loop-action-test.true
    c.action-item.is
