use Rattle.std.proofs.Common.{◌++◌, [], ◌∷◌, if◌then◌else◌, ◌∙◌}
use Rattle.std.specs.List.{list_any}
use Rattle.std.specs.Str.{bytes_eq}
use Rattle.ml_graph.proofs.Places.{name_added}
use Rattle.ml_graph.proofs.at_state.places_of_props.Goals as goal

pub loop-prop-preserved : goal.loop-prop-preserved
loop-prop-preserved c =
    c.in_ok-insert.ensures.keys
    ∙ (λ j. let ks = c.loop-prop.invariant j in let k = c.in_ok-copy.ensures j in
    if list_any (bytes_eq k) ks then ks else ks ++ k ∷ [])
    ∙ name_added c.args.props.now c.requires c.loop-prop.prop-index c.prop-item.result c.loop-prop-test.true
    c.prop-item.is
