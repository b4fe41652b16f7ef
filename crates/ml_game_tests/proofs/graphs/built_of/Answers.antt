use Rattle.std.proofs.Common.{subst, sym}
use Rattle.std.specs.List.{IsDistinct}
use Rattle.std.specs.Str.{bytes_eq}
use Rattle.ml_graph.proofs.Places.{one_name}
use Rattle.ml_game_tests.proofs.graphs.built_of.Goals as goal

pub build-requires-clause-props : goal.build-requires-clause-props
build-requires-clause-props c = subst (IsDistinct bytes_eq) (sym c.in_ok-props.ensures.items) (one_name c.in_ok-new.field-0)

pub build-requires-clause-actions : goal.build-requires-clause-actions
build-requires-clause-actions c = subst (IsDistinct bytes_eq) (sym c.in_ok-actions.ensures.items) (one_name c.in_ok-new-2.field-0)
