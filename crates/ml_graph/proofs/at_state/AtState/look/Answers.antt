use Rattle.std.proofs.Common.{sym, subst}
use Rattle.std.specs.List.{IsDistinct}
use Rattle.std.specs.Str.{bytes_eq}
use Rattle.ml_graph.proofs.at_state.AtState.look.Goals as goal

pub mark_truths-requires-clause-distinct : goal.mark_truths-requires-clause-distinct
mark_truths-requires-clause-distinct c =
    subst (IsDistinct bytes_eq) (sym c.requires.names.props) c.requires.names.props_differ

pub gather_targets-requires-clause-distinct : goal.gather_targets-requires-clause-distinct
gather_targets-requires-clause-distinct c =
    subst (IsDistinct bytes_eq) (sym c.requires.names.actions) c.requires.names.actions_differ
