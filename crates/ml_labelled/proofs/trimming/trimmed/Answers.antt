use Rattle.std.proofs.Common.{sym, subst}
use Rattle.ml_labelled.specs.Labelled.{IsLabelled}
use Rattle.ml_labelled.specs.private.Views.{held, rows_of}
use Rattle.ml_labelled.proofs.TrimmedEdges.{IsTrimmedOf, all_trimmed}
use Rattle.ml_labelled.proofs.trimming.trimmed.Goals as goal

pub new-requires : goal.new-requires
new-requires c =
    (all_trimmed c.into_parts-props.result.0.items (rows_of c.into_parts-props.result.1.items) (rows_of c.trim.new.rows.items)
    (subst IsLabelled (sym c.into_parts-props.ensures.parts) c.into_parts-props.ensures.labelled) c.in_ok-trim.ensures).labelled

pub returns-clause-same : goal.returns-clause-same
returns-clause-same c =
    let props = c.into_parts-props.result.0.items in
    let old = c.into_parts-props.result.1.items in
    let parts = c.into_parts-props.ensures.parts in
    (subst (λ a. IsTrimmedOf a c.new.result) parts
    (subst (IsTrimmedOf (held props old)) (sym c.new.ensures)
    (all_trimmed props (rows_of old) (rows_of c.trim.new.rows.items)
    (subst IsLabelled (sym parts) c.into_parts-props.ensures.labelled) c.in_ok-trim.ensures))).same
