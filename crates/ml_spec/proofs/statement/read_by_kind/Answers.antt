use Rattle.std.proofs.Common.{refl, subst}
use Rattle.ml_spec.specs.ItemParts.{HasKind}
use Rattle.ml_spec.specs.Scan.{item_text}
use Rattle.ml_spec.proofs.Steps.{repeated_stepped}
use Rattle.ml_spec.proofs.statement.read_by_kind.Goals as goal

pub returns-in-Logics : goal.returns-in-Logics
returns-in-Logics c =
    λ ss room context.
    let i = item_text c.args.item.now in
    repeated_stepped c.args.logic ss i room c.args.context.now _ context (subst (HasKind i) c.in-Logics.is c.requires.kind.0)
    (c.requires.logic c.in-Logics.is) refl
