use Rattle.ml_spec.specs.Scan.{item_text}
use Rattle.ml_spec.proofs.Steps.{definition_defined}
use Rattle.ml_spec.proofs.statement.define.Goals as goal

pub returns-in_ok-add_defined-in-Ok : goal.returns-in_ok-add_defined-in-Ok
returns-in_ok-add_defined-in-Ok c =
    λ ss room context.
    definition_defined c.args.logic ss (item_text c.args.item.now) c.args.context.now _ _ c.args.name c.args.written room context
    c.requires.name c.requires.has_text c.requires.written c.requires.fresh c.in-Ok.ensures.noted
    c.in_ok-add_defined-in-Ok.ensures

pub returns-in-Err : goal.returns-in-Err
returns-in-Err c = λ ss room context. c.in-Err.ensures.refused ss room context
