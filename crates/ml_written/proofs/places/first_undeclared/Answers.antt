use Rattle.std.proofs.Common.{◌∙◌, sym}
use Rattle.indexmap.specs.IndexMap.{keys}
use Rattle.ml_written.specs.Propositions.{names}
use Rattle.ml_written.proofs.FirstMissing.{all_known}
use Rattle.ml_written.proofs.FirstPlaced.{placed_first}
use Rattle.ml_written.proofs.places.first_undeclared.Goals as goal

pub returns-in-Ok : goal.returns-in-Ok
returns-in-Ok g c =
    all_known (keys c.args.declared.now) 0 c.in-Ok.field-0 (names c.args.written.now) (sym c.in-Ok.is ∙ c.passed.ensures)

pub returns-in-Err : goal.returns-in-Err
returns-in-Err g c =
    placed_first (keys c.args.declared.now) c.args.text.now c.args.written.now c.in-Err.number c.logic_of.result
    c.place_of.result c.requires (sym c.in-Err.is ∙ c.passed.ensures) c.logic_of.ensures c.place_of.ensures
