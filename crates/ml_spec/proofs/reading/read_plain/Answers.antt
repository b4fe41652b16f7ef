use Rattle.std.proofs.Common.{sym, subst}
use Rattle.ml_spec.specs.Faults.{IsFirstFault}
use Rattle.ml_spec.specs.declared.rule.SpecRule.TheVariants.{NoLogic}
use Rattle.ml_spec.proofs.OneAnswer.{first_logic, read_whole, tells_text}
use Rattle.ml_spec.proofs.reading.read_plain.Goals as goal

pub returns-in_default-clause-refused : goal.returns-in_default-clause-refused
returns-in_default-clause-refused c =
    subst (IsFirstFault c.args.text.now NoLogic) (sym c.blank_length.ensures) (first_logic c.args.text.now c.in_default.ensures)

pub returns-in-Err-clause-refused : goal.returns-in-Err-clause-refused
returns-in-Err-clause-refused c =
    let told = c.in-Some.ensures in tells_text c.args.text.now c.in-Some.logic told.0 _ c.in-Err.fault told.1 c.in-Err.ensures

pub returns-in-Ok-clause-read : goal.returns-in-Ok-clause-read
returns-in-Ok-clause-read c =
    let told = c.in-Some.ensures in
    read_whole c.args.text.now c.in-Some.logic told.0 _ c.in-Ok.items.items told.1 c.in-Ok.ensures
