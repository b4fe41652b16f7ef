use Rattle.ml_base.specs.declared.version.Version.TheVariants.{One}
use Rattle.ml_refutation_text.proofs.Going.{goes_on, fault_on, room_on}
use Rattle.ml_refutation_text.proofs.rows.read_tables.Goals as goal

pub returns-in-Err-clause-refused : goal.returns-in-Err-clause-refused
returns-in-Err-clause-refused c = λ v. c.in-Err.ensures.refused v c.args.names

pub read_stacks-requires : goal.read_stacks-requires
read_stacks-requires c = room_on (c.in-Ok.ensures.read One c.args.names) c.requires

pub returns-in-Ok-read_stacks-clause-read : goal.returns-in-Ok-read_stacks-clause-read
returns-in-Ok-read_stacks-clause-read c = λ v.
    goes_on (c.in-Ok.ensures.read v c.args.names) (c.in-Ok-read_stacks.ensures.read v c.in-Ok.read.0)

pub returns-in-Err-read_stacks-clause-refused : goal.returns-in-Err-read_stacks-clause-refused
returns-in-Err-read_stacks-clause-refused c = λ v.
    fault_on c.in-Err-read_stacks.refusal (c.in-Ok.ensures.read v c.args.names)
    (c.in-Err-read_stacks.ensures.refused v c.in-Ok.read.0)
