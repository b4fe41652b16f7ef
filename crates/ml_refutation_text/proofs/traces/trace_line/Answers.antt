use Rattle.std.specs.Option.{option_copied}
use Rattle.ml_refutation_text.specs.private.ReadTables.{form_of}
use Rattle.ml_refutation_text.specs.private.ItemReads.{before_of}
use Rattle.ml_refutation_text.proofs.traces.trace_line.Goals as goal

pub returns-in-Err-clause-refused : goal.returns-in-Err-clause-refused
returns-in-Err-clause-refused c =
    c.in-Err.ensures.refused (form_of c.args.version c.args.tables.now) c.args.live (before_of (option_copied c.args.before))

pub returns-in-Err-item_at-clause-refused : goal.returns-in-Err-item_at-clause-refused
returns-in-Err-item_at-clause-refused c = λ wanted es q traces stand.
    c.in-Err-item_at.ensures.refused c.args.names wanted es q traces c.in-None.ensures stand
