use Rattle.std.proofs.Common.{sym}
use Rattle.ml_history.proofs.arrays.OrderOfNames.{before_last-short, before_last-at}
use Rattle.ml_history.proofs.flat.places.before_last.Goals as goal

pub returns-in_default : goal.returns-in_default
returns-in_default c = sym (before_last-short c.args.none c.args.stack.now c.in_default.len_below)

pub returns-in-len2-up : goal.returns-in-len2-up
returns-in-len2-up c = before_last-at c.args.none c.args.stack.now c.in-len2-up.len_at_least
