use Rattle.std.proofs.Common.{arith}
use Rattle.ml_trace.proofs.Stacks.{ends_at}
use Rattle.ml_refute_check.proofs.names.ends_in.Goals as goal

pub returns-in-len1-up : goal.returns-in-len1-up
returns-in-len1-up c = ends_at c.args.name c.args.stack.now (omega (arith, c.in-len1-up.len_at_least))
