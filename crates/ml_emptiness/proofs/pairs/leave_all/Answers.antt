use Rattle.std.proofs.Common.{sym, ◌∙◌}
use Rattle.ml_emptiness.specs.Systems.{table_of}
use Rattle.ml_emptiness.proofs.Tables.{partly_at_end}
use Rattle.ml_emptiness.proofs.pairs.leave_all.Goals as goal

pub returns-in-None : goal.returns-in-None
returns-in-None c =
    let f = c.loop-k.found in
    partly_at_end c.args.both.now.letters.now (table_of c.args.both.now.system.now) f.pairs.keys f.arcs.items
    f.origins.items c.loop-k.k c.loop-k.invariant (sym c.get_index.ensures.key ∙ sym c.copied.ensures ∙ c.in-None.is)
