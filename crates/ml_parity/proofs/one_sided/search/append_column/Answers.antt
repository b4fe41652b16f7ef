-- The row at v grows by the number of the column there.
use Rattle.ml_parity.specs.Refusal.{lists_of}
use Rattle.ml_parity.proofs.HeightTables.{appended_more}
use Rattle.std.proofs.Common.{arith}
use Rattle.ml_parity.proofs.one_sided.search.append_column.Goals as goal

pub loop-v-preserved : goal.loop-v-preserved
loop-v-preserved c =
    appended_more (lists_of c.args.rows.now) c.args.column.now c.loop-v.v c.loop-v.rows c.index-rows-v.result
    c.push.new.self (omega (arith, c.loop-v-test.true, c.requires, c.loop-v.auto.rows)) c.in_ok-push.ensures.items
    c.loop-v.invariant
