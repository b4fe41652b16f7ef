-- The table of zeros.
use Rattle.std.proofs.Common.{rules}
use Rattle.ml_progress.proofs.FlatTables.{zeros_made}
use Rattle.ml_progress.proofs.table.Table.new.Goals as goal

pub returns-clause-zeros : goal.returns-clause-zeros
returns-clause-zeros c =
    zeros_made c.args.width c.args.vertices c.in_ok-count.count c.in_ok-numbers.numbers.items c.in_ok-tops.tops.items
    c.of_parts.result (search rules) (c.in_ok-numbers.ensures.items_if_clones_equal (λ y e. e))
    (c.in_ok-tops.ensures.items_if_clones_equal (λ y e. e)) c.of_parts.ensures
