use Rattle.std.proofs.Common.{map}
use Rattle.std.proofs.lemmas.Result.{on_ok_weaker}
use Rattle.ml_refutation.specs.Views.{entry_of}
use Rattle.ml_refutation_text.specs.WrittenText.{by_tables, table_lines, last_lines}
use Rattle.ml_refutation_text.proofs.WrittenLines.{two_parts}
use Rattle.ml_refutation_text.proofs.writing.write_filed.Goals as goal

pub returns-clause-text : goal.returns-clause-text
returns-clause-text c =
    let tables = c.args.tables.now in
    on_ok_weaker c.write_last.result
    (two_parts (table_lines tables.sequents.met tables.stacks.met)
    (last_lines (by_tables tables.sequents.met tables.stacks.met)
    (map (entry_of tables.sequents.all tables.stacks.all) c.args.entries.now))
    c.args.out.now.items c.write_tables.new.out.items c.write_last.new.out.items c.in_ok-write_tables.ensures.text)
    c.write_last.ensures.text

pub returns-clause-counted : goal.returns-clause-counted
returns-clause-counted c =
    on_ok_weaker c.write_last.result (λ _. c.in_ok-write_tables.ensures.counted) c.write_last.ensures.text
