use Rattle.std.proofs.Common.{◌++◌, ◌∙◌}
use Rattle.std.proofs.lemmas.Result.{on_ok_weaker}
use Rattle.ml_lines.specs.Lines.{text_of}
use Rattle.ml_refutation_text.specs.WrittenText.{table_lines}
use Rattle.ml_refutation_text.specs.private.Collecting.{shown}
use Rattle.ml_refutation_text.proofs.WrittenLines.{rows_written}
use Rattle.ml_refutation_text.proofs.writing.write_tables.Goals as goal

pub returns-clause-text : goal.returns-clause-text
returns-clause-text c =
    on_ok_weaker c.write_table-2.result
    (λ second.
    rows_written (shown c.met.result.now) (shown c.met-2.result.now) c.args.out.now.items c.write_table.new.out.items
    c.write_table-2.new.out.items c.in_ok-write_table.ensures.text second
    ∙ (λ i. c.args.out.now.items ++ text_of (table_lines (c.met.ensures i) (c.met-2.ensures i))))
    c.write_table-2.ensures.text
