use Rattle.std.proofs.Common.{ℕ, ◌<◌, ◌^◌, List, length, map, ap, subst}
use Rattle.std.proofs.lemmas.Result.{on_ok_weaker}
use Rattle.ml_refutation.specs.Views.{entry_of}
use Rattle.ml_refutation_text.specs.private.Collecting.{Collected}
use Rattle.ml_refutation_text.specs.private.Filings.{entries_of}
use Rattle.ml_refutation_text.proofs.WrittenLines.{tables_written}
use Rattle.ml_refutation_text.proofs.writing.write_by_tables.Goals as goal

pub returns-clause-text : goal.returns-clause-text
returns-clause-text c =
    let tables = c.in_ok-tables.tables in
    let are = c.in_ok-tables.ensures in
    on_ok_weaker c.write_filed.result
    (tables_written (entries_of c.args.refutation.now)
    (map (entry_of tables.sequents.all tables.stacks.all) c.as_slice.result.now)
    tables.sequents.met tables.stacks.met
    c.args.out.now.items c.write_filed.new.out.items
    (λ i. map (entry_of (are.sequents i).all (are.stacks i).all) (c.as_slice.ensures.value i))
    (ap (λ (t : Collected). t.met) are.sequents) (ap (λ (t : Collected). t.met) are.stacks))
    c.write_filed.ensures.text

pub returns-clause-counted : goal.returns-clause-counted
returns-clause-counted c =
    on_ok_weaker c.write_filed.result
    (subst (λ (ks : List (List ℕ)). length ks < 2 ^ 64)
    (ap (λ (t : Collected). t.met) c.in_ok-tables.ensures.stacks))
    c.write_filed.ensures.counted
