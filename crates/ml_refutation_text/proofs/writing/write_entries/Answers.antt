use Rattle.std.proofs.Common.{◌<◌, length, map, sym, ◌∙◌, ap, arith}
use Rattle.std.proofs.lemmas.Grind.{common_steps}
use Rattle.std.proofs.lemmas.List.{get_or-map, length-map}
use Rattle.ml_refutation_text.specs.private.Filings.{writing_of, entry_in}
use Rattle.ml_refutation_text.proofs.WrittenLines.{entries_more}
use Rattle.ml_refutation_text.proofs.writing.write_entries.Goals as goal

pub loop-i-preserved : goal.loop-i-preserved
loop-i-preserved c =
    let plain = entry_in c.args.filing.now in
    let entries = map plain c.args.entries.now in
    let i = c.loop-i.i in
    let e = c.index-entries-i.result in
    let here : i < length entries = omega (arith, length-map c.args.entries.now plain) in (
      entries_more (writing_of c.args.filing.now) entries i (plain e) c.loop-i.out.items c.write_entry.new.out.items _ here
          (ap plain c.index-entries-i.is ∙ sym (get_or-map plain c.args.entries.now i e (plain e) c.loop-i-test.true))
          c.loop-i.invariant.0 c.in_ok-write_entry.ensures.text,
      grind (arith, common_steps),
    )
