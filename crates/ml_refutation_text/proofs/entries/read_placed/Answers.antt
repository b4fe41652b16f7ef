use Rattle.std.proofs.Common.{sym, subst}
use Rattle.ml_lines.specs.Reading.{words_of}
use Rattle.ml_refutation_text.specs.BodyRules.{ByTables}
use Rattle.ml_refutation_text.specs.BodyRules.{AtEntry}
use Rattle.ml_refutation_text.specs.private.Reads.{TellsFault}
use Rattle.ml_refutation_text.specs.private.ItemReads.{knows}
use Rattle.ml_refutation_text.proofs.Going.{fault_line}
use Rattle.ml_refutation_text.proofs.EntriesRead.{placed_goes}
use Rattle.ml_refutation_text.proofs.entries.read_placed.Goals as goal

pub returns-in-Err-clause-refused : goal.returns-in-Err-clause-refused
returns-in-Err-clause-refused c = λ v names wanted qs ks es many here.
    c.in-Err.ensures.missing v (AtEntry (knows names (ByTables qs ks) wanted) es) tt

pub returns-in-Ok-placed-clause-read : goal.returns-in-Ok-placed-clause-read
returns-in-Ok-placed-clause-read c = λ v names wanted qs ks es many here.
    placed_goes names wanted es v c.args.at c.in-Ok.next.1 qs ks (words_of c.in-Ok.next.0.now) c.args.size c.args.number
    c.in-Ok-placed.place c.in-Ok.ensures.read c.ranges.number.fits many here c.in-Ok-placed.ensures.read

pub returns-in-Err-placed-clause-refused : goal.returns-in-Err-placed-clause-refused
returns-in-Err-placed-clause-refused c = λ v names wanted qs ks es many here.
    let p = AtEntry (knows names (ByTables qs ks) wanted) es in
    subst (TellsFault v p c.args.at) (sym c.fault.ensures)
    (fault_line v p c.args.at c.in-Ok.next.1 (words_of c.in-Ok.next.0.now) c.in-Err-placed.rule c.in-Ok.ensures.read
    (c.in-Err-placed.ensures.refused names wanted qs ks es many here))
