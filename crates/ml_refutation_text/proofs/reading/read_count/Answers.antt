use Rattle.std.proofs.Common.{refl, sym, subst}
use Rattle.ml_refutation_text.specs.RefutationText.{entries_line}
use Rattle.ml_refutation_text.specs.BodyRules.{AtEntries}
use Rattle.ml_refutation_text.specs.private.Reads.{TellsFault}
use Rattle.ml_refutation_text.specs.declared.body_rule.BodyRule.TheVariants.{HasEntries}
use Rattle.ml_refutation_text.proofs.Going.{fault_line}
use Rattle.ml_refutation_text.proofs.BodyRead.{count_goes, no_entries}
use Rattle.ml_refutation_text.proofs.reading.read_count.Goals as goal

pub returns-then-count-gt0-clause-read : goal.returns-then-count-gt0-clause-read
returns-then-count-gt0-clause-read c = λ v names F.
    count_goes v c.args.at c.in-Ok.rest names F c.in-Ok.count c.in-Ok.ensures.read.2 c.in-Ok.ensures.read.0 c.if-count-gt0.true

pub returns-else-count-gt0-clause-refused : goal.returns-else-count-gt0-clause-refused
returns-else-count-gt0-clause-refused c = λ v names F.
    let p = AtEntries names F in
    subst (TellsFault v p c.args.at) (sym c.fault.ensures)
    (fault_line v p c.args.at c.in-Ok.rest (entries_line c.in-Ok.count) HasEntries c.in-Ok.ensures.read.0
    (no_entries names F c.in-Ok.count c.in-Ok.ensures.read.2 c.if-count-gt0.false))

pub returns-in-Err-clause-refused : goal.returns-in-Err-clause-refused
returns-in-Err-clause-refused c = λ v names F. c.in-Err.ensures.refused v (AtEntries names F) refl tt
