use Rattle.std.proofs.Common.{refl, sym, subst, ◌∙◌}
use Rattle.ml_refutation_text.specs.RefutationText.{numbered_line}
use Rattle.ml_refutation_text.specs.BodyRules.{InFull}
use Rattle.ml_refutation_text.specs.BodyRules.{AtEntry}
use Rattle.ml_refutation_text.specs.private.Reads.{TellsFault}
use Rattle.ml_refutation_text.specs.private.ItemReads.{knows}
use Rattle.ml_refutation_text.specs.declared.body_rule.BodyRule.TheVariants.{NextEntry}
use Rattle.ml_refutation_text.proofs.Going.{fault_line}
use Rattle.ml_refutation_text.proofs.EntriesRead.{entry_goes, entry_wrong}
use Rattle.ml_refutation_text.proofs.entries.read_entry_number.Goals as goal

pub returns-then-n-number-clause-read : goal.returns-then-n-number-clause-read
returns-then-n-number-clause-read c = λ v names wanted es here.
    entry_goes names wanted es v c.args.at c.in-Ok.rest c.in-Ok.n c.in-Ok.ensures.read.2 c.in-Ok.ensures.read.0
    (here ∙ sym c.if-n-number.true)

pub returns-else-n-number-clause-refused : goal.returns-else-n-number-clause-refused
returns-else-n-number-clause-refused c = λ v names wanted es here.
    let p = AtEntry (knows names InFull wanted) es in
    subst (TellsFault v p c.args.at) (sym c.fault.ensures)
    (fault_line v p c.args.at c.in-Ok.rest (numbered_line c.in-Ok.n) NextEntry c.in-Ok.ensures.read.0
    (entry_wrong names wanted es c.in-Ok.n c.in-Ok.ensures.read.2 (λ same. c.if-n-number.false (same ∙ here))))

pub returns-in-Err-clause-refused : goal.returns-in-Err-clause-refused
returns-in-Err-clause-refused c = λ v names wanted es here.
    c.in-Err.ensures.refused v (AtEntry (knows names InFull wanted) es) refl tt
