use Rattle.std.proofs.Common.{refl, sym, subst}
use Rattle.ml_refutation_text.specs.RefutationText.{live_line}
use Rattle.ml_refutation_text.specs.BodyRules.{AtLive}
use Rattle.ml_refutation_text.specs.private.Reads.{TellsFault}
use Rattle.ml_refutation_text.specs.private.ItemReads.{knows}
use Rattle.ml_refutation_text.specs.declared.body_rule.BodyRule.TheVariants.{LiveWithin}
use Rattle.ml_refutation_text.proofs.Going.{fault_line}
use Rattle.ml_refutation_text.proofs.EntriesRead.{live_goes, live_wrong}
use Rattle.ml_refutation_text.proofs.entries.read_live.Goals as goal

pub returns-then-live-names-clause-read : goal.returns-then-live-names-clause-read
returns-then-live-names-clause-read c = λ v F wanted es q.
    live_goes c.args.names wanted es v c.args.at c.in-Ok.rest F q c.in-Ok.live c.in-Ok.ensures.read.2 c.in-Ok.ensures.read.0
    c.if-live-names.true

pub returns-else-live-names-clause-refused : goal.returns-else-live-names-clause-refused
returns-else-live-names-clause-refused c = λ v F wanted es q.
    let p = AtLive (knows c.args.names F wanted) es q in
    subst (TellsFault v p c.args.at) (sym c.fault.ensures)
    (fault_line v p c.args.at c.in-Ok.rest (live_line c.in-Ok.live) LiveWithin c.in-Ok.ensures.read.0
    (live_wrong c.args.names wanted es F q c.in-Ok.live c.in-Ok.ensures.read.2 c.if-live-names.false))

pub returns-in-Err-clause-refused : goal.returns-in-Err-clause-refused
returns-in-Err-clause-refused c = λ v F wanted es q. c.in-Err.ensures.refused v (AtLive (knows c.args.names F wanted) es q) refl tt
