use Rattle.std.proofs.Common.{◌≡◌, ◌++◌, [], ◌∷◌, slice_index_or, ap, sym, subst, ◌∙◌}
use Rattle.ml_base.specs.declared.version.Version.TheVariants.{One}
use Rattle.ml_refutation_text.specs.BodyRules.{InFull, ByTables}
use Rattle.ml_refutation_text.specs.BodyRules.{AtEntry, AtSequent, AtLive}
use Rattle.ml_refutation_text.specs.private.Reads.{Goes, TellsFault}
use Rattle.ml_refutation_text.specs.private.ReadTables.{form_of, Grows}
use Rattle.ml_refutation_text.specs.private.ItemReads.{knows}
use Rattle.ml_refutation_text.proofs.Going.{goes_on, fault_on, room_on}
use Rattle.ml_refutation_text.proofs.EntriesRead.{some_entries, length-some_entries, sequent_goes}
use Rattle.ml_refutation_text.proofs.TablesGrow.{keeps_sequents, named_there}
use Rattle.ml_refutation_text.proofs.entries.read_head.Goals as goal

pub returns-in-Err-clause-refused : goal.returns-in-Err-clause-refused
returns-in-Err-clause-refused c = λ v names wanted es here.
    subst (λ F. TellsFault v (AtEntry (knows names F wanted) es) c.args.at c.in-Err.refusal) (ap (λ w. form_of w c.args.tables.now) (sym c.in-One.is))
    (c.in-Err.ensures.refused v names wanted es here)

pub read_sequent-requires : goal.read_sequent-requires
read_sequent-requires c =
    let es = some_entries c.args.number in
    room_on (c.in-Ok.ensures.read One 0 0 es (length-some_entries c.args.number)) c.requires

pub returns-in_ok-push-in-Ok-read_sequent-clause-read : goal.returns-in_ok-push-in-Ok-read_sequent-clause-read
returns-in_ok-push-in-Ok-read_sequent-clause-read c = λ v names wanted es later here grows.
    let k = knows names InFull wanted in
    let q = c.in-Ok-read_sequent.sequent.items in
    let rest = c.in-Ok-read_sequent.rest in
    let old = c.args.tables.now.sequents in
    let place = c.in_ok-push-in-Ok-read_sequent.field-0 in
    let pushed = c.in_ok-push-in-Ok-read_sequent.ensures.lists ∙ ap (λ list. old ++ list ∷ []) c.deref.ensures.value in
    let named : slice_index_or later.sequents place [] ≡ q =
    ap (λ i. slice_index_or later.sequents i []) c.in_ok-push-in-Ok-read_sequent.ensures.place
    ∙ named_there old c.push.new.self later.sequents q pushed (keeps_sequents c.args.version _ later grows)
    in
    subst (λ F. Goes v (AtEntry (knows names F wanted) es) c.args.at (AtLive (knows names F wanted) es (slice_index_or later.sequents place [])) rest)
    (ap (λ w. form_of w c.args.tables.now) (sym c.in-One.is))
    (goes_on (c.in-Ok.ensures.read v names wanted es here)
    (subst (λ q. Goes v (AtSequent k es) c.in-Ok.behind (AtLive k es q) rest) (sym named)
    (sequent_goes names wanted es v c.in-Ok.behind rest k q c.in-Ok-read_sequent.ensures.read)))

pub returns-in-Err-read_sequent-clause-refused : goal.returns-in-Err-read_sequent-clause-refused
returns-in-Err-read_sequent-clause-refused c = λ v names wanted es here.
    let k = knows names InFull wanted in
    let e = c.in-Err-read_sequent.refusal in
    subst (λ F. TellsFault v (AtEntry (knows names F wanted) es) c.args.at e) (ap (λ w. form_of w c.args.tables.now) (sym c.in-One.is))
    (fault_on e (c.in-Ok.ensures.read v names wanted es here) (c.in-Err-read_sequent.ensures.refused.in_entry v k es))

pub returns-in-Ok-read_placed-clause-read : goal.returns-in-Ok-read_placed-clause-read
returns-in-Ok-read_placed-clause-read c = λ v names wanted es later here.
    let old = c.args.tables.now in
    let place = c.in-Ok-read_placed.place in
    let rest = c.in-Ok-read_placed.rest in
    let k = knows names (ByTables old.sequents old.stacks) wanted in
    subst
    (λ w. Grows w old later
    → Goes v (AtEntry (knows names (form_of w old) wanted) es) c.args.at
    (AtLive (knows names (form_of w old) wanted) es (slice_index_or later.sequents place [])) rest)
    (sym c.in-Two.is)
    (λ grows.
    subst (λ qs. Goes v (AtEntry k es) c.args.at (AtLive k es (slice_index_or qs place [])) rest) (sym grows.0)
    (c.in-Ok-read_placed.ensures.read v names wanted old.sequents old.stacks es (sym c.len.ensures) here))

pub returns-in-Err-read_placed-clause-refused : goal.returns-in-Err-read_placed-clause-refused
returns-in-Err-read_placed-clause-refused c = λ v names wanted es here.
    subst (λ F. TellsFault v (AtEntry (knows names F wanted) es) c.args.at c.in-Err-read_placed.refusal) (ap (λ w. form_of w c.args.tables.now) (sym c.in-Two.is))
    (c.in-Err-read_placed.ensures.refused v names wanted c.args.tables.now.sequents c.args.tables.now.stacks es (sym c.len.ensures) here)
