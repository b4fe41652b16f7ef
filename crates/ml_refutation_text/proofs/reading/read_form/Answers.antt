use Rattle.std.proofs.Common.{sym, subst}
use Rattle.std.proofs.lemmas.Result.{IfOk-weaker}
use Rattle.ml_base.specs.declared.version.Version.{Version}
use Rattle.ml_base.specs.declared.version.Version.TheVariants.{One, Two}
use Rattle.ml_refutation_text.specs.BodyRules.{InFull, ByTables}
use Rattle.ml_refutation_text.specs.BodyRules.{AtSequents, AtEntries, after_names}
use Rattle.ml_refutation_text.specs.private.Reads.{Goes}
use Rattle.ml_refutation_text.specs.private.ReadTables.{form_of}
use Rattle.ml_refutation_text.proofs.Going.{goes_begin}
use Rattle.ml_refutation_text.proofs.reading.read_form.Goals as goal

pub returns-in-One-clause-read : goal.returns-in-One-clause-read
returns-in-One-clause-read c =
    let names = c.args.names in
    subst (λ v. Goes v (after_names v names) c.args.at (AtEntries names (form_of v c.no_lists.result)) c.args.at) (sym c.in-One.is)
    (goes_begin One (AtEntries names InFull) c.args.at)

pub returns-in-Two-clause-read : goal.returns-in-Two-clause-read
returns-in-Two-clause-read c =
    let names = c.args.names in
    IfOk-weaker c.read_tables.result
    (λ r. (v : Version) → Goes v (AtSequents names) c.args.at (AtEntries names (ByTables r.0.sequents r.0.stacks)) r.1)
    (λ r. Goes c.args.version (after_names c.args.version names) c.args.at (AtEntries names (form_of c.args.version r.0)) r.1)
    (λ r goes.
    subst (λ v. Goes v (after_names v names) c.args.at (AtEntries names (form_of v r.0)) r.1) (sym c.in-Two.is) (goes Two))
    c.read_tables.ensures.read
