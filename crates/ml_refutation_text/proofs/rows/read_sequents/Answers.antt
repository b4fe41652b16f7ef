use Rattle.std.proofs.Common.{ℕ, [], refl}
use Rattle.std.proofs.lemmas.Result.{IfErr-weaker, IfOk-weaker}
use Rattle.ml_base.specs.declared.version.Version.{Version}
use Rattle.ml_refutation_text.specs.BodyRules.{AtSequents, AtStacks, at_sequent_table}
use Rattle.ml_refutation_text.specs.private.Reads.{Goes, TellsFault}
use Rattle.ml_refutation_text.proofs.Going.{goes_on, fault_on}
use Rattle.ml_refutation_text.proofs.TablesRead.{sequents_begin}
use Rattle.ml_refutation_text.proofs.rows.read_sequents.Goals as goal

pub returns-in-Err-clause-refused : goal.returns-in-Err-clause-refused
returns-in-Err-clause-refused c = λ v names. c.in-Err.ensures.refused v (AtSequents names) refl tt

pub returns-clause-read : goal.returns-clause-read
returns-clause-read c =
    let size = c.in-Ok.read.0 in
    let behind = c.in-Ok.read.1 in
    IfOk-weaker c.read_sequent_rows.result
    (λ r. (v : Version) (names : ℕ) → Goes v (at_sequent_table names size []) behind (AtStacks names r.0) r.1)
    (λ r. (v : Version) (names : ℕ) → Goes v (AtSequents names) c.args.at (AtStacks names r.0) r.1)
    (λ r goes v names.
    goes_on (sequents_begin v names size c.args.at behind c.in-Ok.ensures.read.2 c.in-Ok.ensures.read.0) (goes v names))
    c.read_sequent_rows.ensures.read

pub returns-clause-refused : goal.returns-clause-refused
returns-clause-refused c =
    let size = c.in-Ok.read.0 in
    let behind = c.in-Ok.read.1 in
    IfErr-weaker c.read_sequent_rows.result
    (λ e. (v : Version) (names : ℕ) → TellsFault v (at_sequent_table names size []) behind e)
    (λ e. (v : Version) (names : ℕ) → TellsFault v (AtSequents names) c.args.at e)
    (λ e tells v names.
    fault_on e (sequents_begin v names size c.args.at behind c.in-Ok.ensures.read.2 c.in-Ok.ensures.read.0) (tells v names))
    c.read_sequent_rows.ensures.refused
