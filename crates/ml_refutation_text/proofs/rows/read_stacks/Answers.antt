use Rattle.std.proofs.Common.{ℕ, ◌≡◌, ◌-◌, ◌^◌, min, List, [], sym, subst}
use Rattle.std.proofs.lemmas.Result.{IfErr-weaker, IfOk-weaker}
use Rattle.ml_base.specs.declared.version.Version.{Version}
use Rattle.ml_lines.specs.Reading.{words_of, value}
use Rattle.ml_refutation_text.specs.BodyRules.{ByTables}
use Rattle.ml_refutation_text.specs.BodyRules.{AtStacks, AtEntries, at_stack_table}
use Rattle.ml_refutation_text.specs.private.Reads.{Goes, TellsFault}
use Rattle.ml_refutation_text.proofs.Going.{goes_on, fault_on, fault_line}
use Rattle.ml_refutation_text.proofs.TablesRead.{stacks_begin}
use Rattle.ml_refutation_text.proofs.rows.read_stacks.Goals as goal

pub returns-in-Err-clause-refused : goal.returns-in-Err-clause-refused
returns-in-Err-clause-refused c = λ v qs. c.in-Err.ensures.missing v (AtStacks c.args.names qs) tt

pub returns-in-Err-stacks_of-clause-refused : goal.returns-in-Err-stacks_of-clause-refused
returns-in-Err-stacks_of-clause-refused c = λ v qs.
    let p = AtStacks c.args.names qs in
    subst (TellsFault v p c.args.at) (sym c.fault.ensures)
    (fault_line v p c.args.at c.in-Ok.next.1 (words_of c.in-Ok.next.0.now) c.in-Err-stacks_of.rule c.in-Ok.ensures.read
    (c.in-Err-stacks_of.ensures.refused c.args.names qs))

pub returns-in-Ok-stacks_of-clause-read : goal.returns-in-Ok-stacks_of-clause-read
returns-in-Ok-stacks_of-clause-read c =
    let is = c.in-Ok-stacks_of.ensures.read in
    let count = value is.count in
    let names = c.args.names in
    let behind = c.in-Ok.next.1 in
    IfOk-weaker c.read_stack_rows.result
    (λ r. (v : Version) (count : ℕ) (qs : List (List ℕ)) → c.in-Ok-stacks_of.size ≡ min count (2 ^ 64 - 1)
    → Goes v (at_stack_table names qs count []) behind (AtEntries names (ByTables qs r.0)) r.1)
    (λ r. (v : Version) (qs : List (List ℕ)) → Goes v (AtStacks names qs) c.args.at (AtEntries names (ByTables qs r.0)) r.1)
    (λ r goes v qs.
    goes_on (stacks_begin v names qs is.count c.args.at behind (words_of c.in-Ok.next.0.now) is.spells c.in-Ok.ensures.read is.is_line)
    (goes v count qs is.capped))
    c.read_stack_rows.ensures.read

pub returns-in-Ok-stacks_of-clause-refused : goal.returns-in-Ok-stacks_of-clause-refused
returns-in-Ok-stacks_of-clause-refused c =
    let is = c.in-Ok-stacks_of.ensures.read in
    let count = value is.count in
    let names = c.args.names in
    let behind = c.in-Ok.next.1 in
    IfErr-weaker c.read_stack_rows.result
    (λ e. (v : Version) (count : ℕ) (qs : List (List ℕ)) → c.in-Ok-stacks_of.size ≡ min count (2 ^ 64 - 1)
    → TellsFault v (at_stack_table names qs count []) behind e)
    (λ e. (v : Version) (qs : List (List ℕ)) → TellsFault v (AtStacks names qs) c.args.at e)
    (λ e tells v qs.
    fault_on e (stacks_begin v names qs is.count c.args.at behind (words_of c.in-Ok.next.0.now) is.spells c.in-Ok.ensures.read is.is_line)
    (tells v count qs is.capped))
    c.read_stack_rows.ensures.refused
