use Rattle.std.proofs.Common.{◌<◌, ◌≤◌, ◌++◌, [], ◌∷◌, length, ap, sym, subst, ◌∙◌, arith}
use Rattle.ml_refutation_text.proofs.TablesRead.{SequentsTo, rows_begin, rows_room, row_refused, row_more, rows_done}
use Rattle.ml_refutation_text.proofs.rows.read_sequent_rows.Goals as goal

pub rows-init : goal.rows-init
rows-init c =
    subst (λ rows. SequentsTo c.args.size c.args.at rows c.args.at) (sym c.new-rows.ensures) (rows_begin c.args.size c.args.at)

pub read_sequent-requires : goal.read_sequent-requires
read_sequent-requires c = rows_room c.args.size c.args.at c.rows.rows c.rows.rest c.rows.invariant c.requires

pub returns-in-Err-clause-refused : goal.returns-in-Err-clause-refused
returns-in-Err-clause-refused c =
    let below : length c.rows.rows < c.args.size = omega (arith, c.rows-test.true, c.len.ensures, c.from.ensures) in
    row_refused c.args.size c.args.at c.rows.rows c.rows.rest c.rows.invariant below c.in-Err.refusal c.in-Err.ensures.refused

pub rows-preserved : goal.rows-preserved
rows-preserved c =
    let below : length c.rows.rows < c.args.size = omega (arith, c.rows-test.true, c.len.ensures, c.from.ensures) in
    row_more c.args.size c.args.at c.rows.rows c.rows.rest c.rows.invariant below c.in-Ok.read.0.items c.push.new.self c.in-Ok.read.1
    c.in-Ok.ensures.read (c.in_ok-push.ensures.lists ∙ ap (λ row. c.rows.rows ++ row ∷ []) c.deref.ensures.value)

pub returns-clause-read : goal.returns-clause-read
returns-clause-read c =
    let full : c.args.size ≤ length c.rows.rows = omega (arith, c.rows-test.false, c.len.ensures, c.from.ensures) in
    rows_done c.args.size c.args.at c.rows.rows c.rows.rest c.rows.invariant full
