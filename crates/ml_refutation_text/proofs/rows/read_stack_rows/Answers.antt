use Rattle.std.proofs.Common.{◌≡◌, ◌-◌, ◌^◌, ◌<◌, ◌≤◌, ◌++◌, [], ◌∷◌, min, length, ap, sym, subst, ◌∙◌, arith}
use Rattle.ml_lines.specs.Reading.{words_of}
use Rattle.ml_refutation_text.proofs.TablesRead.{StacksTo, stack_rows_begin, stack_rows_room, stack_missing, stack_refused, stack_more, stacks_done}
use Rattle.ml_refutation_text.proofs.rows.read_stack_rows.Goals as goal

pub rows-init : goal.rows-init
rows-init c = λ count is.
    subst (λ rows. StacksTo c.args.names count c.args.at rows c.args.at) (sym c.new-rows.ensures)
    (stack_rows_begin c.args.names count c.args.at)

pub next_line-requires : goal.next_line-requires
next_line-requires c =
    let own : c.args.size ≡ min c.args.size (2 ^ 64 - 1) = omega (arith, c.ranges.size.fits) in
    stack_rows_room c.args.names c.args.size c.args.at c.rows.rows c.rows.rest (c.rows.invariant c.args.size own) c.requires.room

pub returns-in-Err-clause-refused : goal.returns-in-Err-clause-refused
returns-in-Err-clause-refused c = λ v count qs is.
    let below : length c.rows.rows < count = omega (arith, c.rows-test.true, c.len.ensures, is) in
    stack_missing c.args.names count c.args.at c.rows.rows c.rows.rest (c.rows.invariant count is) below c.in-Err.refusal
    c.in-Err.ensures.missing v qs

pub returns-in-Err-stack_of-clause-refused : goal.returns-in-Err-stack_of-clause-refused
returns-in-Err-stack_of-clause-refused c = λ v count qs is.
    let below : length c.rows.rows < count = omega (arith, c.rows-test.true, c.len.ensures, is) in
    stack_refused c.args.names count c.args.at c.rows.rows c.rows.rest (c.rows.invariant count is) below
    (words_of c.in-Ok.next.0.now) c.in-Ok.next.1 c.in-Ok.ensures.read c.in-Err-stack_of.refusal c.at_line.result c.at_line.ensures
    c.in-Err-stack_of.ensures.refused v qs

pub rows-preserved : goal.rows-preserved
rows-preserved c = λ count is.
    let below : length c.rows.rows < count = omega (arith, c.rows-test.true, c.len.ensures, is) in
    stack_more c.args.names count c.args.at c.rows.rows c.rows.rest (c.rows.invariant count is) below
    (words_of c.in-Ok.next.0.now) c.in-Ok.next.1 c.in-Ok.ensures.read c.in-Ok-stack_of.stack.items c.push.new.self c.ranges.names.fits
    c.in-Ok-stack_of.ensures.read.0 c.in-Ok-stack_of.ensures.read.1 (c.in_ok-push.ensures.lists ∙ ap (λ row. c.rows.rows ++ row ∷ []) c.deref.ensures.value)

pub returns-clause-read : goal.returns-clause-read
returns-clause-read c = λ v count qs is.
    let full : c.args.size ≤ length c.rows.rows = omega (arith, c.rows-test.false, c.len.ensures) in
    let so_far = c.rows.invariant count is in
    stacks_done c.args.names count c.args.at c.rows.rows c.rows.rest so_far c.args.size is full c.requires.some
    (stack_rows_room c.args.names count c.args.at c.rows.rows c.rows.rest so_far c.requires.room) v qs

pub returns-clause-ascend : goal.returns-clause-ascend
returns-clause-ascend c =
    let own : c.args.size ≡ min c.args.size (2 ^ 64 - 1) = omega (arith, c.ranges.size.fits) in
    (c.rows.invariant c.args.size own).ascend
