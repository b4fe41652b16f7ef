use Rattle.std.proofs.Common.{◌++◌, [], ◌∷◌, refl, sym, subst, arith, length-append}
use Rattle.std.proofs.lemmas.Result.{err_from_is_err_and}
use Rattle.ml_spec.specs.Scan.{items_at, item_text}
use Rattle.ml_spec.specs.private.Stages.{IsReadTo}
use Rattle.ml_spec.proofs.ReadItems.{stopped_told}
use Rattle.ml_spec.proofs.Readings.{none_read, read_more}
use Rattle.ml_spec.proofs.reading.add_items.Goals as goal

pub loop-item-init : goal.loop-item-init
loop-item-init c = record {
  within = c.requires.from;
  statements = [];
  is_read = none_read c.args.logic (items_at c.args.text.now c.args.from);
  is_context = c.requires.context;
  are_counted = refl;
}

pub read_item-requires-clause-room : goal.read_item-requires-clause-room
read_item-requires-clause-room c =
    omega (arith, c.loop-item.invariant.are_counted, c.loop-item.invariant.is_read.are_few)

pub overflow_add-before : goal.overflow_add-before
overflow_add-before c = omega (arith, c.loop-item.invariant.are_counted, c.loop-item.invariant.is_read.are_few)

pub loop-item-preserved : goal.loop-item-preserved
loop-item-preserved c =
    let l = c.args.logic in
    let text = c.args.text.now in
    let all = items_at text c.args.from in
    let so_far = c.loop-item.invariant in
    let ss = so_far.statements in
    let i = item_text c.in-Some.item in
    let stepped = c.in_ok-read_item.ensures ss (sym so_far.are_counted) so_far.is_context in
    let read = subst (λ is. IsReadTo l all is ss) c.in-Some.ensures.items so_far.is_read in
    record {
      within = c.in-Some.ensures.place.1;
      statements = ss ++ stepped.statement ∷ [];
      is_read = read_more l all (items_at text c.in-Some.next) ss i stepped.statement read stepped.is_next;
      is_context = stepped.is_context;
      are_counted = omega (arith, so_far.are_counted, length-append ss (stepped.statement ∷ []));
    }

pub returns-in_err-read_item-clause-refused : goal.returns-in_err-read_item-clause-refused
returns-in_err-read_item-clause-refused c =
    let l = c.args.logic in
    let text = c.args.text.now in
    let all = items_at text c.args.from in
    let so_far = c.loop-item.invariant in
    let ss = so_far.statements in
    let i = item_text c.in-Some.item in
    let p = err_from_is_err_and c.from_residual.result c.from_residual.ensures.1 in
    rw (p.1, p.2)
    (stopped_told l all ss i (items_at text c.in-Some.next) c.in_err-read_item.field-0.0
    (subst (λ is. IsReadTo l all is ss) c.in-Some.ensures.items so_far.is_read)
    (c.in_err-read_item.ensures ss (sym so_far.are_counted) so_far.is_context))

pub read_item-requires-clause-definitions : goal.read_item-requires-clause-definitions
read_item-requires-clause-definitions c = c.loop-item.invariant.is_context.of_logic
