use Rattle.std.proofs.Common.{◌∙◌, length, ap, sym, subst, slice_get, ◌-◌}
use Rattle.std.specs.Option.{option_copied}
use Rattle.ml_lists.proofs.Chains.{last_is}
use Rattle.ml_lines.specs.Reading.{words_of}
use Rattle.ml_refutation_text.specs.private.ReadTables.{form_of}
use Rattle.ml_refutation_text.specs.private.ItemReads.{before_of, IsTraceLine}
use Rattle.ml_refutation_text.proofs.TablesGrow.{grows_none, grows_on}
use Rattle.ml_refutation_text.proofs.TracesRead.{ItemsTo, items_begin, items_room, items_missing, items_broken, items_more, items_heights}
use Rattle.ml_refutation_text.proofs.traces.read_traces.Goals as goal

pub loop-next-init : goal.loop-next-init
loop-next-init c =
    let old = c.args.tables.now in
    subst (λ items. ItemsTo c.args.version c.args.names c.args.live old c.args.at old items c.args.at) (sym c.new-items.ensures.items)
    (items_begin c.args.version c.args.names c.args.live old c.args.at)

pub next_line-requires : goal.next_line-requires
next_line-requires c =
    items_room c.args.version c.args.names c.args.live c.args.tables.now c.args.at c.loop-next.tables c.loop-next.items.items c.loop-next.rest
    c.loop-next.invariant c.requires.room

pub returns-in-Err-clause-refused : goal.returns-in-Err-clause-refused
returns-in-Err-clause-refused c =
    items_missing c.args.version c.args.names c.args.live c.args.tables.now c.args.at c.loop-next.tables c.loop-next.items.items
    c.loop-next.rest c.loop-next.invariant c.in-Err.refusal c.in-Err.ensures.missing

pub returns-in-Err-trace_line-clause-grows : goal.returns-in-Err-trace_line-clause-grows
returns-in-Err-trace_line-clause-grows c =
    grows_on c.args.version c.args.tables.now c.loop-next.tables c.trace_line.new.tables c.loop-next.invariant.grown
    c.trace_line.ensures.grows

pub returns-in-Err-trace_line-clause-refused : goal.returns-in-Err-trace_line-clause-refused
returns-in-Err-trace_line-clause-refused c =
    let items = c.loop-next.items.items in
    let last = ap before_of (c.last.ensures.value ∙ ap (λ as'. slice_get as' (length as' - 1)) c.deref.ensures.value ∙ sym (last_is items)) in
    items_broken c.args.version c.args.names c.args.live c.args.tables.now c.args.at c.loop-next.tables items c.loop-next.rest
    c.loop-next.invariant (words_of c.in-Ok.next.0.now) c.in-Ok.next.1 c.in-Ok.ensures.read
    (before_of (option_copied c.last.result)) last c.in-Err-trace_line.refusal c.at_line.result c.at_line.ensures
    c.in-Err-trace_line.ensures.refused

pub returns-in_err-push-in-Item-clause-grows : goal.returns-in_err-push-in-Item-clause-grows
returns-in_err-push-in-Item-clause-grows c =
    grows_on c.args.version c.args.tables.now c.loop-next.tables c.trace_line.new.tables c.loop-next.invariant.grown
    c.trace_line.ensures.grows

pub returns-in-Heights-clause-grows : goal.returns-in-Heights-clause-grows
returns-in-Heights-clause-grows c =
    grows_on c.args.version c.args.tables.now c.loop-next.tables c.trace_line.new.tables c.loop-next.invariant.grown
    c.trace_line.ensures.grows

pub returns-in-Heights-clause-read : goal.returns-in-Heights-clause-read
returns-in-Heights-clause-read c =
    let items = c.loop-next.items.items in
    let words = words_of c.in-Ok.next.0.now in
    let before = before_of (option_copied c.last.result) in
    let last = ap before_of (c.last.ensures.value ∙ ap (λ as'. slice_get as' (length as' - 1)) c.deref.ensures.value ∙ sym (last_is items)) in
    let new = c.trace_line.new.tables in
    let is =
    subst (IsTraceLine (form_of c.args.version c.loop-next.tables) c.args.names c.args.live before words new.stacks) c.in-Heights.is
    (c.in-Ok-trace_line.ensures.read new (grows_none c.args.version new)) in
    (items_heights c.args.version c.args.names c.args.live c.args.tables.now c.args.at c.loop-next.tables items c.loop-next.rest
    c.loop-next.invariant words c.in-Ok.next.1 c.in-Ok.ensures.read before last c.ranges.names.fits c.requires.within new
    c.trace_line.ensures.grows c.in-Heights.heights.items is).0

pub loop-next-preserved : goal.loop-next-preserved
loop-next-preserved c =
    let items = c.loop-next.items.items in
    let words = words_of c.in-Ok.next.0.now in
    let before = before_of (option_copied c.last.result) in
    let last = ap before_of (c.last.ensures.value ∙ ap (λ as'. slice_get as' (length as' - 1)) c.deref.ensures.value ∙ sym (last_is items)) in
    let new = c.trace_line.new.tables in
    let F = form_of c.args.version c.loop-next.tables in
    items_more c.args.version c.args.names c.args.live c.args.tables.now c.args.at c.loop-next.tables items c.loop-next.rest
    c.loop-next.invariant words c.in-Ok.next.1 c.in-Ok.ensures.read before last c.ranges.names.fits c.requires.within new
    c.trace_line.ensures.grows c.in-Item.item c.push.new.self.items
    (λ later grows.
    subst (IsTraceLine F c.args.names c.args.live before words later.stacks) c.in-Item.is (c.in-Ok-trace_line.ensures.read later grows))
    c.in_ok-push-in-Item.ensures.items
