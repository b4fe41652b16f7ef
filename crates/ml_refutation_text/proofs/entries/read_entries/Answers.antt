use Rattle.std.proofs.Common.{[], sym, subst}
use Rattle.ml_refutation_text.proofs.EntriesRead.{EntriesTo, entries_begin, entries_room, entries_refused, entries_more}
use Rattle.ml_refutation_text.proofs.TablesGrow.{grows_none}
use Rattle.ml_refutation_text.proofs.entries.read_entries.Goals as goal

pub loop-number-init : goal.loop-number-init
loop-number-init c =
    let k = c.args.known in
    let old = c.args.tables.now in
    subst (λ es. EntriesTo k.names k.wanted k.version old c.args.at old es c.new-parts.result.items 0 c.args.at)
    (sym c.new-entries.ensures.items)
    (subst (λ ps. EntriesTo k.names k.wanted k.version old c.args.at old [] ps 0 c.args.at) (sym c.new-parts.ensures.items)
    (entries_begin k.names k.wanted k.version old c.args.at))

pub read_entry-requires : goal.read_entry-requires
read_entry-requires c =
    let k = c.args.known in
    entries_room k.names k.wanted k.version c.args.tables.now c.args.at c.loop-number.tables c.loop-number.entries.items
    c.loop-number.parts.items c.loop-number.number c.loop-number.rest c.loop-number.invariant c.requires

pub returns-in-Err-clause-refused : goal.returns-in-Err-clause-refused
returns-in-Err-clause-refused c =
    let k = c.args.known in
    entries_refused k.names k.wanted k.version c.args.tables.now c.args.at c.loop-number.tables c.loop-number.entries.items
    c.loop-number.parts.items c.loop-number.number c.loop-number.rest c.loop-number.invariant c.loop-number-test.true
    c.in-Err.refusal c.in-Err.ensures.refused

pub loop-number-preserved : goal.loop-number-preserved
loop-number-preserved c =
    let k = c.args.known in
    entries_more k.names k.wanted k.version c.args.tables.now c.args.at c.loop-number.tables c.loop-number.entries.items
    c.loop-number.parts.items c.loop-number.number c.loop-number.rest c.loop-number.invariant c.loop-number-test.true
    c.read_entry.new.tables c.in-Ok.read.0 c.in-Ok.read.1 c.in-Ok.read.2 c.push.new.self.items
    c.push-in-loop-number.new.self.items c.in-Ok.ensures.read c.read_entry.ensures.grows c.in-Ok.ensures.parts
    c.in-Ok.ensures.counted c.in_ok-push.ensures.items c.in_ok-push-2.ensures.items

pub returns-clause-read : goal.returns-clause-read
returns-clause-read c = λ v. c.loop-number.invariant.goes v c.loop-number.tables (grows_none c.args.known.version c.loop-number.tables)

pub returns-clause-parts : goal.returns-clause-parts
returns-clause-parts c = c.loop-number.invariant.are_parts c.loop-number.tables.sequents c.loop-number.tables.stacks

pub returns-clause-counted : goal.returns-clause-counted
returns-clause-counted c = c.loop-number.invariant.counted c.loop-number.tables.sequents c.loop-number.tables.stacks
