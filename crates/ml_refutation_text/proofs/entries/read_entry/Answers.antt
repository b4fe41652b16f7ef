use Rattle.std.proofs.Common.{[], map, slice_index_or, subst}
use Rattle.ml_base.specs.declared.version.Version.TheVariants.{One}
use Rattle.ml_refutation.specs.Views.{item_of}
use Rattle.ml_refutation_text.specs.BodyRules.{Begun, AtItem}
use Rattle.ml_refutation_text.specs.private.Reads.{TellsFault}
use Rattle.ml_refutation_text.specs.private.ReadTables.{form_of}
use Rattle.ml_refutation_text.specs.private.ItemReads.{knows}
use Rattle.ml_refutation_text.proofs.Going.{goes_on, fault_on, room_on}
use Rattle.ml_refutation_text.proofs.EntriesRead.{begun_goes, some_entries, length-some_entries}
use Rattle.ml_refutation_text.proofs.TablesGrow.{grows_none, grows_on, same_form}
use Rattle.ml_refutation_text.proofs.entries.read_entry.Goals as goal

pub read_live-requires : goal.read_live-requires
read_live-requires c =
    let n = c.args.number in
    let mid = c.read_head.new.tables in
    room_on (c.in-Ok.ensures.read One 0 0 (some_entries n) mid (length-some_entries n) (grows_none c.args.known.version mid)) c.requires

pub returns-in-Err-read_live-clause-refused : goal.returns-in-Err-read_live-clause-refused
returns-in-Err-read_live-clause-refused c = λ v es here.
    let k = c.args.known in
    let mid = c.read_head.new.tables in
    fault_on c.in-Err-read_live.refusal (c.in-Ok.ensures.read v k.names k.wanted es mid here (grows_none k.version mid))
    (c.in-Err-read_live.ensures.refused v (form_of k.version c.args.tables.now) k.wanted es (slice_index_or mid.sequents c.in-Ok.read.0 []))

pub read_traces-requires-clause-room : goal.read_traces-requires-clause-room
read_traces-requires-clause-room c =
    let n = c.args.number in
    let k = c.args.known in
    let mid = c.read_head.new.tables in
    let first = c.in-Ok.ensures.read One 0 0 (some_entries n) mid (length-some_entries n) (grows_none k.version mid) in
    room_on (c.in-Ok-read_live.ensures.read One (form_of k.version mid) 0 [] []) (room_on first c.requires)

pub returns-in-Err-read_traces-clause-refused : goal.returns-in-Err-read_traces-clause-refused
returns-in-Err-read_traces-clause-refused c = λ v es here.
    let k = c.args.known in
    let old = c.args.tables.now in
    let mid = c.read_head.new.tables in
    let q = slice_index_or mid.sequents c.in-Ok.read.0 [] in
    let e = c.in-Err-read_traces.refusal in
    let second =
    goes_on (c.in-Ok.ensures.read v k.names k.wanted es mid here (grows_none k.version mid))
    (c.in-Ok-read_live.ensures.read v (form_of k.version old) k.wanted es q)
    in
    fault_on e second
    (subst
    (λ F. TellsFault v (AtItem (knows k.names F k.wanted) es q (record { live = c.in-Ok-read_live.read.0; items = [] })) c.in-Ok-read_live.read.1 e)
    (same_form k.version old mid c.read_head.ensures.grows) (c.in-Err-read_traces.ensures.refused v k.wanted es q))

pub returns-in-Err-read_traces-clause-grows : goal.returns-in-Err-read_traces-clause-grows
returns-in-Err-read_traces-clause-grows c =
    grows_on c.args.known.version c.args.tables.now c.read_head.new.tables c.read_traces.new.tables c.read_head.ensures.grows
    c.read_traces.ensures.grows

pub read_decision-requires : goal.read_decision-requires
read_decision-requires c =
    let n = c.args.number in
    let k = c.args.known in
    let mid = c.read_head.new.tables in
    let new = c.read_traces.new.tables in
    let first = c.in-Ok.ensures.read One 0 0 (some_entries n) mid (length-some_entries n) (grows_none k.version mid) in
    let second = c.in-Ok-read_live.ensures.read One (form_of k.version mid) 0 [] [] in
    room_on (c.in-Ok-read_traces.ensures.read One 0 [] [] new (grows_none k.version new)) (room_on second (room_on first c.requires))

pub returns-in-Err-read_decision-clause-refused : goal.returns-in-Err-read_decision-clause-refused
returns-in-Err-read_decision-clause-refused c = λ v es here.
    let k = c.args.known in
    let old = c.args.tables.now in
    let mid = c.read_head.new.tables in
    let new = c.read_traces.new.tables in
    let b : Begun = record {
      sequent = slice_index_or new.sequents c.in-Ok.read.0 [];
      traces = record { live = c.in-Ok-read_live.read.0; items = map (item_of new.stacks) c.in-Ok-read_traces.read.0.items };
      heights = c.in-Ok-read_traces.read.1.items;
    } in
    let second =
    goes_on (c.in-Ok.ensures.read v k.names k.wanted es new here c.read_traces.ensures.grows)
    (c.in-Ok-read_live.ensures.read v (form_of k.version old) k.wanted es b.sequent)
    in
    let third =
    begun_goes k.version v old mid k.names k.wanted es b c.read_head.ensures.grows second
    (c.in-Ok-read_traces.ensures.read v k.wanted es b.sequent new (grows_none k.version new))
    in
    fault_on c.in-Err-read_decision.refusal third (c.in-Err-read_decision.ensures.refused v (form_of k.version old) es b)

pub returns-in-Err-read_decision-clause-grows : goal.returns-in-Err-read_decision-clause-grows
returns-in-Err-read_decision-clause-grows c =
    grows_on c.args.known.version c.args.tables.now c.read_head.new.tables c.read_traces.new.tables c.read_head.ensures.grows
    c.read_traces.ensures.grows

pub returns-clause-read : goal.returns-clause-read
returns-clause-read c = λ v es later here onward.
    let k = c.args.known in
    let old = c.args.tables.now in
    let mid = c.read_head.new.tables in
    let new = c.read_traces.new.tables in
    let b : Begun = record {
      sequent = slice_index_or later.sequents c.in-Ok.read.0 [];
      traces = record { live = c.in-Ok-read_live.read.0; items = map (item_of later.stacks) c.in-Ok-read_traces.read.0.items };
      heights = c.in-Ok-read_traces.read.1.items;
    } in
    let second =
    goes_on (c.in-Ok.ensures.read v k.names k.wanted es later here (grows_on k.version mid new later c.read_traces.ensures.grows onward))
    (c.in-Ok-read_live.ensures.read v (form_of k.version old) k.wanted es b.sequent)
    in
    let third =
    begun_goes k.version v old mid k.names k.wanted es b c.read_head.ensures.grows second
    (c.in-Ok-read_traces.ensures.read v k.wanted es b.sequent later onward)
    in
    goes_on third (c.in-Ok-read_decision.ensures.read v (form_of k.version old) es b)

pub returns-clause-grows : goal.returns-clause-grows
returns-clause-grows c =
    grows_on c.args.known.version c.args.tables.now c.read_head.new.tables c.read_traces.new.tables c.read_head.ensures.grows
    c.read_traces.ensures.grows
