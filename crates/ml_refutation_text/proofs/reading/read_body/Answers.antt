use Rattle.std.proofs.Common.{◌≡◌, ◌+◌, map, refl, ◌∙◌, arith}
use Rattle.std.proofs.lemmas.List.{length-map}
use Rattle.ml_refutation.specs.Refutation.{Refutation}
use Rattle.ml_refutation.specs.Views.{entry_of}
use Rattle.ml_refutation_text.specs.BodyRules.{AtNames}
use Rattle.ml_refutation_text.specs.PartLines.{entries_size}
use Rattle.ml_refutation_text.specs.private.ReadTables.{form_of}
use Rattle.ml_refutation_text.proofs.Going.{goes_on, fault_on, room_on}
use Rattle.ml_refutation_text.proofs.BodyRead.{names_goes, goes_up, at_end, body_read}
use Rattle.ml_refutation_text.proofs.reading.read_body.Goals as goal

pub returns-in-Err-clause-refused : goal.returns-in-Err-clause-refused
returns-in-Err-clause-refused c = c.in-Err.ensures.refused c.args.version AtNames refl tt

pub read_form-requires : goal.read_form-requires
read_form-requires c =
    room_on (names_goes c.args.version c.in-Ok.read.0 c.in-Ok.ensures.read.2 c.in-Ok.ensures.read.0) c.requires

pub returns-in-Err-read_form-clause-refused : goal.returns-in-Err-read_form-clause-refused
returns-in-Err-read_form-clause-refused c =
    let first = names_goes c.args.version c.in-Ok.read.0 c.in-Ok.ensures.read.2 c.in-Ok.ensures.read.0 in
    fault_on c.in-Err-read_form.refusal first c.in-Err-read_form.ensures.refused

pub read_count-requires : goal.read_count-requires
read_count-requires c =
    let first = names_goes c.args.version c.in-Ok.read.0 c.in-Ok.ensures.read.2 c.in-Ok.ensures.read.0 in
    room_on (goes_on first c.in-Ok-read_form.ensures.read) c.requires

pub returns-in-Err-read_count-clause-refused : goal.returns-in-Err-read_count-clause-refused
returns-in-Err-read_count-clause-refused c =
    let first = names_goes c.args.version c.in-Ok.read.0 c.in-Ok.ensures.read.2 c.in-Ok.ensures.read.0 in
    fault_on c.in-Err-read_count.refusal (goes_on first c.in-Ok-read_form.ensures.read)
    (c.in-Err-read_count.ensures.refused c.args.version c.in-Ok.read.0 (form_of c.args.version c.in-Ok-read_form.read.0))

pub read_entries-requires : goal.read_entries-requires
read_entries-requires c =
    let v = c.args.version in
    let first = names_goes v c.in-Ok.read.0 c.in-Ok.ensures.read.2 c.in-Ok.ensures.read.0 in
    let second = goes_on first c.in-Ok-read_form.ensures.read in
    room_on (goes_on second (c.in-Ok-read_count.ensures.read v _ _)) c.requires

pub returns-in-Err-read_entries-clause-refused : goal.returns-in-Err-read_entries-clause-refused
returns-in-Err-read_entries-clause-refused c =
    let v = c.args.version in
    let first = names_goes v c.in-Ok.read.0 c.in-Ok.ensures.read.2 c.in-Ok.ensures.read.0 in
    let second = goes_on first c.in-Ok-read_form.ensures.read in
    fault_on c.in-Err-read_entries.refusal (goes_on second (c.in-Ok-read_count.ensures.read v _ _))
    (c.in-Err-read_entries.ensures.refused v)

pub read_end-requires : goal.read_end-requires
read_end-requires c =
    let v = c.args.version in
    let first = names_goes v c.in-Ok.read.0 c.in-Ok.ensures.read.2 c.in-Ok.ensures.read.0 in
    let second = goes_on first c.in-Ok-read_form.ensures.read in
    let third = goes_on second (c.in-Ok-read_count.ensures.read v _ _) in
    room_on (goes_on third (c.in-Ok-read_entries.ensures.read v)) c.requires

pub returns-in-Ok-read_end-clause-read : goal.returns-in-Ok-read_end-clause-read
returns-in-Ok-read_end-clause-read c =
    let v = c.args.version in
    let names = c.in-Ok.read.0 in
    let F = form_of v c.in-Ok-read_form.read.0 in
    let wanted = c.in-Ok-read_count.read.0 in
    let items = c.in-Ok-read_entries.read.0.items in
    let tables = c.read_entries.new.tables in
    let es = map (entry_of tables.sequents tables.stacks) items in
    let r : Refutation = record { names = names; entries = es } in
    let at = c.args.at in
    let d = c.in-Ok-read_count.read.1 in
    let end = c.in-Ok-read_end.field-0 in
    let first = names_goes v names c.in-Ok.ensures.read.2 c.in-Ok.ensures.read.0 in
    let third = goes_on (goes_on first c.in-Ok-read_form.ensures.read) (c.in-Ok-read_count.ensures.read v _ _) in
    let fourth = goes_on third (c.in-Ok-read_entries.ensures.read v) in
    let many = length-map items (entry_of tables.sequents tables.stacks) ∙ c.in-Ok-read_entries.ensures.whole in
    let ended = at_end names wanted F es many fourth in
    let nothing = c.in-Ok-read_end.ensures.nothing in
    let counted : end.line ≡ d.line + entries_size v es + 1 = omega (arith, nothing.1, c.in-Ok-read_entries.ensures.counted) in
    body_read v at end r (goes_on ended (c.in-Ok-read_end.ensures.read v r)) nothing.0 d.line
    c.in-Ok-read_entries.read.1.items (goes_up third) c.in-Ok-read_entries.ensures.parts counted

pub returns-in-Err-read_end-clause-refused : goal.returns-in-Err-read_end-clause-refused
returns-in-Err-read_end-clause-refused c =
    let v = c.args.version in
    let names = c.in-Ok.read.0 in
    let items = c.in-Ok-read_entries.read.0.items in
    let tables = c.read_entries.new.tables in
    let es = map (entry_of tables.sequents tables.stacks) items in
    let first = names_goes v names c.in-Ok.ensures.read.2 c.in-Ok.ensures.read.0 in
    let third = goes_on (goes_on first c.in-Ok-read_form.ensures.read) (c.in-Ok-read_count.ensures.read v _ _) in
    let fourth = goes_on third (c.in-Ok-read_entries.ensures.read v) in
    let many = length-map items (entry_of tables.sequents tables.stacks) ∙ c.in-Ok-read_entries.ensures.whole in
    let ended = at_end names c.in-Ok-read_count.read.0 (form_of v c.in-Ok-read_form.read.0) es many fourth in
    fault_on c.in-Err-read_end.refusal ended (c.in-Err-read_end.ensures.refused v (record { names = names; entries = es }))
