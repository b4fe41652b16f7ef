use Rattle.std.proofs.Common.{rules, [], ◌∷◌, ap, ◌∙◌}
use Rattle.ml_nodes.proofs.NumberedDrafts.{begun, no_room, root_too_many, stepped}
use Rattle.ml_blocks.specs.private.Forms.{begin_in, form_in, priority_in, start_in}
use Rattle.ml_blocks.specs.private.Occurrences.{lists_of}
use Rattle.ml_blocks.proofs.SpotEquality.{spots_told}
use Rattle.ml_blocks.proofs.numbering.numbered.Goals as goal

pub of-requires : goal.of-requires
of-requires c = spots_told

pub returns-in_err-numbering-clause-too_large : goal.returns-in_err-numbering-clause-too_large
returns-in_err-numbering-clause-too_large c = λ e.
    let os = c.args.table.now.occurrences.items in
    let lists = lists_of c.args.table.now.eventualities.items in
    root_too_many (form_in os lists (start_in c.args.first c.args.positive)) (priority_in os lists)
    (begin_in c.args.beginning c.args.first c.args.positive) c.args.max (c.in_err-numbering.ensures.full (search rules))

pub loop-alloc-init : goal.loop-alloc-init
loop-alloc-init c =
    let os = c.args.table.now.occurrences.items in
    let lists = lists_of c.args.table.now.eventualities.items in
    let numbering = c.in_ok-numbering.numbering in
    let made = c.in_ok-numbering.ensures in
    begun (form_in os lists (start_in c.args.first c.args.positive)) (priority_in os lists)
    (begin_in c.args.beginning c.args.first c.args.positive) c.args.max numbering.values.keys numbering.draft.nodes.items
    numbering.draft.priorities.items (made.values ∙ ap (λ root. root ∷ []) c.in_ok-root.ensures) made.nodes made.priorities made.few

pub loop-alloc-preserved : goal.loop-alloc-preserved
loop-alloc-preserved c =
    let os = c.args.table.now.occurrences.items in
    let lists = lists_of c.args.table.now.eventualities.items in
    let old = c.loop-alloc.numbering in
    let new = c.step.new.numbering in
    stepped (form_in os lists (start_in c.args.first c.args.positive)) (priority_in os lists)
    (begin_in c.args.beginning c.args.first c.args.positive) c.args.max old.values.keys new.values.keys old.draft.nodes.items
    new.draft.nodes.items old.draft.priorities.items new.draft.priorities.items c.loop-alloc.invariant
    c.in_ok-step.ensures.stepped c.in_ok-step.ensures.few

pub returns-in_err-step-clause-too_large : goal.returns-in_err-step-clause-too_large
returns-in_err-step-clause-too_large c = λ e.
    let os = c.args.table.now.occurrences.items in
    let lists = lists_of c.args.table.now.eventualities.items in
    let old = c.loop-alloc.numbering in
    no_room (form_in os lists (start_in c.args.first c.args.positive)) (priority_in os lists)
    (begin_in c.args.beginning c.args.first c.args.positive) c.args.max old.values.keys old.draft.nodes.items
    old.draft.priorities.items c.loop-alloc.invariant (c.in_err-step.ensures.full (search rules))
