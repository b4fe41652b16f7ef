use Rattle.std.proofs.Common.{rules, ◌≡◌, arith, length, subst}
use Rattle.ml_nodes.specs.NumberedValues.{HasNoRoom}
use Rattle.ml_nodes.proofs.NumberedDrafts.{begun, no_room, root_too_many, stepped}
use Rattle.ml_word_graph.specs.private.Reached.{form_in, rank_in}
use Rattle.ml_word_graph.proofs.FewReached.{few_reached}
use Rattle.ml_word_graph.proofs.reached.numbered.Goals as goal

pub loop-numbering-init : goal.loop-numbering-init
loop-numbering-init c =
    let all = c.args.all.now in
    let numbering = c.in_ok-numbering.numbering in
    let made = c.in_ok-numbering.ensures in
    begun (form_in all.nodes.items) (rank_in all.priorities.items) 0 (length all.nodes.items) numbering.values.keys
    numbering.draft.nodes.items numbering.draft.priorities.items made.values made.nodes made.priorities
    (omega (arith, made.few, c.len-max.ensures))

pub loop-numbering-preserved : goal.loop-numbering-preserved
loop-numbering-preserved c =
    let all = c.args.all.now in
    let old = c.loop-numbering.numbering in
    let new = c.step.new.numbering in
    stepped (form_in all.nodes.items) (rank_in all.priorities.items) 0 (length all.nodes.items) old.values.keys new.values.keys
    old.draft.nodes.items new.draft.nodes.items old.draft.priorities.items new.draft.priorities.items c.loop-numbering.invariant
    c.in_ok-step.ensures.stepped (omega (arith, c.in_ok-step.ensures.few, c.len-max.ensures))

pub step-requires-clause-inside : goal.step-requires-clause-inside
step-requires-clause-inside c = λ n k at. c.requires.inside k (c.loop-numbering.invariant.are_met n k at)

pub returns-in_err-numbering-clause-fits : goal.returns-in_err-numbering-clause-fits
returns-in_err-numbering-clause-fits c = λ e.
    let all = c.args.all.now in
    few_reached all.nodes.items c.requires.inside
    (root_too_many (form_in all.nodes.items) (rank_in all.priorities.items) 0 (length all.nodes.items)
    (omega (arith, c.in_err-numbering.ensures.full (search rules), c.len-max.ensures)))

pub returns-in_err-step-clause-fits : goal.returns-in_err-step-clause-fits
returns-in_err-step-clause-fits c = λ e.
    let all = c.args.all.now in
    let old = c.loop-numbering.numbering in
    let room : c.len-max.result ≡ length all.nodes.items = omega (arith, c.len-max.ensures) in
    few_reached all.nodes.items c.requires.inside
    (no_room (form_in all.nodes.items) (rank_in all.priorities.items) 0 (length all.nodes.items) old.values.keys
    old.draft.nodes.items old.draft.priorities.items c.loop-numbering.invariant
    (subst (λ max. HasNoRoom (form_in all.nodes.items) max old.values.keys (length old.draft.nodes.items)) room
    (c.in_err-step.ensures.full (search rules))))
