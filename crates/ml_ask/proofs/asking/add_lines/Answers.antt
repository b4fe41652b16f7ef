use Rattle.std.proofs.Common.{◌<◌, true, length, ap, subst, sym, ◌∙◌}
use Rattle.std.proofs.lemmas.List.{length-replicate}
use Rattle.ml_spec.specs.Questions.{is_in}
use Rattle.ml_replies.proofs.Taken.{count}
use Rattle.ml_ask.specs.declared.asked.Asked.{Asked}
use Rattle.ml_ask.proofs.AnswersInOrder.{fewer_left, lines_begin, lines_go_on, AreLines}
use Rattle.ml_ask.proofs.asking.add_lines.Goals as goal

pub loop-left-init : goal.loop-left-init
loop-left-init c =
    let xs = c.args.specification.now.items.items in
    lines_begin c.args.specification.now.logic xs c.args.limit c.args.all.items c.args.answers.now.items
    (ap length c.requires.all ∙ length-replicate (length xs) true) c.requires.all c.requires.empty

pub loop-left-preserved : goal.loop-left-preserved
loop-left-preserved c =
    let l = c.args.specification.now.logic in
    let xs = c.args.specification.now.items.items in
    let q = c.loop-left.question in
    let old = c.loop-left.answers.items in
    let a : Asked =
    record { specification = c.args.specification; among = c.deref.result; question = q; limit = c.args.limit } in
    let so = subst (λ bs. AreLines l xs c.args.limit bs q old) (sym c.deref.ensures.value) c.loop-left.invariant in
    let added = rw c.in-Some.is at c.in_ok-rest.ensures in
    lines_go_on a old c.add_line.new.answers.items c.in-Some.rest so added

pub loop-left-smaller : goal.loop-left-smaller
loop-left-smaller c =
    let l = c.args.specification.now.logic in
    let xs = c.args.specification.now.items.items in
    let q = c.loop-left.question in
    let old = c.loop-left.answers.items in
    let a : Asked =
    record { specification = c.args.specification; among = c.deref.result; question = q; limit = c.args.limit } in
    let so = subst (λ bs. AreLines l xs c.args.limit bs q old) (sym c.deref.ensures.value) c.loop-left.invariant in
    let added = rw c.in-Some.is at c.in_ok-rest.ensures in
    subst (λ bs. count (is_in c.in-Some.rest.items) (length xs) < count (is_in bs) (length xs)) c.deref.ensures.value
    (fewer_left a old c.add_line.new.answers.items c.in-Some.rest so added)
