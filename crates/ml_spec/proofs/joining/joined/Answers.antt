use Rattle.std.proofs.Common.{◌<◌, ◌≤◌, ◌+◌, sym, ap, subst, ◌∙◌}
use Rattle.ml_text.specs.Limits.{most_occurrences}
use Rattle.ml_front.specs.Connectives.{AreOf}
use Rattle.ml_spec.specs.Questions.{is_in, parts_of}
use Rattle.ml_spec.specs.private.Sizes.{total}
use Rattle.ml_spec.proofs.ChosenItems.{parts_in}
use Rattle.ml_spec.proofs.JoinedSizes.{long_joined}
use Rattle.ml_spec.proofs.joining.joined.Goals as goal

pub returns-then-total-clause-formula : goal.returns-then-total-clause-formula
returns-then-total-clause-formula c =
    let l = c.args.specification.now.logic in
    let xs = c.args.specification.now.items.items in
    let S = is_in c.args.taken.now in
    let q = c.args.question in
    let whole = c.total_of-total.ensures ∙ ap (λ ys. total (parts_of S ys q)) c.deref.ensures.value in
    long_joined l (parts_of S xs q) (parts_in l S xs c.requires.specified q c.requires.question)
    (subst (λ n. most_occurrences + 1 < n) whole c.if-total.true)

pub parts_of-requires-clause-fits : goal.parts_of-requires-clause-fits
parts_of-requires-clause-fits c =
    let S = is_in c.args.taken.now in
    let q = c.args.question in
    let same = c.deref.ensures.value ∙ sym c.deref-2.ensures.value in
    subst (λ n. n ≤ most_occurrences + 1) (c.total_of-total.ensures ∙ ap (λ ys. total (parts_of S ys q)) same) c.if-total.false

pub joined-requires : goal.joined-requires
joined-requires c =
    let S = is_in c.args.taken.now in
    let parts = c.in_ok-parts.ensures ∙ ap (λ ys. parts_of S ys c.args.question) c.deref-2.ensures.value in
    subst (AreOf c.args.specification.now.logic) (sym parts)
    (parts_in c.args.specification.now.logic S c.args.specification.now.items.items c.requires.specified c.args.question
    c.requires.question)
