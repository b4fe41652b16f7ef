use Rattle.std.proofs.Common.{◌≡◌, ◌≤◌, ◌+◌, ◌++◌, ◌∷◌, [], sym, ap, subst, ◌∙◌}
use Rattle.std.proofs.lemmas.Result.{IfOk-weaker}
use Rattle.ml_text.specs.Limits.{most_occurrences}
use Rattle.ml_spec.specs.Joined.{asked, requirements}
use Rattle.ml_spec.specs.Questions.{asked_by, chosen, is_in, parts_of, IsQuestion}
use Rattle.ml_spec.specs.private.Sizes.{total}
use Rattle.ml_spec.proofs.ChosenItems.{asked_fits, asked_here}
use Rattle.ml_spec.proofs.joining.parts_of.Goals as goal

pub with_asked-requires : goal.with_asked-requires
with_asked-requires c =
    let xs = c.args.items.now in
    let S = is_in c.args.taken.now in
    let question = subst (IsQuestion xs) c.in-Asks.is c.requires.question in
    asked_fits S xs c.in-Asks.number c.index-items-number.result question.0 question.1 c.index-items-number.is
    (subst (λ q. total (parts_of S xs q) ≤ most_occurrences + 1) c.in-Asks.is c.requires.fits)

pub returns-in-Asks : goal.returns-in-Asks
returns-in-Asks c =
    let xs = c.args.items.now in
    let S = is_in c.args.taken.now in
    let n = c.in-Asks.number in
    let x = c.index-items-number.result in
    let question = subst (IsQuestion xs) c.in-Asks.is c.requires.question in
    let here = ap (asked_by xs) c.in-Asks.is ∙ asked_here xs n x question.0 question.1 c.index-items-number.is in
    IfOk-weaker c.with_asked.result (λ parts. parts.items ≡ c.in_ok-parts.parts.items ++ asked x ∷ [])
    (λ parts. parts.items ≡ parts_of S xs c.args.question)
    (λ parts is.
    is
    ∙ ap (λ fs. fs ++ asked x ∷ []) c.in_ok-parts.ensures
    ∙ ap (λ fs. requirements (chosen S xs) ++ fs) (sym here))
    c.with_asked.ensures
