use Rattle.std.proofs.Common.{rules, ◌≡◌, [], ◌∷◌, true, false, set, sym, subst}
use Rattle.std.proofs.lemmas.Bool.{not-true}
use Rattle.ml_labelled.specs.private.Reaching.{IsSpread, mark}
use Rattle.ml_labelled.proofs.SpreadMarks.{spread_new}
use Rattle.ml_labelled.proofs.reaching.visit.Goals as goal

pub returns-in_ok-push : goal.returns-in_ok-push
returns-in_ok-push c =
    let ms = c.args.marks.now.items in
    let ws = c.args.waiting.now.items in
    let new : mark ms c.args.n ≡ false = search (rules, not-true) in
    subst (IsSpread (c.args.n ∷ []) ms ws (set ms c.args.n true)) (sym c.in_ok-push.ensures.items)
    (spread_new c.args.n ms ws c.requires new)
