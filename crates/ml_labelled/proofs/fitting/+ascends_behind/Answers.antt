use Rattle.std.proofs.Common.{◌∷◌, map, sym, subst}
use Rattle.ml_lists.specs.Ascending.{IsAscending}
use Rattle.ml_lists.proofs.Ascending.{ascending-cons}
use Rattle.ml_labelled.specs.private.Fitting.{prop_of}
use Rattle.ml_labelled.proofs.fitting.+ascends_behind.Goals as goal

pub returns-else-first-prop : goal.returns-else-first-prop
returns-else-first-prop t c = λ is.
    subst (λ ls. IsAscending (c.args.prop ∷ map prop_of ls)) (sym c.in-Some.ensures.cases.0)
    (ascending-cons c.args.prop c.in-Some.first.now.prop (map prop_of c.in-Some.rest.now) c.if-first-prop.false
    (c.ascends_behind.ensures is))
