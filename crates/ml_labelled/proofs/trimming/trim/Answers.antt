use Rattle.std.proofs.Common.{subst}
use Rattle.ml_labelled.specs.private.Trimming.{Guides, by_guide}
use Rattle.ml_labelled.specs.private.Views.{rows_of}
use Rattle.ml_labelled.proofs.trimming.trim.Goals as goal

pub returns : goal.returns
returns c =
    let g = c.in_ok-guide.guide in
    by_guide g
    (subst (λ rows. Guides g (rows_of rows)) c.deref-2.ensures.value (c.guides.ensures c.if-not-guides.false))
    c.in_ok-trim_all.ensures
