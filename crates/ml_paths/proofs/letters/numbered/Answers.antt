use Rattle.std.proofs.Common.{◌+◌, ◌∷◌, ◌++◌, [], sym, subst}
use Rattle.ml_paths.specs.private.Letters.{AreNumbered}
use Rattle.ml_paths.proofs.Grown.{numbered_more}
use Rattle.ml_paths.proofs.letters.numbered.Goals as goal

pub loop-state-preserved : goal.loop-state-preserved
loop-state-preserved c =
    let g = c.args.graph.now in
    let m = c.args.structure.now in
    let k = c.loop-state.state in
    let keys = c.number.new.labels.keys in
    subst (AreNumbered g m (k + 1) keys) (sym c.in_ok-push.ensures.items)
    (subst (λ n. AreNumbered g m (k + 1) keys (c.loop-state.numbers.items ++ n ∷ [])) (sym c.in-Ok.ensures.1)
    (numbered_more g m k c.loop-state.labels.keys keys c.in_ok-label_of.field-0 c.loop-state.numbers.items c.in_ok-at.at
    c.loop-state.invariant c.in_ok-label_of.ensures c.in_ok-at.ensures))
