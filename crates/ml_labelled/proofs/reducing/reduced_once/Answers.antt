use Rattle.std.proofs.lemmas.Result.{IfOk-weaker}
use Rattle.ml_labelled.specs.Labelled.{AcceptSame}
use Rattle.ml_labelled.proofs.ReachedParts.{same_on}
use Rattle.ml_labelled.proofs.reducing.reduced_once.Goals as goal

pub returns-clause-same : goal.returns-clause-same
returns-clause-same c =
    let a = c.args.automaton in
    let t = c.in_ok-trimmed.trimmed in
    let b = c.in_ok-merged.merged in
    IfOk-weaker c.reached_part.result (λ d. AcceptSame b d) (λ d. AcceptSame a d)
    (λ d same. same_on a t d c.in_ok-trimmed.ensures.same (same_on t b d c.in_ok-merged.ensures.same same))
    c.reached_part.ensures.same
