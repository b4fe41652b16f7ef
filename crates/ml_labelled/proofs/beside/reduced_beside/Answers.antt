use Rattle.std.proofs.lemmas.Result.{IfOk-weaker}
use Rattle.ml_labelled.specs.Labelled.{AcceptSame}
use Rattle.ml_labelled.proofs.ReachedParts.{same_on}
use Rattle.ml_labelled.proofs.beside.reduced_beside.Goals as goal

pub returns-in-Some-clause-same : goal.returns-in-Some-clause-same
returns-in-Some-clause-same c =
    let a = c.args.automaton in
    let s = c.in_ok-small.small in
    let b = c.replaced-other.result in
    IfOk-weaker c.reached_part.result (λ d. AcceptSame b d) (λ d. AcceptSame a d)
    (λ d same. same_on a s d c.in_ok-small.ensures.same (same_on s b d c.replaced-other.ensures.same same))
    c.reached_part.ensures.same
