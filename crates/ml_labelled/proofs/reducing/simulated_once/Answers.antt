use Rattle.std.proofs.Common.{◌≡◌, ◌≤◌, length, ◌∙◌, arith}
use Rattle.std.proofs.lemmas.Result.{IfOk-weaker}
use Rattle.ml_labelled.specs.Labelled.{AcceptSame}
use Rattle.ml_labelled.proofs.ReachedParts.{same_on}
use Rattle.ml_labelled.proofs.reducing.simulated_once.Goals as goal

pub returns-clause-same : goal.returns-clause-same
returns-clause-same c =
    let a = c.args.automaton in
    let b = c.in_ok-simulated.simulated in
    IfOk-weaker c.settled.result (λ d. AcceptSame b d) (λ d. AcceptSame a d)
    (λ d same. same_on a b d c.in_ok-simulated.ensures.same same) c.settled.ensures.same
