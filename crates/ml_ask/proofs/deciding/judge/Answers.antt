use Rattle.std.proofs.lemmas.Result.{IfOk-weaker}
use Rattle.ml_spec.specs.Questions.{is_in}
use Rattle.ml_ask.specs.private.Steps.{IsJudged, IsJudgedOf}
use Rattle.ml_ask.proofs.Judged.{judged_as}
use Rattle.ml_ask.proofs.deciding.judge.Goals as goal

pub returns-in-Some : goal.returns-in-Some
returns-in-Some c =
    let a = c.args.asked in
    let S = is_in c.args.taken.now in
    let p = c.in-Some.problem in
    let made = rw c.in-Some.is at c.in_ok-problem.ensures in
    IfOk-weaker c.judge_problem.result (IsJudgedOf a.limit p) (IsJudged a S)
    (λ j told. judged_as a S p j c.requires.asked made.formula made.plain made.well_formed told) c.judge_problem.ensures
