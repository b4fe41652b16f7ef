use Rattle.std.proofs.Common.{ap, subst, sym, ◌∙◌}
use Rattle.std.proofs.lemmas.Result.{IfOk-weaker}
use Rattle.ml_front.specs.Logics.{logic_of}
use Rattle.ml_front.specs.Problems.{IsAdmitted}
use Rattle.ml_front.proofs.Connected.{well_small}
use Rattle.ml_spec.specs.Questions.{is_in}
use Rattle.ml_replies.specs.Meeting.{problem_of}
use Rattle.ml_replies.specs.private.Checks.{JoinedAs, OneAs}
use Rattle.ml_replies.proofs.Chosen.{joined_in, problem_is}
use Rattle.ml_replies.proofs.Verdicts.{as_joined}
use Rattle.ml_replies.proofs.checking.meets_joined.Goals as goal

pub meets_one-requires-clause-admitted : goal.meets_one-requires-clause-admitted
meets_one-requires-clause-admitted c =
    let l = c.args.specification.now.logic in
    let xs = c.args.specification.now.items.items in
    let made = rw c.in-Some.is at c.in_ok-problem.ensures in
    subst (λ k. IsAdmitted k c.args.structure.now)
    (sym (ap logic_of made.formula ∙ joined_in l (is_in c.args.taken.now) xs c.requires.specified c.args.question
    c.requires.question)) c.requires.admitted

pub returns-in-Some : goal.returns-in-Some
returns-in-Some c =
    let l = c.args.specification.now.logic in
    let xs = c.args.specification.now.items.items in
    let S = is_in c.args.taken.now in
    let m = c.args.structure.now in
    let p = c.in-Some.problem in
    let made = rw c.in-Some.is at c.in_ok-problem.ensures in
    let same = problem_is l xs S c.args.question p made.formula made.plain in
    IfOk-weaker c.meets_one.result (OneAs p m c.args.state) (JoinedAs (problem_of l xs S c.args.question) m c.args.state)
    (λ r told. subst (λ o. JoinedAs o m c.args.state r) same
    (as_joined m c.args.state p r (well_small p.formula made.well_formed) told)) c.meets_one.ensures
