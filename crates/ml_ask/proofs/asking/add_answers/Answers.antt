use Rattle.std.proofs.Common.{◌≡◌, ◌<◌, ◌++◌, [], ◌∷◌, true, length, replicate, take, sym, ap, subst, ◌∙◌, arith}
use Rattle.ml_spec.specs.Questions.{asking_from}
use Rattle.ml_spec.specs.declared.question.Question.TheVariants as question
use Rattle.ml_ask.specs.private.Steps.{AreAnswered}
use Rattle.ml_ask.proofs.AnswersInOrder.{next_asks, next_none, one_answered}
use Rattle.ml_ask.proofs.asking.add_answers.Goals as goal
use Rattle.ml_ask.proofs.asking.add_answers.Goals.{then-not-is_requirement+in_ok-answered+in_ok-push, else-not-is_requirement}

pub loop-number-preserved : goal.loop-number-preserved
loop-number-preserved c =
    let l = c.args.specification.now.logic in
    let xs = c.args.specification.now.items.items in
    let n = c.args.limit in
    let i = c.loop-number.number in
    let x = c.index.result.now in
    let within : i < length xs = omega (arith, c.loop-number-test.true, c.len-number-end.ensures) in
    let before = c.args.answers.now.items in
    let old = c.loop-number.answers.items in
    let qs = asking_from 0 (take i xs) in
    elim c.if-not-is_requirement.branch [
      | then-not-is_requirement+in_ok-answered+in_ok-push w ↦
          let a = w.in_ok-answered.answered in
          let q = question.Asks i in
          let new = ap (λ v. v.items) w.answers-is ∙ w.in_ok-push.ensures.items in
          let next = next_asks xs i x within c.index.ensures
          (sym c.is_requirement.ensures ∙ w.if-not-is_requirement.true) in
          let long : c.len.result ≡ length xs = omega (arith, c.len.ensures, c.args.specification.now.items.ok.0) in
          let all = w.deref.ensures.value ∙ c.in_ok-all.ensures ∙ ap (λ k. replicate k true) long in
          let told = one_answered l xs n qs before old a q w.deref.result.now c.loop-number.invariant
          w.in_ok-answered.ensures.question all w.in_ok-answered.ensures.answer in
          subst (λ ps. AreAnswered l xs n ps before c.if-not-is_requirement.answers.items) (sym next)
          (subst (AreAnswered l xs n (qs ++ q ∷ []) before) (sym new) told)
      | else-not-is_requirement w ↦
          let new = ap (λ v. v.items) w.answers-is in
          let next = next_none xs i x within c.index.ensures
          (sym c.is_requirement.ensures ∙ w.if-not-is_requirement.false) in
          subst (λ ps. AreAnswered l xs n ps before c.if-not-is_requirement.answers.items) (sym next)
          (subst (AreAnswered l xs n qs before) (sym new) c.loop-number.invariant)
    ]
