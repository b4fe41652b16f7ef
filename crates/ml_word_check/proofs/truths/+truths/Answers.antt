use Rattle.std.proofs.Common.{◌≡◌, Bool, List, ap, arith, length, subst, sym}
use Rattle.ml_ctl.specs.Term.{formula_of}
use Rattle.ml_ctl.specs.declared.term.Term.{Term}
use Rattle.ml_word_check.specs.private.Truths.{AreTruths}
use Rattle.ml_word_check.specs.private.Walked.{lasso_from}
use Rattle.ml_word_check.proofs.Changes.{written}
use Rattle.ml_word_check.proofs.TruthValues.{paired_truths, tense_truths}
use Rattle.ml_word_check.proofs.truths.+truths.Goals as goal

pub returns-in_ok-along-in-Temporal : goal.returns-in_ok-along-in-Temporal
returns-in_ok-along-in-Temporal t c =
    let l = lasso_from c.args.word.now.states.items c.args.word.now.start in
    let are = λ (term : Term) (fs : List Bool). AreTruths c.args.structure.now l (formula_of term) fs in
    let old = c.in_ok-values-in-Temporal.values in
    let operand = c.in-Temporal.operand.value in
    let long : old.len ≡ length c.along.new.truths =
    omega
    (arith, old.ok.0, ap length c.as_mut_slice-in-Temporal.ensures.value, c.in_ok-along-in-Temporal.ensures.each_place) in
    let before : are operand c.as_mut_slice-in-Temporal.result.now =
    subst (are operand) (sym c.as_mut_slice-in-Temporal.ensures.value)
    (subst (λ term. are term old.items) c.deref-in-Temporal.ensures c.in_ok-values-in-Temporal.ensures) in
    subst (are c.args.term.now) (sym (written old.len c.along.new.truths _ long))
    (subst (λ term. are term c.along.new.truths) (sym c.in-Temporal.is)
    (tense_truths c.args.structure.now l c.requires.start (formula_of operand) c.as_mut_slice-in-Temporal.result.now
    before c.in-Temporal.tense c.along.new.truths c.in_ok-along-in-Temporal.ensures.each_place
    c.in_ok-along-in-Temporal.ensures.values))

pub returns-in_ok-others-in-Paired : goal.returns-in_ok-others-in-Paired
returns-in_ok-others-in-Paired t c =
    let l = lasso_from c.args.word.now.states.items c.args.word.now.start in
    let are = λ (term : Term) (fs : List Bool). AreTruths c.args.structure.now l (formula_of term) fs in
    let left = c.in-Paired.left.value in
    let right = c.in-Paired.right.value in
    let lefts : are left c.in_ok-values-in-Paired.values.items =
    subst (λ term. are term c.in_ok-values-in-Paired.values.items) c.deref-in-Paired.ensures
    c.in_ok-values-in-Paired.ensures in
    let rights : are right c.in_ok-others-in-Paired.others.items =
    subst (λ term. are term c.in_ok-others-in-Paired.others.items) c.deref-in-Paired-2.ensures
    c.in_ok-others-in-Paired.ensures in
    subst (λ term. are term c.paired.result.items) (sym c.in-Paired.is)
    (paired_truths c.args.structure.now l c.requires.start (formula_of left) (formula_of right)
    c.in_ok-values-in-Paired.values.items c.in_ok-others-in-Paired.others.items lefts rights c.in-Paired.pairing
    c.paired.result.items c.paired.ensures.each_place c.paired.ensures.values)
