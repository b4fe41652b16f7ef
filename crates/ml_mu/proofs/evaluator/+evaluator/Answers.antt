use Rattle.std.proofs.Common.{length, replicate, sym, ap, ◌∙◌, arith}
use Rattle.std.proofs.lemmas.Result.{IfOk-weaker}
use Rattle.ml_mu.specs.private.Environment.{given_of}
use Rattle.ml_mu.specs.Meaning.{meaning}
use Rattle.ml_mu.specs.Term.{formula_of}
use Rattle.ml_mu.specs.declared.term.Term.{Term}
use Rattle.ml_base.proofs.StateSets.{same_flags}
use Rattle.ml_mu.proofs.Evaluation.{constant_value, binary_value, binary_flags, body_step, stops_early}
use Rattle.ml_mu.proofs.evaluator.+evaluator.Goals as goal

pub evaluate_term-returns-in_ok-right-in-Binary-clause-value : goal.evaluate_term-returns-in_ok-right-in-Binary-clause-value
evaluate_term-returns-in_ok-right-in-Binary-clause-value t c =
    let means = λ (term : Term). meaning c.args.structure.now (given_of c.args.given.now) (formula_of term) in
    IfOk-weaker c.combine.result _ _
    (λ set is.
    binary_value c.args.structure.now (given_of c.args.given.now) c.in-Binary.operator
    (formula_of c.in-Binary.left.value) (formula_of c.in-Binary.right.value)
    c.deref-in-Binary-3.result.now c.deref-in-Binary-4.result.now set.items
    (c.deref-in-Binary-3.ensures.value ∙ c.in_ok-left-in-Binary.ensures.value ∙ ap means c.deref-in-Binary.ensures)
    (c.deref-in-Binary-4.ensures.value ∙ c.in_ok-right-in-Binary.ensures.value ∙ ap means c.deref-in-Binary-2.ensures)
    (ap length c.deref-in-Binary-3.ensures.value ∙ c.in_ok-left-in-Binary.ensures.flags)
    (ap length c.deref-in-Binary-4.ensures.value ∙ c.in_ok-right-in-Binary.ensures.flags) is
    ∙ ap means (sym c.in-Binary.is))
    c.combine.ensures

pub evaluate_term-returns-in_ok-right-in-Binary-clause-flags : goal.evaluate_term-returns-in_ok-right-in-Binary-clause-flags
evaluate_term-returns-in_ok-right-in-Binary-clause-flags t c =
    IfOk-weaker c.combine.result _ _
    (λ set is.
    binary_flags c.args.structure.now.states c.in-Binary.operator c.deref-in-Binary-3.result.now c.deref-in-Binary-4.result.now set.items
    (ap length c.deref-in-Binary-3.ensures.value ∙ c.in_ok-left-in-Binary.ensures.flags)
    (ap length c.deref-in-Binary-4.ensures.value ∙ c.in_ok-right-in-Binary.ensures.flags) is)
    c.combine.ensures

pub evaluate_term-returns-in-Const-clause-value : goal.evaluate_term-returns-in-Const-clause-value
evaluate_term-returns-in-Const-clause-value t c =
    IfOk-weaker c.constant.result _ _
    (λ set is. constant_value c.args.structure.now (given_of c.args.given.now) c.in-Const.truth set.items
    (is ∙ ap (λ n. replicate n c.in-Const.truth) c.states.ensures.value)
    ∙ ap (λ term. meaning c.args.structure.now (given_of c.args.given.now) (formula_of term)) (sym c.in-Const.is))
    c.constant.ensures.value

pub last_iterate-returns-then-eq-clause-value : goal.last_iterate-returns-then-eq-clause-value
last_iterate-returns-then-eq-clause-value t c =
    let step = body_step c.args.structure.now (given_of c.args.given.now) c.args.variable.now (formula_of c.args.body.now) in
    stops_early step c.args.first.items c.loop.set.items c.in_ok-next.next.items c.loop.counter c.args.structure.now.states
    c.loop.invariant.0 (c.in_ok-next.ensures.value ∙ ap step c.deref.ensures.value)
    (same_flags c.in_ok-next.next.items c.loop.set.items c.if-eq.ensures) (omega arith)
