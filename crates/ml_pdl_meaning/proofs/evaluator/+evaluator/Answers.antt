use Rattle.std.proofs.Common.{◌≡◌, map, not, replicate, true, sym, ap, ◌∙◌, arith}
use Rattle.std.proofs.lemmas.Result.{IfOk-weaker}
use Rattle.ml_lists.specs.Iterate.{iterate}
use Rattle.ml_pdl.specs.Meaning.{meaning, relation}
use Rattle.ml_pdl.specs.Term.{formula_of, program_of}
use Rattle.ml_pdl_meaning.proofs.RunsIntoSets.{before, grown}
use Rattle.ml_base.proofs.StateSets.{same_flags}
use Rattle.ml_pdl_meaning.proofs.Evaluation.{constant_value, binary_value, square_value, followed_value, either_value, test_value, grown_value, star_value}
use Rattle.ml_pdl_meaning.proofs.evaluator.+evaluator.Goals as goal
use Rattle.ml_lists.proofs.Iterates.{iterates_once_more, stops_early}

pub evaluate_term-returns-in_ok-right-in-Binary-clause-value : goal.evaluate_term-returns-in_ok-right-in-Binary-clause-value
evaluate_term-returns-in_ok-right-in-Binary-clause-value t c =
    let m = c.args.structure.now in
    IfOk-weaker c.combine.result _ _
    (λ set is. binary_value m c.in-Binary.operator (formula_of c.in-Binary.left.value)
    (formula_of c.in-Binary.right.value) c.deref-in-Binary-3.result.now c.deref-in-Binary-4.result.now set.items
    (c.deref-in-Binary-3.ensures.value ∙ c.in_ok-left-in-Binary.ensures.value
    ∙ ap (λ x. meaning m (formula_of x)) c.deref-in-Binary.ensures)
    (c.deref-in-Binary-4.ensures.value ∙ c.in_ok-right-in-Binary.ensures.value
    ∙ ap (λ x. meaning m (formula_of x)) c.deref-in-Binary-2.ensures)
    is
    ∙ ap (λ x. meaning m (formula_of x)) (sym c.in-Binary.is))
    c.combine.ensures.value

pub evaluate_term-returns-in-Const-clause-value : goal.evaluate_term-returns-in-Const-clause-value
evaluate_term-returns-in-Const-clause-value t c =
    IfOk-weaker c.constant.result _ _
    (λ set is. constant_value c.args.structure.now c.in-Const.truth set.items
    (is ∙ ap (λ n. replicate n c.in-Const.truth) c.states.ensures.value)
    ∙ ap (λ term. meaning c.args.structure.now (formula_of term)) (sym c.in-Const.is))
    c.constant.ensures.value

pub all_runs_into-returns-clause-value : goal.all_runs_into-returns-clause-value
all_runs_into-returns-clause-value t c =
    let r = relation c.args.structure.now (program_of c.args.program.now) in
    IfOk-weaker c.complement-2.result _ _
    (λ states is. square_value c.args.structure.now r c.args.set.now c.in_ok-outside.outside.items
    c.in_ok-leaving.leaving.items states.items c.requires c.in_ok-outside.ensures
    (c.in_ok-leaving.ensures.value ∙ ap (before c.args.structure.now r) c.deref.ensures.value)
    (is ∙ ap (map not) c.deref-2.ensures.value))
    c.complement-2.ensures

pub runs_into-returns-in_ok-between-in-Seq-clause-value : goal.runs_into-returns-in_ok-between-in-Seq-clause-value
runs_into-returns-in_ok-between-in-Seq-clause-value t c =
    let m = c.args.structure.now in
    let p = c.in-Seq.first.value in
    IfOk-weaker c.runs_into-in-Seq.result _ _
    (λ states is. followed_value m (program_of p) (program_of c.in-Seq.second.value) c.args.set.now
    c.in_ok-between-in-Seq.between.items states.items
    (c.in_ok-between-in-Seq.ensures.value
    ∙ ap (λ x. before m (relation m (program_of x)) c.args.set.now) c.deref.ensures)
    (is ∙ ap (λ x. before m (relation m (program_of x)) c.deref-in-Seq-2.result.now) c.deref-in-Seq.ensures
    ∙ ap (before m (relation m (program_of p))) c.deref-in-Seq-2.ensures.value)
    ∙ ap (λ x. before m (relation m (program_of x)) c.args.set.now) (sym c.in-Seq.is))
    c.runs_into-in-Seq.ensures.value

pub runs_into-returns-in_ok-right-in-Alt-clause-value : goal.runs_into-returns-in_ok-right-in-Alt-clause-value
runs_into-returns-in_ok-right-in-Alt-clause-value t c =
    let m = c.args.structure.now in
    IfOk-weaker c.combine.result _ _
    (λ states is. either_value m (program_of c.in-Alt.left.value) (program_of c.in-Alt.right.value) c.args.set.now
    c.deref-in-Alt-3.result.now c.deref-in-Alt-4.result.now states.items
    (c.deref-in-Alt-3.ensures.value ∙ c.in_ok-left-in-Alt.ensures.value
    ∙ ap (λ x. before m (relation m (program_of x)) c.args.set.now) c.deref-in-Alt.ensures)
    (c.deref-in-Alt-4.ensures.value ∙ c.in_ok-right-in-Alt.ensures.value
    ∙ ap (λ x. before m (relation m (program_of x)) c.args.set.now) c.deref-in-Alt-2.ensures)
    is
    ∙ ap (λ x. before m (relation m (program_of x)) c.args.set.now) (sym c.in-Alt.is))
    c.combine.ensures.value

pub runs_into-returns-in_ok-holding-in-Test-clause-value : goal.runs_into-returns-in_ok-holding-in-Test-clause-value
runs_into-returns-in_ok-holding-in-Test-clause-value t c =
    let m = c.args.structure.now in
    IfOk-weaker c.combine-in-Test.result _ _
    (λ states is. test_value m (formula_of c.in-Test.formula.value) c.args.set.now c.deref-in-Test-2.result.now
    states.items
    (c.deref-in-Test-2.ensures.value ∙ c.in_ok-holding-in-Test.ensures.value
    ∙ ap (λ x. meaning m (formula_of x)) c.deref-in-Test.ensures)
    is
    ∙ ap (λ x. before m (relation m (program_of x)) c.args.set.now) (sym c.in-Test.is))
    c.combine-in-Test.ensures.value

pub rounds_into-loop-preserved : goal.rounds_into-loop-preserved
rounds_into-loop-preserved t c =
    let r = relation c.args.structure.now (program_of c.args.program.now) in (
      iterates_once_more (grown c.args.structure.now r c.args.set.now) c.args.set.now c.loop.states.items
          c.in_ok-next.next.items c.loop.counter c.loop.invariant.0
          (grown_value c.args.structure.now r c.args.set.now c.loop.states.items c.deref-in-loop.result.now
          c.in_ok-next.next.items
          (c.deref-in-loop.ensures.value ∙ c.in_ok-before.ensures.value
          ∙ ap (before c.args.structure.now r) c.deref.ensures.value)
          c.in_ok-next.ensures.value),
      c.in_ok-next.ensures.flags,
    )

pub rounds_into-returns-then-eq-clause-value : goal.rounds_into-returns-then-eq-clause-value
rounds_into-returns-then-eq-clause-value t c =
    let r = relation c.args.structure.now (program_of c.args.program.now) in
    star_value c.args.structure.now (program_of c.args.program.now) c.args.set.now c.loop.states.items c.requires
    (stops_early (grown c.args.structure.now r c.args.set.now) c.args.set.now c.loop.states.items
    c.in_ok-next.next.items c.loop.counter c.args.structure.now.states c.loop.invariant.0
    (grown_value c.args.structure.now r c.args.set.now c.loop.states.items c.deref-in-loop.result.now
    c.in_ok-next.next.items
    (c.deref-in-loop.ensures.value ∙ c.in_ok-before.ensures.value
    ∙ ap (before c.args.structure.now r) c.deref.ensures.value)
    c.in_ok-next.ensures.value)
    (same_flags c.in_ok-next.next.items c.loop.states.items c.if-eq.ensures) (omega arith))

pub rounds_into-returns-clause-value : goal.rounds_into-returns-clause-value
rounds_into-returns-clause-value t c =
    let m = c.args.structure.now in
    let all : c.loop.counter ≡ m.states =
    omega (arith, c.loop-test.false, c.states-end.ensures.value, c.loop.auto.counter-end)
    in
    star_value m (program_of c.args.program.now) c.args.set.now c.loop.states.items c.requires
    (c.loop.invariant.0
    ∙ ap (λ k. iterate k (grown m (relation m (program_of c.args.program.now)) c.args.set.now) c.args.set.now) all)

pub repeats-returns-then-eq-clause-value : goal.repeats-returns-then-eq-clause-value
repeats-returns-then-eq-clause-value t c =
    let step = before c.args.structure.now (relation c.args.structure.now (program_of c.args.program.now)) in
    stops_early step (replicate c.args.structure.now.states true) c.loop.states.items c.in_ok-next.next.items
    c.loop.counter c.args.structure.now.states c.loop.invariant.0
    (c.in_ok-next.ensures.value ∙ ap step c.deref.ensures.value)
    (same_flags c.in_ok-next.next.items c.loop.states.items c.if-eq.ensures) (omega arith)
