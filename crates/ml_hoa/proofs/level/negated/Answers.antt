use Rattle.std.proofs.Common.{◌∙◌, ◌+◌, ◌-◌, ap, sym}
use Rattle.ml_hoa.specs.Automaton.{Not}
use Rattle.ml_hoa.specs.private.Machine.{negated}
use Rattle.ml_hoa.specs.private.Views.{guard_of}
use Rattle.ml_hoa.proofs.Negations.{negated_step, negated_done}
use Rattle.ml_hoa.proofs.level.negated.Goals as goal

pub loop-done-preserved : goal.loop-done-preserved
loop-done-preserved c =
    let n = c.args.nots in
    let i = c.loop-done.done in
    record {
      same = c.loop-done.invariant.same
          ∙ negated_step n i (guard_of c.loop-done.guard) c.loop-done-test.true
          ∙ ap (λ g. negated (n - (i + 1)) (Not (guard_of g))) (sym c.in_ok-new.ensures.ok);
    }

pub returns : goal.returns
returns c =
    sym (c.loop-done.invariant.same
    ∙ negated_done c.args.nots c.loop-done.done (guard_of c.loop-done.guard) c.loop-done-test.false)
