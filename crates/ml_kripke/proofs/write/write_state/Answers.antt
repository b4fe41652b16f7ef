use Rattle.std.proofs.Common.{subst, arith}
use Rattle.std.proofs.lemmas.Grind.{common_steps}
use Rattle.std.proofs.lemmas.List.{take_all}
use Rattle.std.proofs.lemmas.Result.{on_ok_weaker}
use Rattle.ml_base.specs.Name.{IsName}
use Rattle.ml_lists.proofs.Members.{All-more_read, All-read}
use Rattle.ml_kripke.proofs.WrittenStates.{state_written}
use Rattle.ml_kripke.proofs.write.write_state.Goals as goal

pub loop-label-preserved : goal.loop-label-preserved
loop-label-preserved c =
    let label = c.label-item.result in (
      grind (arith, common_steps),
      All-more_read IsName c.args.labels.now c.loop-label.label-index label c.loop-label-test.true c.label-item.is
          (subst IsName c.bytes.ensures.value c.bytes.ensures.is_name) c.loop-label.invariant.1,
    )

pub returns-clause-text : goal.returns-clause-text
returns-clause-text c =
    let all = take_all c.loop-label.label-index c.args.labels.now c.loop-label-test.false in
    on_ok_weaker c.end_line.result
    (state_written c.args.out.now.items c.loop-label.out.items c.end_line.new.out.items c.args.state c.args.labels.now
    (rw all at c.loop-label.invariant.0))
    c.end_line.ensures.ok

pub returns-clause-named : goal.returns-clause-named
returns-clause-named c =
    let named = All-read IsName c.args.labels.now c.loop-label.label-index c.loop-label-test.false c.loop-label.invariant.1 in
    on_ok_weaker c.end_line.result (λ _. named) c.end_line.ensures.ok
