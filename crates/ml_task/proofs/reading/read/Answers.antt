use Rattle.std.proofs.Common.{IfErr, subst}
use Rattle.ml_task.specs.private.Stages.{TellsFault}
use Rattle.ml_task.proofs.OneAnswer.{task_or_fault}
use Rattle.ml_task.proofs.reading.read.Goals as goal

pub returns-clause-no_task : goal.returns-clause-no_task
returns-clause-no_task c = λ fault is t is_task.
    task_or_fault c.args.bytes.now t fault is_task
    (subst (λ r. IfErr r (TellsFault c.args.bytes.now)) is c.read_lines.ensures.refused)
