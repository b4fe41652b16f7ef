use Rattle.std.proofs.Common.{IfErr, subst}
use Rattle.ml_front.specs.private.HeadParts.{TellsHead}
use Rattle.ml_front.proofs.OneFault.{head_or_fault}
use Rattle.ml_front.proofs.reading.read_head.Goals as goal

pub returns-clause-no_head : goal.returns-clause-no_head
returns-clause-no_head c = λ fault is v p rest is_head.
    head_or_fault c.args.wanted c.args.text.now v p rest fault is_head
    (subst (λ r. IfErr r (TellsHead c.args.wanted c.args.text.now)) is c.read_lines.ensures.refused)
