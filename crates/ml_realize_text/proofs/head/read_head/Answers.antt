use Rattle.std.proofs.lemmas.Result.{IfErr-weaker}
use Rattle.ml_realize_text.specs.RealizeRules.{AtAnswer, AtTitle}
use Rattle.ml_realize_text.specs.private.Reads.{TellsFault}
use Rattle.ml_realize_text.proofs.HeadRead.{behind_title}
use Rattle.ml_realize_text.proofs.head.read_head.Goals as goal

pub returns-in-Ok-clause-refused : goal.returns-in-Ok-clause-refused
returns-in-Ok-clause-refused c =
    IfErr-weaker c.read_answer.result (TellsFault AtAnswer c.in-Ok.rest) (TellsFault AtTitle c.args.at)
    (λ e tells. behind_title c.args.at c.in-Ok.rest e c.in-Ok.ensures.read tells) c.read_answer.ensures.refused
