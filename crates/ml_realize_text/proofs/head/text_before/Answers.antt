use Rattle.std.proofs.Common.{refl}
use Rattle.ml_realize_text.proofs.HeadRead.{task_lines_are}
use Rattle.ml_realize_text.proofs.head.text_before.Goals as goal

pub returns : goal.returns
returns c = λ lines goes. task_lines_are c.args.at c.args.rest lines goes _ refl
