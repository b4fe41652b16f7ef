use Rattle.std.proofs.Common.{refl}
use Rattle.ml_show_text.proofs.CutTasks.{lines_before}
use Rattle.ml_show_text.proofs.undecided_tasks.text_before.Goals as goal

pub returns : goal.returns
returns c = λ lines goes. lines_before c.args.text.now c.args.rest.now lines goes _ refl
