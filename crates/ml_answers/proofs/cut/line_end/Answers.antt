use Rattle.ml_lines.proofs.Cuts.{byte_place}
use Rattle.ml_answers.proofs.cut.line_end.Goals as goal

pub returns : goal.returns
returns c = byte_place 10 c.args.text.now c.memchr.result c.memchr.ensures
