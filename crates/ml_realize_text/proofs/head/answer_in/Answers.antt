use Rattle.std.proofs.Common.{codes}
use Rattle.ml_realize_text.proofs.FixedWords.{other_word}
use Rattle.ml_realize_text.proofs.HeadRead.{no_answer}
use Rattle.ml_realize_text.proofs.head.answer_in.Goals as goal

pub returns-else-eq-3-clause-refused : goal.returns-else-eq-3-clause-refused
returns-else-eq-3-clause-refused c =
    let line = c.args.line.now in
    no_answer line (other_word line c.as_slice.result.now (codes "answer realizable") c.if-eq.ensures c.as_slice.ensures)
    (other_word line c.as_slice-else-eq.result.now (codes "answer unrealizable") c.if-eq-2.ensures c.as_slice-else-eq.ensures)
    (other_word line c.as_slice-else-eq-2.result.now (codes "answer undecided") c.if-eq-3.ensures c.as_slice-else-eq-2.ensures)
