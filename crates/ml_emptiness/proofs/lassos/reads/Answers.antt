use Rattle.ml_emptiness.proofs.Tables.{reads_so}
use Rattle.ml_emptiness.proofs.lassos.reads.Goals as goal

pub returns : goal.returns
returns c =
    reads_so c.args.letter.now c.leaving.result.now c.args.from c.args.to c.args.accepting c.some_is_to.result
    c.leaving.ensures c.some_is_to.ensures
