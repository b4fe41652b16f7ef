use Rattle.ml_front.specs.Definitions.{definitions_in}
use Rattle.ml_spec.proofs.Meanings.{written_large}
use Rattle.ml_spec.proofs.meaning.meant.Goals as goal

pub returns-in-None : goal.returns-in-None
returns-in-None c =
    written_large (definitions_in c.args.definitions.now) c.args.written (rw c.in-None.is at c.in_ok-formula.ensures)
