use Rattle.ml_replies.specs.Answers.{core_of}
use Rattle.ml_answers.proofs.PartsRead.{core_taken}
use Rattle.ml_answers.proofs.parts.read_core.Goals as goal

pub returns-in-Ok-taken_by-clause-read : goal.returns-in-Ok-taken_by-clause-read
returns-in-Ok-taken_by-clause-read c =
    core_taken c.args.items.now c.args.at
    (core_of (record {
      taken = c.in-Ok-taken_by.taken;
      parts = c.in-Ok-read_parts.read.0;
      refutation = c.in-Ok.read.0;
    })) c.in-Ok.read.1 c.in-Ok-read_parts.read.1 c.in-Ok.ensures.read c.in-Ok-read_parts.ensures.read
