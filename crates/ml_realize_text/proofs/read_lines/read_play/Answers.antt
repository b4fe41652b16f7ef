use Rattle.std.proofs.Common.{[], ◌∷◌, subst}
use Rattle.ml_lines.specs.Reading.{words_of}
use Rattle.ml_realize_text.specs.RealizeRules.{AtPlay}
use Rattle.ml_realize_text.specs.private.Reads.{Goes, environment_of}
use Rattle.ml_realize_text.proofs.Told.{line_refused, missing_play, missing_refused}
use Rattle.ml_realize_text.proofs.read_lines.read_play.Goals as goal

pub returns-in-Err-clause-refused : goal.returns-in-Err-clause-refused
returns-in-Err-clause-refused c = λ outs n i.
    line_refused (AtPlay (environment_of c.args.inputs.now outs) n i) c.args.at c.in-Some.rest (words_of c.in-Some.line.now) c.in-Err.rule c.fault.result c.in-Some.ensures
    (c.in-Err.ensures.refused outs n i) c.fault.ensures

pub returns-in-None-clause-refused : goal.returns-in-None-clause-refused
returns-in-None-clause-refused c = λ outs n i.
    missing_refused (AtPlay (environment_of c.args.inputs.now outs) n i) c.args.at c.fault-in-None.result c.in-None.ensures (missing_play (environment_of c.args.inputs.now outs) n i) c.fault-in-None.ensures

pub returns-in-Ok-clause-read : goal.returns-in-Ok-clause-read
returns-in-Ok-clause-read c = subst (λ l. Goes c.args.at (l ∷ []) c.in-Some.rest) c.in-Ok.ensures.read.0 c.in-Some.ensures
