use Rattle.std.proofs.Common.{[], ◌∷◌, subst}
use Rattle.ml_lines.specs.Reading.{words_of}
use Rattle.ml_realize_text.specs.RealizeRules.{AtReply}
use Rattle.ml_realize_text.specs.private.Reads.{Goes, environment_of}
use Rattle.ml_realize_text.proofs.Told.{line_refused, missing_reply, missing_refused}
use Rattle.ml_realize_text.proofs.read_lines.read_reply.Goals as goal

pub returns-in-Err-clause-refused : goal.returns-in-Err-clause-refused
returns-in-Err-clause-refused c = λ ins i.
    let at = AtReply (environment_of ins c.args.outputs.now) c.args.states i c.args.set in
    line_refused at c.args.at c.in-Some.rest (words_of c.in-Some.line.now) c.in-Err.rule c.fault.result c.in-Some.ensures
    (c.in-Err.ensures.refused ins i) c.fault.ensures

pub returns-in-None-clause-refused : goal.returns-in-None-clause-refused
returns-in-None-clause-refused c = λ ins i.
    let g = environment_of ins c.args.outputs.now in
    missing_refused (AtReply g c.args.states i c.args.set) c.args.at c.fault-in-None.result c.in-None.ensures
    (missing_reply g c.args.states i c.args.set) c.fault-in-None.ensures

pub returns-in-Ok-clause-read : goal.returns-in-Ok-clause-read
returns-in-Ok-clause-read c =
    subst (λ l. Goes c.args.at (l ∷ []) c.in-Some.rest) c.in-Ok.ensures.read.line_is c.in-Some.ensures
