use Rattle.std.proofs.Common.{[], ◌∷◌, subst}
use Rattle.ml_lines.specs.Reading.{words_of}
use Rattle.ml_realize_text.specs.RealizeRules.{AtState}
use Rattle.ml_realize_text.specs.private.Reads.{Goes}
use Rattle.ml_realize_text.proofs.Told.{line_refused, missing_state, missing_refused}
use Rattle.ml_realize_text.proofs.read_lines.read_state.Goals as goal

pub returns-in-Err-clause-refused : goal.returns-in-Err-clause-refused
returns-in-Err-clause-refused c = λ g n.
    line_refused (AtState g n c.args.state) c.args.at c.in-Some.rest (words_of c.in-Some.line.now) c.in-Err.rule c.fault.result c.in-Some.ensures
    (c.in-Err.ensures.refused g n) c.fault.ensures

pub returns-in-None-clause-refused : goal.returns-in-None-clause-refused
returns-in-None-clause-refused c = λ g n.
    missing_refused (AtState g n c.args.state) c.args.at c.fault-in-None.result c.in-None.ensures (missing_state g n c.args.state) c.fault-in-None.ensures

pub returns-in-Ok-clause-read : goal.returns-in-Ok-clause-read
returns-in-Ok-clause-read c = subst (λ l. Goes c.args.at (l ∷ []) c.in-Some.rest) c.in-Ok.ensures.read c.in-Some.ensures
