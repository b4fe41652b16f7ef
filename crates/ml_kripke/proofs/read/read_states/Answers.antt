use Rattle.ml_lines.specs.Reading.{words_of, lines_of, left_of}
use Rattle.ml_kripke.specs.BodyRules.{AtStates}
use Rattle.ml_kripke.specs.declared.body_rule.BodyRule.TheVariants.{OfKind}
use Rattle.ml_kripke.proofs.BrokenRules.{missing_states}
use Rattle.ml_kripke.proofs.ToldFaults.{tells_here, tells_missing}
use Rattle.ml_kripke.proofs.read.read_states.Goals as goal

pub returns-in-Err-clause-refused : goal.returns-in-Err-clause-refused
returns-in-Err-clause-refused c =
    tells_here AtStates c.args.line c.args.text.now c.fault.result c.in-Err.rule c.fault.ensures (words_of c.in-Some.words.now)
    (lines_of c.in-Some.rest.now) c.in-Some.ensures.lines c.in-Err.ensures.refused

pub returns-in-None-clause-refused : goal.returns-in-None-clause-refused
returns-in-None-clause-refused c =
    tells_missing AtStates c.args.line c.args.text.now c.fault-in-None.result OfKind c.fault-in-None.ensures
    c.in-None.ensures.lines (missing_states (left_of c.args.text.now))
