use Rattle.ml_lines.specs.Reading.{words_of}
use Rattle.ml_show_text.specs.UndecidedBodies.{AtCause}
use Rattle.ml_show_text.proofs.CauseBodies.{bad_behind, bad_here, good_line}
use Rattle.ml_show_text.proofs.undecided.read_undecided.Goals as goal

pub returns-in-Ok-read_end-clause-read : goal.returns-in-Ok-read_end-clause-read
returns-in-Ok-read_end-clause-read c =
    good_line AtCause c.args.text.now (words_of c.in-Some.line.now) c.in-Some.rest.now c.in-Some.ensures.lines
    c.in-Some.ensures.left (c.in-Ok.ensures.read.0, (c.in-Ok.ensures.read.1, tt)) c.in-Ok-read_end.ensures.read

pub returns-in-Err-read_end-clause-refused : goal.returns-in-Err-read_end-clause-refused
returns-in-Err-read_end-clause-refused c =
    bad_behind AtCause c.args.text.now (words_of c.in-Some.line.now) c.in-Some.rest.now c.in-Some.ensures.lines
    c.in-Some.ensures.left (c.in-Ok.ensures.read.0, (c.in-Ok.ensures.read.1, tt)) 6 c.in-Err-read_end.fault
    c.in-Err-read_end.ensures.refused

pub returns-in-Err-clause-refused : goal.returns-in-Err-clause-refused
returns-in-Err-clause-refused c =
    bad_here AtCause c.args.text.now (words_of c.in-Some.line.now) c.in-Some.rest.now c.in-Some.ensures.lines 6 c.in-Err.rule
    c.fault.result c.fault.ensures.line c.fault.ensures.rule c.in-Err.ensures.refused
