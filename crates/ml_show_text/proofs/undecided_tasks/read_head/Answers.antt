use Rattle.ml_show_text.proofs.HeadLines.{other_second, other_title}
use Rattle.ml_show_text.proofs.undecided_tasks.read_head.Goals as goal

pub returns-in-None-behind_fixed-clause-refused : goal.returns-in-None-behind_fixed-clause-refused
returns-in-None-behind_fixed-clause-refused c =
    other_second c.args.text.now c.in-Some.rest.now c.head_fault.result c.in-Some.ensures c.in-None-behind_fixed.ensures
    c.head_fault.ensures.line c.head_fault.ensures.rule

pub returns-in-None-clause-refused : goal.returns-in-None-clause-refused
returns-in-None-clause-refused c =
    other_title c.args.text.now c.head_fault-in-None.result c.in-None.ensures c.head_fault-in-None.ensures.line
    c.head_fault-in-None.ensures.rule
