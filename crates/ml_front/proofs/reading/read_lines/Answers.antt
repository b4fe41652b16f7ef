use Rattle.ml_front.specs.HeadRules.{AtTitle, AtAnswer, AtLogic, AtSense, AtFormula}
use Rattle.ml_front.proofs.HeadFronts.{begin, behind_title, behind_answer, behind_logic, behind_sense, tells, whole_head}
use Rattle.ml_front.proofs.reading.read_lines.Goals as goal

pub returns-in-Err-clause-refused : goal.returns-in-Err-clause-refused
returns-in-Err-clause-refused c =
    let a = c.args.wanted in
    let text = c.args.text.now in
    tells a text 1 AtTitle text (begin a text) c.in-Err.rule c.fault.result (c.in-Err.ensures.refused a) c.fault.ensures

pub returns-in-Err-read_answer-clause-refused : goal.returns-in-Err-read_answer-clause-refused
returns-in-Err-read_answer-clause-refused c =
    let a = c.args.wanted in
    let text = c.args.text.now in
    let title = c.in-Ok.title in
    tells a text 2 AtAnswer title.1.now (behind_title a text title.0 title.1.now c.in-Ok.ensures.read)
    c.in-Err-read_answer.rule c.fault-in-Err-read_answer.result c.in-Err-read_answer.ensures.refused
    c.fault-in-Err-read_answer.ensures

pub returns-in-Err-read_logic-clause-refused : goal.returns-in-Err-read_logic-clause-refused
returns-in-Err-read_logic-clause-refused c =
    let a = c.args.wanted in
    let text = c.args.text.now in
    let title = c.in-Ok.title in
    let r2 = c.in-Ok-read_answer.rest.now in
    tells a text 3 AtLogic r2
    (behind_answer a text title.0 title.1.now c.in-Ok.ensures.read r2 c.in-Ok-read_answer.ensures.read)
    c.in-Err-read_logic.rule c.fault-in-Err-read_logic.result (c.in-Err-read_logic.ensures.refused a)
    c.fault-in-Err-read_logic.ensures

pub returns-in-Err-read_sense-clause-refused : goal.returns-in-Err-read_sense-clause-refused
returns-in-Err-read_sense-clause-refused c =
    let a = c.args.wanted in
    let text = c.args.text.now in
    let title = c.in-Ok.title in
    let r2 = c.in-Ok-read_answer.rest.now in
    let told = c.in-Ok-read_logic.told in
    tells a text 4 (AtSense told.0) told.1.now
    (behind_logic a text title.0 title.1.now c.in-Ok.ensures.read r2 c.in-Ok-read_answer.ensures.read told.0 told.1.now
    c.in-Ok-read_logic.ensures.read)
    c.in-Err-read_sense.rule c.fault-in-Err-read_sense.result (c.in-Err-read_sense.ensures.refused a told.0)
    c.fault-in-Err-read_sense.ensures

pub returns-in-Ok-read_formula-clause-read : goal.returns-in-Ok-read_formula-clause-read
returns-in-Ok-read_formula-clause-read c =
    let title = c.in-Ok.title in
    let told = c.in-Ok-read_logic.told in
    let read = c.in-Ok-read_sense.read in
    whole_head c.args.wanted c.args.text.now title.0 title.1.now c.in-Ok.ensures.read c.in-Ok-read_answer.rest.now
    c.in-Ok-read_answer.ensures.read told.0 told.1.now c.in-Ok-read_logic.ensures.read read.0 read.1.now
    c.in-Ok-read_sense.ensures.read c.in-Ok-read_formula.formula c.in-Ok-read_formula.rest.now c.in-Ok-read_formula.ensures.read

pub returns-in-Err-Breaks-clause-refused : goal.returns-in-Err-Breaks-clause-refused
returns-in-Err-Breaks-clause-refused c =
    let a = c.args.wanted in
    let text = c.args.text.now in
    let title = c.in-Ok.title in
    let r2 = c.in-Ok-read_answer.rest.now in
    let told = c.in-Ok-read_logic.told in
    let read = c.in-Ok-read_sense.read in
    tells a text 5 (AtFormula told.0) read.1.now
    (behind_sense a text title.0 title.1.now c.in-Ok.ensures.read r2 c.in-Ok-read_answer.ensures.read told.0 told.1.now
    c.in-Ok-read_logic.ensures.read read.0 read.1.now c.in-Ok-read_sense.ensures.read)
    c.in-Err-Breaks.rule c.fault-in-Err-Breaks.result (rw c.in-Err-Breaks.field-0-is at c.in-Err-Breaks.ensures.refused a)
    (rw c.in-Err-Breaks.rule-is at c.fault-in-Err-Breaks.ensures)
