use Rattle.std.proofs.lemmas.Result.{IfErr-weaker, IfOk-weaker}
use Rattle.ml_answers.proofs.DocumentRead.{behind_title, fault_behind_title, no_title, title_taken}
use Rattle.ml_answers.proofs.document.read_document.Goals as goal

pub returns-in-Some-clause-refused : goal.returns-in-Some-clause-refused
returns-in-Some-clause-refused c =
    let takes = title_taken c.args.at c.in-Some.behind _ c.requires.title c.in-Some.ensures in
    IfErr-weaker c.read_answers.result _ _
    (λ e tells. fault_behind_title c.args.items.now c.args.at c.in-Some.behind e takes tells)
    c.read_answers.ensures.refused

pub returns-in-Some-clause-read : goal.returns-in-Some-clause-read
returns-in-Some-clause-read c =
    let takes = title_taken c.args.at c.in-Some.behind _ c.requires.title c.in-Some.ensures in
    IfOk-weaker c.read_answers.result _ _
    (λ stated read. behind_title c.args.items.now c.args.at c.in-Some.behind stated.items takes read)
    c.read_answers.ensures.read

pub returns-clause-refused : goal.returns-clause-refused
returns-clause-refused c = absurd (no_title c.args.at c.requires.title c.in-None.ensures)
