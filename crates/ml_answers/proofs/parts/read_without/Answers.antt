use Rattle.std.proofs.lemmas.Result.{IfOk-weaker}
use Rattle.ml_answers.specs.Documents.{without_line, IsModel, IsWithoutText}
use Rattle.ml_answers.specs.private.Reads.{Takes}
use Rattle.ml_replies.specs.Replies.{StillMet}
use Rattle.ml_answers.proofs.PartsRead.{without_taken}
use Rattle.ml_answers.proofs.Reading.{line_taken}
use Rattle.ml_answers.proofs.parts.read_without.Goals as goal

pub returns-then-is_without-clause-read : goal.returns-then-is_without-clause-read
returns-then-is_without-clause-read c =
    let xs = c.args.items.now in
    let k = c.args.number in
    let line =
    line_taken c.args.at c.in-Some.behind c.in-Some.line.now (without_line xs k) c.in-Some.ensures
    (c.is_without.ensures.0 c.if-is_without.true) in
    IfOk-weaker c.read_structure.result
    (λ r. Takes (IsModel r.0.structure r.0.start) c.in-Some.behind r.1)
    (λ r. Takes (IsWithoutText xs k (StillMet r.0.structure r.0.start)) c.args.at r.1)
    (λ r is. without_taken xs k c.args.at r.0.structure r.0.start c.in-Some.behind r.1 line is)
    c.read_structure.ensures.read
