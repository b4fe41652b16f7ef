use Rattle.std.proofs.Common.{refl}
use Rattle.std.proofs.lemmas.Result.{IfErr-weaker, IfOk-weaker}
use Rattle.ml_lines.specs.Reading.{words_of}
use Rattle.ml_spec.specs.Questions.{is_in}
use Rattle.ml_replies.specs.Answers.{reply_of}
use Rattle.ml_answers.specs.Documents.{IsBody}
use Rattle.ml_answers.specs.private.Reads.{IsMadeOf, Takes}
use Rattle.ml_answers.proofs.AnswerLines.{made_fits}
use Rattle.ml_answers.proofs.DocumentRead.{answer_refused, answer_taken, shorter}
use Rattle.ml_answers.proofs.Reading.{if_ok_both, next_room, room_behind}
use Rattle.ml_answers.proofs.document.read_answer.Goals as goal

pub returns-in-Ok-clause-fits : goal.returns-in-Ok-clause-fits
returns-in-Ok-clause-fits c =
    IfOk-weaker c.read_body.result _ _
    (λ r made S agrees.
    (made_fits c.args.items.now S c.args.question (words_of c.in-Some.line.now) c.in-Ok.told (reply_of r.0)
    (c.in-Ok.ensures.read S agrees) made).0)
    c.read_body.ensures.made

pub returns-in-Ok-clause-read : goal.returns-in-Ok-clause-read
returns-in-Ok-clause-read c =
    let S = is_in c.args.among.now in
    if_ok_both c.read_body.result
    (λ r. IsMadeOf c.in-Ok.told (reply_of r.0))
    (λ r. Takes (IsBody c.args.items.now (reply_of r.0)) c.in-Some.behind r.1) _
    (λ r made body.
    answer_taken c.args.items.now S c.args.question c.args.at c.in-Some.line.now c.in-Some.behind r.1 c.in-Ok.told
    (reply_of r.0) c.in-Some.ensures (c.in-Ok.ensures.read S (λ k low. refl)) made body)
    c.read_body.ensures.made c.read_body.ensures.read

pub returns-in-Ok-clause-refused : goal.returns-in-Ok-clause-refused
returns-in-Ok-clause-refused c =
    IfErr-weaker c.read_body.result _ _
    (λ e tells S agrees.
    answer_refused c.args.items.now S c.args.question c.args.at c.in-Some.line.now c.in-Some.behind c.in-Ok.told e
    c.in-Some.ensures (c.in-Ok.ensures.read S agrees) tells)
    c.read_body.ensures.refused

pub returns-in-Ok-clause-room : goal.returns-in-Ok-clause-room
returns-in-Ok-clause-room c =
    IfOk-weaker c.read_body.result (λ r. Takes (IsBody c.args.items.now (reply_of r.0)) c.in-Some.behind r.1) _
    (λ r body.
    room_behind (IsBody c.args.items.now (reply_of r.0)) (IsBody c.args.items.now (reply_of r.0)) c.in-Some.behind r.1 body
    (next_room c.args.at c.in-Some.behind c.in-Some.line.now c.in-Some.ensures c.requires.room))
    c.read_body.ensures.read

pub returns-in-Ok-clause-shorter : goal.returns-in-Ok-clause-shorter
returns-in-Ok-clause-shorter c =
    IfOk-weaker c.read_body.result (λ r. Takes (IsBody c.args.items.now (reply_of r.0)) c.in-Some.behind r.1) _
    (λ r body.
    shorter c.in-Some.line.now c.args.at c.in-Some.behind r.1 (IsBody c.args.items.now (reply_of r.0)) c.in-Some.ensures
    body)
    c.read_body.ensures.read
