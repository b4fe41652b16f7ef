use Rattle.std.proofs.Common.{ap}
use Rattle.std.proofs.lemmas.Result.{on_ok_weaker}
use Rattle.ml_answers.specs.Lines.{asked_name, first_word, reply_words, wants_structure}
use Rattle.ml_replies.specs.Answers.{reply_of}
use Rattle.ml_ask_text.proofs.WrittenLines.{line_written}
use Rattle.ml_ask_text.proofs.lines.write_line.Goals as goal

pub returns : goal.returns
returns c =
    let xs = c.args.items.now in
    let q = c.args.answered.now.question in
    let r = reply_of c.args.answered.now.answer in
    on_ok_weaker c.end_line.result
    (line_written c.args.out.now.items c.write_word.new.out.items c.write_asked_name.new.out.items
    c.write_reply.new.out.items c.end_line.new.out.items c.first_word.result.now (first_word xs q) (asked_name xs q)
    (reply_words xs c.wants_structure-wants.result r) (reply_words xs (wants_structure xs q) r) c.first_word.ensures
    c.in_ok-write_word.ensures.ok c.in_ok-write_asked_name.ensures
    (ap (λ b. reply_words xs b r) c.wants_structure-wants.ensures) c.in_ok-write_reply.ensures)
    c.end_line.ensures.ok
