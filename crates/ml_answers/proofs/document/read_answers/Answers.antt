use Rattle.ml_answers.proofs.DocumentRead.{end_fault}
use Rattle.ml_answers.proofs.document.read_answers.Goals as goal

pub returns-in-Err-read_end-clause-refused : goal.returns-in-Err-read_end-clause-refused
returns-in-Err-read_end-clause-refused c =
    end_fault c.args.items.now c.args.at c.read_others.new.stated.items c.in-Ok-read_others.end c.in-Err-read_end.refusal
    c.in-Ok-read_others.ensures.read c.in-Err-read_end.ensures.refused
