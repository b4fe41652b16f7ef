-- The first fork is told by who checks a formula on words.
use Rattle.ml_path_text.proofs.admitted.fork.Goals as goal

pub returns-in-Err-NotAWord : goal.returns-in-Err-NotAWord
returns-in-Err-NotAWord c =
    let found = c.in-Err-NotAWord.is in
    let refusal = c.in-Err-NotAWord.field-0-is in
    let state = c.in-Err-NotAWord.state-is in
    c.in-Err-NotAWord.ensures.fork c.in-Err-NotAWord.state cc
