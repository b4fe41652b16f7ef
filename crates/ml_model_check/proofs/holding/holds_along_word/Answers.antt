use Rattle.std.proofs.Common.{◌≡◌}
use Rattle.ml_model_check.proofs.holding.holds_along_word.Goals as goal

pub returns-in-Err-NotAWord-clause-word : goal.returns-in-Err-NotAWord-clause-word
returns-in-Err-NotAWord-clause-word c = λ s is.
    let found = c.in-Err-NotAWord.is in
    let refusal = c.in-Err-NotAWord.field-0-is in
    let fork = c.in-Err-NotAWord.fork-is in
    let same : c.in-Err-NotAWord.fork ≡ s = cc in
    c.holds.ensures.fork s cc
