use Rattle.std.proofs.Common.{Err, inl, inr, ap}
use Rattle.std.proofs.lemmas.Bool.{false≢true}
use Rattle.ml_front.specs.Logics.{logic_of}
use Rattle.ml_front.proofs.Graphs.{never_both}
use Rattle.ml_replies.proofs.checking.speaks_of.Goals as goal

pub returns-in-Err-NotTotal : goal.returns-in-Err-NotTotal
returns-in-Err-NotTotal c =
    let l = logic_of c.args.problem.now.formula in
    let dead = c.in-Err-NotTotal.field-0-0 in
    let first = c.in-Err-NotTotal.ensures.total dead (ap Err c.in-Err-NotTotal.field-0-is) in
    ((λ e. absurd (false≢true e)), (λ ok. absurd (never_both l c.args.structure.now dead ok (inl first))))

pub returns-in-Err-NotAWord : goal.returns-in-Err-NotAWord
returns-in-Err-NotAWord c =
    let l = logic_of c.args.problem.now.formula in
    let fork = c.in-Err-NotAWord.field-0-0 in
    let first = c.in-Err-NotAWord.ensures.word fork (ap Err c.in-Err-NotAWord.field-0-is) in
    ((λ e. absurd (false≢true e)), (λ ok. absurd (never_both l c.args.structure.now fork ok (inr first))))
