use Rattle.std.proofs.Common.{Err, inl, inr, ap}
use Rattle.ml_front.specs.Logics.{logic_of}
use Rattle.ml_front.proofs.Graphs.{never_both}
use Rattle.ml_replies.proofs.checking.meets_one.Goals as goal

pub unreachable-requires : goal.unreachable-requires
unreachable-requires c =
    let l = logic_of c.args.problem.now.formula in
    let dead = c.in-Err-NotTotal.field-0-0 in
    let first = c.in-Err-NotTotal.ensures.total dead (ap Err c.in-Err-NotTotal.field-0-is) in
    never_both l c.args.structure.now dead c.requires.admitted (inl first)

pub unreachable-requires-in-Err-NotAWord : goal.unreachable-requires-in-Err-NotAWord
unreachable-requires-in-Err-NotAWord c =
    let l = logic_of c.args.problem.now.formula in
    let fork = c.in-Err-NotAWord.field-0-0 in
    let first = c.in-Err-NotAWord.ensures.word fork (ap Err c.in-Err-NotAWord.field-0-is) in
    never_both l c.args.structure.now fork c.requires.admitted (inr first)
