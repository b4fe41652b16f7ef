use Rattle.std.proofs.Common.{take}
use Rattle.std.proofs.lemmas.Result.{IfOk-weaker}
use Rattle.ml_spec.proofs.SpecifiedItems.{specified}
use Rattle.ml_answers.specs.Stated.{lines_of, replies_of}
use Rattle.ml_answers.proofs.Found.{checked_found}
use Rattle.ml_answers.proofs.Judgable.{are_judgable}
use Rattle.ml_answers.proofs.check.judge_all.Goals as goal

pub verdict-requires-clause-specified : goal.verdict-requires-clause-specified
verdict-requires-clause-specified c =
    let s = c.args.specification.now in
    specified (take c.requires.read.at c.args._bytes.now) s.logic s.items.items c.requires.read.is_read.is_specification

pub verdict-requires-clause-judgable : goal.verdict-requires-clause-judgable
verdict-requires-clause-judgable c =
    are_judgable c.args.specification.now.items.items c.args.stated.now c.requires.read.is_read.are_answers.are_all

pub returns : goal.returns
returns c =
    let s = c.args.specification.now in
    let stated = c.args.stated.now in
    IfOk-weaker c.verdict.result _ _
    (λ x is.
    checked_found c.args._bytes.now s.logic s.items.items (replies_of stated) (lines_of stated) x c.requires.read is)
    c.verdict.ensures
