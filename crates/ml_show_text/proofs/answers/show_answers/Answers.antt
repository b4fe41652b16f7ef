use Rattle.std.proofs.Common.{take}
use Rattle.ml_answers.proofs.Judgable.{are_judgable}
use Rattle.ml_spec.proofs.SpecifiedItems.{specified}
use Rattle.ml_show_text.proofs.answers.show_answers.Goals as goal

pub page_of-requires-clause-specified : goal.page_of-requires-clause-specified
page_of-requires-clause-specified c =
    let read = c.in-Ok.ensures.read in
    let s = c.in-Ok.answered.specification in
    specified (take read.at c.args.text.now) s.logic s.items.items read.is_read.is_specification

pub page_of-requires-clause-judgable : goal.page_of-requires-clause-judgable
page_of-requires-clause-judgable c =
    let a = c.in-Ok.answered in
    are_judgable a.specification.items.items a.answers.items c.in-Ok.ensures.read.is_read.are_answers.are_all
