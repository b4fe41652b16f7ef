use Rattle.std.proofs.Common.{sym, ◌∙◌}
use Rattle.ml_answers.specs.private.Words.{words_left}
use Rattle.ml_answers.proofs.Splitting.{cut_over}
use Rattle.ml_answers.proofs.names.cut_names.Goals as goal

pub returns-then-over : goal.returns-then-over
returns-then-over c =
    cut_over c.args.wants_some c.args.dashed (words_left c.args.needed) c.args.perhaps c.in-Some.unsettled c.in-Some.is
    (sym c.are_none.ensures ∙ c.if-are_none.false) (sym c.requires ∙ c.if-over.true ∙ sym c.if-dashed.true)

pub returns-else-over-2 : goal.returns-else-over-2
returns-else-over-2 c =
    cut_over c.args.wants_some c.args.dashed (words_left c.args.needed) c.args.perhaps c.in-Some.unsettled c.in-Some.is
    (sym c.are_none.ensures ∙ c.if-are_none.false) (sym c.requires ∙ c.if-over-2.false ∙ sym c.if-dashed.false)
