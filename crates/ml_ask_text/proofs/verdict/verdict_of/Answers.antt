use Rattle.std.proofs.Common.{true, false, sym, refl, ◌∙◌}
use Rattle.std.specs.List.{list_any}
use Rattle.ml_ask_text.specs.Told.{is_left_open}
use Rattle.ml_replies.specs.Answers.{replied_of}
use Rattle.ml_ask_text.proofs.Verdicts.{verdict_is}
use Rattle.ml_ask_text.proofs.verdict.verdict_of.Goals as goal

pub returns-then-some_against : goal.returns-then-some_against
returns-then-some_against c =
    verdict_is c.args.items.now c.args.answers.now true (list_any (λ a. is_left_open (replied_of a)) c.args.answers.now)
    (sym c.if-some_against.true ∙ c.some_against.ensures) refl

pub returns-then-some_left_open : goal.returns-then-some_left_open
returns-then-some_left_open c =
    verdict_is c.args.items.now c.args.answers.now false true (sym c.if-some_against.false ∙ c.some_against.ensures)
    (sym c.if-some_left_open.true ∙ c.some_left_open.ensures)

pub returns-else-some_left_open : goal.returns-else-some_left_open
returns-else-some_left_open c =
    verdict_is c.args.items.now c.args.answers.now false false (sym c.if-some_against.false ∙ c.some_against.ensures)
    (sym c.if-some_left_open.false ∙ c.some_left_open.ensures)
