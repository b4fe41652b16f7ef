use Rattle.std.proofs.Common.{sym, ◌∙◌}
use Rattle.ml_ask_text.proofs.WrittenLines.{perhaps_none, perhaps_some}
use Rattle.ml_ask_text.proofs.lines.write_perhaps.Goals as goal

pub returns-in_ok-write_unsettled : goal.returns-in_ok-write_unsettled
returns-in_ok-write_unsettled c =
    perhaps_some c.args.items.now c.args.parts.now c.args.out.now.items c.write_next_word.new.out.items
    c.write_unsettled.new.out.items (sym c.some_unsettled.ensures ∙ c.if-some_unsettled.true)
    c.in_ok-write_next_word.ensures.ok c.in_ok-write_unsettled.ensures

pub returns-else-some_unsettled : goal.returns-else-some_unsettled
returns-else-some_unsettled c =
    perhaps_none c.args.items.now c.args.parts.now c.args.out.now.items
    (sym c.some_unsettled.ensures ∙ c.if-some_unsettled.false)
