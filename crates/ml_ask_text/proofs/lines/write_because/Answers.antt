use Rattle.std.proofs.Common.{◌++◌, sym, ap, ◌∙◌}
use Rattle.std.proofs.lemmas.Result.{on_ok_weaker}
use Rattle.ml_ask_text.proofs.WrittenLines.{because_none, because_some}
use Rattle.ml_ask_text.proofs.lines.write_because.Goals as goal

pub returns-then-some_needed : goal.returns-then-some_needed
returns-then-some_needed c =
    let some = because_some c.args.items.now c.args.parts.now (sym c.some_needed.ensures ∙ c.if-some_needed.true) in
    on_ok_weaker c.write_needed.result (λ is. is ∙ ap (λ t. c.args.out.now.items ++ t) some) c.write_needed.ensures

pub returns-else-some_needed : goal.returns-else-some_needed
returns-else-some_needed c =
    let none = because_none c.args.items.now c.args.parts.now (sym c.some_needed.ensures ∙ c.if-some_needed.false) in
    on_ok_weaker c.write_next_word.result (λ is. is ∙ ap (λ t. c.args.out.now.items ++ t) none) c.write_next_word.ensures.ok
