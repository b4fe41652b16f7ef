use Rattle.std.proofs.Common.{◌||◌, ◌/◌, ◌^◌, length, sym, ap, ◌∙◌}
use Rattle.ml_task.specs.NameSets.{members}
use Rattle.ml_word_automaton.specs.Words.{has}
use Rattle.ml_realize.proofs.PresentNames.{has_append}
use Rattle.ml_realize.proofs.letters.is_true.Goals as goal

pub returns-then-is_in : goal.returns-then-is_in
returns-then-is_in c =
    let ins = c.args.inputs.now in
    let outs = c.args.outputs.now in
    let p = c.args.name.now in
    let later = has (members outs (c.args.valuation / 2 ^ length ins)) p in
    c.if-is_in.true
    ∙ sym (has_append ins outs c.args.valuation p ∙ ap (λ b. b || later) (sym c.is_in.ensures ∙ c.if-is_in.true))

pub returns-else-is_in : goal.returns-else-is_in
returns-else-is_in c =
    let ins = c.args.inputs.now in
    let outs = c.args.outputs.now in
    let p = c.args.name.now in
    let later = has (members outs (c.args.valuation / 2 ^ length ins)) p in
    c.is_in-else-is_in.ensures
    ∙ sym (has_append ins outs c.args.valuation p ∙ ap (λ b. b || later) (sym c.is_in.ensures ∙ c.if-is_in.false))
