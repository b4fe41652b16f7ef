use Rattle.std.proofs.Common.{[], ◌∷◌, codes, ap, ◌∙◌}
use Rattle.std.specs.Option.{option_copied}
use Rattle.ml_lines.specs.Reading.{words_of}
use Rattle.ml_refutation_text.specs.private.ItemReads.{before_of}
use Rattle.ml_refutation_text.proofs.ItemLines.{table_no_names, table_lacks, table_is}
use Rattle.ml_refutation_text.proofs.traces.item_by_table.Goals as goal

pub returns-then-not-comes_behind-clause-refused : goal.returns-then-not-comes_behind-clause-refused
returns-then-not-comes_behind-clause-refused c =
    let line = words_of c.args.line.now in
    let state = c.in-Some-read_state.ensures in
    λ names qs wanted es q traces no_heights stand.
    table_no_names names wanted es q traces qs c.args.tables.now.stacks line c.in-Some.node.now c.in-Some.guess.now
    c.in-Some-one_word.place.now
    (c.in-Some.ensures.1 ∙ ap (λ ws. codes "item" ∷ c.in-Some.node.now ∷ c.in-Some.guess.now ∷ ws) c.in-Some-one_word.ensures)
    c.args.live (before_of (option_copied c.args.before))
    (record { node = c.in-Some-read_state.node; odd = c.in-Some-read_state.odd }) stand state.0 state.2 state.1 state.3
    c.in-Some-read_any.ensures.0 (λ both. c.comes_behind.ensures.otherwise c.if-not-comes_behind.true both.0)

pub returns-in-Err-clause-refused : goal.returns-in-Err-clause-refused
returns-in-Err-clause-refused c =
    let line = words_of c.args.line.now in
    let state = c.in-Some-read_state.ensures in
    λ names qs wanted es q traces no_heights stand.
    table_lacks names wanted es q traces qs c.args.tables.now.stacks line c.in-Some.node.now c.in-Some.guess.now
    c.in-Some-one_word.place.now
    (c.in-Some.ensures.1 ∙ ap (λ ws. codes "item" ∷ c.in-Some.node.now ∷ c.in-Some.guess.now ∷ ws) c.in-Some-one_word.ensures)
    c.args.live (before_of (option_copied c.args.before))
    (record { node = c.in-Some-read_state.node; odd = c.in-Some-read_state.odd }) stand state.0 state.2 state.1 state.3
    c.in-Some-read_any.ensures.0 c.in-Some-read_any.place c.in-Err.refusal c.in-Some-read_any.ensures.1
    (c.comes_behind.ensures.yes c.if-not-comes_behind.false) c.in-Err.ensures.refused

pub returns-in-Ok-clause-read : goal.returns-in-Ok-clause-read
returns-in-Ok-clause-read c =
    let state = c.in-Some-read_state.ensures in
    let p = c.in-Some-one_word.place.now in λ qs.
    table_is qs c.args.tables.now.stacks (words_of c.args.line.now) c.args.live (before_of (option_copied c.args.before))
    (record { node = c.in-Some-read_state.node; odd = c.in-Some-read_state.odd }) c.in-Some-read_any.place c.in-Ok.stack p
    (c.in-Some.ensures.1 ∙ ap (λ ws. codes "item" ∷ c.in-Some.node.now ∷ c.in-Some.guess.now ∷ ws) c.in-Some-one_word.ensures
    ∙ (λ i. codes "item" ∷ state.0 i ∷ state.2 i ∷ p ∷ []))
    c.in-Some-read_any.ensures.0 c.in-Some-read_any.ensures.1 c.in-Ok.ensures.read state.1 state.3
    (c.comes_behind.ensures.yes c.if-not-comes_behind.false)
