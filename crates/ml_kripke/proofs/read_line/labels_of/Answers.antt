use Rattle.std.proofs.Common.{ap, refl, Err}
use Rattle.std.specs.Option.{option_copied}
use Rattle.ml_lines.specs.Lines.{number}
use Rattle.ml_lines.specs.Reading.{words_of, words_behind}
use Rattle.ml_kripke.specs.declared.body_rule.BodyRule.TheVariants.{NextState, Labels}
use Rattle.ml_kripke.proofs.BrokenRules.{lowest_state, other_number, other_labels}
use Rattle.ml_kripke.proofs.read_line.labels_of.Goals as goal

pub returns-then-number-state-clause-refused : goal.returns-then-number-state-clause-refused
returns-then-number-state-clause-refused c =
    let line = words_of c.args.line.now in
    let k = c.in-Some.number in
    λ states left.
    lowest_state left states c.args.state line NextState c.state_rule.result c.state_rule.ensures (λ stated.
    other_number left states c.args.state line (number k) (words_behind (option_copied c.in-Some.behind)) stated.0 c.in-Some.ensures.0
    k refl c.in-Some.ensures.1 c.if-number-state.true)

pub returns-in-Err-OutOfPlace-clause-refused : goal.returns-in-Err-OutOfPlace-clause-refused
returns-in-Err-OutOfPlace-clause-refused c =
    let line = words_of c.args.line.now in
    let k = c.in-Some.number in
    λ states left.
    lowest_state left states c.args.state line Labels c.state_rule-in-Err-OutOfPlace.result c.state_rule-in-Err-OutOfPlace.ensures (λ stated.
    other_labels left states c.args.state line (number k) (words_behind (option_copied c.in-Some.behind)) stated.0 c.in-Some.ensures.0
    k refl c.in-Some.ensures.1 c.if-number-state.false (c.in-Err-OutOfPlace.ensures.refused (ap Err c.in-Err-OutOfPlace.field-0-is)))
