use Rattle.std.proofs.Common.{◌≡◌, ◌∙◌, ap, refl, sym, codes, Err}
use Rattle.std.specs.Option.{option_copied}
use Rattle.std.proofs.lemmas.Bool.{true≢false}
use Rattle.std.proofs.lemmas.Slice.Eq.{bytes_eq-Decides}
use Rattle.ml_lines.specs.Lines.{number}
use Rattle.ml_lines.specs.Reading.{words_of}
use Rattle.ml_kripke.specs.declared.body_rule.BodyRule.TheVariants.{Edges, Numbers}
use Rattle.ml_kripke.proofs.BrokenRules.{lowest_edge, no_numbers, other_edge, no_end}
use Rattle.ml_kripke.proofs.read_line.edge_of.Goals as goal

pub returns-in-Err-OutOfPlace-clause-refused : goal.returns-in-Err-OutOfPlace-clause-refused
returns-in-Err-OutOfPlace-clause-refused c =
    let line = words_of c.args.line.now in
    let before = option_copied c.args.before in
    let s = c.in-Some.source in
    let t = c.in-Some.target in
    let apart = λ (is : c.args.line.now ≡ codes "end").
    true≢false (sym ((bytes_eq-Decides c.args.line.now c.as_slice.result.now).1 (is ∙ sym c.as_slice.ensures)) ∙ sym c.if-eq.ensures) in
    λ left.
    lowest_edge left c.args.states before line Edges c.edge_rule.result (no_end c.args.line.now apart) c.edge_rule.ensures (λ edged.
    other_edge left c.args.states before line (number s) c.in-Some.action.now (number t) edged.0 c.in-Some.ensures.0 s t refl refl
    c.in-Some.ensures.1 c.in-Some.ensures.2 (c.in-Err-OutOfPlace.ensures.refused (ap Err c.in-Err-OutOfPlace.field-0-is)))

pub returns-in-None-clause-refused : goal.returns-in-None-clause-refused
returns-in-None-clause-refused c =
    let line = words_of c.args.line.now in
    let before = option_copied c.args.before in
    let apart = λ (is : c.args.line.now ≡ codes "end").
    true≢false (sym ((bytes_eq-Decides c.args.line.now c.as_slice.result.now).1 (is ∙ sym c.as_slice.ensures)) ∙ sym c.if-eq.ensures) in
    let other = no_end c.args.line.now apart in
    λ left.
    lowest_edge left c.args.states before line Numbers c.edge_rule-in-None.result other c.edge_rule-in-None.ensures
    (no_numbers left c.args.states before line c.in-None.ensures other)
