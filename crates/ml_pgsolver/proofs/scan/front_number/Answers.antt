use Rattle.std.proofs.Common.{take, ap, ◌∙◌}
use Rattle.std.specs.List.{take_while}
use Rattle.std.proofs.lemmas.List.Folds.{length-prefix_len}
use Rattle.ml_text.specs.Bytes.{is_digit}
use Rattle.ml_pgsolver.specs.declared.scan.Numeral.{Numeral}
use Rattle.ml_pgsolver.specs.declared.scan.Sign.TheVariants as sign
use Rattle.ml_pgsolver.specs.private.Signs.{fitting, owner_named}
use Rattle.ml_pgsolver.proofs.Capped.{numeral_same}
use Rattle.ml_pgsolver.proofs.scan.front_number.Goals as goal

pub returns-clause-sign : goal.returns-clause-sign
returns-clause-sign c =
    let text = c.args.text.now in
    let run = ap (λ k. take k text) (c.digits_value-value.ensures.length ∙ length-prefix_len is_digit text) in
    ap (λ (n : Numeral). sign.Number n)
    (numeral_same (take_while is_digit text) c.fitting.result c.owner_named.result
    (c.fitting.ensures ∙ ap fitting c.digits_value-value.ensures.value)
    (c.owner_named.ensures ∙ ap owner_named run))
