use Rattle.std.proofs.lemmas.List.{take_rest}
use Rattle.ml_pgsolver.proofs.FirstTokens.{digit_there}
use Rattle.ml_pgsolver.proofs.scan.front_sign.Goals as goal

pub returns-then-is_digit-clause-sign : goal.returns-then-is_digit-clause-sign
returns-then-is_digit-clause-sign c =
    digit_there c.args.text.now c.args.start c.front_number.result.0 c.requires
    (rw take_rest at c.if-is_digit.ensures) (rw take_rest at c.front_number.ensures.sign)
