-- The signs from a byte on begin behind the blanks that stand there.
use Rattle.std.proofs.Common.{arith}
use Rattle.std.proofs.lemmas.List.{take_rest}
use Rattle.ml_pgsolver.proofs.FirstTokens.{no_sign_left, FirstSign, first_sign}
use Rattle.ml_pgsolver.proofs.scan.next_sign.Goals as goal
use Rattle.ml_pgsolver.proofs.scan.next_sign.Goals.{After-front_sign-sign}

-- what is known once the token behind the blanks was found
first : (c : After-front_sign-sign)
    → FirstSign c.args.text.now c.args.from c.blank_length.result c.front_sign-sign.result.0 c.front_sign-sign.result.1
first c = first_sign c.args.text.now c.args.from c.blank_length.result c.front_sign-sign.result.0 c.front_sign-sign.result.1
    c.requires (rw take_rest at c.blank_length.ensures) c.if-start-text.false
    c.front_sign-sign.ensures.sign c.front_sign-sign.ensures.length

pub returns-then-start-text-clause-signs : goal.returns-then-start-text-clause-signs
returns-then-start-text-clause-signs c =
    no_sign_left c.args.text.now c.args.from c.blank_length.result c.requires
    (rw take_rest at c.blank_length.ensures) c.if-start-text.true

pub overflow_add-result : goal.overflow_add-result
overflow_add-result c = let f = first (goal.at.overflow_add-result c).After-front_sign-sign in omega arith

pub returns-clause-signs : goal.returns-clause-signs
returns-clause-signs c = (first (goal.at.returns-clause-signs c).After-front_sign-sign).signs

pub returns-clause-place : goal.returns-clause-place
returns-clause-place c = let f = first (goal.at.returns-clause-place c).After-front_sign-sign in
    (omega arith, omega arith, omega arith)
