-- The tokens from a byte on begin behind the blanks that stand there.
use Rattle.std.proofs.Common.{arith}
use Rattle.std.proofs.lemmas.List.{take_rest}
use Rattle.ml_text.proofs.Scan.{no_token_left, FirstToken, first_token}
use Rattle.ml_text.proofs.token.next_token.Goals as goal
use Rattle.ml_text.proofs.token.next_token.Goals.{After-front_token-token}

-- what is known once the token behind the blanks was found
first : (c : After-front_token-token)
    → FirstToken c.args.words c.args.text.now c.args.from c.blank_length.result c.front_token-token.result
first c = first_token c.args.words c.args.text.now c.args.from c.blank_length.result c.front_token-token.result
    c.requires (rw take_rest at c.blank_length.ensures) c.if-start-text.false
    (rw take_rest at c.front_token-token.ensures)

pub returns-then-start-text-clause-tokens : goal.returns-then-start-text-clause-tokens
returns-then-start-text-clause-tokens c =
    no_token_left c.args.words c.args.text.now c.args.from c.blank_length.result c.requires
    (rw take_rest at c.blank_length.ensures) c.if-start-text.true

pub overflow_add-result : goal.overflow_add-result
overflow_add-result c = let f = first (goal.at.overflow_add-result c).After-front_token-token in omega arith

pub returns-clause-tokens : goal.returns-clause-tokens
returns-clause-tokens c = (first (goal.at.returns-clause-tokens c).After-front_token-token).tokens

pub returns-clause-place : goal.returns-clause-place
returns-clause-place c = let f = first (goal.at.returns-clause-place c).After-front_token-token in
    (omega arith, omega arith, omega arith)
