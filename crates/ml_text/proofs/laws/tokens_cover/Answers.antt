use Rattle.std.proofs.Common.{arith}
use Rattle.ml_text.specs.Tokens.{tokens, tokens_from}
use Rattle.ml_text.proofs.Cover.{are_tokens, are_tokens-only, tokens_over-each}
use Rattle.ml_text.proofs.laws.tokens_cover.Goals as goal

pub returns-clause-cover : goal.returns-clause-cover
unfolding tokens
returns-clause-cover c = λ w text. are_tokens w text 0

pub returns-clause-only : goal.returns-clause-only
unfolding tokens
returns-clause-only c = λ w text ps all. are_tokens-only w text 0 ps all

pub returns-clause-bytes : goal.returns-clause-bytes
unfolding tokens
returns-clause-bytes c = λ w text k below.
    tokens_over-each w text 0 (tokens_from w text 0) (are_tokens w text 0) k (omega arith) below
