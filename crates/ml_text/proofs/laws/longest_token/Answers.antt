use Rattle.ml_text.proofs.Longest.{front_token-longest, longest-one}
use Rattle.ml_text.proofs.Spelling.{spells-one}
use Rattle.ml_text.proofs.laws.longest_token.Goals as goal

pub returns-clause-longest : goal.returns-clause-longest
returns-clause-longest c = front_token-longest

pub returns-clause-only : goal.returns-clause-only
returns-clause-only c = longest-one

pub returns-clause-reading : goal.returns-clause-reading
returns-clause-reading c = spells-one
