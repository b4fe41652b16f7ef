use Rattle.ml_gen.proofs.FamilyTexts.{are_parsed, parsed_as_one}
use Rattle.ml_gen.proofs.laws.are_parsed.Goals as goal

pub returns-clause-parsed : goal.returns-clause-parsed
returns-clause-parsed c = are_parsed

pub returns-clause-only : goal.returns-clause-only
returns-clause-only c = parsed_as_one
