use Rattle.ml_pdl.proofs.CanonicalParsed.{canonical_parsed}
use Rattle.ml_pdl.proofs.laws.canonical_text_is_parsed.Goals as goal

pub returns : goal.returns
returns c = canonical_parsed
