-- The determinacy law, which the lemma on the winners of each game gives.
use Rattle.ml_parity.proofs.Winners.{law}
use Rattle.ml_parity.proofs.laws.determined.Goals as goal

pub returns : goal.returns
returns c = record { law = law }
