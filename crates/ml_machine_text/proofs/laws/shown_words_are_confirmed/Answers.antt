use Rattle.ml_machine_text.proofs.Confirmed as lemma
use Rattle.ml_machine_text.proofs.laws.shown_words_are_confirmed.Goals as goal

pub returns : goal.returns
returns c = lemma.shown_confirmed
