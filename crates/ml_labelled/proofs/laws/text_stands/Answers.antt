use Rattle.ml_labelled.proofs.ReadTexts as texts
use Rattle.ml_labelled.proofs.laws.text_stands.Goals as goal

pub returns-clause-stands : goal.returns-clause-stands
returns-clause-stands c = texts.text_stands

pub returns-clause-read : goal.returns-clause-read
returns-clause-read c = texts.text_is_read
