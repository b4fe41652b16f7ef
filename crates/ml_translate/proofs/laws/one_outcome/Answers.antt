use Rattle.ml_translate.proofs.SomeTranslations as translations
use Rattle.ml_translate.proofs.laws.one_outcome.Goals as goal

pub returns-clause-some : goal.returns-clause-some
returns-clause-some c = translations.some_translation

pub returns-clause-one : goal.returns-clause-one
returns-clause-one c = translations.one_outcome
