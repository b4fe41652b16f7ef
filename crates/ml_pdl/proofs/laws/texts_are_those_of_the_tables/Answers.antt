use Rattle.ml_pdl.proofs.PdlGrammar.{read_stands, stands_read, pdl_completable}
use Rattle.ml_pdl.proofs.laws.texts_are_those_of_the_tables.Goals as goal

pub returns-clause-read : goal.returns-clause-read
returns-clause-read c = read_stands

pub returns-clause-only : goal.returns-clause-only
returns-clause-only c = stands_read

pub returns-clause-completable : goal.returns-clause-completable
returns-clause-completable c = pdl_completable
