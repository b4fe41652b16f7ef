use Rattle.ml_driver.proofs.PathAnswers.{confirmed_if_ok}
use Rattle.ml_driver.proofs.finding_paths.find_path.Goals as goal

pub returns-clause-confirmed : goal.returns-clause-confirmed
returns-clause-confirmed c =
    confirmed_if_ok c.in_ok-finding.finding c.path_told.result (λ o. o.status) (λ o. o.bytes.items) c.path_told.ensures.status
    c.path_told.ensures.output c.in_ok-finding.ensures.confirmed
