use Rattle.ml_driver.proofs.MachineAnswers.{confirmed_if_ok}
use Rattle.ml_driver.proofs.checking_machines.check_machine.Goals as goal

pub returns-clause-confirmed : goal.returns-clause-confirmed
returns-clause-confirmed c =
    confirmed_if_ok c.in_ok-finding.finding c.machine_told.result (λ o. o.status) (λ o. o.bytes.items) c.machine_told.ensures.status
    c.machine_told.ensures.output c.in_ok-finding.ensures.confirmed
