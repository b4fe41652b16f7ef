use Rattle.std.proofs.Common.{IfErr, subst}
use Rattle.ml_kripke.specs.BodyRules.{AtStates}
use Rattle.ml_kripke.specs.private.Refusals.{TellsFault}
use Rattle.ml_kripke.proofs.OneFault.{fault_or_model}
use Rattle.ml_kripke.proofs.read.read_model.Goals as goal

pub returns-clause-no_model : goal.returns-clause-no_model
returns-clause-no_model c = λ fault is model.
    fault_or_model c.args.bytes.now c.args.first_line fault model
    (subst (λ r. IfErr r (TellsFault AtStates c.args.first_line c.args.bytes.now)) is c.read_body.ensures.refused)
