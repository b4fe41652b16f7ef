use Rattle.ml_spec.proofs.SpecifiedItems.{specified}
use Rattle.ml_spec.proofs.laws.specifications_are_specified.Goals as goal

pub returns : goal.returns
returns c = record { specified = specified }
