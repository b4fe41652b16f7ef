use Rattle.std.proofs.Common.{refl}
use Rattle.ml_spec.proofs.statement.add_defined.Goals as goal

pub returns : goal.returns
returns c = record {
  are_names = refl;
  are_declared = c.in_ok-declare.ensures;
  are_spoken = refl;
  are_signals = refl;
  of_logic = c.in_ok-add_definition.ensures.logic;
  are_meant = c.in_ok-add_definition.ensures.meant;
}
