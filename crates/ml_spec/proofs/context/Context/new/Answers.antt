use Rattle.std.proofs.Common.{refl}
use Rattle.ml_spec.proofs.LargeFormulas.{none_at_first}
use Rattle.ml_spec.proofs.context.Context.new.Goals as goal

pub returns : goal.returns
returns c = record {
  are_names = c.new.ensures.empty;
  are_declared = c.new-2.ensures.empty;
  are_spoken = c.new-3.ensures.empty;
  are_signals = refl;
  of_logic = c.new-4.ensures.logic;
  are_meant = record {
    are_items = c.new-5.ensures.items;
    are_definitions = c.new-4.ensures.none;
    none_is_large = none_at_first c.args.logic;
  };
}
