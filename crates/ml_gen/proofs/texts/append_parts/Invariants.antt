use Rattle.std.proofs.Common.{◌≡◌, ◌++◌}
use Rattle.ml_gen.specs.Families.{parts}
use Rattle.ml_gen.proofs.texts.append_parts.Given as goal

abbrev pub invariant-loop-i : goal.invariant-loop-i
invariant-loop-i l = l.out.items ≡ l.fn.out.items ++ parts l.family l.separator l.i
