use Rattle.std.proofs.Common.{◌≡◌, All, take}
use Rattle.ml_base.specs.Name.{IsName}
use Rattle.ml_translate.proofs.propositions.copied.Given as goal

abbrev pub invariant-loop-name : goal.invariant-loop-name
invariant-loop-name l = (l.names.items ≡ take l.name-index l.name-items) × All IsName (take l.name-index l.name-items)
