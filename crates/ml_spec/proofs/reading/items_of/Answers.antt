use Rattle.std.proofs.Common.{subst}
use Rattle.ml_spec.specs.private.Stages.{AreMeant}
use Rattle.ml_spec.proofs.ReadItems.{large_told, read_as}
use Rattle.ml_spec.proofs.reading.items_of.Goals as goal

pub returns-in-Some : goal.returns-in-Some
returns-in-Some c =
    λ l all ss read meant.
    let m = c.args.meanings in
    large_told l all ss read m.items.items m.definitions c.in-Some.at
    (subst (AreMeant l ss m.items.items m.definitions) c.in-Some.is meant)

pub returns-in-None : goal.returns-in-None
returns-in-None c =
    λ l all ss read meant.
    let m = c.args.meanings in
    read_as l all ss read m.items.items m.definitions (subst (AreMeant l ss m.items.items m.definitions) c.in-None.is meant)
