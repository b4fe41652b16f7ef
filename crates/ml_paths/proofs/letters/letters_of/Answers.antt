use Rattle.std.proofs.Common.{subst}
use Rattle.ml_paths.specs.private.Letters.{AreNumbered}
use Rattle.ml_paths.proofs.Grown.{letters_are}
use Rattle.ml_paths.proofs.letters.letters_of.Goals as goal

pub returns : goal.returns
returns c =
    let m = c.args.structure.now in
    let keys = c.numbered.new.labels.keys in
    let numbers = c.in_ok-numbers.numbers.items in
    letters_are c.args.automaton.now m keys numbers c.in_ok-row.row.items
    (subst (λ g. AreNumbered g m m.states keys numbers) c.graph.ensures.value c.in_ok-numbers.ensures) c.in_ok-row.ensures
