use Rattle.std.proofs.Common.{◌++◌, subst}
use Rattle.ml_task.specs.NameSets.{members}
use Rattle.ml_word_automaton.specs.Letters.{AreThoseIn}
use Rattle.ml_realize.proofs.letters.letter.Goals as goal

pub returns : goal.returns
returns c =
    let names = members (c.args.inputs.now ++ c.args.outputs.now) c.args.valuation in
    c.in_ok-letter.ensures names
    (subst (λ g. AreThoseIn g names c.in_ok-set.set) c.graph.ensures.value c.in_ok-set.ensures)
