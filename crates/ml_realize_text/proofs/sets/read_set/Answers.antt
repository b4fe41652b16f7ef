use Rattle.std.proofs.Common.{codes}
use Rattle.ml_realize_text.proofs.FixedWords.{other_word, same_word}
use Rattle.ml_realize_text.proofs.SetReads.{dash_is_set, members_are_set}
use Rattle.ml_realize_text.proofs.SetWords.{some_sets}
use Rattle.ml_realize_text.proofs.sets.read_set.Goals as goal

pub returns-then-eq : goal.returns-then-eq
returns-then-eq c = (
  some_sets c.args.names.now,
  dash_is_set c.args.names.now c.args.text.now
      (same_word c.args.text.now c.as_slice.result.now (codes "-") c.if-eq.ensures c.as_slice.ensures),
)

pub returns-else-eq : goal.returns-else-eq
returns-else-eq c =
    members_are_set c.args.names.now c.args.text.now c.set_of.result
    (other_word c.args.text.now c.as_slice.result.now (codes "-") c.if-eq.ensures c.as_slice.ensures) c.set_of.ensures
