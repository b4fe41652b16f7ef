use Rattle.std.proofs.Common.{◌++◌, refl}
use Rattle.ml_machine_text.proofs.WordLetters.{letter_more}
use Rattle.ml_machine_text.proofs.labels.labels_of.Goals as goal

pub loop-place-preserved : goal.loop-place-preserved
loop-place-preserved c =
    letter_more (c.args.inputs.now ++ c.args.outputs.now) c.args.valuations.now c.loop-place.place _ c.loop-place.labels.items
    c.add_letter.new.labels.items c.loop-place.invariant refl c.in_ok-add_letter.ensures
