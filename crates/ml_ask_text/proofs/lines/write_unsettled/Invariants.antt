use Rattle.std.proofs.Common.{◌≡◌, ◌++◌, take}
use Rattle.std.specs.List.{flat_map}
use Rattle.ml_lines.specs.Lines.{next}
use Rattle.ml_answers.specs.Lines.{unsettled_name}
use Rattle.ml_replies.specs.Answers.{part_of}
use Rattle.ml_ask_text.proofs.lines.write_unsettled.Given as goal

abbrev pub invariant-loop-part : goal.invariant-loop-part
invariant-loop-part l =
    l.out.items ≡ l.fn.out.items ++ flat_map (λ p. flat_map next (unsettled_name l.items (part_of p))) (take l.part-index l.parts)
