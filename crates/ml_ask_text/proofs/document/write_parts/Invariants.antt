use Rattle.std.proofs.Common.{◌≡◌, ◌++◌, map, take}
use Rattle.std.specs.List.{flat_map, AllByRecursion}
use Rattle.ml_replies.specs.Answers.{part_of}
use Rattle.ml_ask_text.specs.private.Written.{part_text, IsPartShown}
use Rattle.ml_ask_text.proofs.document.write_parts.Given as goal

abbrev pub invariant-loop-part : goal.invariant-loop-part
invariant-loop-part l = record {
  text : l.out.items ≡ l.fn.out.items ++ flat_map (part_text l.items) (map part_of (take l.part-index l.parts));
  shown : AllByRecursion IsPartShown (map part_of (take l.part-index l.parts));
}
