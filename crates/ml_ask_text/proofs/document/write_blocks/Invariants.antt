use Rattle.std.proofs.Common.{◌≡◌, ◌++◌, map, take}
use Rattle.std.specs.List.{flat_map}
use Rattle.ml_replies.specs.Answers.{replied_of}
use Rattle.ml_ask_text.specs.private.Written.{block_text, AreShown}
use Rattle.ml_ask_text.proofs.document.write_blocks.Given as goal

abbrev pub invariant-loop-answered : goal.invariant-loop-answered
invariant-loop-answered l = record {
  text : l.out.items ≡ l.fn.out.items ++ flat_map (block_text l.items) (map replied_of (take l.answered-index l.answers));
  shown : AreShown (map replied_of (take l.answered-index l.answers));
}
