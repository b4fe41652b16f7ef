use Rattle.std.proofs.Common.{map, take}
use Rattle.ml_spec.specs.Questions.{is_in}
use Rattle.ml_replies.specs.Answers.{part_of}
use Rattle.ml_answers.proofs.Judgments.{PartsComeTo}
use Rattle.ml_answers.proofs.judging.judge_parts.Given as goal

abbrev pub invariant-loop-part : goal.invariant-loop-part
invariant-loop-part l =
    PartsComeTo l.specification.logic l.specification.items.items (is_in l.taken) l.question
    (map part_of (take l.part-index l.parts)) l.all
