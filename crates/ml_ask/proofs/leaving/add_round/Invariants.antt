use Rattle.std.proofs.Common.{◌≡◌, map, take}
use Rattle.std.specs.List.{AllByRecursion}
use Rattle.ml_spec.specs.Questions.{is_in}
use Rattle.ml_replies.specs.Meeting.{numbers_in}
use Rattle.ml_replies.specs.Replies.{IsPart}
use Rattle.ml_replies.specs.Answers.{part_of}
use Rattle.ml_ask.proofs.leaving.add_round.Given as goal

abbrev pub invariant-loop-number : goal.invariant-loop-number
invariant-loop-number l = record {
  are_parts : map (λ p. p.requirement) (map part_of l.parts.items)
      ≡ numbers_in (is_in l.taken) (take l.number l.asked.specification.now.items.items);
  are_so : AllByRecursion
      (IsPart l.asked.specification.now.logic l.asked.specification.now.items.items l.asked.limit (is_in l.taken)
      l.asked.question) (map part_of l.parts.items);
}
