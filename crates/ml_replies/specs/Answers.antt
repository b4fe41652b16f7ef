-- What answers, as the program holds them, say as plain values.
--
--   without_of, part_of, core_of == the plain value of each part of an answer
--   reply_of a   == the plain value of the answer a
--   replied_of a == that of a question with its answer
use Rattle.std.specs.Prelude.{map}
use Rattle.ml_refutation.specs.Views.{of_parts}
use Rattle.ml_replies.specs.Replies as plain
use Rattle.ml_replies.specs.Replies.{Replied, Reply, LeftOpen, Met, StillMet, StillOpen, Unmet}
use Rattle.ml_replies.specs.declared.answer.Answer.{Answer}
use Rattle.ml_replies.specs.declared.answer.Answer.TheVariants.{Yes, No, Open}
use Rattle.ml_replies.specs.declared.answer.Answered.{Answered}
use Rattle.ml_replies.specs.declared.answer.Core.{Core}
use Rattle.ml_replies.specs.declared.answer.Part.{Part}
use Rattle.ml_replies.specs.declared.answer.Without.{Without}
use Rattle.ml_replies.specs.declared.answer.Without.TheVariants as without

abbrev pub without_of : Without → plain.Without
without_of (without.Met m) = StillMet m.structure m.start
without_of without.Open = StillOpen

abbrev pub part_of : Part → plain.Part
part_of p = record { requirement = p.requirement; without = without_of p.without }

abbrev pub core_of : Core → plain.Core
core_of c = record {
  taken = c.taken.items;
  parts = map part_of c.parts.items;
  refutation = of_parts c.refutation.names c.refutation.sequents c.refutation.stacks c.refutation.entries;
}

abbrev pub reply_of : Answer → Reply
reply_of (Yes m) = Met m.structure m.start
reply_of (No c) = Unmet (core_of c)
reply_of Open = LeftOpen

abbrev pub replied_of : Answered → Replied
replied_of a = record { question = a.question; reply = reply_of a.answer }
