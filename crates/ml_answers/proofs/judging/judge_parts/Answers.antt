use Rattle.std.proofs.Common.{◌≡◌, ◌+◌, ◌<◌, ◌++◌, [], ◌∷◌, length, map, take, ap, sym, subst, ◌∙◌, arith}
use Rattle.std.proofs.lemmas.List.{map-append, take_more}
use Rattle.ml_spec.specs.Questions.{is_in}
use Rattle.ml_replies.specs.Answers.{part_of}
use Rattle.ml_answers.specs.private.Judged.{worse}
use Rattle.ml_answers.proofs.Judgments.{parts_more, PartsComeTo}
use Rattle.ml_answers.proofs.NeverWrong.{never_parts}
use Rattle.ml_answers.proofs.judging.judge_parts.Goals as goal

pub loop-part-preserved : goal.loop-part-preserved
loop-part-preserved c =
    let s = c.args.specification.now in
    let xs = s.items.items in
    let q = c.args.question in
    let S = is_in c.args.taken.now in
    let parts = c.args.parts.now in
    let i = c.loop-part.part-index in
    let item = c.part-item.result in
    let low : i < length parts = omega (arith, c.loop-part-test.true, c.loop-part.auto.part-index-end) in
    let more : take (i + 1) parts ≡ take i parts ++ item ∷ [] =
    take_more parts i item low ∙ ap (λ p. take i parts ++ p ∷ []) (sym c.part-item.is) in
    let never = never_parts c.requires.one s.logic xs q c.requires.specified c.requires.question S in
    subst (PartsComeTo s.logic xs S q (map part_of (take (i + 1) parts))) (sym c.together-all.ensures)
    (subst (λ ps. PartsComeTo s.logic xs S q ps (worse c.loop-part.all c.in_ok-standing.standing))
    (sym (ap (map part_of) more ∙ map-append part_of (take i parts) (item ∷ [])))
    (parts_more s.logic xs S q (map part_of (take i parts)) (part_of item) c.loop-part.all c.in_ok-standing.standing
    never c.loop-part.invariant c.in_ok-standing.ensures))
