use Rattle.std.proofs.Common.{◌+◌, [], ◌∷◌, map, drop, ap, sym, subst, ◌∙◌}
use Rattle.std.proofs.lemmas.List.{map-append}
use Rattle.ml_answers.specs.private.Reads.{ArePartsReadTo}
use Rattle.ml_answers.proofs.PartsRead.{parts_met, parts_open, parts_refused, parts_unnamed}
use Rattle.ml_replies.specs.Answers.{part_of}
use Rattle.ml_replies.specs.Replies.{StillMet}
use Rattle.ml_replies.specs.declared.answer.Without.TheVariants as without
use Rattle.ml_answers.specs.Documents.{IsWithoutText}
use Rattle.ml_answers.proofs.Reading.{room_behind}
use Rattle.ml_answers.proofs.parts.read_part.Goals as goal

pub returns-in-Unnamed-clause-read : goal.returns-in-Unnamed-clause-read
returns-in-Unnamed-clause-read c = λ ms start next read.
    let n = c.args.number in
    parts_unnamed c.args.items.now ms start n (map part_of c.args.parts.now.items) c.args.at read
    (next ∙ ap (λ m. m ∷ drop (n + 1) ms) c.in-Unnamed.is)

pub returns-in-Err-clause-refused : goal.returns-in-Err-clause-refused
returns-in-Err-clause-refused c = λ ms start next read ps parts.
    let n = c.args.number in
    parts_refused c.args.items.now ms start n (map part_of c.args.parts.now.items) c.args.at read
    (next ∙ ap (λ m. m ∷ drop (n + 1) ms) c.in-Needed.is) c.in-Err.refusal c.in-Err.ensures.refused ps parts

pub returns-in_ok-push-in-Perhaps-clause-read : goal.returns-in_ok-push-in-Perhaps-clause-read
returns-in_ok-push-in-Perhaps-clause-read c = λ ms start next read.
    let n = c.args.number in
    subst (λ qs. ArePartsReadTo c.args.items.now ms start (n + 1) qs c.args.at)
    (sym (ap (map part_of) c.in_ok-push-in-Perhaps.ensures.items
    ∙ map-append part_of c.args.parts.now.items (record { requirement = n; without = without.Open } ∷ [])))
    (parts_open c.args.items.now ms start n (map part_of c.args.parts.now.items) c.args.at read
    (next ∙ ap (λ m. m ∷ drop (n + 1) ms) c.in-Perhaps.is))

pub returns-in_ok-push-in-Ok-clause-read : goal.returns-in_ok-push-in-Ok-clause-read
returns-in_ok-push-in-Ok-clause-read c = λ ms start next read.
    let n = c.args.number in
    let xs = c.args.items.now in
    let m = c.in-Ok.model in
    let text = IsWithoutText xs n (StillMet m.structure m.start) in
    subst (λ qs. ArePartsReadTo xs ms start (n + 1) qs c.in-Ok.behind)
    (sym (ap (map part_of) c.in_ok-push-in-Ok.ensures.items
    ∙ map-append part_of c.args.parts.now.items (record { requirement = n; without = without.Met m } ∷ [])))
    (parts_met xs ms start n (map part_of c.args.parts.now.items) c.args.at read
    (next ∙ ap (λ k. k ∷ drop (n + 1) ms) c.in-Needed.is) m.structure m.start c.in-Ok.behind c.in-Ok.ensures.read
    (room_behind text text c.args.at c.in-Ok.behind c.in-Ok.ensures.read c.requires))
