use Rattle.std.proofs.Common.{◌≡◌, ◌+◌, ◌<◌, ◌++◌, ◌&&◌, [], ◌∷◌, map, take, length, sym, ap, subst, ◌∙◌, arith}
use Rattle.std.specs.List.{AllByRecursion}
use Rattle.std.proofs.lemmas.Bool.{and_from}
use Rattle.std.proofs.lemmas.List.{map-append}
use Rattle.ml_lists.proofs.AllOf.{all_last}
use Rattle.ml_spec.specs.Kinds.{is_requirement}
use Rattle.ml_spec.specs.Questions.{is_in}
use Rattle.ml_replies.specs.Meeting.{numbers_in}
use Rattle.ml_replies.specs.Replies as plain
use Rattle.ml_replies.specs.Replies.{IsPart}
use Rattle.ml_replies.specs.Answers.{part_of}
use Rattle.ml_replies.specs.declared.answer.Part.{Part}
use Rattle.ml_ask.proofs.Numbers.{next_left, next_left_out, next_taken}
use Rattle.ml_ask.proofs.leaving.add_round.Goals as goal
use Rattle.ml_ask.proofs.leaving.add_round.Goals.{then-taken-number+then-is_requirement+in_ok-without+in-Keep+in_ok-push-in-Keep, else-taken-number}
use Rattle.ml_ask.proofs.leaving.add_round.Goals.{else-taken-number-via-then-taken-number+else-is_requirement, else-taken-number-via-else-taken-number}

pub loop-number-preserved : goal.loop-number-preserved
loop-number-preserved c =
    let a = c.args.asked in
    let l = a.specification.now.logic in
    let xs = a.specification.now.items.items in
    let S = is_in c.args.taken.now in
    let i = c.loop-number.number in
    let P = IsPart l xs a.limit S a.question in
    let within : i < length xs = omega (arith, c.loop-number-test.true, c.len-number-end.ensures) in
    let old = c.loop-number.parts.items in
    let numbers = numbers_in S (take (i + 1) xs) in
    let requirement = λ (p : plain.Part). p.requirement in
    elim c.if-taken-number.branch [
      | then-taken-number+then-is_requirement+in_ok-without+in-Keep+in_ok-push-in-Keep w ↦
          let part : Part = record { requirement = i; without = w.in-Keep.without } in
          let new = ap (λ v. v.items) w.parts-is ∙ w.in_ok-push-in-Keep.ensures.items in
          let shown = ap (map part_of) new ∙ map-append part_of old (part ∷ []) in
          let here = and_from (S i) (is_requirement w.index.result.now.kind) w.if-taken-number.true
          (sym w.is_requirement.ensures ∙ w.if-is_requirement.true) in
          let found = rw w.in-Keep.is at w.in_ok-without.ensures in
          record {
            are_parts = ap (map requirement) shown
                ∙ map-append requirement (map part_of old) (part_of part ∷ [])
                ∙ ap (λ ks. ks ++ i ∷ []) c.loop-number.invariant.are_parts
                ∙ sym (next_taken S xs i w.index.result.now within w.index.ensures here);
            are_so = subst (AllByRecursion P) (sym shown) (all_last P (map part_of old) (part_of part)
                c.loop-number.invariant.are_so found);
          }
      | else-taken-number w ↦
          let same : numbers ≡ numbers_in S (take i xs) = elim w.else-taken-number.branch [
            | else-taken-number-via-then-taken-number+else-is_requirement u ↦
                next_left S xs i u.index.result.now within u.index.ensures
                (ap (λ b. b && is_requirement u.index.result.now.kind) u.if-taken-number.true
                ∙ sym u.is_requirement.ensures
                ∙ u.if-is_requirement.false)
            | else-taken-number-via-else-taken-number u ↦ next_left_out S xs i within u.if-taken-number.false
          ] in
          let new = ap (λ v. v.items) w.parts-is in
          record {
            are_parts = ap (λ ps. map requirement (map part_of ps)) new ∙ c.loop-number.invariant.are_parts ∙ sym same;
            are_so = subst (λ ps. AllByRecursion P (map part_of ps)) (sym new) c.loop-number.invariant.are_so;
          }
    ]
