use Rattle.std.proofs.Common.{◌≡◌, ◌&&◌, false, map, take, ◌++◌, ◌∷◌, [], sym, ap, ◌∙◌, append_assoc}
use Rattle.std.proofs.lemmas.List.{map-append}
use Rattle.ml_spec.specs.Joined.{requirements}
use Rattle.ml_spec.specs.Kinds.{is_requirement}
use Rattle.ml_spec.specs.Questions.{chosen, is_in}
use Rattle.ml_spec.proofs.ChosenItems.{left_more, taken_more}
use Rattle.ml_replies.specs.Meeting.{plain}
use Rattle.ml_replies.proofs.Chosen.{required_plain}
use Rattle.ml_replies.proofs.problems.add_requirements.Goals as goal
use Rattle.ml_replies.proofs.problems.add_requirements.Goals.{then-taken-number+then-is_requirement+in_ok-problem+in_ok-push, else-taken-number, else-taken-number-via-then-taken-number+else-is_requirement, else-taken-number-via-else-taken-number}

pub loop-number-preserved : goal.loop-number-preserved
loop-number-preserved c =
    let xs = c.args.items.now in
    let S = is_in c.args.taken.now in
    let i = c.loop-number.number in
    let x = c.index-items-number.result in
    let old = c.args.problems.now.items in
    let rs = requirements (chosen S (take i xs)) in
    let left = λ (e : (S i && is_requirement x.kind) ≡ false).
    left_more S xs i x c.loop-number-test.true c.index-items-number.is e in
    elim c.if-taken-number.branch [
      | then-taken-number+then-is_requirement+in_ok-problem+in_ok-push w ↦
          let required = sym w.is_requirement.ensures ∙ w.if-is_requirement.true in
          ap (λ v. v.items) w.problems-is
          ∙ w.in_ok-push.ensures.items
          ∙ ap (λ ps. ps ++ w.in_ok-problem.problem ∷ []) c.loop-number.invariant
          ∙ append_assoc old (map plain rs) (w.in_ok-problem.problem ∷ [])
          ∙ ap (λ p. old ++ (map plain rs ++ p ∷ [])) (w.in_ok-problem.ensures ∙ required_plain x required)
          ∙ ap (λ ps. old ++ ps) (sym (map-append plain rs (x.formula ∷ [])))
          ∙ ap (λ fs. old ++ map plain fs)
          (sym (taken_more S xs i x c.loop-number-test.true c.index-items-number.is w.if-taken-number.true required))
      | else-taken-number w ↦
          let same = left (
          elim w.else-taken-number.branch [
            | else-taken-number-via-then-taken-number+else-is_requirement u ↦
                ap (λ b. b && is_requirement x.kind) u.if-taken-number.true
                ∙ sym u.is_requirement.ensures
                ∙ u.if-is_requirement.false
            | else-taken-number-via-else-taken-number u ↦ ap (λ b. b && is_requirement x.kind) u.if-taken-number.false
          ]
          ) in
          ap (λ v. v.items) w.problems-is ∙ c.loop-number.invariant ∙ ap (λ fs. old ++ map plain fs) (sym same)
    ]
