use Rattle.std.proofs.Common.{sym, subst, map, ◌⊎◌}
use Rattle.ml_replies.specs.Answers.{part_of}
use Rattle.ml_replies.specs.Meeting.{problem_of}
use Rattle.ml_spec.specs.Questions.{is_in}
use Rattle.ml_answers.specs.Checked.{AreShown, IsNotRefuted, IsRefuted, SomeWrong}
use Rattle.ml_answers.specs.private.Judged.{ComesTo}
use Rattle.ml_answers.specs.private.Plain.{plain}
use Rattle.ml_answers.proofs.Judgments.{worse_both, PartsComeTo}
use Rattle.ml_answers.proofs.NeverWrong.{never_parts, never_refuted}
use Rattle.ml_answers.proofs.judging.judge_core.Goals as goal

pub returns : goal.returns
returns c =
    let s = c.args.specification.now in
    let xs = s.items.items in
    let q = c.args.question in
    let core = c.args.core.now in
    let S = is_in core.taken.items in
    let p = problem_of s.logic xs S q in
    let r = plain core.refutation in
    let ps = map part_of core.parts.items in
    let other =
    subst (λ rs. PartsComeTo s.logic xs S q (map part_of rs) c.in_ok-parts.parts) c.deref-2.ensures.value
    (subst (λ bs. PartsComeTo s.logic xs (is_in bs) q (map part_of c.deref-2.result.now) c.in_ok-parts.parts)
    c.deref.ensures.value c.in_ok-parts.ensures) in
    subst (ComesTo (IsRefuted p r × AreShown s.logic xs S q ps) (IsNotRefuted p r ⊎ SomeWrong s.logic xs S q ps))
    (sym c.together.ensures)
    (worse_both (IsRefuted p r) (AreShown s.logic xs S q ps) (IsNotRefuted p r) (SomeWrong s.logic xs S q ps)
    c.in_ok-refuted.refuted c.in_ok-parts.parts (never_refuted p r)
    (never_parts c.requires.one s.logic xs q c.requires.specified c.requires.question S ps)
    c.in_ok-refuted.ensures other)
