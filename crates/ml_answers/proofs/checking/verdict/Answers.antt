use Rattle.std.proofs.Common.{◌≡◌, ◌+◌, ◌<◌, ◌≤◌, ◌++◌, ◌∷◌, Some, length, drop, take, sym, ap, subst, ◌∙◌, arith}
use Rattle.std.specs.Option.{option_or}
use Rattle.std.proofs.lemmas.List.{drop_more, length-replicate, take_at}
use Rattle.ml_replies.specs.Answers.{reply_of}
use Rattle.ml_answers.specs.Checked as checked
use Rattle.ml_answers.specs.Checked.{IsShownBy}
use Rattle.ml_answers.specs.Due.{asked_of}
use Rattle.ml_answers.specs.private.Judged.{ComesTo, IsJudgable}
use Rattle.ml_answers.specs.private.Words.{Agrees}
use Rattle.ml_answers.proofs.DocumentRead.{agree_all}
use Rattle.ml_answers.proofs.Judgments.{judged_begin, judged_open, judged_shown, open_at, right_at, wrong_at, AreJudgedTo}
use Rattle.ml_answers.proofs.NextAnswer.{all_at}
use Rattle.ml_answers.proofs.NeverWrong.{never_both}
use Rattle.ml_answers.proofs.checking.verdict.Goals as goal
use Rattle.ml_answers.proofs.checking.verdict.Goals.{in-Shown, in-Unsettled}

pub loop-answer-init : goal.loop-answer-init
loop-answer-init c =
    let s = c.args.specification.now in
    let xs = s.items.items in
    let are = c.in_ok-rest.ensures.items ∙ c.requires.all in
    judged_begin s.logic xs c.args.stated.now c.in_ok-rest.rest.items (agree_all xs c.in_ok-rest.rest.items are)
    (ap length are ∙ length-replicate (length xs) _)

pub judge_next-requires-clause-judgable : goal.judge_next-requires-clause-judgable
judge_next-requires-clause-judgable c =
    let xs = c.args.specification.now.items.items in
    let stated = c.args.stated.now in
    let n = c.loop-answer.answer-index in
    let a = c.answer-item.result in
    let below : n < length stated = omega (arith, c.loop-answer-test.true, c.loop-answer.auto.answer-index-end) in
    let next : drop n stated ≡ a ∷ drop (n + 1) stated =
    drop_more stated n a below ∙ ap (λ b. b ∷ drop (n + 1) stated) (sym c.answer-item.is) in
    all_at (IsJudgable xs) stated n a (drop (n + 1) stated) next c.requires.judgable

pub returns-in-Some : goal.returns-in-Some
returns-in-Some c =
    let s = c.args.specification.now in
    let l = c.loop-answer in
    let past : length c.args.stated.now ≤ l.answer-index =
    omega (arith, c.loop-answer-test.false, l.auto.answer-index-end) in
    open_at s.logic s.items.items c.args.stated.now l.answer-index l.rest.items l.unshown l.invariant past c.in-Some.line c.in-Some.is

pub returns : goal.returns
returns c =
    let s = c.args.specification.now in
    let l = c.loop-answer in
    let past : length c.args.stated.now ≤ l.answer-index =
    omega (arith, c.loop-answer-test.false, l.auto.answer-index-end) in
    right_at s.logic s.items.items c.args.stated.now l.answer-index l.rest.items l.unshown l.invariant past c.in-None.is

pub returns-in-Wrong : goal.returns-in-Wrong
returns-in-Wrong c =
    let s = c.args.specification.now in
    let xs = s.items.items in
    let stated = c.args.stated.now in
    let l = c.loop-answer in
    let n = l.answer-index in
    let a = c.answer-item.result in
    let below : n < length stated = omega (arith, c.loop-answer-test.true, l.auto.answer-index-end) in
    let next : drop n stated ≡ a ∷ drop (n + 1) stated =
    drop_more stated n a below ∙ ap (λ b. b ∷ drop (n + 1) stated) (sym c.answer-item.is) in
    let later = c.judge_next.new.rest in
    let same : length later ≡ length l.rest.items = c.judge_next.ensures.rest ∙ ap length c.deref_mut.ensures.value in
    let agrees = subst (Agrees xs l.invariant.left) (sym c.deref_mut.ensures.value) l.invariant.agrees in
    let R = asked_of l.invariant.left a.question in
    wrong_at s.logic xs stated n l.rest.items later l.unshown a l.invariant next same
    (c.in_ok-standing.ensures.left l.invariant.left agrees)
    (subst
    (ComesTo (IsShownBy s.logic xs R a.question (reply_of a.statement))
    (checked.IsWrong s.logic xs R a.question (reply_of a.statement)))
    c.in-Wrong.is (c.in_ok-standing.ensures.comes l.invariant.left agrees))

pub loop-answer-preserved : goal.loop-answer-preserved
loop-answer-preserved c =
    let s = c.args.specification.now in
    let xs = s.items.items in
    let stated = c.args.stated.now in
    let l = c.loop-answer in
    let n = l.answer-index in
    let a = c.answer-item.result in
    let below : n < length stated = omega (arith, c.loop-answer-test.true, l.auto.answer-index-end) in
    let next : drop n stated ≡ a ∷ drop (n + 1) stated =
    drop_more stated n a below ∙ ap (λ b. b ∷ drop (n + 1) stated) (sym c.answer-item.is) in
    let later = c.judge_next.new.rest in
    let same : length later ≡ length l.rest.items = c.judge_next.ensures.rest ∙ ap length c.deref_mut.ensures.value in
    let whole : take l.rest.len (later ++ drop (length later) l.rest.items) ≡ later =
    take_at later (drop (length later) l.rest.items) l.rest.len (omega (arith, same, l.rest.ok.0)) in
    let agrees = subst (Agrees xs l.invariant.left) (sym c.deref_mut.ensures.value) l.invariant.agrees in
    let left = c.in_ok-standing.ensures.left l.invariant.left agrees in
    let R = asked_of l.invariant.left a.question in
    let comes = c.in_ok-standing.ensures.comes l.invariant.left agrees in
    let judgable = all_at (IsJudgable xs) stated n a (drop (n + 1) stated) next c.requires.judgable in
    let never =
    never_both c.requires.one s.logic xs a.question c.requires.specified judgable.is_question R (reply_of a.statement) in
    let P = IsShownBy s.logic xs R a.question (reply_of a.statement) in
    let W = checked.IsWrong s.logic xs R a.question (reply_of a.statement) in
    subst (λ bs. AreJudgedTo s.logic xs stated (n + 1) bs c.match-standing.unshown) (sym whole)
    (elim c.match-standing.branch [
      | in-Shown w ↦
          let shown = subst (ComesTo P W) w.in-Shown.is comes in
          subst (AreJudgedTo s.logic xs stated (n + 1) later) (sym w.unshown-is)
          (judged_shown s.logic xs stated n l.rest.items later l.unshown a l.invariant next same left shown (never shown))
      | in-Unsettled w ↦
          let dark = subst (ComesTo P W) w.in-Unsettled.is comes in
          judged_open s.logic xs stated n l.rest.items later l.unshown a l.invariant next same left dark.0 dark.1
          c.match-standing.unshown
          (λ line e. w.unshown-is ∙ w.or-unshown.ensures ∙ ap (λ first. option_or first (Some a.line)) e)
          (λ e. w.unshown-is ∙ w.or-unshown.ensures ∙ ap (λ first. option_or first (Some a.line)) e)
    ])
