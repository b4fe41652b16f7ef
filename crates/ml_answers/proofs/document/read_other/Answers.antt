use Rattle.std.proofs.Common.{◌≡◌, ◌+◌, ◌∷◌, true, false, drop, refl, sym, ap, subst, ◌∙◌}
use Rattle.std.proofs.lemmas.List.{drop_more}
use Rattle.ml_spec.specs.Kinds.{is_requirement}
use Rattle.ml_spec.specs.Questions.{asking_from}
use Rattle.ml_replies.specs.Meeting.{everything}
use Rattle.ml_answers.specs.declared.stated.Stated.{Stated}
use Rattle.ml_answers.specs.private.Reads.{IsReadUpTo}
use Rattle.ml_spec.specs.declared.question.Question.TheVariants.{Asks}
use Rattle.ml_answers.proofs.DocumentRead.{agree_all, other_fault, other_more, other_skip}
use Rattle.ml_answers.proofs.document.read_other.Goals as goal

pub returns-then-is_requirement-clause-read : goal.returns-then-is_requirement-clause-read
returns-then-is_requirement-clause-read c =
    let xs = c.args.items.now in
    let n = c.args.number in
    let x = c.index-items-number.result in
    let next : drop n xs ≡ x ∷ drop (n + 1) xs =
    drop_more xs n x c.requires.number ∙ ap (λ y. y ∷ drop (n + 1) xs) (sym c.index-items-number.is) in
    let needed : is_requirement x.kind ≡ true = cc in
    other_skip xs c.args._start c.args.stated.now.items c.args.at n x next needed c.requires.read

pub returns-in-Err-clause-refused : goal.returns-in-Err-clause-refused
returns-in-Err-clause-refused c =
    let xs = c.args.items.now in
    let n = c.args.number in
    let x = c.index-items-number.result in
    let next : drop n xs ≡ x ∷ drop (n + 1) xs =
    drop_more xs n x c.requires.number ∙ ap (λ y. y ∷ drop (n + 1) xs) (sym c.index-items-number.is) in
    let asks : is_requirement x.kind ≡ false = cc in
    other_fault xs c.args._start c.args.stated.now.items c.args.at n x c.in-Err.refusal next asks
    c.requires.read (c.in-Err.ensures.refused everything (agree_all xs c.args.all.now c.requires.all))

pub returns-in_ok-push-in-Ok-clause-read : goal.returns-in_ok-push-in-Ok-clause-read
returns-in_ok-push-in-Ok-clause-read c =
    let xs = c.args.items.now in
    let n = c.args.number in
    let x = c.index-items-number.result in
    let next : drop n xs ≡ x ∷ drop (n + 1) xs =
    drop_more xs n x c.requires.number ∙ ap (λ y. y ∷ drop (n + 1) xs) (sym c.index-items-number.is) in
    let asks : is_requirement x.kind ≡ false = cc in
    let s : Stated = record { line = c.args.at.line; question = Asks n; statement = c.in-Ok.statement } in
    subst (λ st. IsReadUpTo xs c.args._start st c.in-Ok.behind (asking_from (n + 1) (drop (n + 1) xs)))
    (sym c.in_ok-push-in-Ok.ensures.items)
    (other_more xs c.args._start c.args.stated.now.items c.args.at n x s c.in-Ok.behind next asks c.requires.read refl
    (c.in-Ok.ensures.fits everything (agree_all xs c.args.all.now c.requires.all)) refl c.in-Ok.ensures.read)
