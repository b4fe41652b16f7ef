use Rattle.std.proofs.Common.{◌≡◌, ◌++◌, true, false, drop, take, length, refl, sym, ap, subst, ◌∙◌, arith}
use Rattle.std.specs.List.{list_any}
use Rattle.std.proofs.lemmas.List.{length-replicate, take_at}
use Rattle.ml_spec.specs.Kinds.{is_requirement}
use Rattle.ml_spec.specs.Questions.{asking, is_in}
use Rattle.ml_spec.specs.declared.question.Question.TheVariants.{Consistent, Rest}
use Rattle.ml_replies.specs.Answers.{reply_of}
use Rattle.ml_answers.specs.Due.{rest_behind}
use Rattle.ml_answers.specs.declared.stated.Stated.{Stated}
use Rattle.ml_answers.specs.private.Reads.{IsConflict, IsReadUpTo}
use Rattle.ml_answers.specs.private.Words.{Agrees}
use Rattle.ml_answers.proofs.DocumentRead.{conflict_fault, conflict_first, conflict_last, conflict_more, conflict_none, InConflicts}
use Rattle.ml_answers.proofs.document.read_conflicts.Goals as goal

pub returns-then-not-has_requirement-clause-read : goal.returns-then-not-has_requirement-clause-read
returns-then-not-has_requirement-clause-read c =
    let xs = c.args.items.now in
    let none : list_any (λ x. is_requirement x.kind) xs ≡ false = cc in
    subst (λ st. IsReadUpTo xs c.args.at st c.args.at (asking xs)) (sym c.requires.none) (conflict_none xs c.args.at none)

pub loop-statement-init : goal.loop-statement-init
loop-statement-init c =
    let xs = c.args.items.now in
    let some : list_any (λ x. is_requirement x.kind) xs ≡ true = cc in
    let are = c.in-Ok.ensures.items ∙ c.requires.all in
    subst (λ st. InConflicts xs c.args.at st c.args.at Consistent c.in-Ok.among.items) (sym c.requires.none)
    (conflict_first xs c.args.at c.in-Ok.among.items some are (ap length are ∙ length-replicate (length xs) true) c.requires.room)

pub returns-in-Err-read_answer-clause-refused : goal.returns-in-Err-read_answer-clause-refused
returns-in-Err-read_answer-clause-refused c =
    let xs = c.args.items.now in
    let l = c.loop-statement in
    conflict_fault xs c.args.at l.stated.items l.rest l.question l.among.items l.invariant c.in-Err-read_answer.refusal
    (c.in-Err-read_answer.ensures.refused l.invariant.left
    (subst (Agrees xs l.invariant.left) (sym c.deref.ensures.value) l.invariant.agrees))

pub returns-then-not-goes_on-clause-read : goal.returns-then-not-goes_on-clause-read
returns-then-not-goes_on-clause-read c =
    let xs = c.args.items.now in
    let l = c.loop-statement in
    let r = c.in-Ok-read_answer in
    let s : Stated = record { line = l.rest.line; question = l.question; statement = r.statement } in
    let stays : c.leave_out-goes_on.result ≡ false = cc in
    subst (λ st. IsReadUpTo xs c.args.at st r.behind (asking xs)) (sym c.in_ok-push-in-Ok-read_answer.ensures.items)
    (conflict_last xs c.args.at l.stated.items l.rest l.question l.among.items l.invariant s r.behind refl
    (λ S agrees. r.ensures.fits S (subst (Agrees xs S) (sym c.deref.ensures.value) agrees))
    refl r.ensures.read
    (subst (λ b. IsConflict b (reply_of r.statement)) stays c.leave_out-goes_on.ensures.conflict))

pub loop-statement-preserved : goal.loop-statement-preserved
loop-statement-preserved c =
    let xs = c.args.items.now in
    let l = c.loop-statement in
    let r = c.in-Ok-read_answer in
    let s : Stated = record { line = l.rest.line; question = l.question; statement = r.statement } in
    let later = c.leave_out-goes_on.new.among in
    let goes : c.leave_out-goes_on.result ≡ true = cc in
    let same : length later ≡ length l.among.items =
    c.leave_out-goes_on.ensures.length ∙ ap length c.deref_mut.ensures.value in
    let whole : take l.among.len (later ++ drop (length later) l.among.items) ≡ later =
    take_at later (drop (length later) l.among.items) l.among.len (omega (arith, same, l.among.ok.0)) in
    subst (InConflicts xs c.args.at c.push.new.self.items r.behind Rest) (sym whole)
    (subst (λ st. InConflicts xs c.args.at st r.behind Rest later) (sym c.in_ok-push-in-Ok-read_answer.ensures.items)
    (conflict_more xs c.args.at l.stated.items l.rest l.question l.among.items l.invariant s r.behind refl
    (λ S agrees. r.ensures.fits S (subst (Agrees xs S) (sym c.deref.ensures.value) agrees))
    refl r.ensures.read later
    (subst (λ b. IsConflict b (reply_of r.statement)) goes c.leave_out-goes_on.ensures.conflict)
    same
    (λ k. c.leave_out-goes_on.ensures.left k
    ∙ ap (λ bs. rest_behind (is_in bs) Rest (reply_of r.statement) k) c.deref_mut.ensures.value)
    r.ensures.room))
