use Rattle.std.proofs.Common.{◌≢◌, ◌∷◌, ◌++◌, sym, subst}
use Rattle.ml_lines.specs.Lines.{Line, Word}
use Rattle.ml_lines.specs.Reading.{IsTextBehind, words_of}
use Rattle.ml_task.specs.NameSets.{members}
use Rattle.ml_realize_text.proofs.BodyReads.{no_first_member}
use Rattle.ml_realize_text.proofs.sets.+behind_members.Goals as goal

pub returns-in-None-text_behind : goal.returns-in-None-text_behind
returns-in-None-text_behind t c =
    let words = words_of c.args.text.now in
    subst (λ ns. (w : Word) (ws : Line) → words ≢ members ns c.args.set ++ w ∷ ws) (sym c.in-Some.ensures.cases.0)
    (no_first_member words c.in-Some.name.now c.in-Some.others.now c.args.set c.if-set-eq1.true
    (subst (λ v. ¬ (IsTextBehind v words)) c.bytes.ensures.value c.in-None-text_behind.ensures))
