use Rattle.std.proofs.Common.{◌∷◌, codes, ap, subst, ◌∙◌}
use Rattle.std.specs.Option.{option_copied}
use Rattle.ml_lines.specs.Reading.{words_of, words_behind}
use Rattle.ml_lists.specs.Ascending.{IsAscending}
use Rattle.ml_refutation_text.proofs.RowLines.{sequent_no_numbers, sequent_no_ascends}
use Rattle.ml_refutation_text.proofs.rows.sequent_of.Goals as goal

pub returns-else-ascends-clause-table : goal.returns-else-ascends-clause-table
returns-else-ascends-clause-table c =
    let read = rw c.in-Some-2.is at c.in_ok-sequent-in-Some.ensures in
    λ names size rows left.
    sequent_no_ascends (words_of c.args.line.now) c.in-Some-2.sequent.items (c.in-Some.ensures.1 ∙ ap (λ ws. codes "sequent" ∷ ws) read.0)
    read.1 (subst (λ q. ¬ (IsAscending q)) c.deref.ensures.value (c.ascends.ensures.otherwise c.if-ascends.false))

pub returns-else-ascends-clause-entry : goal.returns-else-ascends-clause-entry
returns-else-ascends-clause-entry c =
    let read = rw c.in-Some-2.is at c.in_ok-sequent-in-Some.ensures in
    λ k es left.
    sequent_no_ascends (words_of c.args.line.now) c.in-Some-2.sequent.items (c.in-Some.ensures.1 ∙ ap (λ ws. codes "sequent" ∷ ws) read.0)
    read.1 (subst (λ q. ¬ (IsAscending q)) c.deref.ensures.value (c.ascends.ensures.otherwise c.if-ascends.false))

pub returns-in-None-2-clause-table : goal.returns-in-None-2-clause-table
returns-in-None-2-clause-table c =
    let bad = rw c.in-None-2.is at c.in_ok-sequent-in-Some.ensures in
    λ names size rows left.
    sequent_no_numbers (words_of c.args.line.now) (words_behind (option_copied c.in-Some.behind)) c.in-Some.ensures.1 c.in-Some.ensures.0 bad

pub returns-in-None-2-clause-entry : goal.returns-in-None-2-clause-entry
returns-in-None-2-clause-entry c =
    let bad = rw c.in-None-2.is at c.in_ok-sequent-in-Some.ensures in
    λ k es left.
    sequent_no_numbers (words_of c.args.line.now) (words_behind (option_copied c.in-Some.behind)) c.in-Some.ensures.1 c.in-Some.ensures.0 bad
