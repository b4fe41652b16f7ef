-- What is answered behind a game.
use Rattle.std.proofs.Common.{List, rules, length, map, ap, sym, subst, ◌∙◌}
use Rattle.ml_lists.specs.Times.{IsApart}
use Rattle.ml_pgsolver.specs.declared.entries.EntryRow.{EntryRow}
use Rattle.ml_pgsolver.specs.private.Claiming.{stranger_from}
use Rattle.ml_pgsolver.specs.private.Signs.{signs_from}
use Rattle.ml_pgsolver.proofs.CheckedAnswers.{checked, entries_refused, entries_unknown, rows_apart}
use Rattle.ml_pgsolver.proofs.checked.claimed.Goals as goal

pub returns-in_err-rows : goal.returns-in_err-rows
returns-in_err-rows c =
    let refused = entries_refused c.args.text.now c.args.word c.requires.word c.args.from c.requires.from
    c.requires.game.faultless c.in_err-rows.field-0.0 c.in_err-rows.ensures in search rules

pub claims_of-requires-clause-apart : goal.claims_of-requires-clause-apart
claims_of-requires-clause-apart c =
    let e = c.in_ok-rows.ensures in
    subst (λ (rows : List EntryRow). IsApart (map (λ (r : EntryRow). r.vertex) rows)) (e.2 ∙ sym c.deref.ensures.value)
    (rows_apart c.args.text.now c.args.word c.requires.word c.args.from c.requires.from e.0 e.1)

pub returns-in-Some : goal.returns-in-Some
returns-in-Some c =
    let e = c.in_ok-rows.ensures in
    checked c.args.text.now c.args.word c.requires.word c.args.from c.requires.from e.0 e.1 c.args.named c.requires.game
    c.ids.result.now c.deref.result.now c.ids.ensures.value (e.2 ∙ sym c.deref.ensures.value) c.in-Some.claims.items
    (rw c.in-Some.is at c.in_ok-claims.ensures)

pub returns-in-None : goal.returns-in-None
returns-in-None c =
    let e = c.in_ok-rows.ensures in
    entries_unknown c.args.text.now c.args.word c.requires.word c.args.from c.requires.from e.0 e.1 c.args.named c.requires.game
    c.ids.result.now c.deref.result.now c.ids.ensures.value (e.2 ∙ sym c.deref.ensures.value)
    (rw c.in-None.is at c.in_ok-claims.ensures) c.first_stranger.result
    (c.first_stranger.ensures
    ∙ ap (λ xs. stranger_from xs (length c.args.text.now) 1 (signs_from c.args.text.now c.args.from))
    (c.ids-in-None.ensures.value ∙ sym c.ids.ensures.value))
