use Rattle.std.proofs.Common.{rules, map, sym, subst, ◌∙◌}
use Rattle.std.proofs.lemmas.Simd.{map-map}
use Rattle.ml_pgsolver.specs.GameText as game_text
use Rattle.ml_pgsolver.specs.Tokens.{tokens, signs_of}
use Rattle.ml_pgsolver.specs.private.Assembled.{HasUnknownIn}
use Rattle.ml_pgsolver.specs.declared.reader.Row.{Row}
use Rattle.ml_pgsolver.specs.private.Rows.{state_of, row_view, rows_view}
use Rattle.ml_pgsolver.proofs.Ended.{Whole, whole_readable}
use Rattle.ml_pgsolver.proofs.Answered.{answered_whole, answered_refused, answered_game, answered_unknown}
use Rattle.ml_pgsolver.proofs.reading.read.Goals as goal
use Rattle.ml_pgsolver.proofs.reading.read.Goals.{In_ok-rows}

whole_text : (c : In_ok-rows) → Whole (signs_of (tokens c.args.text.now)) (state_of c.in_ok-rows.field-0)
whole_text c = answered_whole c.args.text.now (state_of c.in_ok-rows.field-0) c.in_ok-rows.ensures

pub returns-in_err-rows : goal.returns-in_err-rows
returns-in_err-rows c =
    let refused = answered_refused c.args.text.now c.in_err-rows.field-0.0 c.in_err-rows.ensures in search rules

pub assemble-requires : goal.assemble-requires
assemble-requires c =
    let w = goal.at.assemble-requires c in
    whole_readable (signs_of (tokens c.args.text.now)) (state_of c.in_ok-rows.field-0) (whole_text w.In_ok-rows)

pub returns-in-Some : goal.returns-in-Some
returns-in-Some c =
    let w = goal.at.returns-in-Some c in
    answered_game c.args.text.now (state_of c.in_ok-rows.field-0) c.in-Some.named (whole_text w.In_ok-rows)
    (rw c.in-Some.is at c.in_ok-named.ensures)

pub returns : goal.returns
returns c =
    let w = goal.at.returns c in
    let s = state_of c.in_ok-rows.field-0 in
    let rows = c.in_ok-rows.field-0.rows.items in
    let unknown : HasUnknownIn (map (λ (r : Row). r.id) rows) (rows_view rows) = rw c.in-None.is at c.in_ok-named.ensures in
    let there = subst (λ ids. HasUnknownIn ids (rows_view rows))
    (sym (map-map (λ (r : game_text.Row). r.id) row_view rows)) unknown in
    let told = answered_unknown c.args.text.now s (whole_text w.In_ok-rows) there in
    (told.0, told.1, c.first_unknown.ensures ∙ told.2)
