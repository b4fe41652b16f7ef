use Rattle.std.proofs.Common.{rules, length, ap, ◌∙◌}
use Rattle.ml_pgsolver.specs.private.Machine.{outcome_from, at_end}
use Rattle.ml_pgsolver.specs.private.Rows.{state_of}
use Rattle.ml_pgsolver.specs.private.Signs.{signs_from}
use Rattle.ml_pgsolver.proofs.Steps.{goes_on, told, told_along, too_soon, ends}
use Rattle.ml_pgsolver.proofs.reader.read_rows.Goals as goal

pub loop-placed-preserved : goal.loop-placed-preserved
loop-placed-preserved c =
    let text = c.args.text.now in
    let end = length text in
    let s = state_of c.loop-placed.reader in
    let placed = c.in-Some.placed in
    let rest = signs_from text placed.end in
    record {
      within = c.in-Some.ensures.place.2;
      comes = c.loop-placed.invariant.comes ∙ ap (outcome_from end s) c.in-Some.ensures.signs
          ∙ goes_on end s (state_of c.take.new.self) placed.sign placed.start rest c.in_ok-take.ensures;
    }

pub returns-in_err-take : goal.returns-in_err-take
returns-in_err-take c =
    let text = c.args.text.now in
    let end = length text in
    let s = state_of c.loop-placed.reader in
    let placed = c.in-Some.placed in
    let rest = signs_from text placed.end in
    let refused = told_along c.in_err-take.field-0.0 _ _
    (c.loop-placed.invariant.comes ∙ ap (outcome_from end s) c.in-Some.ensures.signs)
    (told end s placed.sign placed.start rest c.in_err-take.field-0.0 c.in_err-take.ensures) in search rules

pub returns-in-NextVertex : goal.returns-in-NextVertex
returns-in-NextVertex c =
    let text = c.args.text.now in
    let s = state_of c.loop-placed.reader in
    c.loop-placed.invariant.comes ∙ ends (length text) s (signs_from text c.loop-placed.at) c.in_default.ensures.signs
    ∙ ap (λ q. at_end q s (length text)) c.in-NextVertex.is

pub returns-in_default-stage : goal.returns-in_default-stage
returns-in_default-stage c =
    let text = c.args.text.now in
    let s = state_of c.loop-placed.reader in
    c.loop-placed.invariant.comes ∙ ends (length text) s (signs_from text c.loop-placed.at) c.in_default.ensures.signs
    ∙ too_soon _ s (length text) c.in_default-stage.not-NextVertex
