-- One sign after the other.
use Rattle.std.proofs.Common.{rules, length, ap, refl, ◌∙◌}
use Rattle.ml_pgsolver.specs.private.EntryMachine.{entries_come, entries_end, state_of}
use Rattle.ml_pgsolver.specs.private.Signs.{signs_from}
use Rattle.ml_pgsolver.proofs.SolutionOutcomes.{ends, goes_on, told, told_along, too_soon}
use Rattle.ml_pgsolver.proofs.entries.read_entries.Goals as goal

pub loop-placed-preserved : goal.loop-placed-preserved
loop-placed-preserved c =
    let text = c.args.text.now in
    let end = length text in
    let s = state_of c.loop-placed.reader in
    let placed = c.in-Some.placed in
    let rest = signs_from text placed.end in
    record {
      within = c.in-Some.ensures.place.2;
      comes = c.loop-placed.invariant.comes ∙ ap (entries_come end s) c.in-Some.ensures.signs
          ∙ goes_on end s (state_of c.take.new.self) placed.sign placed.start rest c.in_ok-take.ensures;
    }

pub returns-in_err-take : goal.returns-in_err-take
returns-in_err-take c =
    let text = c.args.text.now in
    let end = length text in
    let s = state_of c.loop-placed.reader in
    let placed = c.in-Some.placed in
    let rest = signs_from text placed.end in
    let refused = told_along c.in_err-take.field-0.0 _ _
    (c.loop-placed.invariant.comes ∙ ap (entries_come end s) c.in-Some.ensures.signs)
    (told end s placed.sign placed.start rest c.in_err-take.field-0.0 c.in_err-take.ensures) in search rules

pub returns-in-Vertex : goal.returns-in-Vertex
returns-in-Vertex c =
    let text = c.args.text.now in
    let end = length text in
    let s = state_of c.loop-placed.reader in (
      s,
      c.loop-placed.invariant.comes ∙ ap (entries_come end s) c.in_default.ensures.signs ∙ ends end s
          ∙ ap (λ q. entries_end q s end) c.in-Vertex.is,
      refl,
    )

pub returns-in_default-stage : goal.returns-in_default-stage
returns-in_default-stage c =
    let text = c.args.text.now in
    let end = length text in
    let s = state_of c.loop-placed.reader in
    c.loop-placed.invariant.comes ∙ ap (entries_come end s) c.in_default.ensures.signs ∙ ends end s
    ∙ too_soon _ s end c.in_default-stage.not-Vertex
