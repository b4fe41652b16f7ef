-- One sign after the other.
use Rattle.std.proofs.Common.{length, sym, ap, ◌∙◌, arith}
use Rattle.ml_pgsolver.specs.private.Claiming.{is_reference, stranger_from}
use Rattle.ml_pgsolver.specs.private.Signs.{signs_from}
use Rattle.ml_pgsolver.proofs.FirstStranger.{no_stranger, stranger_here, stranger_later}
use Rattle.ml_pgsolver.proofs.UnknownSteps.{place_grows}
use Rattle.ml_pgsolver.proofs.claiming.first_stranger.Goals as goal

pub returns-then-is_stranger : goal.returns-then-is_stranger
returns-then-is_stranger c =
    let text = c.args.text.now in
    let ids = c.args.ids.now in
    let n = c.loop-placed.place in
    let placed = c.in-Some.placed in
    sym (c.loop-placed.invariant.comes ∙ ap (stranger_from ids (length text) n) c.in-Some.ensures.signs
    ∙ stranger_here is_reference ids (length text) n placed.sign placed.start (signs_from text placed.end) (sym c.if-is_stranger.ensures))

pub loop-placed-preserved : goal.loop-placed-preserved
loop-placed-preserved c =
    let text = c.args.text.now in
    let ids = c.args.ids.now in
    let n = c.loop-placed.place in
    let placed = c.in-Some.placed in
    let rest = signs_from text placed.end in
    record {
      within = c.in-Some.ensures.place.2;
      small = omega (arith, c.sign_place-place.ensures, place_grows n placed.sign, c.in-Some.ensures.place.1, c.loop-placed.invariant.small, c.in-Some.ensures.place.0);
      comes = c.loop-placed.invariant.comes ∙ ap (stranger_from ids (length text) n) c.in-Some.ensures.signs
          ∙ stranger_later is_reference ids (length text) n placed.sign placed.start rest (sym c.if-is_stranger.ensures)
          ∙ ap (λ m. stranger_from ids (length text) m rest) (sym c.sign_place-place.ensures);
    }

pub returns : goal.returns
returns c =
    let text = c.args.text.now in
    let ids = c.args.ids.now in
    sym (c.loop-placed.invariant.comes ∙ ap (stranger_from ids (length text) c.loop-placed.place) c.in_default.ensures.signs
    ∙ no_stranger is_reference ids (length text) c.loop-placed.place)
