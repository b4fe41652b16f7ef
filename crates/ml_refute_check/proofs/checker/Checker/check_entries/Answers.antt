use Rattle.std.proofs.Common.{◌∙◌, arith, below_more}
use Rattle.std.proofs.lemmas.List.{length-map}
use Rattle.ml_refute_check.specs.private.Parts.{question, plain_entry}
use Rattle.ml_refute_check.proofs.PartsFound.{EntryKept, entry_found, as_accepted, as_first_bad}
use Rattle.ml_refute_check.proofs.checker.Checker.check_entries.Goals as goal

pub loop-place-preserved : goal.loop-place-preserved
loop-place-preserved c =
    let q = question c.args.self.now.graph.now c.args.self.now.refutation.now in
    let place = c.loop-place.place in
    let found = entry_found q place c.in-None.is c.in_ok-bad.ensures.found in
    record {
      same = c.in_ok-bad.ensures.graph ∙ c.loop-place.invariant.same;
      sequents = c.in_ok-bad.ensures.sequents ∙ c.loop-place.invariant.sequents;
      kept = below_more (EntryKept q) place c.loop-place.invariant.kept found;
    }

pub returns : goal.returns
returns c =
    let q = question c.args.self.now.graph.now c.args.self.now.refutation.now in
    as_accepted q (λ d low.
    c.loop-place.invariant.kept d
    (omega (arith, low, length-map c.args.self.now.refutation.now.entries.items (plain_entry c.args.self.now.refutation.now), c.len-place-end.ensures, c.loop-place-test.false)))

pub returns-in-Some : goal.returns-in-Some
returns-in-Some c =
    let q = question c.args.self.now.graph.now c.args.self.now.refutation.now in
    let place = c.loop-place.place in
    let found = entry_found q place c.in-Some.is c.in_ok-bad.ensures.found in
    as_first_bad q place c.in-Some.bad
    (omega (arith, length-map c.args.self.now.refutation.now.entries.items (plain_entry c.args.self.now.refutation.now), c.len-place-end.ensures, c.loop-place-test.true))
    c.loop-place.invariant.kept found
