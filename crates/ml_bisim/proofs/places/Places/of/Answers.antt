use Rattle.std.proofs.Common.{◌≡◌, ◌+◌, ◌∙◌, ◌∷◌, ◌++◌, [], ap, get_or, length, length-append, refl, set, arith}
use Rattle.std.proofs.lemmas.List.{get_or_default}
use Rattle.ml_bisim.proofs.Links.{linked_more}
use Rattle.ml_bisim.proofs.places.Places.of.Goals as goal

pub loop-number-preserved : goal.loop-number-preserved
loop-number-preserved c =
    let numbers = c.args.numbers.now in
    let k = c.loop-number.number-index in
    let x = get_or numbers k 0 in
    let last = c.loop-number.last.items in
    let before = c.loop-number.before.items in
    let low = c.requires k 0 c.loop-number-test.true in
    let read = c.index.ensures
    ∙ get_or_default last x c.index.result.now 0 (omega (arith, low, c.loop-number.invariant.each_number)) in
    let pushed = c.in_ok-push.ensures.items ∙ ap (λ v. before ++ v ∷ []) read in
    let long = length-append before (get_or last x 0 ∷ []) in
    let added = ap length pushed in
    let count : c.len.result ≡ k + 1 =
    omega (arith, c.len.ensures, c.push.new.self.ok.0, added, long, c.loop-number.invariant.each_place) in
    linked_more numbers c.args.bound k x last before _ c.push.new.self.items c.loop-number.invariant refl low pushed
    (ap (set last x) count)
