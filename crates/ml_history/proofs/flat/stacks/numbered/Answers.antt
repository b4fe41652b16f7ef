use Rattle.std.proofs.Common.{ℕ, ◌≡◌, ◌+◌, ◌<◌, ◌∙◌, length, get_or, ap, arith}
use Rattle.std.proofs.lemmas.List.{get_or_default, get_or_past}
use Rattle.ml_lists.proofs.Member.{place-member}
use Rattle.ml_history.proofs.arrays.NumberedParts.{part_whole}
use Rattle.ml_history.proofs.flat.stacks.numbered.Goals as goal

pub number_part-requires-clause-low : goal.number_part-requires-clause-low
number_part-requires-clause-low c = λ k from to.
    let old = c.args.names.items in
    let starts = c.args.starts.now in
    let i = c.loop-i.i in
    let inside : i < length starts = omega (arith, c.loop-i-test.true) in
    let many : c.len.result ≡ length old = omega (arith, c.len.ensures, c.loop-i.names.ok.0, c.loop-i.invariant.count) in
    let start = get_or_default starts i (length old) 0 inside in
    let end = c.end_at-end.ensures ∙ ap (get_or starts (i + 1)) many in
    let same = c.loop-i.invariant.behind k (omega (arith, start, from)) in
    let low = c.requires.low (get_or old k 0)
    (place-member old k 0 (omega (arith, to, end, c.requires.parts.fit i inside))) in
    omega (arith, low, same)

pub number_part-requires-clause-ascend : goal.number_part-requires-clause-ascend
number_part-requires-clause-ascend c = λ j k from less to.
    let old = c.args.names.items in
    let starts = c.args.starts.now in
    let i = c.loop-i.i in
    let inside : i < length starts = omega (arith, c.loop-i-test.true) in
    let many : c.len.result ≡ length old = omega (arith, c.len.ensures, c.loop-i.names.ok.0, c.loop-i.invariant.count) in
    let start = get_or_default starts i (length old) 0 inside in
    let end = c.end_at-end.ensures ∙ ap (get_or starts (i + 1)) many in
    let first = c.loop-i.invariant.behind j (omega (arith, start, from)) in
    let second = c.loop-i.invariant.behind k (omega (arith, start, from, less)) in
    let apart = c.requires.parts.ascend i j k inside (omega (arith, start, from)) less (omega (arith, end, to)) in
    omega (arith, apart, first, second)

pub returns : goal.returns
returns c =
    let old = c.args.names.items in
    let end = get_or_past c.args.starts.now c.loop-i.i (length old) (omega (arith, c.loop-i-test.false)) in
    part_whole (λ (y : ℕ). get_or c.args.numbers.now y 0) (get_or c.args.starts.now c.loop-i.i (length old)) old
    c.loop-i.names.items (omega (arith, end)) c.loop-i.invariant
