use Rattle.std.proofs.Common.{rules, ◌≡◌, ◌+◌, true, false, length, arith}
use Rattle.ml_lists.proofs.Counting.{count_le}
use Rattle.ml_labelled.specs.private.Reaching.{IsKeptTo, mark}
use Rattle.ml_labelled.proofs.KeptRows.{kept_all, kept_less, kept_more}
use Rattle.ml_labelled.proofs.reaching.keep_marked.Goals as goal
use Rattle.ml_labelled.proofs.reaching.keep_marked.Goals.{else-is_marked, then-is_marked}

pub swap-requires-clause-i_in_bounds : goal.swap-requires-clause-i_in_bounds
swap-requires-clause-i_in_bounds c =
    let l = c.loop-p in
    let is = l.invariant.at_is in
    let long = l.invariant.as_long in
    let below = c.loop-p-test.true in
    let all = c.requires in
    omega (arith, count_le (mark c.args.marks.now) l.p, l.rows.ok.0)

pub overflow_add-at : goal.overflow_add-at
overflow_add-at c =
    let l = c.loop-p in
    let is = l.invariant.at_is in
    let below = c.loop-p-test.true in
    omega (arith, count_le (mark c.args.marks.now) l.p)

pub loop-p-preserved : goal.loop-p-preserved
loop-p-preserved c =
    let l = c.loop-p in
    let marks = c.args.marks.now in
    let old = c.args.rows.now.items in
    elim c.if-is_marked.branch [
      | then-is_marked w ↦
          let marked : mark marks l.p ≡ true = search (rules) in
          let long : length w.swap.new.self.items ≡ length l.rows.items = search (rules) in
          let now : IsKeptTo (l.p + 1) (l.at + 1) marks old w.swap.new.self.items =
          kept_more marks old l.p l.at l.rows.items w.swap.new.self.items marked l.invariant long w.swap.ensures.by_index in
          search (rules, now)
      | else-is_marked w ↦
          let unmarked : mark marks l.p ≡ false = search (rules) in
          let now : IsKeptTo (l.p + 1) l.at marks old l.rows.items = kept_less marks old l.p l.at l.rows.items unmarked l.invariant in
          search (rules, now)
    ]

pub returns : goal.returns
returns c =
    let l = c.loop-p in
    let all : l.p ≡ length c.args.marks.now = search (rules) in
    kept_all c.args.marks.now c.args.rows.now.items l.p l.at l.rows.items c.truncate.new.self.items all c.requires l.invariant
    c.truncate.ensures.items
