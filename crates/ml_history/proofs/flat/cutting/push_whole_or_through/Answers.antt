use Rattle.std.proofs.Common.{◌<◌, ◌∙◌, ◌++◌, ap, sym, arith}
use Rattle.ml_history.specs.HistoryStep.{last_name}
use Rattle.ml_history.specs.private.TreeStep.{flagged}
use Rattle.ml_history.proofs.arrays.CutOffers.{stack-whole}
use Rattle.ml_history.proofs.flat.cutting.push_whole_or_through.Goals as goal

pub returns-then-last_name-first-clause-names : goal.returns-then-last_name-first-clause-names
returns-then-last_name-first-clause-names c =
    let low : last_name c.args.stack.now < c.args.first = omega (arith, c.last_name.ensures, c.if-last_name-first.true) in
    c.in_ok-extend_from_slice.ensures.items
    ∙ ap (λ s. c.args.names.now.items ++ s)
    (sym (stack-whole (flagged c.args.full.now) c.args.stack.now c.args.first c.requires.ascend c.requires.first low).0)

pub returns-then-last_name-first-clause-is_cut : goal.returns-then-last_name-first-clause-is_cut
returns-then-last_name-first-clause-is_cut c =
    let low : last_name c.args.stack.now < c.args.first = omega (arith, c.last_name.ensures, c.if-last_name-first.true) in
    (stack-whole (flagged c.args.full.now) c.args.stack.now c.args.first c.requires.ascend c.requires.first low).1
