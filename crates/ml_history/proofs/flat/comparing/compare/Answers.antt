use Rattle.std.proofs.Common.{◌∙◌, refl, sym, arith}
use Rattle.std.specs.declared.cmp.Ordering.TheVariants.{Less, Greater}
use Rattle.std.specs.Ordering.{nat_cmp}
use Rattle.ml_history.proofs.arrays.ItemByItem.{cmp_decided, cmp_all, same_more}
use Rattle.ml_history.proofs.flat.comparing.compare.Goals as goal

pub loop-i-init : goal.loop-i-init
loop-i-init c = λ j low. absurd (omega arith)

pub returns-in-Less : goal.returns-in-Less
returns-in-Less c =
    sym (cmp_decided c.args.left.now c.args.right.now c.loop-i.i Less (λ rest. refl)
    (omega (arith, c.loop-i-test.true, c.min-i-end.ensures, c.len-m.ensures, c.len-n.ensures))
    (omega (arith, c.loop-i-test.true, c.min-i-end.ensures, c.len-m.ensures, c.len-n.ensures)) c.loop-i.invariant
    (sym c.compare_at.ensures ∙ c.in-Less.is))

pub returns-in-Greater : goal.returns-in-Greater
returns-in-Greater c =
    sym (cmp_decided c.args.left.now c.args.right.now c.loop-i.i Greater (λ rest. refl)
    (omega (arith, c.loop-i-test.true, c.min-i-end.ensures, c.len-m.ensures, c.len-n.ensures))
    (omega (arith, c.loop-i-test.true, c.min-i-end.ensures, c.len-m.ensures, c.len-n.ensures)) c.loop-i.invariant
    (sym c.compare_at.ensures ∙ c.in-Greater.is))

pub loop-i-preserved : goal.loop-i-preserved
loop-i-preserved c = same_more c.args.left.now c.args.right.now c.loop-i.i c.loop-i.invariant
    (sym c.compare_at.ensures ∙ c.in-Equal.is)

pub returns : goal.returns
returns c =
    c.cmp.ensures ∙ (λ k. nat_cmp (c.len-m.ensures k) (c.len-n.ensures k))
    ∙ cmp_all c.args.left.now c.args.right.now c.loop-i.i
    (omega (arith, c.loop-i-test.false, c.min-i-end.ensures, c.len-m.ensures, c.len-n.ensures)) c.loop-i.invariant
