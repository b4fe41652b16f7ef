use Rattle.std.proofs.Common.{◌∙◌, map, length, get_or, ap, arith}
use Rattle.std.proofs.lemmas.List.{length-map}
use Rattle.ml_history.specs.Stacks.{stacked}
use Rattle.ml_history.proofs.trees.ItemsByState.{state_of}
use Rattle.ml_history.proofs.arrays.ItemByItem.{listed_next, take_whole}
use Rattle.ml_history.proofs.flat.History.stacks.Goals as goal

pub loop-i-init : goal.loop-i-init
loop-i-init c = ap (map stacked) c.new-all.ensures.items

pub loop-i-preserved : goal.loop-i-preserved
loop-i-preserved c =
    listed_next c.args.self.now c.loop-i.i c.loop-i.all.items c.push.new.self.items _
    (omega (arith, c.loop-i-test.true, ap length c.states-state-items.ensures, length-map c.args.self.now state_of))
    c.loop-i.invariant c.in_ok-push.ensures.items
    (ap (λ l. get_or l c.loop-i.i 0) c.states-state-items.ensures) (c.in_ok-from_slice.ensures.items ∙ c.stack.ensures)

pub returns : goal.returns
returns c = c.loop-i.invariant ∙ take_whole c.args.self.now c.loop-i.i
    (omega (arith, c.loop-i-test.false, ap length c.states-state-items.ensures, length-map c.args.self.now state_of))
