use Rattle.std.proofs.Common.{List, ℕ, [], ◌∷◌, ◌++◌, map, subst, sym, ap, ◌∙◌}
use Rattle.std.proofs.lemmas.List.{map-append}
use Rattle.ml_history.specs.Stacks.{stacked}
use Rattle.ml_trace.specs.declared.letters.AutomatonState.{AutomatonState}
use Rattle.ml_trace.specs.Stack.{Item}
use Rattle.ml_refute.specs.private.Tables.{AreCarried}
use Rattle.ml_refute.proofs.NamedLists.{carried_more}
use Rattle.ml_refute.proofs.tables.items_of.Goals as goal

pub loop-number-preserved : goal.loop-number-preserved
loop-number-preserved c =
    subst (λ (h : List (Item ℕ)). AreCarried c.args.odds.now h c.args.stacks.now c.push.new.self
    c.push-in-loop-number.new.self.items)
    (sym (map-append stacked c.loop-number.yielded ((c.in-Some.number, c.in-Some.stack) ∷ [])))
    (carried_more c.args.odds.now (map stacked c.loop-number.yielded) c.in-Some.number c.in-Some.stack.items
    c.args.stacks.now c.loop-number.stacks c.push.new.self c.loop-number.items.items
    c.push-in-loop-number.new.self.items c.in_ok-stack.stack c.loop-number.invariant
    (c.in_ok-stack.ensures.lists ∙ ap (λ s. c.loop-number.stacks ++ s ∷ []) c.deref.ensures.value)
    c.in_ok-stack.ensures.place
    (c.in_ok-push.ensures.items
    ∙ ap (λ (s : AutomatonState). c.loop-number.items.items ++ record {
      node = s.node;
      odd = s.odd;
      stack = c.in_ok-stack.stack;
    } ∷ []) c.state_of-state.ensures))
