use Rattle.std.proofs.Common.{rules, ◌≡◌, ◌∷◌, ◌++◌, [], if◌then◌else◌, length, List, subst, sym, ◌+◌}
use Rattle.ml_word_automaton.specs.private.Numbers.{AreNumberedBelow, mark}
use Rattle.ml_word_automaton.proofs.NumberedStates.{numbered_more}
use Rattle.ml_word_automaton.proofs.automaton.numbered.Goals as goal

pub loop-n-preserved : goal.loop-n-preserved
loop-n-preserved c =
    let marks = c.args.marks.now in
    let n = c.loop-n.n in
    let states = c.loop-n.states.items in
    let numbers = c.loop-n.numbers.items in
    let next = numbered_more n marks states numbers c.loop-n.invariant in
    let is_states : c.add_number.new.states.items ≡ states ++ (if mark marks n then n ∷ [] else []) = search (rules) in
    let is_numbers : c.add_number.new.numbers.items ≡ numbers ++ length states ∷ [] = search (rules) in
    subst (λ (xs : List _). AreNumberedBelow (n + 1) marks xs c.add_number.new.numbers.items) (sym is_states)
    (subst (λ (xs : List _). AreNumberedBelow (n + 1) marks (states ++ (if mark marks n then n ∷ [] else [])) xs)
    (sym is_numbers) next)

pub returns : goal.returns
returns c =
    let marks = c.args.marks.now in
    let all : c.loop-n.n ≡ length marks = search (rules) in
    subst (λ k. AreNumberedBelow k marks c.loop-n.states.items c.loop-n.numbers.items) all c.loop-n.invariant
