use Rattle.std.proofs.Common.{rules, ◌≡◌, ◌∙◌, ⊎_elim, Some, length, get_or, subst, ap, arith}
use Rattle.ml_lists.proofs.Permuted.{same_members}
use Rattle.ml_graph.specs.Graph.{IsGraph, size}
use Rattle.ml_word_automaton.specs.private.Walking.{last, moves, onward}
use Rattle.ml_word_automaton.proofs.HeldTransitions.{all_small, all_transitions, node_low, those_of}
use Rattle.ml_word_automaton.proofs.LetterWalks.{more_below}
use Rattle.ml_word_automaton.proofs.letters.letter_at.Goals as goal

pub walk_from-requires-clause-start : goal.walk_from-requires-clause-start
walk_from-requires-clause-start c =
    let a = c.args.automaton.now in
    let p = c.loop-state.state in
    let ok = subst IsGraph c.graph.ensures.value c.size.ensures.is_graph in
    let test = c.loop-state-test.true in
    let long = ap length c.states-states.ensures.value in
    let low = node_low a c.numbers.result.now c.numbers.ensures ok p (omega (arith, test, long)) in
    let node = ap (λ xs. get_or xs p 0) c.states-states.ensures.value in
    let graph = ap size c.graph.ensures.value in
    omega (arith, low, node, graph)

pub loop-state-preserved : goal.loop-state-preserved
loop-state-preserved c =
    let g = c.graph.result.now in
    let p = c.loop-state.state in
    let more = c.in_ok-walk_from.ensures.seen in
    record {
      as_long = more.as_long ∙ c.loop-state.invariant.as_long;
      new = λ n q e.
          ⊎_elim
          (λ (old : last c.loop-state.seen.items n ≡ Some q).
          let low = c.loop-state.invariant.new n q old in omega (arith, low))
          (λ (is : q ≡ p). omega (arith, is))
          (more.others n q e);
      waiting = c.in_ok-walk_from.ensures.waiting;
      those =
          more_below (onward g c.args.present.now) (moves g c.numbers.result.now) c.states-states.result.now p
          c.loop-state.transitions.items c.walk_from.new.transitions.items c.loop-state.invariant.those
          c.in_ok-walk_from.ensures.transitions;
    }

pub of-requires : goal.of-requires
of-requires c =
    let a = c.args.automaton.now in
    let ok = subst IsGraph c.graph.ensures.value c.size.ensures.is_graph in
    let all : c.loop-state.state ≡ length c.states-states.result.now = search rules in
    all_small a c.numbers.result.now c.numbers.ensures ok c.args.present.now c.loop-state.transitions.items
    (those_of a c.graph.result.now c.states-states.result.now c.numbers.result.now c.args.present.now c.loop-state.state
    c.loop-state.transitions.items c.graph.ensures.value c.states-states.ensures.value all c.loop-state.invariant.those)

pub returns : goal.returns
returns c = λ letter are m.
    let a = c.args.automaton.now in
    let ts = c.loop-state.transitions.items in
    let ok = subst IsGraph c.graph.ensures.value c.size.ensures.is_graph in
    let all : c.loop-state.state ≡ length c.states-states.result.now = search rules in
    let has =
    all_transitions a c.numbers.result.now c.numbers.ensures ok c.args.present.now ts
    (those_of a c.graph.result.now c.states-states.result.now c.numbers.result.now c.args.present.now c.loop-state.state ts
    c.graph.ensures.value c.states-states.ensures.value all c.loop-state.invariant.those) letter are m in
    let same = same_members m ts c.of.result c.of.ensures in
    ((λ i. has.0 (same.0 i)), (λ is. same.1 (has.1 is)))
