use Rattle.std.proofs.Common.{rules, ◌≡◌, ◌<◌, ◌++◌, ◌∷◌, [], ◌∙◌, length, ℕ, List, Option, subst, sym, arith}
use Rattle.std.proofs.lemmas.Bool.{not-true, not-false}
use Rattle.ml_trace.specs.declared.letters.Transition.{Transition}
use Rattle.ml_graph.specs.Graph.{Graph, IsGraph, size}
use Rattle.ml_word_automaton.specs.private.Walking.{IsWalk, is_last, last, moves, onward}
use Rattle.ml_word_automaton.proofs.LettersByNumbers.{come_low, onward_short}
use Rattle.ml_word_automaton.proofs.LetterWalks.{comes_next, passed, walk_begins, walk_ends, went_less, went_on}
use Rattle.ml_word_automaton.proofs.letters.walk_from.Goals as goal

module _ (g : Graph) (present : List ℕ) (ends : ℕ → List Transition) (p s : ℕ)
    (before : List (Option ℕ)) (old : List Transition) (seen : List (Option ℕ)) (waiting front : List ℕ)
    (ts : List Transition) (n : ℕ)
    (ok : IsGraph g) (low : s < size g) (is : waiting ≡ front ++ n ∷ [])
    (W : IsWalk (onward g present) ends p s before old seen waiting ts) where
  -- the node that waited last is one of the graph
  node_low : n < size g
  node_low = come_low g present ok s n low (comes_next (onward g present) ends p s before old seen waiting front ts n is W)

  node_seen : length before ≡ size g → n < length seen
  node_seen given = let long = (W.seen_more).as_long in let small = node_low in omega (arith, small, long, given)

pub loop-n-init : goal.loop-n-init
loop-n-init c =
    let next = onward c.args.reading.now.graph.now c.args.reading.now.present.now in
    let ends = moves c.args.reading.now.graph.now c.args.reading.now.numbers.now c.args.state in
    let before = c.args.seen.now.items in
    let old = c.args.transitions.now.items in
    let one : c.push.new.self.items ≡ c.args.start ∷ [] = search rules in
    subst (λ (xs : List ℕ). IsWalk next ends c.args.state c.args.start before old before xs old) (sym one)
    (walk_begins next ends c.args.state c.args.start before old c.requires.new)

pub visit-requires : goal.visit-requires
visit-requires c =
    let g = c.args.reading.now.graph.now in
    node_seen g c.args.reading.now.present.now (moves g c.args.reading.now.numbers.now c.args.state) c.args.state
    c.args.start c.args.seen.now.items c.args.transitions.now.items c.loop-n.seen.items c.loop-n.waiting.items
    c.pop.new.self.items c.loop-n.transitions.items c.in-Some.n c.requires.graph c.requires.start c.in-Some.ensures.items
    c.loop-n.invariant c.requires.seen

pub go_on-requires-clause-node : goal.go_on-requires-clause-node
go_on-requires-clause-node c =
    let g = c.args.reading.now.graph.now in
    node_low g c.args.reading.now.present.now (moves g c.args.reading.now.numbers.now c.args.state) c.args.state
    c.args.start c.args.seen.now.items c.args.transitions.now.items c.loop-n.seen.items c.loop-n.waiting.items
    c.pop.new.self.items c.loop-n.transitions.items c.in-Some.n c.requires.graph c.requires.start c.in-Some.ensures.items
    c.loop-n.invariant

pub loop-n-smaller-in-Continue-branch-2 : goal.loop-n-smaller-in-Continue-branch-2
loop-n-smaller-in-Continue-branch-2 c =
    let g = c.args.reading.now.graph.now in
    let present = c.args.reading.now.present.now in
    let p = c.args.state in
    let n = c.in-Some.n in
    let ends = moves g c.args.reading.now.numbers.now p in
    let before = c.args.seen.now.items in
    let old = c.args.transitions.now.items in
    let seen = c.loop-n.seen.items in
    let waiting = c.loop-n.waiting.items in
    let front = c.pop.new.self.items in
    let low =
    node_seen g present ends p c.args.start before old seen waiting front c.loop-n.transitions.items n c.requires.graph
    c.requires.start c.in-Some.ensures.items c.loop-n.invariant c.requires.seen in
    let less =
    went_less (onward g present) ends p c.args.start before old seen waiting front c.loop-n.transitions.items n
    c.in-Some.ensures.items c.loop-n.invariant low c.visit.new.seen.items c.visit.ensures.seen
    c.go_on.new.waiting.items c.in_ok-go_on.ensures.waiting
    (not-true (is_last p (last seen n)) (sym c.visit.ensures.is_new ∙ c.if-visit.true)) (onward_short g present n) in
    search (rules, less)

pub loop-n-preserved-in-Continue-branch-2 : goal.loop-n-preserved-in-Continue-branch-2
loop-n-preserved-in-Continue-branch-2 c =
    let g = c.args.reading.now.graph.now in
    let present = c.args.reading.now.present.now in
    let p = c.args.state in
    let n = c.in-Some.n in
    let ends = moves g c.args.reading.now.numbers.now p in
    let before = c.args.seen.now.items in
    let old = c.args.transitions.now.items in
    let seen = c.loop-n.seen.items in
    let waiting = c.loop-n.waiting.items in
    let front = c.pop.new.self.items in
    let low =
    node_seen g present ends p c.args.start before old seen waiting front c.loop-n.transitions.items n c.requires.graph
    c.requires.start c.in-Some.ensures.items c.loop-n.invariant c.requires.seen in
    went_on (onward g present) ends p c.args.start before old seen waiting front c.loop-n.transitions.items n
    c.in-Some.ensures.items c.loop-n.invariant low c.visit.new.seen.items c.visit.ensures.seen
    c.go_on.new.waiting.items c.in_ok-go_on.ensures.waiting c.go_on.new.transitions.items c.in_ok-go_on.ensures.transitions

pub loop-n-preserved : goal.loop-n-preserved
loop-n-preserved c =
    let g = c.args.reading.now.graph.now in
    let present = c.args.reading.now.present.now in
    let p = c.args.state in
    let n = c.in-Some.n in
    let ends = moves g c.args.reading.now.numbers.now p in
    let before = c.args.seen.now.items in
    let old = c.args.transitions.now.items in
    let seen = c.loop-n.seen.items in
    let waiting = c.loop-n.waiting.items in
    let front = c.pop.new.self.items in
    let low =
    node_seen g present ends p c.args.start before old seen waiting front c.loop-n.transitions.items n c.requires.graph
    c.requires.start c.in-Some.ensures.items c.loop-n.invariant c.requires.seen in
    passed (onward g present) ends p c.args.start before old seen waiting front c.loop-n.transitions.items n
    c.in-Some.ensures.items c.loop-n.invariant low c.visit.new.seen.items c.visit.ensures.seen
    (not-false (is_last p (last seen n)) (sym c.visit.ensures.is_new ∙ c.if-visit.false))

pub returns-clause-transitions : goal.returns-clause-transitions
returns-clause-transitions c =
    let g = c.args.reading.now.graph.now in
    let p = c.args.state in
    let next = onward g c.args.reading.now.present.now in
    let ends = moves g c.args.reading.now.numbers.now p in
    let before = c.args.seen.now.items in
    let old = c.args.transitions.now.items in
    let none : c.loop-n.waiting.items ≡ [] = search rules in
    walk_ends next ends p c.args.start before old c.loop-n.seen.items c.loop-n.transitions.items
    (subst (λ (xs : List ℕ). IsWalk next ends p c.args.start before old c.loop-n.seen.items xs c.loop-n.transitions.items)
    none c.loop-n.invariant)
