use Rattle.std.proofs.Common.{ℕ, ◌≡◌, ◌<◌, List, ◌∷◌, [], None, OnOk, ap, sym, subst, ◌∙◌, reverse}
use Rattle.ml_graph.specs.Graph.{IsGraph, node_at}
use Rattle.ml_sequent.specs.declared.taken.Taken.{Taken}
use Rattle.ml_sequent.specs.Branch.{BranchList}
use Rattle.ml_sequent.specs.Choice.{side_of, with_side}
use Rattle.ml_sequent.specs.Spread.{IsSpread, IsSpreadOf, IsOpenOr}
use Rattle.ml_sequent.specs.private.Trails.{IsUnderway, HasSpread, spread_at, earlier}
use Rattle.ml_sequent.proofs.BranchQuestions.{chosen_more, chosen_own}
use Rattle.ml_sequent.proofs.BranchSpreads.{grown_twice, kept_ok}
use Rattle.ml_sequent.proofs.TrailSearches.{grown_same}
use Rattle.ml_sequent.proofs.NotedPlaces.{keeps_chosen}
use Rattle.ml_sequent.proofs.LongerSpreads.{chosen_low}
use Rattle.ml_sequent.proofs.branch.Branch.choose.Goals as goal

pub reach-requires : goal.reach-requires
reach-requires c =
    let g = c.self.inside.phase in
    let sp = spread_at c.self.inside.trail.nodes c.self.inside.choice in
    let o = subst (λ (b : BranchList). IsOpenOr b.graph b.spread c.args.node) (sym c.self.view_is) c.requires.node in
    let is = subst (λ (b : BranchList). IsSpread b.graph b.spread) (sym c.self.view_is) c.requires.spread in
    let ok = subst IsGraph c.graph-graph.ensures c.keeps.ensures.is_graph in
    let at = c.child_at.ensures o.is_open.left o.is_open.right (ap (λ k. node_at k c.args.node) c.graph-graph.ensures ∙ o.is_open.is_or) in
    let low = chosen_low g ok sp c.args.node c.args.side is o c.child_at.result at in
    subst (λ k. c.child_at.result < k) (sym c.self.invariant.places) low

pub returns-clause-before : goal.returns-clause-before
returns-clause-before c =
    let t : Taken = record { place = c.in_ok-place.place; first = c.len-first.result } in
    subst (λ (b : BranchList). OnOk c.grow.result (earlier c.grow.new.trail.nodes c.take.new.self (reverse c.push.new.self.items) ≡ b.spread ∷ b.before))
    c.self.view_is
    (kept_ok (c.child_at.result ∷ []) c.self.inside.trail.nodes c.reach.new.self.nodes c.grow.new.trail.nodes c.self.inside.choice c.take.new.self
    c.self.inside.taken.items c.push.new.self.items t c.grow.result c.in_ok-push.ensures.items c.len-first.ensures.value
    c.in_ok-reach.ensures.joined c.in_ok-place.ensures.place c.grow.ensures.grown)

pub returns-clause-of : goal.returns-clause-of
returns-clause-of c =
    let g = c.self.inside.phase in
    let nodes = c.self.inside.trail.nodes in
    let choice = c.self.inside.choice in
    let o = subst (λ (b : BranchList). IsOpenOr b.graph b.spread c.args.node) (sym c.self.view_is) c.requires.node in
    let ok = subst IsGraph c.graph-graph.ensures c.keeps.ensures.is_graph in
    let at = c.child_at.ensures o.is_open.left o.is_open.right (ap (λ k. node_at k c.args.node) c.graph-graph.ensures ∙ o.is_open.is_or) in
    let search = subst (λ k. OnOk c.grow.result ((D : List ℕ)
    → IsUnderway c.graph-graph.result.now c.take.new.self D k c.reach.new.self.nodes
    → HasSpread c.graph-graph.result.now c.take.new.self D c.grow.new.trail.nodes))
    c.len-first.ensures.value c.grow.ensures.spread in
    subst (λ (b : BranchList). OnOk c.grow.result ((C : List ℕ) → IsSpreadOf b.graph C b.spread.choice b.spread
    → IsSpreadOf b.graph C (with_side b.spread.choice c.args.node c.args.side) (spread_at c.grow.new.trail.nodes c.take.new.self)))
    c.self.view_is
    (chosen_more g c.graph-graph.result.now c.args.node c.args.side c.child_at.result nodes c.reach.new.self.nodes c.grow.new.trail.nodes
    choice c.take.new.self c.grow.result ok c.graph-graph.ensures o at c.in_ok-reach.ensures.joined c.in_ok-place.ensures.taken search)

pub returns-clause-is_spread : goal.returns-clause-is_spread
returns-clause-is_spread c =
    chosen_own c.args.self.now.graph c.args.self.now.spread (spread_at c.grow.new.trail.nodes c.take.new.self)
    (with_side c.args.self.now.spread.choice c.args.node c.args.side) c.grow.result c.requires.spread (returns-clause-of c)

-- ---- what is noted of the trail

unchosen : (a b : BranchList) (n : ℕ) → a ≡ b → IsOpenOr b.graph b.spread n → side_of a.spread.choice n ≡ None
unchosen a b n same o = ap (λ (x : BranchList). side_of x.spread.choice n) same ∙ o.is_open.unchosen

pub invariant_of-self-in_err-push : goal.invariant_of-self-in_err-push
invariant_of-self-in_err-push c = record {
  places = c.self.invariant.places;
  falls = c.self.invariant.falls;
  notes = keeps_chosen c.self.inside.phase c.self.inside.descent c.self.inside.choice c.take.new.self
      c.self.inside.trail.nodes
      c.self.inside.trail.nodes c.self.inside.notes c.args.node c.args.side
      (unchosen _ c.args.self.now c.args.node c.self.view_is c.requires.node) c.in_ok-place.ensures.taken
      (grown_same c.self.inside.trail.nodes) c.self.invariant.notes;
}

pub invariant_of-self-in_err-reach : goal.invariant_of-self-in_err-reach
invariant_of-self-in_err-reach c = record {
  places = c.reach.ensures.room ∙ c.self.invariant.places;
  falls = c.self.invariant.falls;
  notes = keeps_chosen c.self.inside.phase c.self.inside.descent c.self.inside.choice c.take.new.self
      c.self.inside.trail.nodes
      c.reach.new.self.nodes c.self.inside.notes c.args.node c.args.side
      (unchosen _ c.args.self.now c.args.node c.self.view_is c.requires.node) c.in_ok-place.ensures.taken
      c.reach.ensures.grown c.self.invariant.notes;
}

pub invariant_of-self-2 : goal.invariant_of-self-2
invariant_of-self-2 c = record {
  places = c.grow.ensures.room ∙ c.in_ok-reach.ensures.room ∙ c.self.invariant.places;
  falls = c.self.invariant.falls;
  notes = keeps_chosen c.self.inside.phase c.self.inside.descent c.self.inside.choice c.take.new.self
      c.self.inside.trail.nodes
      c.grow.new.trail.nodes c.self.inside.notes c.args.node c.args.side
      (unchosen _ c.args.self.now c.args.node c.self.view_is c.requires.node) c.in_ok-place.ensures.taken
      (grown_twice c.self.inside.trail.nodes c.reach.new.self.nodes c.grow.new.trail.nodes
      c.in_ok-reach.ensures.grown c.grow.ensures.grown)
      c.self.invariant.notes;
}
