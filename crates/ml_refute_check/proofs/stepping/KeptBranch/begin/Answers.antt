use Rattle.std.proofs.Common.{ℕ, List, ◌≡◌, ◌<◌, ◌∙◌, [], All, ap, sym, subst}
use Rattle.ml_lists.specs.Ascending.{IsAscending, ascending}
use Rattle.ml_graph.specs.Graph.{size}
use Rattle.ml_sequent.specs.Spread.{IsSpreadOf, IsSpread}
use Rattle.ml_refute_check.specs.private.Stepping.{KeptList, list_at}
use Rattle.ml_refute_check.proofs.BegunBranches.{begun_now}
use Rattle.ml_refute_check.proofs.EntryFound.{ascending_again}
use Rattle.ml_refute_check.proofs.stepping.KeptBranch.begin.Goals as goal

-- the sequent that is made of the list at a place is this list
made_there : {b a : KeptList} {read made : List ℕ} (place : ℕ)
    → b ≡ a
    → IsAscending (list_at a.sequents place)
    → read ≡ list_at b.sequents place
    → made ≡ ascending read
    → made ≡ list_at b.sequents place
made_there {b = b} {made = made} place same ascends read_is made_is =
    ascending_again (list_at b.sequents place) made (made_is ∙ ap ascending read_is)
    (subst (λ (x : KeptList). IsAscending (list_at x.sequents place)) (sym same) ascends)

pub begin-requires : goal.begin-requires
begin-requires c =
    let same = made_there c.args.place c.self.view_is c.requires.ascends c.at.ensures c.in_ok-sequent.ensures in
    subst (All (λ n. n < size c.self.inside.branch.graph)) (sym same)
    (subst (λ (b : KeptList). All (λ n. n < size b.on.graph) (list_at b.sequents c.args.place)) (sym c.self.view_is)
    c.requires.low)

pub invariant_of-self-2 : goal.invariant_of-self-2
invariant_of-self-2 c =
    let same = made_there c.args.place c.self.view_is c.requires.ascends c.at.ensures c.in_ok-sequent.ensures in
    let nodes = list_at c.self.inside.sequents.now c.args.place in
    let now = c.begin.new.self in
    record {
      begun = begun_now c.self.inside.sequents.now c.args.place now (c.in_ok-begin.ensures.sequent ∙ same)
          c.in_ok-begin.ensures.before
          (subst (λ g. IsSpreadOf g nodes [] now.spread) (sym c.in_ok-begin.ensures.graph)
          (subst (λ ns. IsSpreadOf c.self.inside.branch.graph ns [] now.spread) same c.in_ok-begin.ensures.of))
          (subst (λ g. IsSpread g now.spread) (sym c.in_ok-begin.ensures.graph) c.in_ok-begin.ensures.is_spread);
      last = tt;
    }

pub returns-clause-sequent : goal.returns-clause-sequent
returns-clause-sequent c =
    let same = made_there c.args.place c.self.view_is c.requires.ascends c.at.ensures c.in_ok-sequent.ensures in
    c.in_ok-begin.ensures.sequent ∙ same ∙ ap (λ (b : KeptList). list_at b.sequents c.args.place) c.self.view_is

pub returns-clause-of : goal.returns-clause-of
returns-clause-of c =
    let same = made_there c.args.place c.self.view_is c.requires.ascends c.at.ensures c.in_ok-sequent.ensures in
    subst (λ (b : KeptList). IsSpreadOf b.on.graph (list_at b.sequents c.args.place) [] c.begin.new.self.spread) c.self.view_is
    (subst (λ ns. IsSpreadOf c.self.inside.branch.graph ns [] c.begin.new.self.spread) same c.in_ok-begin.ensures.of)
