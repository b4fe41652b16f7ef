-- What is found has a way along the steps; what is not found has no walk, since nothing more is to be found.
use Rattle.std.proofs.Common.{arith, ◌≡◌, ◌∙◌, sym, subst, true, false, length, List}
use Rattle.std.proofs.lemmas.List.{get_or_default}
use Rattle.ml_parity.specs.declared.one_sided.graph.Arc.{Arc}
use Rattle.ml_parity.specs.private.HeightSteps.{Comes, LeadBack, IsWay, IsSearch}
use Rattle.ml_parity.specs.private.SinkGame.{flag_at}
use Rattle.ml_parity.proofs.HeightSearches.{walk_of_way, none_by_search}
use Rattle.ml_parity.proofs.one_sided.cycles.walk_between.Goals as goal

pub way_along-requires-clause-back : goal.way_along-requires-clause-back
way_along-requires-clause-back c =
    let s =
    (subst (λ k. IsSearch c.args.graph.now c.args.priority k c.spread.new.search.found.items
    c.spread.new.search.steps.items) (c.in_ok-spread.ensures.goal ∙ c.loop-search.invariant.goal)
    c.in_ok-spread.ensures.search) in
    subst (λ (steps : List Arc). LeadBack steps c.args.goal) (sym c.deref.ensures.value) s.leads

pub way_along-requires-clause-comes : goal.way_along-requires-clause-comes
way_along-requires-clause-comes c =
    let s =
    (subst (λ k. IsSearch c.args.graph.now c.args.priority k c.spread.new.search.found.items
    c.spread.new.search.steps.items) (c.in_ok-spread.ensures.goal ∙ c.loop-search.invariant.goal)
    c.in_ok-spread.ensures.search) in
    let at : flag_at c.spread.new.search.found.items c.args.start ≡ true =
    get_or_default c.spread.new.search.found.items c.args.start false c.index.result.now
    (omega (arith, s.size, c.requires.begins)) ∙ sym c.index.ensures ∙ c.if-not-index.false in
    subst (λ (steps : List Arc). Comes steps (length steps) c.args.goal c.args.start) (sym c.deref.ensures.value)
    (s.comes c.args.start at)

pub returns-then-not-index : goal.returns-then-not-index
returns-then-not-index c =
    let s =
    (subst (λ k. IsSearch c.args.graph.now c.args.priority k c.spread.new.search.found.items
    c.spread.new.search.steps.items) (c.in_ok-spread.ensures.goal ∙ c.loop-search.invariant.goal)
    c.in_ok-spread.ensures.search) in
    let at : flag_at c.spread.new.search.found.items c.args.start ≡ false =
    get_or_default c.spread.new.search.found.items c.args.start false c.index.result.now
    (omega (arith, s.size, c.requires.begins)) ∙ sym c.index.ensures ∙ c.if-not-index.true in
    none_by_search c.args.graph.now c.args.priority c.args.goal c.loop-search.search.found.items
    c.spread.new.search.found.items c.spread.new.search.steps.items c.in_ok-spread.field-0 c.args.start s
    c.in_ok-spread.ensures.spread c.if-branch.false at

pub returns : goal.returns
returns c =
    let s =
    (subst (λ k. IsSearch c.args.graph.now c.args.priority k c.spread.new.search.found.items
    c.spread.new.search.steps.items) (c.in_ok-spread.ensures.goal ∙ c.loop-search.invariant.goal)
    c.in_ok-spread.ensures.search) in
    walk_of_way c.args.graph.now c.args.priority c.args.start c.args.goal c.spread.new.search.steps.items
    c.in_ok-way_along.field-0.items s.high
    (subst (λ (steps : List Arc). IsWay steps c.args.start c.args.goal c.in_ok-way_along.field-0.items)
    c.deref.ensures.value c.in_ok-way_along.ensures)
