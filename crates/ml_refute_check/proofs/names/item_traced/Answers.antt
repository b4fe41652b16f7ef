use Rattle.std.proofs.Common.{ℕ, List, ◌<◌, ◌≤◌, ◌∙◌, get_or, length, ap, subst}
use Rattle.std.proofs.lemmas.List.{get_or_default}
use Rattle.ml_refute_check.specs.private.Sources.{IsNameTraced, stack_of}
use Rattle.ml_refute_check.proofs.Sources.{all_more, all_found}
use Rattle.ml_refute_check.proofs.names.item_traced.Goals as goal

pub loop-name-preserved : goal.loop-name-preserved
loop-name-preserved c =
    let i = c.loop-name.name-index in
    let names = stack_of c.args.stacks.now c.args.behind.now in
    let x = get_or c.at-name-items.result.now i 0 in
    let low = subst (λ (xs : List ℕ). i < length xs) c.at-name-items.ensures c.loop-name-test.true in
    let is = ap (λ (xs : List ℕ). get_or xs i 0) c.at-name-items.ensures ∙ get_or_default names i 0 x low in
    all_more (λ y. IsNameTraced c.args.stacks.now c.args.odds.now c.args.traces.now c.args.bound c.args.green c.args.items.now y
    c.args.behind.now)
    names i x c.name_traced.result low is c.name_traced.ensures c.if-not-name_traced.false c.loop-name.invariant

pub returns : goal.returns
returns c =
    let names = stack_of c.args.stacks.now c.args.behind.now in
    let past =
    subst (λ (xs : List ℕ). length xs ≤ c.loop-name.name-index) c.at-name-items.ensures
    c.loop-name-test.false in
    all_found (λ y. IsNameTraced c.args.stacks.now c.args.odds.now c.args.traces.now c.args.bound c.args.green c.args.items.now y
    c.args.behind.now)
    names c.loop-name.name-index past c.loop-name.invariant
