-- The positions that were made get numbers, one behind the other; all of them are moves of the position's turn.
use Rattle.std.proofs.Common.{◌≡◌, ◌++◌, [], ◌∷◌, List, length, map, append_assoc, append-nil, refl, sym, ap, ◌∙◌, subst, arith}
use Rattle.std.proofs.lemmas.Result.{err_from_is_err_and}
use Rattle.std.specs.Vec.Iter.{into_iter_items}
use Rattle.ml_sequent.specs.Spread.{IsSpreadOf}
use Rattle.ml_product.specs.Position.{Position}
use Rattle.ml_product.specs.DecisionGame.{AreSteps, IsReached}
use Rattle.ml_product.specs.View.{viewed}
use Rattle.ml_product.specs.private.Exploring.{target_of}
use Rattle.ml_product.proofs.Numbering.{handed_on}
use Rattle.ml_product.proofs.Turning.{reached_at, only_there, led_becomes, led_vertices, led_unchosen, led_passed, all_led}
use Rattle.ml_product.proofs.turns.lead.Goals as goal

pub follow_all-requires-clause-reached : goal.follow_all-requires-clause-reached
follow_all-requires-clause-reached c =
    let g = c.args.branch.now.graph in
    let b = c.args.pool.now in
    subst (IsReached g)
    (sym (only_there g c.args.limit b c.args.v c.args.branch.now.spread c.requires.at (viewed c.view-view.result)
    c.view-view.ensures))
    (reached_at g c.args.limit b c.args.v c.args.branch.now.spread c.requires.at)

pub follow_all-requires-clause-spread : goal.follow_all-requires-clause-spread
follow_all-requires-clause-spread c =
    let g = c.args.branch.now.graph in
    let b = c.args.pool.now in
    subst (λ (p : Position). IsSpreadOf g p.sequent p.choice c.args.branch.now.spread)
    (sym (only_there g c.args.limit b c.args.v c.args.branch.now.spread c.requires.at (viewed c.view-view.result)
    c.view-view.ensures))
    c.requires.at.is_spread

pub returns-in_err-number-clause-passed : goal.returns-in_err-number-clause-passed
returns-in_err-number-clause-passed c = λ e.
    let g = c.args.branch.now.graph in
    let a = c.args.pool.now in
    let sp = c.args.branch.now.spread in
    let l = c.loop-fresh in
    let x = c.in-Some.fresh in
    let made = c.in_ok-made.made.items in
    let rest = into_iter_items c.next.new.self in
    let same =
    only_there g c.args.limit a c.args.v sp c.requires.at (viewed c.view-view.result) c.view-view.ensures in
    let whole : l.yielded ++ x ∷ rest ≡ made =
    ap (λ ys. l.yielded ++ ys) (sym c.in-Some.ensures.steps.0) ∙ l.invariant.0
    ∙ c.into_iter-fresh-iterator.ensures.into_iter_gives.0 in
    let p = err_from_is_err_and c.from_residual-in_err-number.result c.from_residual-in_err-number.ensures.1 in
    led_passed g c.args.limit a c.args.v sp c.requires.at c.args.diamonds.now made c.requires.resolved c.requires.diamonds
    c.requires.some (subst (λ q. AreSteps g q sp c.args.diamonds.now (map target_of made)) same c.in_ok-made.ensures.steps)
    l.yielded rest x l.pool whole l.invariant.1
    (c.in_err-number.ensures.passed (handed_on c.from_residual-in_err-number.result c.in_err-number.field-0.0 p e))

pub loop-fresh-preserved : goal.loop-fresh-preserved
loop-fresh-preserved c =
    let g = c.args.branch.now.graph in
    let a = c.args.pool.now in
    let sp = c.args.branch.now.spread in
    let l = c.loop-fresh in
    let x = c.in-Some.fresh in
    let made = c.in_ok-made.made.items in
    let rest = into_iter_items c.next.new.self in
    let same =
    only_there g c.args.limit a c.args.v sp c.requires.at (viewed c.view-view.result) c.view-view.ensures in
    let steps : into_iter_items l.fresh-iterator ≡ x ∷ rest = c.in-Some.ensures.steps.0 in
    let whole : l.yielded ++ x ∷ rest ≡ made =
    ap (λ ys. l.yielded ++ ys) (sym steps) ∙ l.invariant.0
    ∙ c.into_iter-fresh-iterator.ensures.into_iter_gives.0 in
    let are = subst (λ q. AreSteps g q sp c.args.diamonds.now (map target_of made)) same c.in_ok-made.ensures.steps in (
      append_assoc l.yielded (x ∷ []) _ ∙ ap (λ ys. l.yielded ++ ys) (sym steps) ∙ l.invariant.0,
      led_becomes g c.args.limit a c.args.v sp c.requires.at c.args.diamonds.now made c.requires.resolved
          c.requires.diamonds c.requires.some are l.yielded rest x l.pool c.number.new.pool c.in_ok-number.number whole
          l.invariant.1 c.in_ok-number.ensures.ok,
      λ n. led_vertices g c.args.limit a c.args.v sp c.requires.at c.args.diamonds.now made c.requires.resolved
          c.requires.diamonds c.requires.some are l.yielded rest x l.pool c.number.new.pool l.moves.items
          c.push.new.self.items c.in_ok-number.number whole l.invariant.1 c.in_ok-number.ensures.ok
          c.in_ok-push.ensures.items n (l.invariant.2 n),
      led_unchosen g c.args.limit a c.args.v sp c.requires.at c.args.diamonds.now made c.requires.resolved
          c.requires.diamonds c.requires.some are l.yielded rest x l.pool c.number.new.pool c.in_ok-number.number whole
          l.invariant.1 c.in_ok-number.ensures.ok l.invariant.3,
      let gone = c.in-Some.ensures.steps.1 in
          let was = l.invariant.4 in
          let short = ap length steps in
          omega arith,
    )

nothing_left : {X : Type 0} (l : List X) → length l ≡ 0 → l ≡ []
nothing_left [] h = refl
nothing_left (x ∷ xs) h = absurd (omega arith)

pub returns-clause-led : goal.returns-clause-led
returns-clause-led c =
    let g = c.args.branch.now.graph in
    let a = c.args.pool.now in
    let sp = c.args.branch.now.spread in
    let l = c.loop-fresh in
    let made = c.in_ok-made.made.items in
    let same =
    only_there g c.args.limit a c.args.v sp c.requires.at (viewed c.view-view.result) c.view-view.ensures in
    let none = c.in-None.ensures.steps in
    let empty : into_iter_items l.fresh-iterator ≡ [] = nothing_left _ (sym l.invariant.4 ∙ none.0) in
    let whole : l.yielded ≡ made =
    sym (append-nil l.yielded) ∙ ap (λ ys. l.yielded ++ ys) (sym empty) ∙ l.invariant.0
    ∙ c.into_iter-fresh-iterator.ensures.into_iter_gives.0 in
    all_led g c.args.limit a c.args.v sp c.requires.at c.args.diamonds.now made c.requires.resolved c.requires.diamonds
    c.requires.some (subst (λ q. AreSteps g q sp c.args.diamonds.now (map target_of made)) same c.in_ok-made.ensures.steps)
    l.yielded l.pool l.moves whole l.invariant.1 l.invariant.2 l.invariant.3
