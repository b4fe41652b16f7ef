-- An empty list of diamonds has none.
use Rattle.std.proofs.Common.{◌≡◌, [], ◌∷◌, List, length, refl, sym, ◌∙◌, arith}
use Rattle.std.proofs.lemmas.Bool.{eqb-true}
use Rattle.ml_product.proofs.Turning.{spread_of, settled}
use Rattle.ml_product.proofs.turns.go_on.Goals as goal

pub diamonds-requires : goal.diamonds-requires
diamonds-requires c = spread_of c.args.branch.now.graph c.args.limit c.args.pool.now c.args.v
    c.args.branch.now.spread c.requires.at

nothing_in : {X : Type 0} (l : List X) → length l ≡ 0 → l ≡ []
nothing_in [] h = refl
nothing_in (x ∷ xs) h = absurd (omega arith)

pub returns-then-is_empty-clause-turned : goal.returns-then-is_empty-clause-turned
returns-then-is_empty-clause-turned c =
    let d = c.in_ok-diamonds.diamonds in
    settled c.args.branch.now.graph c.args.limit c.args.pool.now c.args.v c.args.branch.now.spread c.requires.at
    c.requires.resolved
    (sym c.in_ok-diamonds.ensures
    ∙ nothing_in d.items (sym d.ok.0 ∙ eqb-true d.len 0 (sym c.if-is_empty.ensures)))
