use Rattle.std.proofs.Common.{◌≡◌, ◌∙◌, length, sym, ap, arith}
use Rattle.std.proofs.lemmas.Bool.{eqb-true}
use Rattle.std.proofs.lemmas.Bool.Decides.{nat_tests}
use Rattle.ml_sequent.proofs.RankedWalks.{lowest_rank}
use Rattle.ml_sequent.proofs.stepping.begins_all.Goals as goal

pub returns-then-values-eq1 : goal.returns-then-values-eq1
returns-then-values-eq1 c =
    let one = sym (ap length c.values.ensures.value) ∙ c.if-values-eq1.true in
    let ranks = lowest_rank c.args.graph.now c.args.levels.now c.args.node c.requires.ranked c.keeps.ensures.is_graph.priorities c.requires.node in
    let rank = c.rank.ensures in (
      λ zero. (one, ranks.0 (sym rank ∙ eqb-true c.rank.result 0 zero)),
      λ both. let none : c.rank.result ≡ 0 = rank ∙ ranks.1 both.1 in grind (none, arith, nat_tests),
    )
