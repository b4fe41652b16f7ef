use Rattle.std.proofs.Common.{◌<◌, length, All, sym, subst, ap, ◌∙◌}
use Rattle.ml_pgsolver.proofs.WrittenLines.{moves_within}
use Rattle.ml_pgsolver.proofs.writing.write.Goals as goal

pub write_vertices-requires-clause-within : goal.write_vertices-requires-clause-within
write_vertices-requires-clause-within c =
    let n = length c.ids-2.result.now in
    subst (All (λ m. m < n)) (sym c.choices_of.ensures)
    (moves_within c.args.named.now.game c.args.solution.now n c.owners.ensures.game c.requires
    (ap length c.ids-2.ensures.value ∙ c.ids-2.ensures.one_each.0))
