use Rattle.std.proofs.Common.{◌+◌, [], ◌∷◌, sym, ap, ◌∙◌}
use Rattle.std.proofs.lemmas.List.{length-map}
use Rattle.ml_product.specs.private.Shared.{seen}
use Rattle.ml_product.proofs.arena.Arena.of.Goals as goal

pub invariant_of-result : goal.invariant_of-result
invariant_of-result c =
    let p = c.args.pool in
    let count = c.len-size.ensures ∙ sym (length-map p.positions (seen p.sequents.keys p.histories.keys)) in
    record { held = c.requires; ends = ap (λ n. n ∷ (n + 1) ∷ []) count }
