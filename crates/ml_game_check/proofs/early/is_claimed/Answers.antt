-- The claim that is read is that of the vertex.
use Rattle.std.proofs.Common.{None, sym, ◌∙◌}
use Rattle.ml_game_check.proofs.FirstRules.{told}
use Rattle.ml_game_check.proofs.early.is_claimed.Goals as goal

pub returns-in-Some-Some : goal.returns-in-Some-Some
returns-in-Some-Some c =
    told c.args.claims.now c.args.vertex c.in-Some-Some.claim
    (sym (c.in-Some-Some.ensures.lookup.3.1 None) ∙ c.in-Some-Some.field-0-is)
    c.args.player c.is_for.result c.is_for.ensures
