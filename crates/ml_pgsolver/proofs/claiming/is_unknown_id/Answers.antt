-- What is no member isn't among the ids.
use Rattle.std.proofs.Common.{subst}
use Rattle.ml_lists.specs.Member.{IsMember}
use Rattle.ml_pgsolver.proofs.RowClaims.{none_among}
use Rattle.ml_pgsolver.proofs.claiming.is_unknown_id.Goals as goal

pub returns-in-None : goal.returns-in-None
returns-in-None c =
    none_among c.args.ids.now c.args.id
    (subst (λ n. IsMember n c.args.ids.now → ⊥) c.from.ensures c.in-None.ensures)
