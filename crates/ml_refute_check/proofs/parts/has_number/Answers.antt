use Rattle.std.proofs.Common.{◌↔◌, IsTrue, sym, subst}
use Rattle.ml_lists.specs.Member.{IsMember}
use Rattle.ml_base.proofs.IdSets.{search_member}
use Rattle.ml_refute_check.proofs.parts.has_number.Goals as goal

pub returns : goal.returns
returns c =
    let found =
    search_member c.args.numbers.now c.args.number c.binary_search.result c.requires c.binary_search.ensures.position in
    subst (λ b. IsTrue b ↔ IsMember c.args.number c.args.numbers.now) (sym c.is_ok.ensures.value) found
