use Rattle.std.proofs.Common.{◌↔◌, IsTrue, sym, subst, ◌∙◌}
use Rattle.std.specs.Result.{is_ok}
use Rattle.ml_lists.specs.Ascending.{IsAscending}
use Rattle.ml_lists.specs.Member.{IsMember}
use Rattle.ml_base.proofs.IdSets.{search_member}
use Rattle.ml_base.proofs.id_set.IdSet.contains.Goals as goal

pub returns : goal.returns
returns c =
    let here = c.deref.ensures.value ∙ c.self.view_is in
    let ascends = subst IsAscending (sym c.deref.ensures.value) c.self.invariant in
    let found = search_member c.deref.result.now c.args.x c.binary_search.result ascends c.binary_search.ensures.position in
    subst (λ b. IsTrue b ↔ IsMember c.args.x c.args.self.now) (sym c.is_ok.ensures.value)
    (subst (λ xs. IsTrue (is_ok c.binary_search.result) ↔ IsMember c.args.x xs) here found)
