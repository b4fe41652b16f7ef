use Rattle.std.proofs.Common.{refl, sym, ap, subst, ◌∙◌}
use Rattle.std.specs.List.{insert}
use Rattle.ml_lists.specs.Ascending.{IsAscending, insert_once}
use Rattle.ml_lists.specs.Member.{IsMember}
use Rattle.std.proofs.lemmas.Bool.{true≢false}
use Rattle.ml_base.proofs.IdSets.{found_member, found_is, missing_member, put_ascending, put_is}
use Rattle.ml_base.proofs.id_set.IdSet.insert.Goals as goal

pub invariant_of-self-in-Err : goal.invariant_of-self-in-Err
invariant_of-self-in-Err c =
    let ascends = subst IsAscending (sym c.deref.ensures.value) c.self.invariant in
    let items = c.in_ok-insert-in-Err.ensures.items ∙ ap (λ xs. insert xs c.in-Err.place c.args.x) (sym c.deref.ensures.value) in
    subst IsAscending (sym items) (put_ascending c.deref.result.now c.args.x c.in-Err.place ascends c.in-Err.ensures.position)

pub returns-in_ok-insert-in-Err-clause-is_new : goal.returns-in_ok-insert-in-Err-clause-is_new
returns-in_ok-insert-in-Err-clause-is_new c =
    let here = c.deref.ensures.value ∙ c.self.view_is in
    let ascends = subst IsAscending (sym c.deref.ensures.value) c.self.invariant in
    let missing = missing_member c.deref.result.now c.args.x c.in-Err.place ascends c.in-Err.ensures.position in
    (λ _. subst (λ xs. ¬ (IsMember c.args.x xs)) here missing, λ _. refl)

pub returns-in_ok-insert-in-Err-clause-after : goal.returns-in_ok-insert-in-Err-clause-after
returns-in_ok-insert-in-Err-clause-after c =
    let here = c.deref.ensures.value ∙ c.self.view_is in
    let ascends = subst IsAscending (sym c.deref.ensures.value) c.self.invariant in
    let items = c.in_ok-insert-in-Err.ensures.items ∙ ap (λ xs. insert xs c.in-Err.place c.args.x) (sym c.deref.ensures.value) in
    items ∙ put_is c.deref.result.now c.args.x c.in-Err.place ascends c.in-Err.ensures.position ∙ ap (insert_once c.args.x) here

pub returns-in-Ok-clause-is_new : goal.returns-in-Ok-clause-is_new
returns-in-Ok-clause-is_new c =
    let here = c.deref.ensures.value ∙ c.self.view_is in
    let ascends = subst IsAscending (sym c.deref.ensures.value) c.self.invariant in
    let found = found_member c.deref.result.now c.args.x c.in-Ok.field-0 ascends c.in-Ok.ensures.position in
    (λ h. absurd (true≢false (sym h)), λ missing. absurd (missing (subst (λ xs. IsMember c.args.x xs) here found)))

pub returns-in-Ok-clause-after : goal.returns-in-Ok-clause-after
returns-in-Ok-clause-after c =
    let here = c.deref.ensures.value ∙ c.self.view_is in
    let ascends = subst IsAscending (sym c.deref.ensures.value) c.self.invariant in
    sym here ∙ found_is c.deref.result.now c.args.x c.in-Ok.field-0 ascends c.in-Ok.ensures.position ∙ ap (insert_once c.args.x) here
