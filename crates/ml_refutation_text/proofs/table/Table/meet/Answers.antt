use Rattle.std.proofs.Common.{◌≡◌, [], None, Some, sym, ap, ◌∙◌, subst, slice_index_or}
use Rattle.ml_refutation_text.specs.Canonical.{with_new}
use Rattle.ml_refutation_text.specs.private.Collecting.{shown, Collected}
use Rattle.ml_refutation_text.proofs.MetLists.{met_again}
use Rattle.ml_refutation_text.proofs.table.Table.meet.Goals as goal

pub returns-in-Some-clause-met : goal.returns-in-Some-clause-met
returns-in-Some-clause-met c =
    let a = c.self.inside in
    let is : slice_index_or a.places.items c.args.place None ≡ Some c.in-Some.field-0 =
    sym (c.in-Some.ensures ∙ ap (λ known. slice_index_or known c.args.place None) c.as_slice.ensures.value) in
    subst (λ (t : Collected). t.met ≡ with_new t.met (slice_index_or t.all c.args.place [])) c.self.view_is
    (sym (met_again (shown a.met.keys) (slice_index_or a.all.now c.args.place []) c.in-Some.field-0
    (c.self.invariant c.args.place c.in-Some.field-0 is)))
