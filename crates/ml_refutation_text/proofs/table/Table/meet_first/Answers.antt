use Rattle.std.proofs.Common.{[], ◌∙◌, ap, slice_index_or, arith}
use Rattle.ml_refutation_text.specs.Canonical.{with_new}
use Rattle.ml_refutation_text.specs.private.Collecting.{shown, Collected}
use Rattle.ml_refutation_text.proofs.MetLists.{known_kept, one_known}
use Rattle.ml_refutation_text.proofs.table.Table.meet_first.Goals as goal

pub invariant_of-self-then-place-len : goal.invariant_of-self-then-place-len
invariant_of-self-then-place-len c =
    let a = c.self.inside in
    one_known a.all.now (shown a.met.keys) (shown c.put.new.lists.keys) c.at.result.now a.places.items c.args.place
    c.in_ok-there.there c.at.ensures c.in_ok-there.ensures.lists c.in_ok-there.ensures.place
    (omega (arith, c.if-place-len.true, c.len.ensures, a.places.ok.0)) c.self.invariant

pub invariant_of-self-else-place-len : goal.invariant_of-self-else-place-len
invariant_of-self-else-place-len c =
    let a = c.self.inside in
    known_kept a.all.now (shown a.met.keys) (shown c.put.new.lists.keys) c.at.result.now a.places.items
    c.in_ok-there.ensures.lists c.self.invariant

pub returns-then-place-len-clause-met : goal.returns-then-place-len-clause-met
returns-then-place-len-clause-met c =
    c.in_ok-there.ensures.lists ∙ ap (with_new (shown c.self.inside.met.keys)) c.at.ensures
    ∙ ap (λ (t : Collected). with_new t.met (slice_index_or t.all c.args.place [])) c.self.view_is

pub returns-else-place-len-clause-met : goal.returns-else-place-len-clause-met
returns-else-place-len-clause-met c =
    c.in_ok-there.ensures.lists ∙ ap (with_new (shown c.self.inside.met.keys)) c.at.ensures
    ∙ ap (λ (t : Collected). with_new t.met (slice_index_or t.all c.args.place [])) c.self.view_is
