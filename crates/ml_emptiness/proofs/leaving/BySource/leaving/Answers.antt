use Rattle.std.proofs.Common.{rules, ◌≡◌, ◌-◌, ◌≤◌, ◌∙◌, length, take, drop, ltb, leb, true, false, arith, sym, subst}
use Rattle.std.specs.List.Sorted.{IsPartitionPoint}
use Rattle.std.proofs.lemmas.List.{take_all, length-drop}
use Rattle.std.proofs.lemmas.List.Sorted.{IsPartitionPoint-from_clause, IsPartitionedBy-ltb, IsPartitionedBy-leb, IsNonDecreasingBy-drop}
use Rattle.ml_trace.specs.declared.letters.Transition.{Transition}
use Rattle.ml_emptiness.specs.private.Leaving.{IsLeaving, RiseBySource}
use Rattle.ml_lists.proofs.Keyed.{members_at}
use Rattle.ml_emptiness.proofs.leaving.BySource.leaving.Goals as goal

pub returns : goal.returns
returns c =
    let ts = c.deref.result.now in
    let q = c.args.from in
    let i = c.partition_point.result in
    let rest = take (length ts - i) (drop i ts) in
    let is : rest ≡ drop i ts = take_all (length ts - i) (drop i ts) (omega (arith, length-drop i ts)) in
    let rise : RiseBySource ts = subst RiseBySource (sym c.deref.ensures.value) c.self.invariant in
    let rise' : RiseBySource rest =
    subst RiseBySource (sym is) (IsNonDecreasingBy-drop (λ (t : Transition). t.from) i ts rise) in
    let again : c.deref-2.result.now ≡ ts = c.deref-2.ensures.value ∙ sym c.deref.ensures.value in
    let low : i ≤ length ts = subst (λ us. i ≤ length us) again c.partition_point.ensures.bound in
    let first = IsPartitionPoint-from_clause (λ (t : Transition). ltb t.from q) c.deref-2.result.now i
    c.partition_point.ensures.partitioned (IsPartitionedBy-ltb (λ (t : Transition). t.from) c.deref-2.result.now q
    (subst RiseBySource (sym again) rise)) (λ a r f' k. search rules) in
    let one = subst (λ us. IsPartitionPoint (λ (t : Transition). ltb t.from q ≡ true)
    (λ (t : Transition). ltb t.from q ≡ false) us i) again first in
    let two = IsPartitionPoint-from_clause (λ (t : Transition). leb t.from q) rest c.partition_point-2.result
    c.partition_point-2.ensures.partitioned (IsPartitionedBy-leb (λ (t : Transition). t.from) rest q rise')
    (λ a r f' k. search rules) in
    subst (λ us. IsLeaving us q (take c.partition_point-2.result rest)) (c.deref.ensures.value ∙ c.self.view_is)
    (members_at (λ (t : Transition). t.from) ts rest q i c.partition_point-2.result is low one
    c.partition_point-2.ensures.bound two)
