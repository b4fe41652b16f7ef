use Rattle.std.proofs.Common.{rules, ℕ, refl, ltb, not, ◌&&◌, ◌≡◌, ◌<◌, ◌*◌, ◌^◌, ◌∙◌, length, get_or, map, ap, subst, sym, arith}
use Rattle.ml_lists.specs.Counting.{count}
use Rattle.ml_lists.specs.Least.{least}
use Rattle.ml_lists.specs.Member.{IsMember}
use Rattle.ml_trace.specs.AutomatonNumbers.{HasSmallEnds}
use Rattle.ml_history.specs.History.{IsSmallHistory}
use Rattle.ml_history.specs.HistoryOrder.{names_of}
use Rattle.ml_history.specs.HistoryStep.{live, taken_along, cut, is_full, mark_of, stepped}
use Rattle.ml_history.specs.private.TreeStep.{flagged}
use Rattle.ml_history.specs.private.Arrays.{StaysBelow, renamed}
use Rattle.ml_history.specs.private.Keys.{offered_by}
use Rattle.ml_history.specs.private.Ways.{AreWays}
use Rattle.ml_history.proofs.arrays.FlagsAlongStacks.{cut_ways}
use Rattle.ml_history.proofs.arrays.NumberedParts.{stays_counted}
use Rattle.ml_history.proofs.arrays.FlatStep.{taken_ways, cut_low, flat_stepped, flat_live, flat_mark}
use Rattle.ml_history.proofs.definition.SmallHistories.{live-small, step_is_small}
use Rattle.ml_history.proofs.flat.History.step.Goals as goal

pub full_names-requires-clause-sources : goal.full_names-requires-clause-sources
full_names-requires-clause-sources c =
    λ o m. c.in_ok-best.ensures.sources o (subst (IsMember o) c.as_slice-2.ensures.value m)

pub cut-requires-clause-sources : goal.cut-requires-clause-sources
cut-requires-clause-sources c = λ o m. c.in_ok-best.ensures.sources o (subst (IsMember o) c.as_slice-3.ensures.value m)

pub overflow_mul-self-inside : goal.overflow_mul-self-inside
overflow_mul-self-inside c =
    let few = live-small c.self.inside.stacks c.self.invariant.kept in
    let small : 2 * c.self.inside.live < 2 ^ 32 = omega (arith, few, c.self.invariant.live_is) in
    search (rules, small)

pub full_names-requires-clause-ways : goal.full_names-requires-clause-ways
full_names-requires-clause-ways c =
    let h = c.args.self.now in
    let kept : IsSmallHistory h = subst IsSmallHistory c.self.view_is c.self.invariant.kept in
    let taken = ap (map (offered_by h)) c.as_slice-2.ensures.value ∙ c.in_ok-best.ensures.taken
    ∙ ap (taken_along h) c.transitions.ensures.value in
    subst AreWays (sym taken) (taken_ways h c.args.letter.now kept.history)

pub standing-requires-clause-low : goal.standing-requires-clause-low
standing-requires-clause-low c = λ y m.
    let h = c.args.self.now in
    let kept : IsSmallHistory h = subst IsSmallHistory c.self.view_is c.self.invariant.kept in
    let taken = ap (map (offered_by h)) c.as_slice-3.ensures.value ∙ c.in_ok-best.ensures.taken
    ∙ ap (taken_along h) c.transitions.ensures.value in
    let is : c.in_ok-cut.cut ≡ cut (taken_along h c.args.letter.now) = c.in_ok-cut.ensures ∙ ap cut taken in
    let low = cut_low h c.args.letter.now kept.history y (subst (λ t. IsMember y (names_of t)) is m) in
    let used = c.self.invariant.live_is ∙ ap live c.self.view_is in
    omega (arith, low, used)

pub standing-requires-clause-ways : goal.standing-requires-clause-ways
standing-requires-clause-ways c =
    let h = c.args.self.now in
    let kept : IsSmallHistory h = subst IsSmallHistory c.self.view_is c.self.invariant.kept in
    let taken = ap (map (offered_by h)) c.as_slice-3.ensures.value ∙ c.in_ok-best.ensures.taken
    ∙ ap (taken_along h) c.transitions.ensures.value in
    let is : c.in_ok-cut.cut ≡ cut (taken_along h c.args.letter.now) = c.in_ok-cut.ensures ∙ ap cut taken in
    subst AreWays (sym is) (cut_ways (taken_along h c.args.letter.now) (taken_ways h c.args.letter.now kept.history))

pub mark-mark-requires-clause-few : goal.mark-mark-requires-clause-few
mark-mark-requires-clause-few c = omega (
  arith,
  live-small c.self.inside.stacks c.self.invariant.kept,
  c.self.invariant.live_is,
)

pub numbers-requires : goal.numbers-requires
numbers-requires c = omega (
  arith,
  live-small c.self.inside.stacks c.self.invariant.kept,
  c.self.invariant.live_is,
  c.in_ok-standing.ensures.count,
  ap length c.as_slice-7.ensures.value,
)

pub how_many-live-requires : goal.how_many-live-requires
how_many-live-requires c = omega (
  arith,
  live-small c.self.inside.stacks c.self.invariant.kept,
  c.self.invariant.live_is,
  c.in_ok-standing.ensures.count,
  ap length c.as_slice-8.ensures.value,
)

pub renamed-stacks-requires-clause-ways : goal.renamed-stacks-requires-clause-ways
renamed-stacks-requires-clause-ways c =
    let h = c.args.self.now in
    let kept : IsSmallHistory h = subst IsSmallHistory c.self.view_is c.self.invariant.kept in
    let taken = ap (map (offered_by h)) c.as_slice-3.ensures.value ∙ c.in_ok-best.ensures.taken
    ∙ ap (taken_along h) c.transitions.ensures.value in
    let is : c.in_ok-cut.cut ≡ cut (taken_along h c.args.letter.now) = c.in_ok-cut.ensures ∙ ap cut taken in
    subst AreWays (sym is) (cut_ways (taken_along h c.args.letter.now) (taken_ways h c.args.letter.now kept.history))

pub renamed-stacks-requires-clause-stays : goal.renamed-stacks-requires-clause-stays
renamed-stacks-requires-clause-stays c =
    let numbers = c.in_ok-numbers.numbers.items in
    subst (λ ns. StaysBelow (λ (y : ℕ). get_or ns y 0) (length ns)) (sym c.as_slice-9.ensures.value)
    (stays_counted (flagged c.as_slice-7.result.now) (λ (y : ℕ). get_or numbers y 0) (length numbers)
    (λ y low. c.in_ok-numbers.ensures.numbers y (omega (arith, low, c.in_ok-numbers.ensures.count))))

pub renamed-stacks-requires-clause-low : goal.renamed-stacks-requires-clause-low
renamed-stacks-requires-clause-low c = λ y m.
    let h = c.args.self.now in
    let kept : IsSmallHistory h = subst IsSmallHistory c.self.view_is c.self.invariant.kept in
    let taken = ap (map (offered_by h)) c.as_slice-3.ensures.value ∙ c.in_ok-best.ensures.taken
    ∙ ap (taken_along h) c.transitions.ensures.value in
    let is : c.in_ok-cut.cut ≡ cut (taken_along h c.args.letter.now) = c.in_ok-cut.ensures ∙ ap cut taken in
    let low = cut_low h c.args.letter.now kept.history y (subst (λ t. IsMember y (names_of t)) is m) in
    let used = c.self.invariant.live_is ∙ ap live c.self.view_is in
    omega (
      arith,
      low,
      used,
      ap length c.as_slice-9.ensures.value,
      c.in_ok-numbers.ensures.count,
      ap length c.as_slice-7.ensures.value,
      c.in_ok-standing.ensures.count,
    )

pub invariant_of-result : goal.invariant_of-result
invariant_of-result c =
    let h = c.args.self.now in
    let letter = c.args.letter.now in
    let kept : IsSmallHistory h = subst IsSmallHistory c.self.view_is c.self.invariant.kept in
    let taken = ap (map (offered_by h)) c.as_slice-3.ensures.value ∙ c.in_ok-best.ensures.taken
    ∙ ap (taken_along h) c.transitions.ensures.value in
    let is : c.in_ok-cut.cut ≡ cut (taken_along h letter) = c.in_ok-cut.ensures ∙ ap cut taken in
    let used = c.self.invariant.live_is ∙ ap live c.self.view_is in
    let flags = c.in_ok-standing.ensures.flags in
    let standing = c.in_ok-standing.standing.items in
    let next : c.renamed-stacks.result ≡ stepped h letter =
    c.renamed-stacks.ensures
    ∙ ap (λ ns. renamed (λ y. get_or ns y 0) c.in_ok-cut.cut) c.as_slice-9.ensures.value
    ∙ flat_stepped h letter c.in_ok-cut.cut standing c.in_ok-numbers.numbers.items kept.history is flags
    (omega (arith, c.in_ok-standing.ensures.count, used))
    (λ y low. c.in_ok-numbers.ensures.numbers y (omega (arith, low, ap length c.as_slice-7.ensures.value))
    ∙ ap (λ fs. count (flagged fs) y) c.as_slice-7.ensures.value)
    in
    let behind : IsSmallHistory (stepped h letter) =
    step_is_small h letter kept (subst HasSmallEnds c.transitions.ensures.value c.transitions.ensures.small) in
    record {
      kept = subst IsSmallHistory (sym next) behind;
      live_is = c.how_many-live.ensures ∙ (λ i. count (flagged (c.as_slice-8.ensures.value i))
          (length (c.as_slice-8.ensures.value i)))
          ∙ flat_live h letter c.in_ok-cut.cut standing kept.history is flags
          (omega (arith, c.in_ok-standing.ensures.count, used)) ∙ ap live (sym next);
    }

pub returns-clause-history : goal.returns-clause-history
returns-clause-history c =
    let h = c.args.self.now in
    let letter = c.args.letter.now in
    let kept : IsSmallHistory h = subst IsSmallHistory c.self.view_is c.self.invariant.kept in
    let taken = ap (map (offered_by h)) c.as_slice-3.ensures.value ∙ c.in_ok-best.ensures.taken
    ∙ ap (taken_along h) c.transitions.ensures.value in
    let is : c.in_ok-cut.cut ≡ cut (taken_along h letter) = c.in_ok-cut.ensures ∙ ap cut taken in
    let used = c.self.invariant.live_is ∙ ap live c.self.view_is in
    let flags = c.in_ok-standing.ensures.flags in
    let standing = c.in_ok-standing.standing.items in
    c.renamed-stacks.ensures
    ∙ ap (λ ns. renamed (λ y. get_or ns y 0) c.in_ok-cut.cut) c.as_slice-9.ensures.value
    ∙ flat_stepped h letter c.in_ok-cut.cut standing c.in_ok-numbers.numbers.items kept.history is flags
    (omega (arith, c.in_ok-standing.ensures.count, used))
    (λ y low. c.in_ok-numbers.ensures.numbers y (omega (arith, low, ap length c.as_slice-7.ensures.value))
    ∙ ap (λ fs. count (flagged fs) y) c.as_slice-7.ensures.value)

pub returns-clause-mark : goal.returns-clause-mark
returns-clause-mark c =
    let h = c.args.self.now in
    let letter = c.args.letter.now in
    let kept : IsSmallHistory h = subst IsSmallHistory c.self.view_is c.self.invariant.kept in
    let taken = ap (map (offered_by h)) c.as_slice-3.ensures.value ∙ c.in_ok-best.ensures.taken
    ∙ ap (taken_along h) c.transitions.ensures.value in
    let is : c.in_ok-cut.cut ≡ cut (taken_along h letter) = c.in_ok-cut.ensures ∙ ap cut taken in
    let used = c.self.invariant.live_is ∙ ap live c.self.view_is in
    let flags = c.in_ok-standing.ensures.flags in
    flat_mark h letter (taken_along h letter) c.in_ok-cut.cut c.self.inside.live c.in_ok-full.full.items
    c.in_ok-standing.standing.items c.mark-mark.result used refl is
    (λ y. c.in_ok-full.ensures.flags y ∙ ap (λ bs. is_full (map (offered_by h) bs) y) c.as_slice-2.ensures.value
    ∙ ap (λ t. is_full t y) (c.in_ok-best.ensures.taken ∙ ap (taken_along h) c.transitions.ensures.value))
    flags
    (c.mark-mark.ensures
    ∙ (λ i. mark_of (least (λ y. ltb y c.self.inside.live && not (flagged (c.as_slice-6.ensures.value i) y))
    (2 * c.self.inside.live))
    (least (λ y. flagged (c.as_slice-5.ensures.value i) y && flagged (c.as_slice-6.ensures.value i) y)
    (2 * c.self.inside.live))))
