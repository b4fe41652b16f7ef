-- The second law: an accepting cyclic run gives an odd lowest mark.
--
--   lowest_is_odd     == a mark at or below Green z, and no red one at or below z: then the lowest mark is odd
--   run_has_odd_mark  == the second law
use Rattle.std.proofs.Common.{ℕ, ◌≡◌, ◌<◌, ◌⊎◌, inl, inr, arith, true, List, length, refl, sym, subst, ap, ◌∙◌}
use Rattle.std.proofs.lemmas.Bool.{leb-true}
use Rattle.ml_lists.specs.Member.{IsMember}
use Rattle.ml_lists.specs.Repeated.{repeated}
use Rattle.ml_lists.proofs.Repeated.{member-repeated, repeated-member}
use Rattle.ml_trace.specs.declared.letters.Transition.{Transition}
use Rattle.ml_trace.specs.declared.marks.Mark.{Mark}
use Rattle.ml_trace.specs.declared.marks.Mark.TheVariants.{Red, Green, Neutral}
use Rattle.ml_trace.specs.MarkOrder.{mark_le, lowest_mark, is_odd}
use Rattle.ml_trace.specs.Stack.{Item}
use Rattle.ml_trace.proofs.MarkOrder.{mark_le_trans, lowest_mark_le, lowest_mark_is}
use Rattle.ml_trace.proofs.Stacks.{ends-has}
use Rattle.ml_history.specs.CycleLaws.{ReturnsTo, AcceptingCycle, RunHasOddMark}
use Rattle.ml_history.specs.HistoryRuns.{marks_along}
use Rattle.ml_history.proofs.cycle_laws.ConstantFront.{walk_marks, FrontFound, front_found, full_mark, red_above}
use Rattle.ml_history.proofs.cycle_laws.FollowedRuns.{Followed, FollowedAccepting, follow_accepting, after_times, marks_times, one_stack}

-- with a mark at or below Green z, and no red one at or below z, the lowest mark is odd
pub lowest_is_odd : (ms : List Mark) (m : Mark) (z : ℕ)
    → IsMember m ms
    → mark_le m (Green z) ≡ true
    → ((x : ℕ) → IsMember (Red x) ms → z < x)
    → is_odd (lowest_mark ms) ≡ true
lowest_is_odd ms m z member low above =
    by_mark (lowest_mark ms) (mark_le_trans (lowest_mark ms) m (Green z) (lowest_mark_le m ms member) low)
    (lowest_mark_is ms)
  where
    by_mark : (l : Mark) → mark_le l (Green z) ≡ true → (l ≡ Neutral) ⊎ IsMember l ms → is_odd l ≡ true
    by_mark (Red x) le (inl wrong) = absurd (cc)
    by_mark (Red x) le (inr i) = let high = above x i in let small = leb-true x z le in absurd (omega arith)
    by_mark (Green x) le i = refl
    by_mark Neutral le i = absurd (cc)

module _ (h : List (Item ℕ)) (w : List (List Transition)) (r : ReturnsTo h w) (cycle : AcceptingCycle h w) where
  -- the run, followed
  followed : FollowedAccepting h (repeated cycle.times w) cycle.item.stack cycle.item.state
  followed = follow_accepting h (repeated cycle.times w) cycle.item.state cycle.item.state cycle.run cycle.item
      cycle.member refl

  -- it comes back to its stack
  closed : (f : Followed h (repeated cycle.times w) cycle.item.stack cycle.item.state) → f.item.stack ≡ cycle.item.stack
  closed f =
      ap (λ (a : Item ℕ). a.stack)
      (one_stack h f.item cycle.item r.history.states_ascend
      (subst (λ g. IsMember f.item g) (after_times h w cycle.times r.returns) f.member) cycle.member f.state_is)

  -- the marks of the walk are those along the word, several times over
  walk_marks_are : (f : Followed h (repeated cycle.times w) cycle.item.stack cycle.item.state)
      → walk_marks (length (repeated cycle.times w)) cycle.item.stack f.item.stack f.walk
      ≡ repeated cycle.times (marks_along h w)
  walk_marks_are f = f.marks_are ∙ marks_times h w cycle.times r.returns

  from_front : (f : Followed h (repeated cycle.times w) cycle.item.stack cycle.item.state)
      → FrontFound (length (repeated cycle.times w)) cycle.item.stack f.item.stack f.walk
      → is_odd (lowest_mark (marks_along h w)) ≡ true
  from_front f found =
      let m = full_mark found.front (length (repeated cycle.times w)) cycle.item.stack f.item.stack f.walk found.each
      found.full in
      let on_word : IsMember m.mark (marks_along h w) =
      repeated-member m.mark cycle.times (marks_along h w)
      (subst (λ ms. IsMember m.mark ms) (walk_marks_are f) m.member) in
      lowest_is_odd (marks_along h w) m.mark m.name on_word m.low
      (λ x i. red_above found.front (length (repeated cycle.times w)) cycle.item.stack f.item.stack f.walk found.each
      m.name (ends-has m.name found.front m.ends) x
      (subst (λ ms. IsMember (Red x) ms) (sym (walk_marks_are f))
      (member-repeated (Red x) cycle.times (marks_along h w) cycle.once i)))

  pub odd_mark : is_odd (lowest_mark (marks_along h w)) ≡ true
  odd_mark =
      let f = followed in
      from_front f.followed (front_found (length (repeated cycle.times w)) cycle.item.stack f.followed.item.stack
      f.followed.walk (closed f.followed) f.accepts)

-- the second law: if some state has an accepting run to itself, the lowest mark is odd
pub run_has_odd_mark : RunHasOddMark
run_has_odd_mark = odd_mark
