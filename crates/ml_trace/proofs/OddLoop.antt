-- The theorem on loops of marked steps, for any automaton.
--
-- The lowest mark of the loop is Green x. Then x is in use all along the loop, and the loop gone twice has two steps
-- that are Green x: each item that has x comes, along the loop twice, from an item that has x, by an accepting run.
-- Items that have x where the loop begins are finitely many, and there is one, since each name in use stands in some
-- item there: so some comes from itself.
--
--   path-append    == a path and a further one
--   greens-append  == the greens of both
--   green_counts   == a path with the mark Green x has a green step at least
--   in_use_after   == behind a step Green x, x is in use
--   odd_loop       == the theorem
use Rattle.std.proofs.Common.{ℕ, suc, ◌≡◌, ◌+◌, ◌<◌, ◌≤◌, ◌⊎◌, inl, inr, arith, Bool, true, false, List, [], ◌∷◌, ◌++◌, refl, sym, subst, ◌∙◌}
use Rattle.std.proofs.lemmas.Bool.{cases_Bool, cond-true, cond-false}
use Rattle.std.proofs.lemmas.List.{map-append}
use Rattle.std.specs.List.{filter}
use Rattle.ml_lists.specs.Member.{IsMember}
use Rattle.ml_lists.specs.Repeated.{repeated}
use Rattle.ml_lists.proofs.Member.{member-map, member-map_from, member-append, member-filter, member-filter_from}
use Rattle.ml_lists.proofs.Repeated.{repeated-add, repeated-two}
use Rattle.ml_lists.proofs.Predecessors.{Before, Loop, has_loop}
use Rattle.ml_trace.specs.declared.marks.Mark.TheVariants.{Green, Neutral}
use Rattle.ml_trace.specs.MarkOrder.{mark_le, is_green, is_odd, lowest_mark}
use Rattle.ml_trace.specs.Stack.{Item, Entry, has}
use Rattle.ml_trace.specs.Run.{AcceptingRun}
use Rattle.ml_trace.specs.LabelledLoop.{MarkedStep, IsPath, letters, marks, CyclicRun}
use Rattle.ml_trace.specs.NamesCondition.{EachNameStands}
use Rattle.ml_trace.proofs.MarkOrder.{lowest_mark_le, lowest_mark_is, odd-is_green, is_green-refl}
use Rattle.ml_trace.proofs.Runs.{accepting-append, accepting-is_run}
use Rattle.ml_trace.proofs.TraceBack.{greens, trace_back, traced_twice, step_keeps_use}

-- the greens of a list of steps and a further one
pub greens-append : {L : Type 0} → (x : ℕ) (u v : List (MarkedStep L)) → greens x (u ++ v) ≡ greens x u + greens x v
greens-append x [] v = omega arith
greens-append x (s ∷ u) v = by_test (greens-append x u v) (cases_Bool (is_green x s.mark))
  where
    by_test : greens x (u ++ v) ≡ greens x u + greens x v
        → (is_green x s.mark ≡ true) ⊎ (is_green x s.mark ≡ false)
        → greens x ((s ∷ u) ++ v) ≡ greens x (s ∷ u) + greens x v
    by_test old (inl t) =
        let here = cond-true (is_green x s.mark) (suc (greens x u)) (greens x u) t in
        let all = cond-true (is_green x s.mark) (suc (greens x (u ++ v))) (greens x (u ++ v)) t in
        omega (arith, old, here, all)
    by_test old (inr f) =
        let here = cond-false (is_green x s.mark) (suc (greens x u)) (greens x u) f in
        let all = cond-false (is_green x s.mark) (suc (greens x (u ++ v))) (greens x (u ++ v)) f in
        omega (arith, old, here, all)

-- a list of steps of which one is Green x has a green step at least
pub green_counts : {L : Type 0}
    → (x : ℕ) (s : MarkedStep L) (steps : List (MarkedStep L))
    → IsMember s steps
    → is_green x s.mark ≡ true
    → 1 ≤ greens x steps
green_counts x s [] i g = absurd i
green_counts {L} x s (r ∷ rs) (inl same) g =
    let here = cond-true (is_green x r.mark) (suc (greens x rs)) (greens x rs) (subst (λ (v : MarkedStep L). is_green x v.mark ≡ true) same g) in
    omega (arith, here)
green_counts x s (r ∷ rs) (inr later) g = by_test (green_counts x s rs later g) (cases_Bool (is_green x r.mark))
  where
    by_test : 1 ≤ greens x rs → (is_green x r.mark ≡ true) ⊎ (is_green x r.mark ≡ false) → 1 ≤ greens x (r ∷ rs)
    by_test old (inl t) = omega (arith, cond-true (is_green x r.mark) (suc (greens x rs)) (greens x rs) t)
    by_test old (inr f) = omega (arith, old, cond-false (is_green x r.mark) (suc (greens x rs)) (greens x rs) f)

module _ {S L : Type 0} (leads : L → S → S → Bool → Type 0) where
  -- a path and a further one
  pub path-append : (u v : List (MarkedStep L)) (e f g : Entry S)
      → IsPath leads u e f
      → IsPath leads v f g
      → IsPath leads (u ++ v) e g
  path-append [] v e f g same path = subst (λ d. IsPath leads v d g) (sym same) path
  path-append (s ∷ u) v e f g first path = (first.0, first.1, path-append u v first.0 f g first.2 path)

  -- along marks at or above Green x, x stays in use
  pub keeps_use : (x : ℕ) (steps : List (MarkedStep L)) (e f : Entry S)
      → IsPath leads steps e f
      → ((s : MarkedStep L) → IsMember s steps → mark_le (Green x) s.mark ≡ true)
      → x < e.live
      → x < f.live
  keeps_use x [] e f same above used = subst (λ (d : Entry S). x < d.live) same used
  keeps_use x (s ∷ steps) e f path above used =
      keeps_use x steps path.0 f path.2 (λ r i. above r (inr i)) (step_keeps_use leads x s.letter s.mark e path.0 path.1 (above s (inl refl)) used)

  -- behind a step that is Green x, x is in use, if no mark stands below Green x
  pub in_use_after : (x : ℕ) (s : MarkedStep L) (steps : List (MarkedStep L)) (e f : Entry S)
      → IsPath leads steps e f
      → ((r : MarkedStep L) → IsMember r steps → mark_le (Green x) r.mark ≡ true)
      → IsMember s steps
      → s.mark ≡ Green x
      → x < f.live
  in_use_after x s [] e f path above i green = absurd i
  in_use_after x s (r ∷ rs) e f path above (inl same) green =
      let here : r.mark ≡ Green x = subst (λ (v : MarkedStep L). v.mark ≡ Green x) same green in
      keeps_use x rs path.0 f path.2 (λ v i. above v (inr i)) (path.1.green_in_use x here).1
  in_use_after x s (r ∷ rs) e f path above (inr later) green = in_use_after x s rs path.0 f path.2 (λ v i. above v (inr i)) later green

  -- an accepting run from the state of a to that of b along the word, one or more times over
  pub record RoundTrip (w : List L) (a b : Item S) : Type 0 where
    pub times : ℕ
    pub once : 1 ≤ times
    pub run : AcceptingRun leads (repeated times w) a.state b.state

  -- one behind the other
  round_trips : (w : List L) (a b c : Item S) → RoundTrip w a b → RoundTrip w b c → RoundTrip w a c
  round_trips w a b c first second = record {
    times = first.times + second.times;
    once = omega (arith, first.once);
    run = subst (λ v. AcceptingRun leads v a.state c.state) (repeated-add first.times second.times w)
        (accepting-append leads (repeated first.times w) (repeated second.times w) a.state b.state c.state first.run
        (accepting-is_run leads (repeated second.times w) b.state c.state second.run));
  }

  module _ (steps : List (MarkedStep L)) (e : Entry S) (loop : IsPath leads steps e e) (stands : EachNameStands e)
      (x : ℕ) (s : MarkedStep L) (member : IsMember s steps) (green : s.mark ≡ Green x)
      (above : (r : MarkedStep L) → IsMember r steps → mark_le (Green x) r.mark ≡ true) where
    -- x is in use
    used : x < e.live
    used = in_use_after x s steps e e loop above member green

    -- the loop twice
    above_twice : (r : MarkedStep L) → IsMember r (steps ++ steps) → mark_le (Green x) r.mark ≡ true
    above_twice r i = by_part (member-append r steps steps i)
      where
        by_part : IsMember r steps ⊎ IsMember r steps → mark_le (Green x) r.mark ≡ true
        by_part (inl first) = above r first
        by_part (inr second) = above r second

    two_greens : 2 ≤ greens x (steps ++ steps)
    two_greens =
        let one = green_counts x s steps member (subst (λ m. is_green x m ≡ true) (sym green) (is_green-refl x)) in
        omega (arith, one, greens-append x steps steps)

    -- the items that have x
    with_name : List (Item S)
    with_name = filter (λ (a : Item S). has x a.stack) e.items

    letters_twice : letters (steps ++ steps) ≡ repeated 2 (letters steps)
    letters_twice = map-append (λ (r : MarkedStep L). r.letter) steps steps ∙ repeated-two (letters steps)

    -- each item that has x comes from one that has x
    comes_from : (a : Item S) → IsMember a with_name → Before (RoundTrip (letters steps)) with_name a
    unfolding with_name
    comes_from a i =
        let inside = member-filter_from (λ (b : Item S). has x b.stack) a e.items i in
        let t = trace_back leads x (steps ++ steps) e e (path-append steps steps e e e loop loop) above_twice used a inside.0 inside.1 in
        let run : AcceptingRun leads (letters (steps ++ steps)) t.item.state a.state = traced_twice leads x (steps ++ steps) e a two_greens t in
        record {
          from = t.item;
          member = member-filter (λ (b : Item S). has x b.stack) t.item e.items t.member t.named;
          holds = record {
            times = 2;
            once = omega arith;
            run = subst (λ v. AcceptingRun leads v t.item.state a.state) letters_twice run;
          };
        }

    -- so some item comes from itself
    from_itself : Loop (RoundTrip (letters steps)) with_name
    unfolding with_name
    from_itself =
        let some = stands x used in
        has_loop (RoundTrip (letters steps)) (round_trips (letters steps)) with_name some.0
        (member-filter (λ (b : Item S). has x b.stack) some.0 e.items some.1 some.2) comes_from

    pub green_loop : CyclicRun leads e (letters steps)
    unfolding with_name
    green_loop =
        let l = from_itself in
        record {
          item = l.at;
          member = (member-filter_from (λ (b : Item S). has x b.stack) l.at e.items l.member).0;
          times = l.holds.times;
          once = l.holds.once;
          run = l.holds.run;
        }

  -- On a loop of steps that satisfy the condition on names, whose lowest mark is odd, some item has an accepting run
  -- to its own state.
  pub odd_loop : (steps : List (MarkedStep L)) (e : Entry S)
      → IsPath leads steps e e
      → EachNameStands e
      → is_odd (lowest_mark (marks steps)) ≡ true
      → CyclicRun leads e (letters steps)
  odd_loop steps e loop stands odd = by_lowest (lowest_mark_is (marks steps))
    where
      green : (x : ℕ) × (lowest_mark (marks steps) ≡ Green x)
      green = odd-is_green (lowest_mark (marks steps)) odd

      above : (r : MarkedStep L) → IsMember r steps → mark_le (Green green.0) r.mark ≡ true
      above r i =
          subst (λ m. mark_le m r.mark ≡ true) green.1
          (lowest_mark_le r.mark (marks steps) (member-map (λ (v : MarkedStep L). v.mark) r steps i))

      by_lowest : (lowest_mark (marks steps) ≡ Neutral) ⊎ IsMember (lowest_mark (marks steps)) (marks steps)
          → CyclicRun leads e (letters steps)
      by_lowest (inl none) = let wrong = subst (λ m. is_odd m ≡ true) none odd in absurd (cc)
      by_lowest (inr i) =
          let s = member-map_from (λ (v : MarkedStep L). v.mark) (lowest_mark (marks steps)) steps i in
          green_loop steps e loop stands green.0 s.from s.member (sym s.holds ∙ green.1) above
