-- A name traced back along a path of steps that satisfy the condition on names.
--
-- Let x be in use before the path, and let no mark on it stand below Green x. Then each item at the end that has x
-- comes from an item at the start that has x, by a run. If x is green twice on the way, the run accepts: between the
-- two greens the items that the run meets are advanced in x until a transition accepts, but right after the earlier
-- green none is.
--
--   greens x steps  == how many of the steps are Green x
--   FromGreen x m   == the mark m stands at or above Green x
--   Traced          == what is known of an item at the end: where it comes from, and by which run
--   trace_back      == each item at the end that has x is traced
--   traced_twice    == where x is green twice, the run accepts
use Rattle.std.proofs.Common.{ℕ, suc, ◌≡◌, ◌<◌, ◌≤◌, ◌⊎◌, inl, inr, arith, Bool, true, false, cond, List, [], ◌∷◌, refl, sym, subst, ap, ◌∙◌}
use Rattle.std.proofs.lemmas.Bool.{cases_Bool, cond-true, cond-false, leb-true, ltb-true, eqb-false}
use Rattle.ml_lists.specs.Member.{IsMember}
use Rattle.ml_trace.specs.declared.marks.Mark.{Mark}
use Rattle.ml_trace.specs.declared.marks.Mark.TheVariants.{Red, Green, Neutral}
use Rattle.ml_trace.specs.MarkOrder.{mark_le, is_green}
use Rattle.ml_trace.specs.Stack.{Item, Entry, has, ends_in, IsAdvanced}
use Rattle.ml_trace.specs.NamesCondition.{NamesCondition, Predecessor, Progress, bound}
use Rattle.ml_trace.specs.Run.{Run, AcceptingRun}
use Rattle.ml_trace.specs.LabelledLoop.{MarkedStep, IsPath, letters}
use Rattle.ml_trace.proofs.MarkOrder.{is_green_from}

-- how many of the steps are Green x
abbrev pub greens : {L : Type 0} → ℕ → List (MarkedStep L) → ℕ
greens x [] = 0
greens x (s ∷ steps) = cond (is_green x s.mark) (suc (greens x steps)) (greens x steps)

-- a mark at or above Green x, but not Green x, has a bound above x
pub bound_above : (x live : ℕ) (m : Mark)
    → mark_le (Green x) m ≡ true
    → is_green x m ≡ false
    → x < live
    → x < bound live m
bound_above x live (Red y) above other used = ltb-true x y above
bound_above x live (Green y) above other used =
    let le = leb-true x y above in
    let ne = eqb-false y x other in
    omega arith
bound_above x live Neutral above other used = used

module _ {S L : Type 0} (leads : L → S → S → Bool → Type 0) (x : ℕ) where
  -- a step with a mark at or above Green x keeps x in use
  pub step_keeps_use : (l : L) (m : Mark) (e f : Entry S)
      → NamesCondition leads l m e f
      → mark_le (Green x) m ≡ true
      → x < e.live
      → x < f.live
  step_keeps_use l m e f c above used = by_test (cases_Bool (is_green x m))
    where
      by_test : (is_green x m ≡ true) ⊎ (is_green x m ≡ false) → x < f.live
      by_test (inl green) = (c.green_in_use x (is_green_from x m green)).1
      by_test (inr other) = let b = bound_above x e.live m above other used in omega (arith, c.in_use.1)

  -- what is known of an item a at the end of the steps: the item at the start that it comes from, and either an
  -- accepting run, or a run on which x is green at most once, and the item at the start is advanced in x if it is
  pub record Traced (steps : List (MarkedStep L)) (e : Entry S) (a : Item S) : Type 0 where
    pub item : Item S
    pub member : IsMember item e.items
    pub named : has x item.stack ≡ true
    pub run : Run leads (letters steps) item.state a.state
    pub accepts : AcceptingRun leads (letters steps) item.state a.state
        ⊎ ((greens x steps ≡ 0) ⊎ ((greens x steps ≡ 1) × (ends_in x item.stack ≡ false)))

  -- one step more in front, by a predecessor of the item that was traced
  pub in_front : (s : MarkedStep L) (steps : List (MarkedStep L)) (e f : Entry S) (a : Item S) (t : Traced steps f a)
      (p : Predecessor leads s.letter e x t.item)
      → (AcceptingRun leads (letters (s ∷ steps)) p.item.state a.state
      ⊎ ((greens x (s ∷ steps) ≡ 0) ⊎ ((greens x (s ∷ steps) ≡ 1) × (ends_in x p.item.stack ≡ false))))
      → Traced (s ∷ steps) e a
  in_front s steps e f a t p accepts = record {
    item = p.item;
    member = p.member;
    named = p.named;
    run = (t.item.state, p.accepting, p.transition, t.run);
    accepts = accepts;
  }

  -- a run that begins with the transition of a predecessor, and accepts there
  accepting_first : (s : MarkedStep L) (steps : List (MarkedStep L)) (e f : Entry S) (a : Item S) (t : Traced steps f a)
      (p : Predecessor leads s.letter e x t.item)
      → p.accepting ≡ true → AcceptingRun leads (letters (s ∷ steps)) p.item.state a.state
  accepting_first s steps e f a t p yes_ = inl (t.item.state, subst (λ b. leads s.letter p.item.state t.item.state b) yes_ p.transition, t.run)

  -- a step that is Green x, in front of a path
  green_step : (s : MarkedStep L) (steps : List (MarkedStep L)) (e f : Entry S) (a : Item S)
      → NamesCondition leads s.letter s.mark e f
      → is_green x s.mark ≡ true
      → Traced steps f a
      → Traced (s ∷ steps) e a
  green_step s steps e f a c green t = by_known (c.green_traced x mark_is t.item t.member t.named) t.accepts
    where
      mark_is : s.mark ≡ Green x
      mark_is = is_green_from x s.mark green

      one_more : greens x (s ∷ steps) ≡ suc (greens x steps)
      one_more = cond-true (is_green x s.mark) (suc (greens x steps)) (greens x steps) green

      by_progress : (g : Progress leads s.letter e x t.item)
          → greens x steps ≡ 0
          → IsAdvanced x g.before.item.stack ⊎ (g.before.accepting ≡ true)
          → Traced (s ∷ steps) e a
      by_progress g none (inl advanced) = in_front s steps e f a t g.before (inr (inr (one_more ∙ ap suc none, advanced.1)))
      by_progress g none (inr accepting) = in_front s steps e f a t g.before (inl (accepting_first s steps e f a t g.before accepting))

      by_known : Progress leads s.letter e x t.item
          → AcceptingRun leads (letters steps) t.item.state a.state
          ⊎ ((greens x steps ≡ 0) ⊎ ((greens x steps ≡ 1) × (ends_in x t.item.stack ≡ false)))
          → Traced (s ∷ steps) e a
      by_known g (inl run) = in_front s steps e f a t g.before (inl (inr (t.item.state, g.before.accepting, g.before.transition, run)))
      by_known g (inr (inl none)) = by_progress g none g.progress
      by_known g (inr (inr once)) = absurd (c.green_reset x mark_is t.item t.member (t.named, once.1))

  -- another step with a mark above Green x, in front of a path
  other_step : (s : MarkedStep L) (steps : List (MarkedStep L)) (e f : Entry S) (a : Item S)
      → NamesCondition leads s.letter s.mark e f
      → is_green x s.mark ≡ false
      → x < bound e.live s.mark
      → Traced steps f a
      → Traced (s ∷ steps) e a
  other_step s steps e f a c other below t = by_known t.accepts
    where
      same_count : greens x (s ∷ steps) ≡ greens x steps
      same_count = cond-false (is_green x s.mark) (suc (greens x steps)) (greens x steps) other

      by_progress : (g : Progress leads s.letter e x t.item)
          → greens x steps ≡ 1
          → IsAdvanced x g.before.item.stack ⊎ (g.before.accepting ≡ true)
          → Traced (s ∷ steps) e a
      by_progress g once (inl advanced) = in_front s steps e f a t g.before (inr (inr (same_count ∙ once, advanced.1)))
      by_progress g once (inr accepting) = in_front s steps e f a t g.before (inl (accepting_first s steps e f a t g.before accepting))

      by_known : AcceptingRun leads (letters steps) t.item.state a.state
          ⊎ ((greens x steps ≡ 0) ⊎ ((greens x steps ≡ 1) × (ends_in x t.item.stack ≡ false)))
          → Traced (s ∷ steps) e a
      by_known (inl run) =
          let p = c.traced x below t.item t.member t.named in
          in_front s steps e f a t p (inl (inr (t.item.state, p.accepting, p.transition, run)))
      by_known (inr (inl none)) = in_front s steps e f a t (c.traced x below t.item t.member t.named) (inr (inl (same_count ∙ none)))
      by_known (inr (inr once)) =
          let g = c.advanced x below t.item t.member (t.named, once.1) in
          by_progress g once.0 g.progress

  -- a step with a mark at or above Green x, in front of a path
  any_step : (s : MarkedStep L) (steps : List (MarkedStep L)) (e f : Entry S) (a : Item S)
      → NamesCondition leads s.letter s.mark e f
      → mark_le (Green x) s.mark ≡ true
      → x < e.live
      → Traced steps f a
      → Traced (s ∷ steps) e a
  any_step s steps e f a c above used t = by_test (cases_Bool (is_green x s.mark))
    where
      by_test : (is_green x s.mark ≡ true) ⊎ (is_green x s.mark ≡ false) → Traced (s ∷ steps) e a
      by_test (inl green) = green_step s steps e f a c green t
      by_test (inr other) = other_step s steps e f a c other (bound_above x e.live s.mark above other used) t

  -- along steps with marks at or above Green x, each item at the end that has x is traced back to the start
  pub trace_back : (steps : List (MarkedStep L)) (e f : Entry S)
      → IsPath leads steps e f
      → ((s : MarkedStep L) → IsMember s steps → mark_le (Green x) s.mark ≡ true)
      → x < e.live
      → (a : Item S)
      → IsMember a f.items
      → has x a.stack ≡ true
      → Traced steps e a
  trace_back [] e f same above used a member named = record {
    item = a;
    member = subst (λ (g : Entry S). IsMember a g.items) (sym same) member;
    named = named;
    run = refl;
    accepts = inr (inl refl);
  }
  trace_back (s ∷ steps) e f path above used a member named =
      let here : mark_le (Green x) s.mark ≡ true = above s (inl refl) in
      any_step s steps e path.0 a path.1 here used
      (trace_back steps path.0 f path.2 (λ r i. above r (inr i)) (step_keeps_use s.letter s.mark e path.0 path.1 here used) a member named)

  -- where x is green twice or more, the run accepts
  pub traced_twice : (steps : List (MarkedStep L)) (e : Entry S) (a : Item S)
      → 2 ≤ greens x steps
      → (t : Traced steps e a)
      → AcceptingRun leads (letters steps) t.item.state a.state
  traced_twice steps e a twice t = by_known t.accepts
    where
      by_known : AcceptingRun leads (letters steps) t.item.state a.state
          ⊎ ((greens x steps ≡ 0) ⊎ ((greens x steps ≡ 1) × (ends_in x t.item.stack ≡ false)))
          → AcceptingRun leads (letters steps) t.item.state a.state
      by_known (inl run) = run
      by_known (inr (inl none)) = absurd (omega arith)
      by_known (inr (inr once)) = absurd (omega (arith, once.0))
