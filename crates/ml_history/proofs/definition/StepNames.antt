-- One step of a history satisfies the condition on names.
--
--   source_has     == a name in use that stands in a taken stack stands in the stack of its source
--   from_source    == so the source is a predecessor in this name
--   with_progress  == if the name isn't the last of the taken stack, the source is advanced in it, or the transition accepts
--   step_names     == the condition holds, of the step from a history along a letter with its mark
use Rattle.std.proofs.Common.{ℕ, ◌≡◌, ◌<◌, ◌≤◌, ◌⊎◌, inl, inr, arith, true, false, List, refl, sym, subst, ◌∙◌}
use Rattle.std.proofs.lemmas.Bool.{cases_Bool, cases_lt}
use Rattle.ml_lists.specs.Member.{IsMember}
use Rattle.ml_trace.specs.declared.letters.Transition.{Transition}
use Rattle.ml_trace.specs.declared.marks.Mark.TheVariants.{Green}
use Rattle.ml_trace.specs.NamesCondition.{NamesCondition, Predecessor, Progress, bound}
use Rattle.ml_trace.specs.Run.{in_letter}
use Rattle.ml_trace.specs.Stack.{Item, has, ends_in, IsAdvanced}
use Rattle.ml_history.specs.CycleLaws.{entry}
use Rattle.ml_history.specs.History.{IsHistory}
use Rattle.ml_history.specs.HistoryStep.{live, taken_along, is_full, stepped, step_mark}
use Rattle.ml_history.proofs.definition.CutStacks.{through-has, through-keeps_end, through-advanced}
use Rattle.ml_history.proofs.definition.NamesInUse.{live-has}
use Rattle.ml_history.proofs.definition.Offers.{Offer}
use Rattle.ml_history.proofs.definition.OfferedStacks.{offered-old, offered-plain, offered-ascends}
use Rattle.ml_history.proofs.definition.OneStep.{Kept, behind, behind_name, behind_end, taken_from, full_ends_none, below_bound, bound_in_use, green_kept, stands_behind}
use Rattle.ml_lists.specs.Ascending.{IsAscending}

-- an item that was taken has a stack that ascends
pub taken_ascends : (h : List (Item ℕ)) (letter : List Transition) (b : Item ℕ)
    → IsHistory h
    → IsMember b (taken_along h letter)
    → IsAscending b.stack
taken_ascends h letter b history m =
    let o = taken_from h letter b m in
    subst IsAscending (sym o.stack_is) (offered-ascends (live h) o.accepting o.source.stack
    (history.stacks_ascend o.source o.member) (λ y n. live-has h y o.source o.member n))

module _ (h : List (Item ℕ)) (letter : List Transition) (a b : Item ℕ) (state_is : a.state ≡ b.state)
    (o : Offer h letter b) (y : ℕ) (used : y < live h) where
  -- a name in use that stands in an offered stack stands in the stack of its source
  source_has : has y b.stack ≡ true → has y o.source.stack ≡ true
  source_has n = offered-old (live h) o.accepting o.source.stack y used (subst (λ s. has y s ≡ true) o.stack_is n)

  -- so the source is a predecessor in this name
  pub from_source : has y b.stack ≡ true → Predecessor in_letter letter (entry h) y a
  from_source n = record {
    item = o.source;
    accepting = o.accepting;
    member = o.member;
    named = source_has n;
    transition = subst (λ q. in_letter letter o.source.state q o.accepting) (sym state_is) o.transition;
  }

  -- if the name isn't the last of the offered stack, the source is advanced in it, or the transition accepts
  pub with_progress : has y b.stack ≡ true → ends_in y b.stack ≡ false → Progress in_letter letter (entry h) y a
  unfolding from_source
  with_progress n not_last = by_test (cases_Bool o.accepting)
    where
      by_test : (o.accepting ≡ true) ⊎ (o.accepting ≡ false) → Progress in_letter letter (entry h) y a
      by_test (inl accepts) = record { before = from_source n; progress = inr accepts }
      by_test (inr plain) =
          let stack_is : b.stack ≡ o.source.stack = o.stack_is
          ∙ offered-plain (live h) o.accepting o.source.stack plain in
          record {
            before = from_source n;
            progress = inl (source_has n, subst (λ s. ends_in y s ≡ false) stack_is not_last);
          }

module _ (h : List (Item ℕ)) (letter : List Transition) (history : IsHistory h) where
  -- a kept name in use is traced back
  traced_back : (y : ℕ)
      → y < live h
      → Kept (taken_along h letter) y
      → (a : Item ℕ)
      → IsMember a (stepped h letter)
      → has y a.stack ≡ true
      → Predecessor in_letter letter (entry h) y a
  traced_back y used kept a m n =
      let b = behind (taken_along h letter) a m in
      let inside = behind_name (taken_along h letter) a b y kept n in
      from_source h letter a b.item b.state_is (taken_from h letter b.item b.member) y used
      (through-has (is_full (taken_along h letter)) y b.item.stack inside)

  -- where the item is advanced in it, with progress
  traced_advanced : (y : ℕ)
      → y < live h
      → Kept (taken_along h letter) y
      → (a : Item ℕ)
      → IsMember a (stepped h letter)
      → IsAdvanced y a.stack
      → Progress in_letter letter (entry h) y a
  traced_advanced y used kept a m advanced =
      let b = behind (taken_along h letter) a m in
      let inside = behind_name (taken_along h letter) a b y kept advanced.0 in
      let not_last = behind_end (taken_along h letter) a b y kept advanced.1 in
      with_progress h letter a b.item b.state_is (taken_from h letter b.item b.member) y used
      (through-has (is_full (taken_along h letter)) y b.item.stack inside)
      (through-advanced (is_full (taken_along h letter)) y b.item.stack (taken_ascends h letter b.item history b.member)
      inside not_last)

  -- a green name is traced back with progress
  traced_green : (x : ℕ)
      → step_mark h letter ≡ Green x
      → (a : Item ℕ)
      → IsMember a (stepped h letter)
      → has x a.stack ≡ true
      → Progress in_letter letter (entry h) x a
  traced_green x e a m n =
      let g = green_kept h letter x e in
      let b = behind (taken_along h letter) a m in
      let inside = behind_name (taken_along h letter) a b x g.kept n in
      with_progress h letter a b.item b.state_is (taken_from h letter b.item b.member) x g.in_use
      (through-has (is_full (taken_along h letter)) x b.item.stack inside)
      (full_ends_none (taken_along h letter) x b.item g.full b.member)

  -- and is the last name of each stack behind the step that has it
  reset : (x : ℕ)
      → step_mark h letter ≡ Green x
      → (a : Item ℕ)
      → IsMember a (stepped h letter)
      → IsAdvanced x a.stack
      → ⊥
  reset x e a m advanced =
      let g = green_kept h letter x e in
      let b = behind (taken_along h letter) a m in
      let inside = behind_name (taken_along h letter) a b x g.kept advanced.0 in
      let not_last = behind_end (taken_along h letter) a b x g.kept advanced.1 in
      let last = through-keeps_end (is_full (taken_along h letter)) x b.item.stack inside g.full in
      cc

  -- the bound is at most the number of names in use behind the step
  bound_behind : (n : ℕ) → n ≡ bound (live h) (step_mark h letter) → n ≤ live (stepped h letter)
  bound_behind n e = by_case (cases_lt (live (stepped h letter)) n)
    where
      by_case : (live (stepped h letter) < n) ⊎ (n ≤ live (stepped h letter)) → n ≤ live (stepped h letter)
      by_case (inl short) =
          let low : live (stepped h letter) < bound (live h) (step_mark h letter) = omega arith in
          absurd (omega (
            arith,
            stands_behind (taken_along h letter) (live (stepped h letter))
                (below_bound h letter (live (stepped h letter)) low),
          ))
      by_case (inr fits) = fits

  -- the condition on names holds, of the step from a history along a letter with its mark
  pub step_names : NamesCondition in_letter letter (step_mark h letter) (entry h) (entry (stepped h letter))
  step_names =
      let fits : bound (live h) (step_mark h letter) ≤ live h = bound_in_use h letter (step_mark h letter) refl in
      record {
        in_use = (fits, bound_behind (bound (live h) (step_mark h letter)) refl);
        green_in_use = λ x e. (
          (green_kept h letter x e).in_use,
          stands_behind (taken_along h letter) x (green_kept h letter x e).kept,
        );
        traced = λ y low a m n. traced_back y (omega arith) (below_bound h letter y low) a m n;
        advanced = λ y low a m v. traced_advanced y (omega arith) (below_bound h letter y low) a m v;
        green_traced = traced_green;
        green_reset = reset;
      }
