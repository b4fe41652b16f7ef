-- Histories along a word, and runs to the states that have a stack in them.
--
--   behind_is            == the history behind a word is the one behind its letters
--   priorities_are       == the priorities along a word are those of the marks along its letters
--   behind-append        == behind one word after another
--   reaches              == along a word runs lead from states with a stack to exactly the states with a stack behind it
--   reaches_start        == from a start, to those that the automaton comes to
use Rattle.std.proofs.Common.{◌≡◌, ◌↔◌, ℕ, List, [], ◌∷◌, ◌++◌, map, refl, sym, ap, ◌∙◌, subst, inl, inr}
use Rattle.ml_lists.specs.Member.{IsMember}
use Rattle.ml_trace.specs.declared.letters.Transition.{Transition}
use Rattle.ml_trace.specs.Marks.{priority}
use Rattle.ml_trace.specs.Run.{Run}
use Rattle.ml_trace.specs.Stack.{Item}
use Rattle.ml_trace.specs.WordAutomata.{state_behind, priorities}
use Rattle.ml_history.specs.CycleLaws.{HasState, IsLedTo}
use Rattle.ml_history.specs.HistoryStep.{start}
use Rattle.ml_history.specs.HistoryStep.{stepped, step_mark}
use Rattle.ml_history.specs.HistoryRuns.{after, marks_along}
use Rattle.ml_history.proofs.definition.SteppedStates.{steps_follow_letters}
use Rattle.ml_determinise.specs.Histories.{histories_of, leads_in, letter_at, neutral}

module _ (states : ℕ) (row : List (List Transition)) where
  pub behind_is : (h : List (Item ℕ)) (u : List ℕ)
      → state_behind (histories_of states row) h u ≡ after h (map (letter_at row) u)
  behind_is h [] = refl
  behind_is h (l ∷ u) = behind_is (stepped h (letter_at row l)) u

  pub priorities_are : (h : List (Item ℕ)) (u : List ℕ)
      → priorities (histories_of states row) h u ≡ map (priority (neutral states)) (marks_along h (map (letter_at row) u))
  priorities_are h [] = refl
  priorities_are h (l ∷ u) =
      ap (λ ps. priority (neutral states) (step_mark h (letter_at row l)) ∷ ps)
      (priorities_are (stepped h (letter_at row l)) u)

  pub behind-append : (h : List (Item ℕ)) (u v : List ℕ)
      → state_behind (histories_of states row) h (u ++ v)
      ≡ state_behind (histories_of states row) (state_behind (histories_of states row) h u) v
  behind-append h [] v = refl
  behind-append h (l ∷ u) v = behind-append (stepped h (letter_at row l)) u v

  -- a state with a stack, and a run from it
  pub record Comes (h : List (Item ℕ)) (u : List ℕ) (p : ℕ) : Type 0 where
    pub from : ℕ
    pub has : HasState h from
    pub run : Run (leads_in row) u from p

  pub reaches : (h : List (Item ℕ)) (u : List ℕ) (p : ℕ)
      → HasState (state_behind (histories_of states row) h u) p ↔ Comes h u p
  reaches h [] p = (
    λ has. record { from = p; has = has; run = refl },
    λ comes. subst (HasState h) comes.run comes.has,
  )
  reaches h (l ∷ u) p = step (reaches (stepped h (letter_at row l)) u p)
    where
      next : List (Item ℕ)
      next = stepped h (letter_at row l)

      longer : (comes : Comes next u p) → IsLedTo h (letter_at row l) comes.from → Comes h (l ∷ u) p
      longer comes led = record {
        from = led.from;
        has = led.has_stack;
        run = (comes.from, led.accepting, led.transition, comes.run);
      }

      to : Comes next u p → Comes h (l ∷ u) p
      to comes = longer comes ((steps_follow_letters h (letter_at row l) comes.from).0 comes.has)

      back : Comes h (l ∷ u) p → Comes next u p
      back comes =
          let led : IsLedTo h (letter_at row l) comes.run.0 = record {
            from = comes.from;
            accepting = comes.run.1;
            has_stack = comes.has;
            transition = comes.run.2;
          }
          in
          record {
            from = comes.run.0;
            has = (steps_follow_letters h (letter_at row l) comes.run.0).1 led;
            run = comes.run.3;
          }

      step : HasState (state_behind (histories_of states row) next u) p ↔ Comes next u p
          → HasState (state_behind (histories_of states row) next u) p ↔ Comes h (l ∷ u) p
      step later = (λ has. to (later.0 has), λ comes. later.1 (back comes))

  pub reaches_start : (q : ℕ) (u : List ℕ) (p : ℕ)
      → HasState (state_behind (histories_of states row) (start q) u) p ↔ Run (leads_in row) u q p
  reaches_start q u p = (
    λ has. let comes = (reaches (start q) u p).0 has in
        subst (λ s. Run (leads_in row) u s p) (only comes.has) comes.run,
    λ run. (reaches (start q) u p).1 (record {
      from = q;
      has = record { item = record { state = q; stack = 0 ∷ [] }; member = inl refl; state_is = refl };
      run = run;
    }),
  )
    where
      only_item : (a : Item ℕ) (s : ℕ) → IsMember a (start q) → a.state ≡ s → s ≡ q
      only_item a s (inl same) is = sym is ∙ ap (λ (b : Item ℕ). b.state) same
      only_item a s (inr none) is = absurd none

      only : {s : ℕ} → HasState (start q) s → s ≡ q
      only {s} has = only_item has.item s has.member has.state_is
