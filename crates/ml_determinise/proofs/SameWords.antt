-- The deterministic automaton of histories accepts the words that the Büchi automaton accepts.
--
--   to_automaton    == from a loop of histories with an odd lowest priority to an accepting run
--   to_histories    == from an accepting run to such a loop: two of the histories behind its rounds are the same
--   same_words      == both
use Rattle.std.proofs.Common.{◌≡◌, ◌≢◌, ◌↔◌, ℕ, zero, suc, ◌+◌, ◌*◌, ◌-◌, ◌%◌, ◌<◌, ◌≤◌, true, List, [], ◌∷◌, ◌++◌, length, map, drop, refl, sym, ap, ◌∙◌, subst, arith, append_assoc}
use Rattle.ml_lists.specs.Lowest.{lowest}
use Rattle.ml_lists.specs.Member.{IsMember}
use Rattle.ml_lists.specs.Repeated.{repeated}
use Rattle.ml_lists.proofs.Repeated.{repeated-add, repeated-one}
use Rattle.ml_trace.specs.declared.letters.Transition.{Transition}
use Rattle.ml_trace.specs.declared.marks.Mark.{Mark}
use Rattle.ml_trace.specs.Marks.{priority}
use Rattle.ml_trace.specs.MarkOrder.{FitsBelow, is_odd, lowest_mark}
use Rattle.ml_trace.specs.Run.{AcceptingRun, Run, in_letter}
use Rattle.ml_trace.specs.Stack.{Item}
use Rattle.ml_trace.specs.WordAutomata.{IsAcceptedFrom, IsDetAcceptedFrom, IsLowest, IsWordLasso, WordLasso, priorities, state_behind, stem, turn}
use Rattle.ml_trace.proofs.Priorities.{priorities_agree}
use Rattle.ml_trace.proofs.Runs.{accepting-is_run, run-append}
use Rattle.ml_history.specs.CycleLaws.{AcceptingCycle, HasState, ReturnsTo}
use Rattle.ml_history.specs.HistoryStep.{start}
use Rattle.ml_history.specs.HistoryRuns.{after, marks_along}
use Rattle.ml_history.proofs.cycle_laws.FirstLaw.{odd_mark_has_run}
use Rattle.ml_history.proofs.cycle_laws.SecondLaw.{run_has_odd_mark}
use Rattle.ml_determinise.specs.Histories.{SameWords, StaysBelow, histories_of, leads_in, letter_at, neutral}
use Rattle.ml_determinise.proofs.Words.{accepting-mapped, accepting-times, lowest_is, map-repeated, mapped-accepting, one_lowest, repeated-repeated, repeated-some, run-times}
use Rattle.ml_determinise.proofs.HistoryRuns.{behind-append, behind_is, priorities_are, reaches_start}
use Rattle.ml_determinise.proofs.FiniteHistories.{Small, TwoSame, marks_fit, small_behind, start_small, two_same}

-- a loop has a letter
turn_some : (w : WordLasso ℕ) → IsWordLasso w → turn w ≢ []
turn_some w is = from w.loop_start w.word is
  where
    from : (k : ℕ) (xs : List ℕ) → k < length xs → drop k xs ≢ []
    from k [] low = absurd (omega (arith, low))
    from zero (x ∷ xs) low = λ e. absurd (cc)
    from (suc k) (x ∷ xs) low = from k xs (omega (arith, low))

-- a word that isn't empty has marks, and the lowest number among them is odd exactly if the lowest mark is
odd_marks : (top n : ℕ) (ms : List Mark) → ms ≢ [] → top % 2 ≡ 0 → ((m : Mark) → IsMember m ms → FitsBelow top m)
    → IsLowest n (map (priority top) ms)
    → (n % 2 ≡ 1) ↔ (is_odd (lowest_mark ms) ≡ true)
odd_marks top n [] some even fits low = absurd (some refl)
odd_marks top n (m ∷ ms) some even fits low =
    subst (λ k. (k % 2 ≡ 1) ↔ (is_odd (lowest_mark (m ∷ ms)) ≡ true))
    (one_lowest (lowest (priority top m) (map (priority top) ms)) n (map (priority top) (m ∷ ms))
    (lowest_is (priority top m) (map (priority top) ms)) low)
    (priorities_agree top m ms even fits)

product_some : (j k : ℕ) → 1 ≤ j → 1 ≤ k → 1 ≤ j * k
product_some zero k j_some k_some = absurd (omega (arith, j_some))
product_some (suc j) k j_some k_some = omega (arith, k_some)

-- marks that are some have a lowest number
some_lowest : (top : ℕ) (ms : List Mark) → ms ≢ [] → (n : ℕ) × IsLowest n (map (priority top) ms)
some_lowest top [] some = absurd (some refl)
some_lowest top (m ∷ ms) some = (_, lowest_is (priority top m) (map (priority top) ms))

marks_some : (h : List (Item ℕ)) (w : List (List Transition)) → w ≢ [] → marks_along h w ≢ []
marks_some h [] some = absurd (some refl)
marks_some h (l ∷ w) some = λ e. absurd (cc)

map_some : {X Y : Type 0} → (f : X → Y) (xs : List X) → xs ≢ [] → map f xs ≢ []
map_some f [] some = absurd (some refl)
map_some f (x ∷ xs) some = λ e. absurd (cc)

module _ (states : ℕ) (row : List (List Transition)) (q : ℕ) (w : WordLasso ℕ) (stays : StaysBelow states row)
    (low : q < states) (is_word : IsWordLasso w) where
  abbrev behind : List (Item ℕ) → List ℕ → List (Item ℕ)
  behind h u = state_behind (histories_of states row) h u

  abbrev letters : List ℕ → List (List Transition)
  letters u = map (letter_at row) u

  abbrev turns : ℕ → List ℕ
  turns k = repeated k (turn w)

  even : neutral states % 2 ≡ 0
  even = omega arith

  small_at : (u : List ℕ) → Small states (behind (start q) u)
  small_at u = subst (Small states) (sym (behind_is states row (start q) u))
      (small_behind states row stays (start q) u (start_small states q low))

  rounds_some : (k : ℕ) → 1 ≤ k → letters (turns k) ≢ []
  rounds_some k once = map_some (letter_at row) (turns k) (repeated-some k (turn w) once (turn_some w is_word))

  -- the lowest number on a loop is odd exactly if the lowest mark is
  odd_loop : (h : List (Item ℕ)) (k n : ℕ) → Small states h → 1 ≤ k
      → IsLowest n (priorities (histories_of states row) h (turns k))
      → (n % 2 ≡ 1) ↔ (is_odd (lowest_mark (marks_along h (letters (turns k)))) ≡ true)
  odd_loop h k n small once lowest_n =
      odd_marks (neutral states) n (marks_along h (letters (turns k)))
      (marks_some h (letters (turns k)) (rounds_some k once)) even (marks_fit states row stays h (turns k) small)
      (subst (IsLowest n) (priorities_are states row h (turns k)) lowest_n)

  to_automaton : IsDetAcceptedFrom (histories_of states row) (start q) w → IsAcceptedFrom (leads_in row) q w
  to_automaton d = from (odd_mark_has_run h (letters (turns d.rounds)) loop odd)
    where
      h : List (Item ℕ)
      h = behind (start q) (stem w ++ turns d.turns)

      small : Small states h
      small = small_at (stem w ++ turns d.turns)

      back : after h (letters (turns d.rounds)) ≡ h
      back =
          subst (λ k. after k (letters (turns d.rounds)) ≡ k) (sym d.comes)
          (sym (behind_is states row d.state (turns d.rounds)) ∙ d.returns)

      loop : ReturnsTo h (letters (turns d.rounds))
      loop = record { history = small.history; not_empty = rounds_some d.rounds d.once; returns = back }

      odd : is_odd (lowest_mark (marks_along h (letters (turns d.rounds)))) ≡ true
      odd =
          (odd_loop h d.rounds d.lowest small d.once
          (subst (λ k. IsLowest d.lowest (priorities (histories_of states row) k (turns d.rounds))) (sym d.comes) d.is_lowest)).0
          d.is_odd

      from : AcceptingCycle h (letters (turns d.rounds)) → IsAcceptedFrom (leads_in row) q w
      from c =
          let count : repeated c.times (letters (turns d.rounds)) ≡ letters (turns (c.times * d.rounds)) =
          sym (map-repeated (letter_at row) c.times (turns d.rounds))
          ∙ ap letters (repeated-repeated c.times d.rounds (turn w)) in
          let once : 1 ≤ c.times * d.rounds = product_some c.times d.rounds c.once d.once in
          record {
            turns = d.turns;
            state = c.item.state;
            comes =
                (reaches_start states row q (stem w ++ turns d.turns) c.item.state).0
                (record { item = c.item; member = c.member; state_is = refl });
            rounds = c.times * d.rounds;
            once = once;
            returns =
                accepting-mapped in_letter (letter_at row) (turns (c.times * d.rounds)) c.item.state c.item.state
                (subst (λ u. AcceptingRun in_letter u c.item.state c.item.state) count c.run);
          }

  to_histories : IsAcceptedFrom (leads_in row) q w → IsDetAcceptedFrom (histories_of states row) (start q) w
  to_histories a = from (two_same states histories (λ k. small_at (word k)))
    where
      word : ℕ → List ℕ
      word k = stem w ++ turns (a.turns + k * a.rounds)

      histories : ℕ → List (Item ℕ)
      histories k = behind (start q) (word k)

      -- so many turns more
      further : (k j : ℕ) → behind (histories k) (turns (j * a.rounds)) ≡ histories (k + j)
      further k j =
          let count : a.turns + k * a.rounds + j * a.rounds ≡ a.turns + (k + j) * a.rounds = omega arith in
          sym (behind-append states row (start q) (word k) (turns (j * a.rounds)))
          ∙ ap (behind (start q)) (append_assoc (stem w) (turns (a.turns + k * a.rounds)) (turns (j * a.rounds)))
          ∙ ap (λ u. behind (start q) (stem w ++ u)) (repeated-add (a.turns + k * a.rounds) (j * a.rounds) (turn w))
          ∙ ap (λ n. behind (start q) (stem w ++ turns n)) count

      comes : (k : ℕ) → Run (leads_in row) (word k) q a.state
      comes k =
          let more = run-times (leads_in row) k (turns a.rounds) a.state
          (accepting-is_run (leads_in row) (turns a.rounds) a.state a.state a.returns) in
          let rounds = subst (λ u. Run (leads_in row) u a.state a.state) (repeated-repeated k a.rounds (turn w)) more in
          subst (λ u. Run (leads_in row) u q a.state)
          (append_assoc (stem w) (turns a.turns) (turns (k * a.rounds))
          ∙ ap (λ u. stem w ++ u) (repeated-add a.turns (k * a.rounds) (turn w)))
          (run-append (leads_in row) (stem w ++ turns a.turns) (turns (k * a.rounds)) q a.state a.state a.comes rounds)

      from : TwoSame histories → IsDetAcceptedFrom (histories_of states row) (start q) w
      from t =
          let j = t.second - t.first in
          let once : 1 ≤ j = omega (arith, t.apart) in
          let rounds = j * a.rounds in
          let many : 1 ≤ rounds = product_some j a.rounds once a.once in
          let h = histories t.first in
          let back : behind h (turns rounds) ≡ h =
          further t.first j ∙ ap histories (omega (arith, t.apart)) ∙ sym t.same in
          let small = small_at (word t.first) in
          let marks = marks_along h (letters (turns rounds)) in
          let least = some_lowest (neutral states) marks (marks_some h (letters (turns rounds)) (rounds_some rounds many)) in
          let is_least = subst (IsLowest least.0) (sym (priorities_are states row h (turns rounds))) least.1 in
          let has = (reaches_start states row q (word t.first) a.state).1 (comes t.first) in
          let run = subst (λ u. AcceptingRun (leads_in row) u a.state a.state) (repeated-repeated j a.rounds (turn w))
          (accepting-times (leads_in row) j (turns a.rounds) a.state once a.returns) in
          let mapped = mapped-accepting in_letter (letter_at row) (turns rounds) a.state a.state run in
          let loop : ReturnsTo h (letters (turns rounds)) = record {
            history = small.history;
            not_empty = rounds_some rounds many;
            returns = sym (behind_is states row h (turns rounds)) ∙ back;
          }
          in
          let odd = run_has_odd_mark h (letters (turns rounds)) loop (cycle h rounds has mapped) in
          record {
            turns = a.turns + t.first * a.rounds;
            state = h;
            comes = refl;
            rounds = rounds;
            once = many;
            returns = back;
            lowest = least.0;
            is_lowest = is_least;
            is_odd = (odd_loop h rounds least.0 small many is_least).1 odd;
          }
        where
          cycle : (h : List (Item ℕ)) (rounds : ℕ) (has : HasState h a.state)
              → AcceptingRun in_letter (letters (turns rounds)) a.state a.state
              → AcceptingCycle h (letters (turns rounds))
          cycle h rounds has run = record {
            item = has.item;
            member = has.member;
            times = 1;
            once = omega arith;
            run =
                subst (λ u. AcceptingRun in_letter u has.item.state has.item.state)
                (sym (repeated-one (letters (turns rounds))))
                (subst (λ s. AcceptingRun in_letter (letters (turns rounds)) s s) (sym has.state_is) run);
          }

pub same_words : SameWords
same_words states row q w stays low is_word =
    (to_histories states row q w stays low is_word, to_automaton states row q w stays low is_word)
