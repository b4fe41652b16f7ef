-- Histories over finitely many states are finitely many.
--
-- A history is told by the parents of its names and the last names of its states (`ml_product`), of which there are finitely
-- many where states and names stay below a number.
--
--   Small states h  == h is a history whose states are below this number
--   names_fit       == then it has at most so many names in use
--   marks_fit       == and the marks of its steps have numbers below the neutral priority
--   small_step      == steps along letters below the number keep it
--   code states h   == its number, of which code_low says that it is small, and same_code that h alone has it
--   two_same        == of a sequence of such histories two are the same
use Rattle.std.proofs.Common.{◌≡◌, ℕ, ◌+◌, ◌*◌, ◌^◌, ◌<◌, ◌≤◌, List, [], ◌∷◌, map, refl, sym, subst, inl, inr, arith}
use Rattle.std.proofs.lemmas.List.{length-map}
use Rattle.ml_lists.specs.Member.{IsMember}
use Rattle.ml_lists.specs.Pigeons.{Twice}
use Rattle.ml_lists.proofs.Member.{Image, member-map_from}
use Rattle.ml_lists.proofs.Pigeons.{pigeons}
use Rattle.ml_trace.specs.declared.letters.Transition.{Transition}
use Rattle.ml_trace.specs.declared.marks.Mark.{Mark}
use Rattle.ml_trace.specs.declared.marks.Mark.TheVariants.{Red, Green, Neutral}
use Rattle.ml_trace.specs.MarkOrder.{FitsBelow}
use Rattle.ml_trace.specs.NamesCondition.{NamesCondition}
use Rattle.ml_trace.specs.Run.{in_letter}
use Rattle.ml_trace.specs.Stack.{Item}
use Rattle.ml_trace.proofs.Stacks.{member-has}
use Rattle.ml_history.specs.CycleLaws.{entry}
use Rattle.ml_history.specs.History.{IsHistory}
use Rattle.ml_history.specs.HistoryStep.{start}
use Rattle.ml_history.specs.HistoryStep.{live, stepped, step_mark}
use Rattle.ml_history.specs.HistoryRuns.{after, marks_along}
use Rattle.ml_history.proofs.definition.NamesInUse.{live-has}
use Rattle.ml_history.proofs.definition.StepKeeps.{start-is, step_is_history}
use Rattle.ml_history.proofs.definition.StepNames.{step_names}
use Rattle.ml_history.proofs.definition.SteppedStates.{steps_follow_letters}
use Rattle.ml_history.proofs.definition.SmallHistories.{live-length, ascending_length}
use Rattle.ml_product.proofs.bound.HistoryCodes.{parent_of, parent_low, tip_of, tip_of_low, same_histories}
use Rattle.ml_product.proofs.bound.Packs.{pair_low, pair_same, pack, pack_low, pack_same}
use Rattle.ml_determinise.specs.Histories.{StaysBelow, letter_at, neutral}

-- h is a history whose states are below this number
pub record Small (states : ℕ) (h : List (Item ℕ)) : Type 0 where
  pub history : IsHistory h
  pub low : (a : Item ℕ) → IsMember a h → a.state < states

pub names_fit : (states : ℕ) (h : List (Item ℕ)) → Small states h → live h ≤ states
names_fit states h small =
    let few = ascending_length (map (λ (a : Item ℕ). a.state) h) states small.history.states_ascend
    (λ x m. of_image x (member-map_from (λ (a : Item ℕ). a.state) x h m)) in
    omega (arith, few, live-length h small.history, length-map h (λ (a : Item ℕ). a.state))
  where
    of_image : (x : ℕ) → Image (λ (a : Item ℕ). a.state) x h → x < states
    of_image x i = subst (λ y. y < states) (sym i.holds) (small.low i.from i.member)

name_low : (states : ℕ) (h : List (Item ℕ)) → Small states h → (a : Item ℕ) → IsMember a h
    → (z : ℕ) → IsMember z a.stack → z < states
name_low states h small a m z i =
    let used = live-has h z a m (member-has z a.stack i) in omega (arith, used, names_fit states h small)

mark_fits : (states : ℕ) (h : List (Item ℕ)) (letter : List Transition) (mark : Mark)
    → live h ≤ states
    → NamesCondition in_letter letter mark (entry h) (entry (stepped h letter))
    → FitsBelow (neutral states) mark
mark_fits states h letter (Red x) fits names = omega (arith, names.in_use.0, fits)
mark_fits states h letter (Green x) fits names = let used = (names.green_in_use x refl).0 in omega (arith, used, fits)
mark_fits states h letter Neutral fits names = tt

pub start_small : (states q : ℕ) → q < states → Small states (start q)
start_small states q low = record { history = start-is q; low = λ a m. from a m }
  where
    from : (a : Item ℕ) → IsMember a (start q) → a.state < states
    from a (inl same) = subst (λ (b : Item ℕ). b.state < states) (sym same) low
    from a (inr none) = absurd none

pub small_step : (states : ℕ) (row : List (List Transition)) → StaysBelow states row → (h : List (Item ℕ)) (i : ℕ)
    → Small states h
    → Small states (stepped h (letter_at row i))
small_step states row stays h i small = record {
  history = step_is_history h (letter_at row i) small.history;
  low = λ a m. low a m;
}
  where
    low : (a : Item ℕ) → IsMember a (stepped h (letter_at row i)) → a.state < states
    low a m =
        let led = (steps_follow_letters h (letter_at row i) a.state).0 (record { item = a; member = m; state_is = refl }) in
        (stays i (record { from = led.from; to = a.state; accepting = led.accepting }) led.transition).to_low

pub small_behind : (states : ℕ) (row : List (List Transition)) → StaysBelow states row → (h : List (Item ℕ)) (u : List ℕ)
    → Small states h
    → Small states (after h (map (letter_at row) u))
small_behind states row stays h [] small = small
small_behind states row stays h (l ∷ u) small =
    small_behind states row stays (stepped h (letter_at row l)) u (small_step states row stays h l small)

pub marks_fit : (states : ℕ) (row : List (List Transition)) → StaysBelow states row → (h : List (Item ℕ)) (u : List ℕ)
    → Small states h
    → (n : Mark)
    → IsMember n (marks_along h (map (letter_at row) u))
    → FitsBelow (neutral states) n
marks_fit states row stays h [] small n m = absurd m
marks_fit states row stays h (l ∷ u) small n (inl same) =
    subst (FitsBelow (neutral states)) (sym same)
    (mark_fits states h (letter_at row l) (step_mark h (letter_at row l)) (names_fit states h small)
    (step_names h (letter_at row l) small.history))
marks_fit states row stays h (l ∷ u) small n (inr later) =
    marks_fit states row stays (stepped h (letter_at row l)) u (small_step states row stays h l small) n later

-- ---- codes

abbrev parents_code : ℕ → List (Item ℕ) → ℕ
parents_code states h = pack states states (parent_of h)

abbrev tips_code : ℕ → List (Item ℕ) → ℕ
tips_code states h = pack (states + 1) states (tip_of h)

abbrev pub code : ℕ → List (Item ℕ) → ℕ
code states h = parents_code states h * (states + 1) ^ states + tips_code states h

module _ (states : ℕ) (h : List (Item ℕ)) (small : Small states h) where
  parent_digits : (y : ℕ) → y < states → parent_of h y < states
  parent_digits y low = parent_low states h y low (name_low states h small)

  tip_digits : (q : ℕ) → q < states → tip_of h q < states + 1
  tip_digits q low = tip_of_low states h q small.history.not_empty (name_low states h small)

  tips_low : tips_code states h < (states + 1) ^ states
  tips_low = pack_low (states + 1) states (tip_of h) tip_digits

  pub code_low : code states h < states ^ states * (states + 1) ^ states
  code_low =
      pair_low (parents_code states h) (tips_code states h) (states ^ states) ((states + 1) ^ states)
      (pack_low states states (parent_of h) parent_digits) tips_low

pub same_code : (states : ℕ) (h k : List (Item ℕ))
    → Small states h
    → Small states k
    → code states h ≡ code states k
    → h ≡ k
same_code states h k is_h is_k e =
    let parts = pair_same (parents_code states h) (tips_code states h) (parents_code states k) (tips_code states k)
    ((states + 1) ^ states) (tips_low states h is_h) (tips_low states k is_k) e in
    same_histories states h k is_h.history is_k.history is_h.low is_k.low (name_low states h is_h) (name_low states k is_k)
    (pack_same states states (parent_of h) (parent_of k) (parent_digits states h is_h) (parent_digits states k is_k) parts.0)
    (pack_same (states + 1) states (tip_of h) (tip_of k) (tip_digits states h is_h) (tip_digits states k is_k) parts.1)

-- two numbers whose histories are the same
pub record TwoSame (f : ℕ → List (Item ℕ)) : Type 0 where
  pub first : ℕ
  pub second : ℕ
  pub apart : first < second
  pub same : f first ≡ f second

-- of a sequence of small histories two are the same
pub two_same : (states : ℕ) (f : ℕ → List (Item ℕ)) → ((k : ℕ) → Small states (f k)) → TwoSame f
two_same states f small =
    let many = states ^ states * (states + 1) ^ states in
    from (pigeons many (λ k. code states (f k)) (λ k low. code_low states (f k) (small k)))
  where
    from : {n : ℕ} → Twice (λ k. code states (f k)) n → TwoSame f
    from t = record {
      first = t.first;
      second = t.second;
      apart = t.apart;
      same = same_code states (f t.first) (f t.second) (small t.first) (small t.second) t.same;
    }
