-- The items of an entry are in order.
--
-- Numbers of states ascend by node, and at one node by the guess: none first, and then the odd priorities in order.
--
--   numbers_come_before == of two numbers the lower one is of a state that comes before
--   items_ascend        == items with ascending numbers have states in their order
use Rattle.std.proofs.Common.{ℕ, zero, suc, ◌≡◌, ◌+◌, ◌*◌, ◌/◌, ◌%◌, ◌<◌, ◌≤◌, ◌⊎◌, ◌&&◌, inl, inr, true, List, [], ◌∷◌, Option, Some, None, get_or, map, refl, ap, ◌∙◌, arith, eq-eqb, eqb, ltb}
use Rattle.std.proofs.lemmas.Bool.{cases_lt, lt-ltb, or_left, or_right, and_from}
use Rattle.std.proofs.lemmas.Nat.{mul-le}
use Rattle.std.proofs.lemmas.Option.{slice_get-get_or}
use Rattle.std.specs.List.{slice_get}
use Rattle.ml_lists.specs.Ascending.{IsAscending}
use Rattle.ml_lists.specs.Member.{IsMember}
use Rattle.ml_lists.proofs.Ascending.{ascending-apart}
use Rattle.ml_refutation.specs.Refutation.{guess_before, comes_before, IsAbove, AreAbove}
use Rattle.ml_trace.specs.declared.letters.AutomatonState.{AutomatonState}
use Rattle.ml_trace.specs.Automaton.{states_per_node}
use Rattle.ml_trace.specs.AutomatonNumbers.{guess_at, state_of}
use Rattle.ml_trace.specs.Stack.{Item}
use Rattle.ml_refute.proofs.CarriedNames.{carried_item}

-- of two places the lower one is of a guess that comes before
places_come_before : (odds : List ℕ) → IsAscending odds → (i j : ℕ) → i < j → j < states_per_node odds
    → guess_before (guess_at odds i) (guess_at odds j) ≡ true
places_come_before odds up i zero low fits = absurd (omega arith)
places_come_before odds up zero (suc j) low fits =
    let is : slice_get odds j ≡ Some (get_or odds j 0) = slice_get-get_or odds j 0 (omega arith) in
    ap (guess_before None) is
places_come_before odds up (suc i) (suc j) low fits =
    let here : slice_get odds i ≡ Some (get_or odds i 0) = slice_get-get_or odds i 0 (omega arith) in
    let there : slice_get odds j ≡ Some (get_or odds j 0) = slice_get-get_or odds j 0 (omega arith) in
    ap (λ o. guess_before o (slice_get odds j)) here ∙ ap (guess_before (Some (get_or odds i 0))) there
    ∙ lt-ltb (get_or odds i 0) (get_or odds j 0) (ascending-apart odds i j 0 up (omega arith) (omega arith))

-- quotients grow
quotients_grow : (m n w : ℕ) → 0 < w → m ≤ n → m / w ≤ n / w
quotients_grow m n w some le = by_case (cases_lt (n / w) (m / w))
  where
    by_case : (n / w < m / w) ⊎ (m / w ≤ n / w) → m / w ≤ n / w
    by_case (inl less) =
        let rows : (n / w + 1) * w ≤ m / w * w = mul-le (n / w + 1) w (m / w) w (omega arith) (omega arith) in
        let whole_m : m / w * w + m % w ≡ m = omega arith in
        let whole_n : n / w * w + n % w ≡ n = omega arith in
        let part : n % w < w = omega arith in
        absurd (omega arith)
    by_case (inr less) = less

-- of two numbers the lower one is of a state that comes before
pub numbers_come_before : (odds : List ℕ)
    → IsAscending odds
    → (m n : ℕ)
    → m < n
    → comes_before (state_of odds m) (state_of odds n) ≡ true
numbers_come_before odds up m n low = by_node (cases_lt (m / states_per_node odds) (n / states_per_node odds))
  where
    by_node : (m / states_per_node odds < n / states_per_node odds) ⊎ (n / states_per_node odds ≤ m / states_per_node odds)
        → comes_before (state_of odds m) (state_of odds n) ≡ true
    by_node (inl less) =
        or_left (ltb (m / states_per_node odds) (n / states_per_node odds))
        (eqb (m / states_per_node odds) (n / states_per_node odds) && guess_before
        (guess_at odds (m % states_per_node odds)) (guess_at odds (n % states_per_node odds)))
        (lt-ltb (m / states_per_node odds) (n / states_per_node odds) less)
    by_node (inr le) =
        let w : ℕ = states_per_node odds in
        let same : m / states_per_node odds ≡ n / states_per_node odds = same_node le in
        or_right (ltb (m / states_per_node odds) (n / states_per_node odds))
        (eqb (m / states_per_node odds) (n / states_per_node odds) && guess_before
        (guess_at odds (m % states_per_node odds)) (guess_at odds (n % states_per_node odds)))
        (and_from (eqb (m / states_per_node odds) (n / states_per_node odds))
        (guess_before (guess_at odds (m % states_per_node odds)) (guess_at odds (n % states_per_node odds)))
        (eq-eqb (m / states_per_node odds) (n / states_per_node odds) same)
        (places_come_before odds up (m % states_per_node odds) (n % states_per_node odds) (place_low same)
        (omega arith)))
      where
        same_node : n / states_per_node odds ≤ m / states_per_node odds
            → m / states_per_node odds ≡ n / states_per_node odds
        same_node few =
            let up_to : m / states_per_node odds ≤ n / states_per_node odds = quotients_grow m n (states_per_node odds)
            (omega arith) (omega arith) in
            omega arith

        place_low : m / states_per_node odds ≡ n / states_per_node odds
            → m % states_per_node odds < n % states_per_node odds
        place_low node =
            let whole_m : m / states_per_node odds * states_per_node odds + m % states_per_node odds ≡ m =
            omega arith in
            let whole_n : n / states_per_node odds * states_per_node odds + n % states_per_node odds ≡ n =
            omega arith in
            let rows : m / states_per_node odds * states_per_node odds ≡ n / states_per_node odds * states_per_node
            odds = ap (λ k. k * states_per_node odds) node in
            omega arith

-- a number below, if there is one before
abbrev before_state : List ℕ → Option ℕ → Option AutomatonState
before_state odds None = None
before_state odds (Some m) = Some (state_of odds m)

abbrev IsLower : Option ℕ → List ℕ → Type 0
IsLower None ns = Unit {0}
IsLower (Some m) ns = (n : ℕ) → IsMember n ns → m < n

-- items with ascending numbers have states in their order
pub items_ascend : (odds : List ℕ)
    → IsAscending odds
    → (before : Option ℕ) (xs : List (Item ℕ))
    → IsLower before (map (λ a. a.state) xs)
    → IsAscending (map (λ a. a.state) xs)
    → AreAbove (before_state odds before) (map (λ (a : Item AutomatonState). a.state) (map (carried_item (state_of odds)) xs))
items_ascend odds up before [] lower ascends = tt
items_ascend odds up before (x ∷ xs) lower ascends =
    (above before lower, items_ascend odds up (Some x.state) xs ascends.0 ascends.1)
  where
    above : (b : Option ℕ)
        → IsLower b (map (λ (a : Item ℕ). a.state) (x ∷ xs))
        → IsAbove (before_state odds b) (state_of odds x.state)
    above None low = tt
    above (Some m) low = numbers_come_before odds up m x.state (low x.state (inl refl))
