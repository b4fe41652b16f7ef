-- Tournaments: each match is won by the lesser side, so the first one by the least of all.
--
--   half_meets    == the match of a place is half of it
--   lesser_left, lesser_right, lesser_from == the lesser of two is at most each, and one of them
--   slotted_none  == without numbers there is nothing to win
--   slotted_set   == what stands for a number is written
--   match_played  == a match is played again, so that only the next one is open
--   top_least     == the first match is won by the least number
--   put_holds, removed_holds == what is held when a number is written, or taken away
use Rattle.std.proofs.Common.{ℕ, zero, suc, ◌≡◌, ◌+◌, ◌-◌, ◌*◌, ◌/◌, ◌<◌, ◌≤◌, ◌⊎◌, inl, inr, true, false, nat_lt, List, get_or, set, Option, Some, None, refl, sym, ap, ◌∙◌, subst, arith}
use Rattle.std.proofs.lemmas.Bool.{cases_Bool, cases_lt, cond-true, cond-false}
use Rattle.std.proofs.lemmas.Bool.Decides.{nat_tests}
use Rattle.std.proofs.lemmas.List.{length-set, get_or-set_same, get_or-set_other, get_or_default}
use Rattle.ml_sequent.specs.private.ConnectedParts.{IsLeast, lesser}
use Rattle.ml_sequent.specs.private.Tournament.{Holds, IsSlotted, IsTournament, IsEntered}

-- ---- the lesser of two

-- one that is there and no greater
pub record AtMost (o : Option ℕ) (n : ℕ) : Type 0 where
  pub number : ℕ
  pub is : o ≡ Some number
  pub less : number ≤ n

at_most_self : (n : ℕ) → AtMost (Some n) n
at_most_self n = record { number = n; is = refl; less = omega arith }

lesser_left : (o p : Option ℕ) (n : ℕ) → AtMost o n → AtMost (lesser o p) n
lesser_left None p n a = let none = a.is in absurd (cc)
lesser_left (Some k) None n a = a
lesser_left (Some k) (Some m) n a = by_test (cases_Bool (nat_lt m k))
  where
    here : k ≤ n
    here = let is = a.is in let same : k ≡ a.number = cc in omega (arith, a.less)

    by_test : (nat_lt m k ≡ true) ⊎ (nat_lt m k ≡ false) → AtMost (lesser (Some k) (Some m)) n
    by_test (inl test) =
        let less : m < k = grind (arith, nat_tests) in
        record { number = m; is = cond-true (nat_lt m k) (Some m) (Some k) test; less = omega (arith, here) }
    by_test (inr test) = record { number = k; is = cond-false (nat_lt m k) (Some m) (Some k) test; less = here }

lesser_right : (o p : Option ℕ) (n : ℕ) → AtMost p n → AtMost (lesser o p) n
lesser_right None p n a = a
lesser_right (Some k) None n a = let none = a.is in absurd (cc)
lesser_right (Some k) (Some m) n a = by_test (cases_Bool (nat_lt m k))
  where
    here : m ≤ n
    here = let is = a.is in let same : m ≡ a.number = cc in omega (arith, a.less)

    by_test : (nat_lt m k ≡ true) ⊎ (nat_lt m k ≡ false) → AtMost (lesser (Some k) (Some m)) n
    by_test (inl test) = record { number = m; is = cond-true (nat_lt m k) (Some m) (Some k) test; less = here }
    by_test (inr test) =
        let more : k ≤ m = grind (arith, nat_tests) in
        record { number = k; is = cond-false (nat_lt m k) (Some m) (Some k) test; less = omega (arith, here) }

lesser_from : (o p : Option ℕ) (n : ℕ) → lesser o p ≡ Some n → (o ≡ Some n) ⊎ (p ≡ Some n)
lesser_from None p n e = inr e
lesser_from (Some k) None n e = inl e
lesser_from (Some k) (Some m) n e = by_test (cases_Bool (nat_lt m k))
  where
    by_test : (nat_lt m k ≡ true) ⊎ (nat_lt m k ≡ false) → (Some k ≡ Some n) ⊎ (Some m ≡ Some n)
    by_test (inl test) = inr (sym (cond-true (nat_lt m k) (Some m) (Some k) test) ∙ e)
    by_test (inr test) = inl (sym (cond-false (nat_lt m k) (Some m) (Some k) test) ∙ e)

-- ---- matches

-- a place stands on one of the two sides of its match
abbrev pub Meets : ℕ → ℕ → Type 0
Meets place i = (place ≡ 2 * i) ⊎ (place ≡ 2 * i + 1)

-- that of a place is half of it
half_meets : (k p : ℕ) → p ≡ k / 2 → Meets k p
half_meets k p e = by_order (cases_lt k (2 * p + 1))
  where
    by_order : (k < 2 * p + 1) ⊎ (2 * p + 1 ≤ k) → Meets k p
    by_order (inl less) = inl (omega arith)
    by_order (inr more) = inr (omega arith)

-- a match is played again, so that only the next one is open
module _ (room place p : ℕ) (slots : List (Option ℕ)) (some : 0 < p) (low : p < room) (meets : Meets place p)
    (is : IsSlotted room slots (Meets place)) where
  abbrev winner : Option ℕ
  winner = lesser (get_or slots (2 * p) None) (get_or slots (2 * p + 1) None)

  other : (k : ℕ) → (k ≡ p → ⊥)
      → get_or (set slots p (lesser (get_or slots (2 * p) None) (get_or slots (2 * p + 1) None))) k None ≡ get_or
      slots k None
  other k apart = get_or-set_other slots p k winner None apart

  sides : (i : ℕ) → (2 * i ≡ p → ⊥) → (2 * i + 1 ≡ p → ⊥)
      → lesser (get_or (set slots p winner) (2 * i) None) (get_or (set slots p winner) (2 * i + 1) None)
      ≡ lesser (get_or slots (2 * i) None) (get_or slots (2 * i + 1) None)
  sides i left right =
      ap (λ o. lesser o (get_or (set slots p winner) (2 * i + 1) None)) (other (2 * i) left)
      ∙ ap (lesser (get_or slots (2 * i) None)) (other (2 * i + 1) right)

  pub match_played : IsSlotted room
      (set slots p (lesser (get_or slots (2 * p) None) (get_or slots (2 * p + 1) None))) (Meets p)
  match_played = record {
    long = length-set slots p winner ∙ is.long;
    won = λ i i_some i_low apart. won i i_some i_low apart (cases_lt i p) (cases_lt p i);
  }
    where
      won : (i : ℕ) → 0 < i → i < room → (Meets p i → ⊥) → (i < p) ⊎ (p ≤ i) → (p < i) ⊎ (i ≤ p)
          → get_or (set slots p winner) i None
          ≡ lesser (get_or (set slots p winner) (2 * i) None) (get_or (set slots p winner) (2 * i + 1) None)
      won i i_some i_low apart (inr more) (inr less) =
          let here : i ≡ p = omega arith in
          ap (λ k. get_or (set slots p winner) k None) here
          ∙ get_or-set_same slots p winner None (omega (arith, is.long))
          ∙ ap (λ k. lesser (get_or slots (2 * k) None) (get_or slots (2 * k + 1) None)) (sym here)
          ∙ sym (sides i (λ e. omega arith) (λ e. omega arith))
      won i i_some i_low apart (inl less) second =
          other i (λ e. omega arith) ∙ is.won i i_some i_low (elsewhere (λ e. omega arith))
          ∙ sym (sides i (λ e. apart (inl (sym e))) (λ e. apart (inr (sym e))))
        where
          elsewhere : (i ≡ p → ⊥) → Meets place i → ⊥
          elsewhere differ m = at meets m
            where
              at : Meets place p → Meets place i → ⊥
              at (inl a) (inl b) = differ (omega arith)
              at (inl a) (inr b) = absurd (omega arith)
              at (inr a) (inl b) = absurd (omega arith)
              at (inr a) (inr b) = differ (omega arith)
      won i i_some i_low apart (inr more) (inl beyond) =
          other i (λ e. omega arith) ∙ is.won i i_some i_low (elsewhere (λ e. omega arith))
          ∙ sym (sides i (λ e. apart (inl (sym e))) (λ e. apart (inr (sym e))))
        where
          elsewhere : (i ≡ p → ⊥) → Meets place i → ⊥
          elsewhere differ m = at meets m
            where
              at : Meets place p → Meets place i → ⊥
              at (inl a) (inl b) = differ (omega arith)
              at (inl a) (inr b) = absurd (omega arith)
              at (inr a) (inl b) = absurd (omega arith)
              at (inr a) (inr b) = differ (omega arith)

  pub match_entered : (n : ℕ) (x : Option ℕ) (first : List (Option ℕ)) → IsEntered room n x first slots
      → IsEntered room n x first (set slots p (lesser (get_or slots (2 * p) None) (get_or slots (2 * p + 1) None)))
  match_entered n x first was = record {
    here = other (room + n) (λ e. omega arith) ∙ was.here;
    others = λ m m_low apart. other (room + m) (λ e. omega arith) ∙ was.others m m_low apart;
  }

-- the same of the match that comes next
pub replayed : (room place p n : ℕ) (slots first : List (Option ℕ)) (one other winner x : Option ℕ)
    → place < 2 * room
    → 1 < place
    → p ≡ place / 2
    → one ≡ get_or slots (2 * p) one
    → other ≡ get_or slots (2 * p + 1) other
    → winner ≡ lesser one other
    → IsSlotted room slots (Meets place)
    → IsEntered room n x first slots
    → IsSlotted room (set slots p winner) (Meets p) × IsEntered room n x first (set slots p winner)
replayed room place p n slots first one other winner x low more half left right won is was =
    let is_left : one ≡ get_or slots (2 * p) None = left ∙ sym (get_or_default slots (2 * p) None one
    (omega (arith, is.long))) in
    let is_right : other ≡ get_or slots (2 * p + 1) None =
    right ∙ sym (get_or_default slots (2 * p + 1) None other (omega (arith, is.long))) in
    let same : winner ≡ lesser (get_or slots (2 * p) None) (get_or slots (2 * p + 1) None) =
    won ∙ ap (λ o. lesser o other) is_left ∙ ap (lesser (get_or slots (2 * p) None)) is_right in
    let meets = half_meets place p half in (
      subst (λ o. IsSlotted room (set slots p o) (Meets p)) (sym same)
          (match_played room place p slots (omega arith) (omega arith) meets is),
      subst (λ o. IsEntered room n x first (set slots p o)) (sym same)
          (match_entered room place p slots (omega arith) (omega arith) meets is n x first was),
    )

-- ---- the first match

module _ (room : ℕ) (slots : List (Option ℕ)) (is : IsTournament room slots) where
  abbrev Climbs : ℕ → ℕ → Type 0
  Climbs fuel n = (p : ℕ) → p < fuel → 0 < p → p < 2 * room → AtMost (get_or slots p None) n → AtMost
      (get_or slots 1 None) n

  abbrev Falls : ℕ → ℕ → Type 0
  Falls fuel n = (p : ℕ) → 2 * room ≤ p + fuel → 0 < p → p < 2 * room → get_or slots p None ≡ Some n
      → Holds (record { room = room; slots = slots }) n

  top_at_most : (fuel k n : ℕ) → k < fuel → 0 < k → k < 2 * room → AtMost (get_or slots k None) n → AtMost
      (get_or slots 1 None) n
  top_at_most zero k n short some low a = absurd (omega arith)
  top_at_most (suc fuel) k n short some low a = by_place (λ p. top_at_most fuel p n) (cases_lt 1 k)
    where
      by_half : 1 < k → Climbs fuel n → (p : ℕ) → Meets k p → AtMost (get_or slots 1 None) n
      by_half more onward p (inl e) =
          let won = is.slotted.won p (omega arith) (omega arith) (λ none. none) in
          onward p (omega arith) (omega arith) (omega arith)
          (subst (λ o. AtMost o n) (sym won) (lesser_left (get_or slots (2 * p) None) (get_or slots (2 * p + 1) None) n
          (subst (λ j. AtMost (get_or slots j None) n) e a)))
      by_half more onward p (inr e) =
          let won = is.slotted.won p (omega arith) (omega arith) (λ none. none) in
          onward p (omega arith) (omega arith) (omega arith)
          (subst (λ o. AtMost o n) (sym won) (lesser_right (get_or slots (2 * p) None) (get_or slots (2 * p + 1) None) n
          (subst (λ j. AtMost (get_or slots j None) n) e a)))

      by_place : Climbs fuel n → (1 < k) ⊎ (k ≤ 1) → AtMost (get_or slots 1 None) n
      by_place onward (inl more) = by_half more onward (k / 2) (half_meets k (k / 2) refl)
      by_place onward (inr here) =
          let same : k ≡ 1 = omega arith in
          subst (λ j. AtMost (get_or slots j None) n) same a

  won_by : (fuel k n : ℕ) → 2 * room ≤ k + fuel → 0 < k → k < 2 * room → get_or slots k None ≡ Some n
      → Holds (record { room = room; slots = slots }) n
  won_by zero k n long some low e = absurd (omega arith)
  won_by (suc fuel) k n long some low e = by_place (λ p. won_by fuel p n) (cases_lt k room)
    where
      by_side : Falls fuel n → (get_or slots (2 * k) None ≡ Some n) ⊎ (get_or slots (2 * k + 1) None ≡ Some n)
          → k < room
          → Holds (record { room = room; slots = slots }) n
      by_side onward (inl left) inner = onward (2 * k) (omega arith) (omega arith) (omega arith) left
      by_side onward (inr right) inner = onward (2 * k + 1) (omega arith) (omega arith) (omega arith) right

      by_place : Falls fuel n → (k < room) ⊎ (room ≤ k) → Holds (record { room = room; slots = slots }) n
      by_place onward (inl inner) =
          by_side onward (lesser_from (get_or slots (2 * k) None) (get_or slots (2 * k + 1) None) n
          (sym (is.slotted.won k some inner (λ none. none)) ∙ e)) inner
      by_place onward (inr outer) = at (k - room) (omega arith)
        where
          at : (j : ℕ) → k ≡ room + j → Holds (record { room = room; slots = slots }) n
          at j same =
              let there : get_or slots (room + j) None ≡ Some n = ap (λ i. get_or slots i None) (sym same) ∙ e in
              let own : n ≡ j = is.own j n (omega arith) there in
              record { low = omega arith; entry = ap (λ i. get_or slots (room + i) None) own ∙ there }

  -- it is won by the least number
  pub top_least : 0 < room → IsLeast (Holds (record { room = room; slots = slots })) (get_or slots 1 None)
  top_least some = by_top (get_or slots 1 None) refl
    where
      below : (n : ℕ) → Holds (record { room = room; slots = slots }) n → AtMost (get_or slots 1 None) n
      below n h =
          let low : n < room = h.low in
          top_at_most (room + n + 1) (room + n) n (omega arith) (omega arith) (omega arith)
          (subst (λ o. AtMost o n) (sym h.entry) (at_most_self n))

      by_top : (o : Option ℕ) → get_or slots 1 None ≡ o → IsLeast (Holds (record { room = room; slots = slots })) o
      by_top None e = λ n h. (let a = below n h in let is_some = a.is in let both = sym e ∙ is_some in absurd (cc))
      by_top (Some m) e = (
        won_by (2 * room) 1 m (omega arith) (omega arith) (omega arith) e,
        λ n h. (let a = below n h in let is_some = a.is in let both = sym e ∙ is_some in let same : m ≡ a.number =
            cc in omega (arith, a.less)),
      )
