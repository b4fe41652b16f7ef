-- The states that a round looks at, as they are chosen, class by class.
--
--   Choosing       == of the first i classes a settled state was chosen, where there is one
--   choosing_one, choosing_other == with a settled state of the next class, and where it has none
--   are_chosen     == in the end, where the classes are those of the states
--   class_listed   == these classes have lists of members
use Rattle.std.proofs.Common.{ℕ, ◌≡◌, ◌+◌, ◌<◌, ◌≤◌, ◌↔◌, ◌⊎◌, inl, inr, Bool, List, [], ◌∷◌, ◌++◌, length, length-append, get_or, map, All, Contains, refl, sym, ap, ◌∙◌, subst, arith}
use Rattle.std.proofs.lemmas.Bool.{cases_eq}
use Rattle.std.proofs.lemmas.Grind.{get_or_default_zero}
use Rattle.std.proofs.lemmas.List.{get_or-map, get_or_append_left, length-map}
use Rattle.ml_bisim.specs.Quotient.{class_of}
use Rattle.ml_bisim.specs.private.Rounds.{AreChosen, HasMembers, IsSettled}
use Rattle.ml_bisim.proofs.Links.{last_entry}

module _ (class : List ℕ) (flags : List Bool) (n : ℕ) (states classes : List ℕ) where
  abbrev first : ℕ
  first = length states

  -- a settled state of the class c was chosen, or there is none
  abbrev Covers : List ℕ → ℕ → Type 0
  Covers chosen c = ((j : ℕ) × (first ≤ j) × (j < length chosen) × (class_of class (get_or chosen j 0) ≡ c))
      ⊎ ((t : ℕ) → t < n → class_of class t ≡ c → ¬ (IsSettled flags t))

  pub record Choosing (i : ℕ) (chosen : List ℕ) : Type 0 where
    pub long : first ≤ length chosen
    pub front : (j : ℕ) → j < first → get_or chosen j 0 ≡ get_or states j 0
    pub in_range : (j : ℕ) → j < length chosen → get_or chosen j 0 < n
    pub settled : (j : ℕ) → first ≤ j → j < length chosen → IsSettled flags (get_or chosen j 0)
    pub covers : (j : ℕ) → j < i → Covers chosen (get_or classes j 0)

  pub choosing_other : (i : ℕ) (chosen : List ℕ) (c : ℕ)
      → Choosing i chosen
      → get_or classes i 0 ≡ c
      → ((t : ℕ) → t < n → class_of class t ≡ c → ¬ (IsSettled flags t))
      → Choosing (i + 1) chosen
  choosing_other i chosen c is at none = record {
    long = is.long;
    front = is.front;
    in_range = is.in_range;
    settled = is.settled;
    covers = λ j under. by_case j under (cases_eq j i);
  }
    where
      by_case : (j : ℕ) → j < i + 1 → (j ≡ i) ⊎ (j ≡ i → ⊥) → Covers chosen (get_or classes j 0)
      by_case j under (inl same) =
          subst (Covers chosen) (sym (ap (λ k. get_or classes k 0) same ∙ at)) (inr none)
      by_case j under (inr other) = is.covers j (omega (arith, under, other))

  pub choosing_one : (i : ℕ) (chosen new : List ℕ) (c s : ℕ)
      → Choosing i chosen
      → get_or classes i 0 ≡ c
      → s < n
      → class_of class s ≡ c
      → IsSettled flags s
      → new ≡ chosen ++ s ∷ []
      → Choosing (i + 1) new
  choosing_one i chosen new c s is at s_low of_class settled pushed = record {
    long = omega (arith, is.long, long);
    front = λ j under. before j (omega (arith, under, is.long)) ∙ is.front j under;
    in_range = λ j under. in_range j (split j under);
    settled = λ j above under. settled_at j above (split j under);
    covers = λ j under. covers j under (cases_eq j i);
  }
    where
      long : length new ≡ length chosen + 1
      long = let added = length-append chosen (s ∷ []) in let is_new = ap length pushed in omega (arith, added, is_new)

      before : (j : ℕ) → j < length chosen → get_or new j 0 ≡ get_or chosen j 0
      before j low = ap (λ xs. get_or xs j 0) pushed ∙ get_or_append_left chosen (s ∷ []) 0 j low

      at_end : (j : ℕ) → j ≡ length chosen → get_or new j 0 ≡ s
      at_end j same = ap (λ xs. get_or xs j 0) pushed ∙ last_entry chosen s 0 j same

      split : (j : ℕ) → j < length new → (j < length chosen) ⊎ (j ≡ length chosen)
      split j under = by_case (cases_eq j (length chosen))
        where
          by_case : (j ≡ length chosen) ⊎ (j ≡ length chosen → ⊥) → (j < length chosen) ⊎ (j ≡ length chosen)
          by_case (inl same) = inr same
          by_case (inr other) = inl (omega (arith, under, long, other))

      in_range : (j : ℕ) → (j < length chosen) ⊎ (j ≡ length chosen) → get_or new j 0 < n
      in_range j (inl low) = let same = before j low in let under = is.in_range j low in omega (arith, same, under)
      in_range j (inr same) = let is_s = at_end j same in omega (arith, is_s, s_low)

      settled_at : (j : ℕ) → first ≤ j → (j < length chosen) ⊎ (j ≡ length chosen) → IsSettled flags (get_or new j 0)
      settled_at j above (inl low) = subst (IsSettled flags) (sym (before j low)) (is.settled j above low)
      settled_at j above (inr same) = subst (IsSettled flags) (sym (at_end j same)) settled

      widen : (d : ℕ) → Covers chosen d → Covers new d
      widen d (inl (k, above, low, e)) =
          inl (k, above, omega (arith, low, long), ap (class_of class) (before k low) ∙ e)
      widen d (inr none) = inr none

      covers : (j : ℕ) → j < i + 1 → (j ≡ i) ⊎ (j ≡ i → ⊥) → Covers new (get_or classes j 0)
      covers j under (inl same) =
          subst (Covers new) (sym (ap (λ k. get_or classes k 0) same ∙ at))
          (inl (length chosen, is.long, omega (arith, long), ap (class_of class) (at_end (length chosen) refl) ∙ of_class))
      covers j under (inr other) = widen (get_or classes j 0) (is.covers j (omega (arith, under, other)))

  pub are_chosen : (i : ℕ) (chosen : List ℕ)
      → Choosing i chosen
      → i ≡ length classes
      → ((c : ℕ) → Contains classes c ↔ Contains (map (class_of class) states) c)
      → AreChosen class flags n first chosen
  are_chosen i chosen is all same = record {
    in_range = λ j d under. subst (λ x. x < n) (sym (get_or_default_zero chosen j d under)) (is.in_range j under);
    before = is.long;
    settled = is.settled;
    some = λ j under. some j under ((same (class_of class (get_or states j 0))).1 (listed j under));
  }
    where
      listed : (j : ℕ) → j < first → Contains (map (class_of class) states) (class_of class (get_or states j 0))
      listed j under = (
        j,
        omega (arith, under, length-map states (class_of class)),
        get_or-map (class_of class) states j 0 (class_of class (get_or states j 0)) under,
      )

      some : (j : ℕ) → j < first → Contains classes (class_of class (get_or states j 0))
          → Covers chosen (class_of class (get_or chosen j 0))
      some j under (k, low, at) =
          let there = sym (get_or_default_zero classes k (class_of class (get_or states j 0)) low) ∙ at in
          subst (Covers chosen) (there ∙ ap (class_of class) (sym (is.front j under)))
          (is.covers k (omega (arith, low, all)))

-- the class of a state is the number of a list of members
pub class_listed : (class : List ℕ) (n : ℕ) (members : List (List ℕ)) (states classes : List ℕ)
    → HasMembers class n members
    → All (λ s. s < n) states
    → ((c : ℕ) → Contains classes c ↔ Contains (map (class_of class) states) c)
    → (i : ℕ)
    → i < length classes
    → get_or classes i 0 < length members
class_listed class n members states classes has low same i i_low =
    of_state ((same (get_or classes i 0)).0 (i, i_low, get_or_default_zero classes i (get_or classes i 0) i_low))
  where
    of_state : Contains (map (class_of class) states) (get_or classes i 0) → get_or classes i 0 < length members
    of_state (k, k_low, at) =
        let under : k < length states = omega (arith, k_low, length-map states (class_of class)) in
        let is = get_or-map (class_of class) states k 0 (get_or classes i 0) under in
        let below = has.classes (get_or states k 0) (low k 0 under) in
        omega (arith, is, at, below)
