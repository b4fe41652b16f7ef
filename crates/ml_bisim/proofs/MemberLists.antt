-- Lists of the members of classes, as they change.
--
--   row_written, row_pushed == a vector that is changed in a list of vectors is a row that is changed
--   added     == one state more, in its class
--   moved     == a state that is in another class then
--   pruned    == a class's list without what isn't in the class
--   widened   == one list more, with no members
--   row_is, row_low, row_has, row_pruned == a list of the members, as a vector among vectors
use Rattle.std.proofs.Common.{ℕ, ◌≡◌, ◌≢◌, ◌+◌, ◌<◌, ◌≤◌, ◌⊎◌, inl, inr, List, [], ◌∷◌, ◌++◌, length, length-append, get_or, set, map, All, Contains, refl, sym, ap, ◌∙◌, subst, arith}
use Rattle.std.proofs.lemmas.Bool.{cases_eq, cases_lt}
use Rattle.std.proofs.lemmas.List.{get_or-map, get_or-set_same, get_or-set_other, get_or_append_left, get_or_default, get_or_past, length-map, length-set, map-set}
use Rattle.std.specs.Global.{Vec}
use Rattle.std.proofs.lemmas.List.Elements.{All-contains, Contains-append_left, Contains-append_right, Contains-append_cases}
use Rattle.ml_lists.proofs.Members.{contains_cases, contains_head, contains_none}
use Rattle.ml_bisim.specs.Quotient.{class_of}
use Rattle.ml_bisim.specs.private.Rounds.{HasMembers, rows}
use Rattle.ml_bisim.proofs.Links.{last_entry}

pub row_written : {V : Type 0} (items : V → List ℕ) (rows : List V) (s : ℕ) (new : V) (row : List ℕ)
    → items new ≡ row
    → map items (set rows s new) ≡ set (map items rows) s row
row_written items rows s new row is = map-set items rows s new ∙ ap (set (map items rows) s) is

abbrev none : List ℕ
none = []

pub row_pushed : {V : Type 0} (items : V → List ℕ) (rows : List V) (c s : ℕ) (row pushed : V)
    → c < length rows
    → row ≡ get_or rows c row
    → items pushed ≡ items row ++ s ∷ []
    → map items (set rows c pushed) ≡ set (map items rows) c (get_or (map items rows) c none ++ s ∷ [])
row_pushed items rows c s row pushed low read more =
    row_written items rows c pushed (get_or (map items rows) c none ++ s ∷ [])
    (more ∙ ap (λ r. r ++ s ∷ []) (ap items read ∙ sym (get_or-map items rows c row none low)))

module _ (class : List ℕ) (n : ℕ) (rows new : List (List ℕ)) (old : HasMembers class n rows) where
  -- the list of the class c is this one then
  module _ (c : ℕ) (row : List ℕ) (low : c < length rows) (is : new ≡ set rows c row) where
    long : length new ≡ length rows
    long = ap length is ∙ length-set rows c row

    here : get_or new c none ≡ row
    here = ap (λ rs. get_or rs c none) is ∙ get_or-set_same rows c row none low

    elsewhere : (d : ℕ) → d ≢ c → get_or new d none ≡ get_or rows d none
    elsewhere d other = ap (λ rs. get_or rs d none) is ∙ get_or-set_other rows c d row none other

    has_at : (d s : ℕ) → Contains (get_or rows d none) s → (d ≡ c → Contains (get_or rows c none) s → Contains row s)
        → Contains (get_or new d none) s
    has_at d s h more = by_case (cases_eq d c)
      where
        by_case : (d ≡ c) ⊎ (d ≡ c → ⊥) → Contains (get_or new d none) s
        by_case (inl same) =
            subst (λ xs. Contains xs s) (sym (ap (λ e. get_or new e none) same ∙ here))
            (more same (subst (λ e. Contains (get_or rows e none) s) same h))
        by_case (inr other) = subst (λ xs. Contains xs s) (sym (elsewhere d other)) h

    from_at : (d s : ℕ) → Contains (get_or new d none) s → Contains (get_or rows d none) s ⊎ Contains row s
    from_at d s h = by_case (cases_eq d c)
      where
        by_case : (d ≡ c) ⊎ (d ≡ c → ⊥) → Contains (get_or rows d none) s ⊎ Contains row s
        by_case (inl same) = inr (subst (λ xs. Contains xs s) (ap (λ e. get_or new e none) same ∙ here) h)
        by_case (inr other) = inl (subst (λ xs. Contains xs s) (elsewhere d other) h)

    pub pruned : ((s : ℕ) → class_of class s ≡ c → Contains (get_or rows c none) s → Contains row s)
        → All (λ s. s < n) row
        → HasMembers class n new
    pruned kept all = record {
      classes = λ s s_low. omega (arith, old.classes s s_low, long);
      has = λ s s_low. has_at (class_of class s) s (old.has s s_low) (λ same h. kept s same h);
      low = λ d s h. low_of d s (from_at d s h);
    }
      where
        low_of : (d s : ℕ) → Contains (get_or rows d none) s ⊎ Contains row s → s < n
        low_of d s (inl h) = old.low d s h
        low_of d s (inr h) = All-contains (λ x. x < n) row s all h

  -- the state t is put behind the members of the class c
  module _ (c t : ℕ) (low : c < length rows) (is : new ≡ set rows c (get_or rows c none ++ t ∷ [])) where
    abbrev row : List ℕ
    row = get_or rows c none ++ t ∷ []

    low_of : (k : ℕ) → n ≤ k → t < k → (d s : ℕ) → Contains (get_or rows d none) s ⊎ Contains row s → s < k
    low_of k more t_low d s (inl h) = omega (arith, old.low d s h, more)
    low_of k more t_low d s (inr h) = by_part (Contains-append_cases (get_or rows c none) (t ∷ []) s h)
      where
        by_head : (t ≡ s) ⊎ Contains none s → s < k
        by_head (inl same) = subst (λ x. x < k) same t_low
        by_head (inr h) = absurd (contains_none s h)

        by_part : Contains (get_or rows c none) s ⊎ Contains (t ∷ []) s → s < k
        by_part (inl h) = omega (arith, old.low c s h, more)
        by_part (inr h) = by_head (contains_cases t none s h)

    stays : (d s : ℕ) → Contains (get_or rows d none) s → Contains (get_or new d none) s
    stays d s h = has_at c row low is d s h (λ same i. Contains-append_left (get_or rows c none) (t ∷ []) s i)

    in_it : Contains (get_or new c none) t
    in_it =
        subst (λ xs. Contains xs t) (sym (here c row low is))
        (Contains-append_right (get_or rows c none) (t ∷ []) t (contains_head t none))

    pub added : class_of class t ≡ c → t ≡ n → HasMembers class (n + 1) new
    added of_class next = record {
      classes = λ s s_low. classes s s_low (cases_eq s t);
      has = λ s s_low. has s s_low (cases_eq s t);
      low = λ d s h. low_of (n + 1) (omega arith) (omega (arith, next)) d s (from_at c row low is d s h);
    }
      where
        classes : (s : ℕ) → s < n + 1 → (s ≡ t) ⊎ (s ≡ t → ⊥) → class_of class s < length new
        classes s s_low (inl same) =
            let at : class_of class s ≡ c = ap (class_of class) same ∙ of_class in omega (arith, at, low, long c row low is)
        classes s s_low (inr other) =
            let before = old.classes s (omega (arith, s_low, other, next)) in omega (arith, before, long c row low is)

        has : (s : ℕ) → s < n + 1 → (s ≡ t) ⊎ (s ≡ t → ⊥) → Contains (get_or new (class_of class s) none) s
        has s s_low (inl same) =
            subst (λ x. Contains (get_or new (class_of class x) none) x) (sym same)
            (subst (λ d. Contains (get_or new d none) t) (sym of_class) in_it)
        has s s_low (inr other) = stays (class_of class s) s (old.has s (omega (arith, s_low, other, next)))

    pub moved : (new_class : List ℕ) → t < n → t < length class → new_class ≡ set class t c → HasMembers new_class n new
    moved new_class t_low within written = record {
      classes = λ s s_low. classes s s_low (cases_eq s t);
      has = λ s s_low. has s s_low (cases_eq s t);
      low = low_too;
    }
      where
        class_here : (s : ℕ) → s ≡ t → class_of new_class s ≡ c
        class_here s same =
            ap (λ xs. get_or xs s 0) written ∙ ap (λ x. get_or (set class t c) x 0) same ∙ get_or-set_same class t c
            0 within

        class_there : (s : ℕ) → s ≢ t → class_of new_class s ≡ class_of class s
        class_there s other = ap (λ xs. get_or xs s 0) written ∙ get_or-set_other class t s c 0 other

        classes : (s : ℕ) → s < n → (s ≡ t) ⊎ (s ≡ t → ⊥) → class_of new_class s < length new
        classes s s_low (inl same) =
            let at = class_here s same in let same_length = long c row low is in omega (arith, at, low, same_length)
        classes s s_low (inr other) =
            let at = class_there s other in
            let before = old.classes s s_low in
            let same_length = long c row low is in
            omega (arith, at, before, same_length)

        has : (s : ℕ) → s < n → (s ≡ t) ⊎ (s ≡ t → ⊥) → Contains (get_or new (class_of new_class s) none) s
        has s s_low (inl same) =
            subst (λ d. Contains (get_or new d none) s) (sym (class_here s same))
            (subst (λ x. Contains (get_or new c none) x) (sym same) in_it)
        has s s_low (inr other) =
            subst (λ d. Contains (get_or new d none) s) (sym (class_there s other))
            (stays (class_of class s) s (old.has s s_low))

        low_too : (d s : ℕ) → Contains (get_or new d none) s → s < n
        low_too d s h = low_of n (omega arith) t_low d s (from_at c row low is d s h)

  pub widened : new ≡ rows ++ none ∷ [] → HasMembers class n new
  widened is = record {
    classes = λ s s_low. omega (arith, old.classes s s_low, ap length is, length-append rows (none ∷ []));
    has = λ s s_low.
        subst (λ xs. Contains xs s)
        (sym (ap (λ rs. get_or rs (class_of class s) none) is
        ∙ get_or_append_left rows (none ∷ []) none (class_of class s) (old.classes s s_low)))
        (old.has s s_low);
    low = λ d s h. low d s h (cases_lt d (length rows));
  }
    where
      low : (d s : ℕ) → Contains (get_or new d none) s → (d < length rows) ⊎ (length rows ≤ d) → s < n
      low d s h (inl before) =
          old.low d s (subst (λ xs. Contains xs s)
          (ap (λ rs. get_or rs d none) is ∙ get_or_append_left rows (none ∷ []) none d before) h)
      low d s h (inr behind) = absurd (contains_none s (subst (λ xs. Contains xs s) (empty (cases_eq d (length rows))) h))
        where
          empty : (d ≡ length rows) ⊎ (d ≡ length rows → ⊥) → get_or new d none ≡ none
          empty (inl same) = ap (λ rs. get_or rs d none) is ∙ last_entry rows none none d same
          empty (inr other) =
              get_or_past new d none (omega (arith, behind, other, ap length is, length-append rows (none ∷ [])))

-- a list of the members, as a vector among vectors
module _ (class : List ℕ) (n : ℕ) (members : List (Vec ℕ)) (is : HasMembers class n (rows members)) (c : ℕ)
    (low : c < length members)
    (v : Vec ℕ) where
  abbrev this : List ℕ
  this = (get_or members c v).items

  pub row_is : get_or (rows members) c none ≡ this
  row_is = get_or-map (λ (u : Vec ℕ). u.items) members c v none low

  pub row_low : All (λ s. s < n) this
  row_low = λ k d k_low.
      is.low c (get_or this k d)
      (subst (λ xs. Contains xs (get_or this k d)) (sym row_is)
      (k, k_low, get_or_default this k (get_or this k d) d k_low))

  pub row_has : (s : ℕ) → s < n → class_of class s ≡ c → Contains this s
  row_has s s_low e =
      subst (λ xs. Contains xs s) row_is (subst (λ d. Contains (get_or (rows members) d none) s) e (is.has s s_low))

  pub row_pruned : (new : Vec ℕ)
      → All (λ s. s < n) new.items
      → ((s : ℕ) → class_of class s ≡ c → Contains this s → Contains new.items s)
      → HasMembers class n (rows (set members c new))
  row_pruned new all kept =
      pruned class n (rows members) (rows (set members c new)) is c new.items
      (omega (arith, low, length-map members (λ (u : Vec ℕ). u.items)))
      (row_written (λ (u : Vec ℕ). u.items) members c new new.items refl)
      (λ s e h. kept s e (subst (λ xs. Contains xs s) row_is h)) all
