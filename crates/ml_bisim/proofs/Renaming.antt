-- States get the names of their parts, one after the other.
--
--   renamed_none, set_none   == at first
--   renamed_more, renamed_same == the next state gets another name than it has, or has it already
--   set_more                 == it is settled
--   RenamedSo                == the first i states have their names, in a partition
--   named_already, named_now == so has the next one, with the name that it had or another one
use Rattle.std.proofs.Common.{ℕ, ◌≡◌, ◌≢◌, ◌+◌, ◌<◌, ◌⊎◌, inl, inr, Bool, true, false, List, [], ◌∷◌, ◌++◌, length, get_or, set, Contains, refl, sym, ap, ◌∙◌, subst, arith}
use Rattle.std.proofs.lemmas.Bool.{cases_eq}
use Rattle.std.proofs.lemmas.List.{get_or-set_same, get_or-set_other, length-map, length-set}
use Rattle.std.specs.Global.{Vec}
use Rattle.std.specs.Vec.{with_item}
use Rattle.std.proofs.lemmas.List.Elements.{Contains-append_left, Contains-append_right, Contains-append_cases}
use Rattle.ml_lists.proofs.Members.{contains_cases, contains_head, contains_none}
use Rattle.ml_bisim.specs.Quotient.{class_of}
use Rattle.ml_bisim.specs.declared.partition.Partition.{Partition}
use Rattle.ml_bisim.specs.private.Rounds.{AreRenamed, AreSet, HasMembers, IsSettled, name_at, rows}
use Rattle.ml_bisim.proofs.MemberLists.{moved, row_pushed}

module _ (old states ns names : List ℕ) (n : ℕ) where
  abbrev Renamed : ℕ → List ℕ → List ℕ → Type 0
  Renamed i class renamed = AreRenamed old states ns names i n class renamed

  pub renamed_none : (renamed : List ℕ) → renamed ≡ [] → Renamed 0 old renamed
  renamed_none renamed none = record {
    each_state = refl;
    named = λ i low. absurd (omega (arith, low));
    others = λ s. inl refl;
    has = λ s. inl refl;
    only = λ s h. absurd (contains_none s (subst (λ xs. Contains xs s) none h));
  }

  module _ (i s : ℕ) (class renamed : List ℕ) (is : Renamed i class renamed) (at : get_or states i 0 ≡ s) where
    further : (t : ℕ) → (class_of class t ≡ class_of old t) ⊎ ((j : ℕ) × (j < i) × (get_or states j 0 ≡ t))
        → (class_of class t ≡ class_of old t) ⊎ ((j : ℕ) × (j < i + 1) × (get_or states j 0 ≡ t))
    further t (inl same) = inl same
    further t (inr (j, low, e)) = inr (j, omega (arith, low), e)

    pub renamed_same : class_of class s ≡ name_at names ns i → Renamed (i + 1) class renamed
    renamed_same has_name = record {
      each_state = is.each_state;
      named = λ j low. named j low (cases_eq j i);
      others = λ t. further t (is.others t);
      has = is.has;
      only = is.only;
    }
      where
        named : (j : ℕ) → j < i + 1 → (j ≡ i) ⊎ (j ≡ i → ⊥) → class_of class (get_or states j 0) ≡ name_at names ns j
        named j low (inl same) =
            ap (λ k. class_of class (get_or states k 0)) same ∙ ap (class_of class) at ∙ has_name
            ∙ ap (name_at names ns) (sym same)
        named j low (inr other) = is.named j (omega (arith, low, other))

    pub renamed_more : (new more : List ℕ)
        → s < length class
        → s < n
        → class_of class s ≢ name_at names ns i
        → ((j : ℕ) → j < i → get_or states j 0 ≡ get_or states i 0 → get_or ns j 0 ≡ get_or ns i 0)
        → new ≡ set class s (name_at names ns i)
        → more ≡ renamed ++ s ∷ []
        → Renamed (i + 1) new more
    renamed_more new more within low other one_part written pushed = record {
      each_state = ap length written ∙ length-set class s (name_at names ns i) ∙ is.each_state;
      named = λ j under. named j under (cases_eq (get_or states j 0) s) (cases_eq j i);
      others = λ t. others t (cases_eq t s);
      has = λ t. has t (cases_eq t s);
      only = λ t h. only t (Contains-append_cases renamed (s ∷ []) t (subst (λ xs. Contains xs t) pushed h));
    }
      where
        here : (t : ℕ) → t ≡ s → class_of new t ≡ name_at names ns i
        here t same =
            ap (λ xs. get_or xs t 0) written ∙ ap (λ u. get_or (set class s (name_at names ns i)) u 0) same
            ∙ get_or-set_same class s (name_at names ns i) 0 within

        there : (t : ℕ) → t ≢ s → class_of new t ≡ class_of class t
        there t apart = ap (λ xs. get_or xs t 0) written ∙ get_or-set_other class s t (name_at names ns i) 0 apart

        -- the state had its old class so far
        first_time : class_of class s ≡ class_of old s
        first_time = by_case (is.others s)
          where
            by_case : (class_of class s ≡ class_of old s) ⊎ ((j : ℕ) × (j < i) × (get_or states j 0 ≡ s))
                → class_of class s ≡ class_of old s
            by_case (inl same) = same
            by_case (inr (j, j_low, e)) =
                absurd (other (ap (class_of class) (sym e) ∙ is.named j j_low
                ∙ ap (λ g. get_or names g 0) (one_part j j_low (e ∙ sym at))))

        named : (j : ℕ) → j < i + 1 → (get_or states j 0 ≡ s) ⊎ (get_or states j 0 ≡ s → ⊥) → (j ≡ i) ⊎ (j ≡ i → ⊥)
            → class_of new (get_or states j 0) ≡ name_at names ns j
        named j under (inl same) (inl last) = here (get_or states j 0) same ∙ ap (name_at names ns) (sym last)
        named j under (inl same) (inr before) =
            here (get_or states j 0) same
            ∙ ap (λ g. get_or names g 0) (sym (one_part j (omega (arith, under, before)) (same ∙ sym at)))
        named j under (inr apart) (inl last) = absurd (apart (ap (λ k. get_or states k 0) last ∙ at))
        named j under (inr apart) (inr before) =
            there (get_or states j 0) apart ∙ is.named j (omega (arith, under, before))

        others : (t : ℕ) → (t ≡ s) ⊎ (t ≡ s → ⊥)
            → (class_of new t ≡ class_of old t) ⊎ ((j : ℕ) × (j < i + 1) × (get_or states j 0 ≡ t))
        others t (inl same) = inr (i, omega arith, at ∙ sym same)
        others t (inr apart) = by_case (is.others t)
          where
            by_case : (class_of class t ≡ class_of old t) ⊎ ((j : ℕ) × (j < i) × (get_or states j 0 ≡ t))
                → (class_of new t ≡ class_of old t) ⊎ ((j : ℕ) × (j < i + 1) × (get_or states j 0 ≡ t))
            by_case (inl same) = inl (there t apart ∙ same)
            by_case (inr (j, j_low, e)) = inr (j, omega (arith, j_low), e)

        in_more : (t : ℕ) → Contains (renamed ++ s ∷ []) t → Contains more t
        in_more t h = subst (λ xs. Contains xs t) (sym pushed) h

        has : (t : ℕ) → (t ≡ s) ⊎ (t ≡ s → ⊥) → (class_of new t ≡ class_of old t) ⊎ Contains more t
        has t (inl same) =
            inr (in_more t (Contains-append_right renamed (s ∷ []) t
            (subst (λ u. Contains (s ∷ []) u) (sym same) (contains_head s []))))
        has t (inr apart) = by_case (is.has t)
          where
            by_case : (class_of class t ≡ class_of old t) ⊎ Contains renamed t
                → (class_of new t ≡ class_of old t) ⊎ Contains more t
            by_case (inl same) = inl (there t apart ∙ same)
            by_case (inr h) = inr (in_more t (Contains-append_left renamed (s ∷ []) t h))

        renamed_here : (t : ℕ) → t ≡ s → (t < n) × (class_of new t ≢ class_of old t)
        renamed_here t same = (
          subst (λ u. u < n) (sym same) low,
          λ e. other (first_time ∙ ap (class_of old) (sym same) ∙ sym e ∙ here t same),
        )

        only : (t : ℕ) → Contains renamed t ⊎ Contains (s ∷ []) t → (t < n) × (class_of new t ≢ class_of old t)
        only t (inl h) = by_case (cases_eq t s)
          where
            by_case : (t ≡ s) ⊎ (t ≡ s → ⊥) → (t < n) × (class_of new t ≢ class_of old t)
            by_case (inl same) = renamed_here t same
            by_case (inr apart) = let real = is.only t h in (real.0, λ e. real.1 (sym (there t apart) ∙ e))
        only t (inr h) = by_head (contains_cases s [] t h)
          where
            by_head : (s ≡ t) ⊎ Contains [] t → (t < n) × (class_of new t ≢ class_of old t)
            by_head (inl same) = renamed_here t (sym same)
            by_head (inr none) = absurd (contains_none t none)

module _ (old : List Bool) (states : List ℕ) where
  pub set_none : AreSet old states 0 old
  set_none = record { each_state = refl; stay = λ s is. is; set = λ i low. absurd (omega (arith, low)) }

  pub set_more : (i s : ℕ) (flags new : List Bool)
      → AreSet old states i flags
      → get_or states i 0 ≡ s
      → s < length flags
      → new ≡ set flags s true
      → AreSet old states (i + 1) new
  set_more i s flags new is at within written = record {
    each_state = ap length written ∙ length-set flags s true ∙ is.each_state;
    stay = λ t was. stays t (is.stay t was) (cases_eq t s);
    set = λ j under. set_at j under (cases_eq j i);
  }
    where
      here : (t : ℕ) → t ≡ s → IsSettled new t
      here t same =
          ap (λ xs. get_or xs t false) written ∙ ap (λ u. get_or (set flags s true) u false) same
          ∙ get_or-set_same flags s true false within

      stays : (t : ℕ) → IsSettled flags t → (t ≡ s) ⊎ (t ≡ s → ⊥) → IsSettled new t
      stays t was (inl same) = here t same
      stays t was (inr apart) = ap (λ xs. get_or xs t false) written ∙ get_or-set_other flags s t true false apart ∙ was

      set_at : (j : ℕ) → j < i + 1 → (j ≡ i) ⊎ (j ≡ i → ⊥) → IsSettled new (get_or states j 0)
      set_at j under (inl same) = here (get_or states j 0) (ap (λ k. get_or states k 0) same ∙ at)
      set_at j under (inr other) = stays (get_or states j 0) (is.set j (omega (arith, under, other)))
          (cases_eq (get_or states j 0) s)

-- ---- a partition, as its states get their names

pub record RenamedSo (old : Partition) (states ns names : List ℕ) (i : ℕ) (p : Partition) (renamed : List ℕ) : Type 0 where
  pub members : HasMembers p.class.items (length old.class.items) (rows p.members.items)
  pub each_class : length p.members.items ≡ length old.members.items
  pub keepers : p.keeper.items ≡ old.keeper.items
  pub flags : AreSet old.is_settled.items states i p.is_settled.items
  pub names_are : AreRenamed old.class.items states ns names i (length old.class.items) p.class.items renamed

module _ (old : Partition) (states ns names : List ℕ) (i s : ℕ) (p q : Partition) (renamed : List ℕ)
    (is : RenamedSo old states ns names i p renamed) (at : get_or states i 0 ≡ s) (low : s < length old.class.items)
    (flags : length old.is_settled.items ≡ length old.class.items) where
  set_next : AreSet old.is_settled.items states (i + 1) (set p.is_settled.items s true)
  set_next =
      set_more old.is_settled.items states i s p.is_settled.items (set p.is_settled.items s true) is.flags at
      (omega (arith, low, flags, is.flags.each_state)) refl

  pub named_already : q ≡ record {
    class = p.class;
    members = p.members;
    keeper = p.keeper;
    is_settled = with_item p.is_settled s true;
  }
      → class_of p.class.items s ≡ name_at names ns i
      → RenamedSo old states ns names (i + 1) q renamed
  named_already same has_name = subst (λ r. RenamedSo old states ns names (i + 1) r renamed) (sym same) (record {
    members = is.members;
    each_class = is.each_class;
    keepers = is.keepers;
    flags = set_next;
    names_are = renamed_same old.class.items states ns names (length old.class.items) i s p.class.items renamed
        is.names_are at has_name;
  })

  pub named_now : (row pushed : Vec ℕ) (more : List ℕ)
      → q ≡ record {
        class = with_item p.class s (name_at names ns i);
        members = with_item p.members (name_at names ns i) pushed;
        keeper = p.keeper;
        is_settled = with_item p.is_settled s true;
      }
      → name_at names ns i < length old.members.items
      → class_of p.class.items s ≢ name_at names ns i
      → ((j : ℕ) → j < i → get_or states j 0 ≡ get_or states i 0 → get_or ns j 0 ≡ get_or ns i 0)
      → row ≡ get_or p.members.items (name_at names ns i) row
      → pushed.items ≡ row.items ++ s ∷ []
      → more ≡ renamed ++ s ∷ []
      → RenamedSo old states ns names (i + 1) q more
  named_now row pushed more same name_low other one_part read put added =
      let name = name_at names ns i in
      let within : s < length p.class.items = omega (arith, low, is.names_are.each_state) in
      let member_low : name < length p.members.items = omega (arith, name_low, is.each_class) in
      let rows_long = length-map p.members.items (λ (v : Vec ℕ). v.items) in
      subst (λ r. RenamedSo old states ns names (i + 1) r more) (sym same) (record {
        members =
            moved p.class.items (length old.class.items) (rows p.members.items) (rows (set p.members.items name pushed))
            is.members name s (omega (arith, member_low, rows_long))
            (row_pushed (λ (v : Vec ℕ). v.items) p.members.items name s row pushed member_low read put)
            (set p.class.items s name) low within refl;
        each_class = length-set p.members.items name pushed ∙ is.each_class;
        keepers = is.keepers;
        flags = set_next;
        names_are =
            renamed_more old.class.items states ns names (length old.class.items) i s p.class.items renamed is.names_are at
            (set p.class.items s name) more within low other one_part refl added;
      })
