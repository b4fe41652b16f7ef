-- What a round makes of the classes.
--
--   same_itself, same_back, same_further == states that match each other's edges, as an equivalence
--   Stays, Renamed   == a settled state keeps its class, and one that isn't settled gets the name of its part
--   across           == such two have one class then if they had one, and match each other's edges
--   is_finer         == so it is with any two
--   value_kept       == no number of a class is lost
--   split_grows      == and where a state is renamed there is one more
--   parts_as, one_class, one_part == what is known of parts
--   split_is         == what a round makes of a partition
use Rattle.std.proofs.Common.{ℕ, ◌≡◌, ◌≢◌, ◌<◌, ◌≤◌, ◌↔◌, ◌⊎◌, inl, inr, Bool, List, [], ◌∷◌, length, get_or, Contains, refl, sym, ap, ◌∙◌, subst, arith}
use Rattle.std.proofs.lemmas.Bool.{cases_eq}
use Rattle.std.proofs.lemmas.List.{get_or_default}
use Rattle.ml_base.specs.Structure.{Structure}
use Rattle.ml_lists.specs.Member.{IsMember}
use Rattle.ml_lists.proofs.Member.{Place, member-place, place-member}
use Rattle.ml_lists.proofs.Members.{contains_head}
use Rattle.ml_bisim.specs.Quotient.{class_of}
use Rattle.ml_bisim.specs.declared.partition.Partition.{Partition}
use Rattle.ml_bisim.specs.private.Rounds.{AreChosen, AreKept, AreNames, AreRenamed, AreSet, AreSettled, Grows, HasMembers, IsFiner, IsRefined, IsSettled, IsSplit, KeepsFrom, different, name_at, rows}
use Rattle.ml_bisim.specs.private.Signatures.{AreParts, SameSteps}
use Rattle.ml_bisim.proofs.Different.{more, no_fewer}

module _ (m : Structure) (class : List ℕ) where
  pub same_itself : (s : ℕ) → SameSteps m class s s
  same_itself s = record { forth = λ a x edge. (x, edge, refl); back = λ a x edge. (x, edge, refl) }

  pub same_back : (s t : ℕ) → SameSteps m class s t → SameSteps m class t s
  same_back s t same = record {
    forth = λ a y edge. let there = same.back a y edge in (there.0, there.1, sym there.2);
    back = λ a x edge. let there = same.forth a x edge in (there.0, there.1, sym there.2);
  }

  pub same_further : (s t u : ℕ) → SameSteps m class s t → SameSteps m class t u → SameSteps m class s u
  same_further s t u one other = record {
    forth = λ a x edge.
        let there = one.forth a x edge in
        let further = other.forth a there.0 there.1 in
        (further.0, further.1, there.2 ∙ further.2);
    back = λ a z edge.
        let there = other.back a z edge in
        let further = one.back a there.0 there.1 in
        (further.0, further.1, further.2 ∙ there.2);
  }

module _ (m : Structure) (class : List ℕ) (flags : List Bool) (each_state : length class ≡ m.states)
    (settled : AreSettled m class flags) (states : List ℕ) (first : ℕ) (chosen : AreChosen class flags m.states first
    states)
    (listed : (s : ℕ) → s < m.states → IsSettled flags s ⊎ ((i : ℕ) × (i < first) × (get_or states i 0 ≡ s)))
    (ns : List ℕ) (count : ℕ) (parts : AreParts m class states ns count)
    (keeper : List ℕ) (kept : AreKept class states ns keeper first) (old new : ℕ)
    (old_low : (s : ℕ) → s < m.states → class_of class s < old) (names : List ℕ)
    (named : AreNames class states ns keeper names old new)
    (after renamed : List ℕ) (are : AreRenamed class states ns names first m.states after renamed) where
  abbrev class_at : ℕ → ℕ
  class_at i = class_of class (get_or states i 0)

  abbrev Alike : ℕ → ℕ → Type 0
  Alike s t = (class_of class s ≡ class_of class t) × SameSteps m class s t

  low_at : (i : ℕ) → i < first → i < length states
  low_at i low = omega (arith, low, chosen.before)

  state_low : (i : ℕ) → i < length states → get_or states i 0 < m.states
  state_low i low = chosen.in_range i 0 low

  record Stays (s : ℕ) : Type 0 where
    pub settled_one : IsSettled flags s
    pub same : class_of after s ≡ class_of class s

  record Renamed (s : ℕ) : Type 0 where
    pub place : ℕ
    pub before : place < first
    pub stands : get_or states place 0 ≡ s
    pub has_name : class_of after s ≡ name_at names ns place

  by_place : (s i : ℕ) → i < first → get_or states i 0 ≡ s → Renamed s
  by_place s i low e = record {
    place = i;
    before = low;
    stands = e;
    has_name = ap (class_of after) (sym e) ∙ are.named i low;
  }

  moved : (s : ℕ) → s < m.states → Stays s ⊎ Renamed s
  moved s low = by_case (are.others s) (listed s low)
    where
      by_case : (class_of after s ≡ class_of class s) ⊎ ((i : ℕ) × (i < first) × (get_or states i 0 ≡ s))
          → IsSettled flags s ⊎ ((i : ℕ) × (i < first) × (get_or states i 0 ≡ s))
          → Stays s ⊎ Renamed s
      by_case (inr (i, i_low, e)) other = inr (by_place s i i_low e)
      by_case (inl same) (inr (i, i_low, e)) = inr (by_place s i i_low e)
      by_case (inl same) (inl is) = inl (record { settled_one = is; same = same })

  -- where a settled state has the class of one that isn't, its part keeps the number of the class
  record HeldBy (t : ℕ) : Type 0 where
    pub place : ℕ
    pub low : place < length states
    pub one_class : class_at place ≡ class_of class t
    pub keeps : get_or keeper (class_of class t) 0 ≡ get_or ns place 0
    pub alike : SameSteps m class (get_or states place 0) t

  held : (t i : ℕ) → t < m.states → IsSettled flags t → i < first → class_at i ≡ class_of class t → HeldBy t
  held t i t_low is i_low e = by_case (chosen.some i i_low)
    where
      of_kept : (j : ℕ) → class_at j ≡ class_at i → KeepsFrom class states ns keeper first (class_at j) → HeldBy t
      of_kept j same (k, from, low, at, keeps) =
          let class_here = at ∙ same ∙ e in
          record {
            place = k;
            low = low;
            one_class = class_here;
            keeps = ap (λ c. get_or keeper c 0) (sym (same ∙ e)) ∙ keeps;
            alike = settled (get_or states k 0) t (state_low k low) t_low (chosen.settled k from low) is class_here;
          }

      by_case : ((j : ℕ) × (first ≤ j) × (j < length states) × (class_at j ≡ class_at i))
          ⊎ ((u : ℕ) → u < m.states → class_of class u ≡ class_at i → ¬ (IsSettled flags u)) → HeldBy t
      by_case (inr none) = absurd (none t t_low (sym e) is)
      by_case (inl (j, from, low, same)) = of_kept j same (kept.settled j from low)

  -- a state that isn't settled, and one that is
  across : (s t : ℕ) → t < m.states → Renamed s → Stays t → (class_of after s ≡ class_of after t) ↔ Alike s t
  across s t t_low r st = (there, back)
    where
      i_low : r.place < length states
      i_low = low_at r.place r.before

      class_s : class_at r.place ≡ class_of class s
      class_s = ap (class_of class) r.stands

      at_one : get_or keeper (class_at r.place) 0 ≡ get_or ns r.place 0 → class_of after s ≡ class_of after t → Alike s t
      at_one keeps e =
          let one : class_at r.place ≡ class_of class t =
          sym (named.kept r.place i_low keeps) ∙ sym r.has_name ∙ e ∙ st.same in
          let h = held t r.place t_low st.settled_one r.before one in
          let number = sym keeps ∙ ap (λ c. get_or keeper c 0) one ∙ h.keeps in
          let same = (parts.same r.place h.place i_low h.low).0 number in
          let steps = same_further m class (get_or states r.place 0) (get_or states h.place 0) t same.1 h.alike in
          (sym class_s ∙ one, subst (λ v. SameSteps m class v t) r.stands steps)

      there : class_of after s ≡ class_of after t → Alike s t
      there e = by_case (cases_eq (get_or keeper (class_at r.place) 0) (get_or ns r.place 0))
        where
          by_case : (get_or keeper (class_at r.place) 0 ≡ get_or ns r.place 0)
              ⊎ (get_or keeper (class_at r.place) 0 ≡ get_or ns r.place 0 → ⊥)
              → Alike s t
          by_case (inl keeps) = at_one keeps e
          by_case (inr other) =
              let new_one = named.fresh r.place i_low other in
              let below = old_low t t_low in
              let is : name_at names ns r.place ≡ class_of class t = sym r.has_name ∙ e ∙ st.same in
              absurd (omega (arith, new_one, below, is))

      back : Alike s t → class_of after s ≡ class_of after t
      back a =
          let one : class_at r.place ≡ class_of class t = class_s ∙ a.0 in
          let h = held t r.place t_low st.settled_one r.before one in
          let steps = subst (λ v. SameSteps m class v t) (sym r.stands) a.1 in
          let alike =
          same_further m class (get_or states r.place 0) t (get_or states h.place 0) steps
          (same_back m class (get_or states h.place 0) t h.alike) in
          let number = (parts.same r.place h.place i_low h.low).1 (one ∙ sym h.one_class, alike) in
          let keeps = ap (λ c. get_or keeper c 0) one ∙ h.keeps ∙ sym number in
          r.has_name ∙ named.kept r.place i_low keeps ∙ one ∙ sym st.same

  turned : (s t : ℕ) → (class_of after t ≡ class_of after s) ↔ Alike t s → (class_of after s ≡ class_of after t) ↔ Alike s t
  turned s t both = (
    (λ e. let a = both.0 (sym e) in (sym a.0, same_back m class t s a.1)),
    (λ a. sym (both.1 (sym a.0, same_back m class s t a.1))),
  )

  both_stay : (s t : ℕ) → s < m.states → t < m.states → Stays s → Stays t
      → (class_of after s ≡ class_of after t) ↔ Alike s t
  both_stay s t s_low t_low a b = (
    (λ e.
        let one = sym a.same ∙ e ∙ b.same in (one, settled s t s_low t_low a.settled_one b.settled_one one)),
    (λ alike. a.same ∙ alike.0 ∙ sym b.same),
  )

  both_renamed : (s t : ℕ) → Renamed s → Renamed t → (class_of after s ≡ class_of after t) ↔ Alike s t
  both_renamed s t a b =
      let a_low = low_at a.place a.before in
      let b_low = low_at b.place b.before in
      let same = parts.same a.place b.place a_low b_low in (
        (λ e. subst (λ u. Alike s u) b.stands (subst (λ u. Alike u (get_or states b.place 0)) a.stands
            (same.0 (named.apart a.place b.place a_low b_low (sym a.has_name ∙ e ∙ b.has_name))))),
        (λ alike.
            a.has_name
            ∙ ap (λ n. get_or names n 0) (same.1 (subst (λ u. Alike u (get_or states b.place 0)) (sym a.stands)
            (subst (λ u. Alike s u) (sym b.stands) alike)))
            ∙ sym b.has_name),
      )

  same : (s t : ℕ) → s < m.states → t < m.states → Stays s ⊎ Renamed s → Stays t ⊎ Renamed t
      → (class_of after s ≡ class_of after t) ↔ Alike s t
  same s t s_low t_low (inl a) (inl b) = both_stay s t s_low t_low a b
  same s t s_low t_low (inr a) (inr b) = both_renamed s t a b
  same s t s_low t_low (inr a) (inl b) = across s t t_low a b
  same s t s_low t_low (inl a) (inr b) = turned s t (across t s s_low b a)

  pub is_finer : IsFiner m class after
  is_finer = record {
    each_state = are.each_state ∙ each_state;
    same = λ s t s_low t_low. same s t s_low t_low (moved s s_low) (moved t t_low);
  }

  -- ---- numbers

  abbrev KeptIn : ℕ → Type 0
  KeptIn v = (t : ℕ) × (t < m.states) × (class_of after t ≡ v)

  -- the state at this place has the name of its part, if it isn't settled, and its class
  value_at : (j : ℕ) → j < length states → name_at names ns j ≡ class_at j → KeptIn (class_at j)
  value_at j low is = (get_or states j 0, state_low j low, by_case (moved (get_or states j 0) (state_low j low)))
    where
      by_case : Stays (get_or states j 0) ⊎ Renamed (get_or states j 0) → class_of after (get_or states j 0) ≡ class_at j
      by_case (inl st) = st.same
      by_case (inr r) =
          let one : get_or ns r.place 0 ≡ get_or ns j 0 =
          (parts.same r.place j (low_at r.place r.before) low).1
          (subst (λ u. Alike u (get_or states j 0)) (sym r.stands) (refl, same_itself m class (get_or states j 0))) in
          r.has_name ∙ ap (λ n. get_or names n 0) one ∙ is

  value_kept : (s : ℕ) → s < m.states → KeptIn (class_of class s)
  value_kept s low = by_case (moved s low)
    where
      of_kept : (i : ℕ) → class_at i ≡ class_of class s → KeepsFrom class states ns keeper 0 (class_at i)
          → KeptIn (class_of class s)
      of_kept i is (j, from, j_low, at, keeps) =
          let name = named.kept j j_low (ap (λ c. get_or keeper c 0) at ∙ keeps) in
          subst KeptIn (at ∙ is) (value_at j j_low name)

      by_case : Stays s ⊎ Renamed s → KeptIn (class_of class s)
      by_case (inl st) = (s, low, st.same)
      by_case (inr r) =
          of_kept r.place (ap (class_of class) r.stands) (kept.each r.place (low_at r.place r.before))

  -- a name that isn't the class of its state is the class of no state
  new_value : (x : ℕ) → x < m.states → class_of after x ≢ class_of class x → (s : ℕ) → s < m.states
      → class_of class s ≢ class_of after x
  new_value x x_low other s s_low e = by_case (moved x x_low)
    where
      by_keeper : (r : Renamed x)
          → (get_or keeper (class_at r.place) 0 ≡ get_or ns r.place 0)
          ⊎ (get_or keeper (class_at r.place) 0 ≡ get_or ns r.place 0 → ⊥)
          → ⊥
      by_keeper r (inl keeps) =
          other (r.has_name ∙ named.kept r.place (low_at r.place r.before) keeps ∙ ap (class_of class) r.stands)
      by_keeper r (inr fresh) =
          let above = named.fresh r.place (low_at r.place r.before) fresh in
          let below = old_low s s_low in
          let is : class_of class s ≡ name_at names ns r.place = e ∙ r.has_name in
          omega (arith, above, below, is)

      by_case : Stays x ⊎ Renamed x → ⊥
      by_case (inl st) = other st.same
      by_case (inr r) = by_keeper r (cases_eq (get_or keeper (class_at r.place) 0) (get_or ns r.place 0))

  value_member : (v : ℕ) → KeptIn v → IsMember v after
  value_member v (t, low, is) =
      subst (λ x. IsMember x after) is (place-member after t 0 (omega (arith, low, are.each_state, each_state)))

  inside : (v : ℕ) → IsMember v class → IsMember v after
  inside v mem = of_place (member-place v class mem)
    where
      of_place : Place v class → IsMember v after
      of_place p = value_member v (subst KeptIn (p.holds 0) (value_kept p.place (omega (arith, p.below, each_state))))

  one_more : (x : ℕ) → Contains renamed x → different class < different after
  one_more x h =
      let real = are.only x h in
      more class after inside (class_of after x) (value_member (class_of after x) (x, real.0, refl))
      (λ mem. none real (member-place (class_of after x) class mem))
    where
      none : (x < m.states) × (class_of after x ≢ class_of class x) → Place (class_of after x) class → ⊥
      none real p = new_value x real.0 real.1 p.place (omega (arith, p.below, each_state)) (p.holds 0)

  pub split_grows : Grows class after renamed
  split_grows = by_list renamed refl
    where
      by_list : (xs : List ℕ) → renamed ≡ xs → Grows class after renamed
      by_list [] e = inr (e, no_fewer class after inside)
      by_list (x ∷ xs) e = inl (one_more x (subst (λ ys. Contains ys x) (sym e) (contains_head x xs)))

-- ---- where states and classes stand in several places

pub parts_as : (m : Structure) (class lent states given : List ℕ) (ns : List ℕ) (n : ℕ)
    → lent ≡ class
    → given ≡ states
    → AreParts m class states ns n
    → AreParts m lent given ns n
parts_as m class lent states given ns n same_class same_states parts =
    subst (λ c. AreParts m c given ns n) (sym same_class) (subst (λ xs. AreParts m class xs ns n) (sym same_states) parts)

pub one_class : (m : Structure) (class states ns : List ℕ) (n : ℕ) → AreParts m class states ns n → (i j : ℕ)
    → i < length states
    → j < length states
    → get_or ns i 0 ≡ get_or ns j 0
    → class_of class (get_or states i 0) ≡ class_of class (get_or states j 0)
one_class m class states ns n parts i j i_low j_low e = ((parts.same i j i_low j_low).0 e).0

pub one_part : (m : Structure) (class states ns : List ℕ) (n : ℕ) → AreParts m class states ns n → (i j : ℕ)
    → i < length states
    → j < length states
    → get_or states i 0 ≡ get_or states j 0
    → get_or ns i 0 ≡ get_or ns j 0
one_part m class states ns n parts i j i_low j_low e =
    (parts.same i j i_low j_low).1
    (ap (class_of class) e, subst (SameSteps m class (get_or states i 0)) e (same_itself m class (get_or states i 0)))

pub split_is : (m : Structure) (p q : Partition) (unsettled states ns keeper names renamed : List ℕ) (count old new : ℕ)
    → IsRefined m p unsettled
    → AreChosen p.class.items p.is_settled.items m.states (length unsettled) states
    → ((i : ℕ) → i < length unsettled → get_or states i 0 ≡ get_or unsettled i 0)
    → AreParts m p.class.items states ns count
    → AreKept p.class.items states ns keeper (length unsettled)
    → AreNames p.class.items states ns keeper names old new
    → ((s : ℕ) → s < m.states → class_of p.class.items s < old)
    → AreRenamed p.class.items states ns names (length unsettled) m.states q.class.items renamed
    → AreSet p.is_settled.items states (length unsettled) q.is_settled.items
    → HasMembers q.class.items m.states (rows q.members.items)
    → length q.keeper.items ≡ length q.members.items
    → IsSplit m p.class.items q renamed
split_is m p q unsettled states ns keeper names renamed count old new is chosen front parts kept named old_low are
    set members keepers =
    record {
      finer = is_finer m p.class.items p.is_settled.items is.part.each_state is.settled states (length unsettled)
          chosen listed
          ns count parts keeper kept old new old_low names named q.class.items renamed are;
      members = members;
      keepers = keepers;
      flags = set.each_state ∙ is.flags;
      settled = λ s low. settled s (listed s low);
      has = are.has;
      in_range = λ k d low. (are.only (get_or renamed k d)
          (k, low, get_or_default renamed k (get_or renamed k d) d low)).0;
      grows = split_grows m p.class.items p.is_settled.items is.part.each_state is.settled states (length unsettled) chosen
          listed ns count parts keeper kept old new old_low names named q.class.items renamed are;
    }
  where
    listed : (s : ℕ) → s < m.states
        → IsSettled p.is_settled.items s ⊎ ((i : ℕ) × (i < length unsettled) × (get_or states i 0 ≡ s))
    listed s low = by_case (is.listed s low)
      where
        by_case : IsSettled p.is_settled.items s ⊎ Contains unsettled s
            → IsSettled p.is_settled.items s ⊎ ((i : ℕ) × (i < length unsettled) × (get_or states i 0 ≡ s))
        by_case (inl h) = inl h
        by_case (inr (i, i_low, at)) = inr (i, i_low, front i i_low ∙ get_or_default unsettled i 0 s i_low ∙ at)

    settled : (s : ℕ) → IsSettled p.is_settled.items s ⊎ ((i : ℕ) × (i < length unsettled) × (get_or states i 0 ≡ s))
        → IsSettled q.is_settled.items s
    settled s (inl h) = set.stay s h
    settled s (inr (i, low, at)) = subst (IsSettled q.is_settled.items) at (set.set i low)
