-- Whether two states of a structure are bisimilar is decided: there are finitely many relations on its states, and of each it
-- is decided whether it is a bisimulation.
--
--   Matches R s t        == s and t have the same propositions, and edges that match each other by R
--   cut_is, cut_matches  == a relation cut to the states is a bisimulation exactly where its joined states match
--   decided_matches      == which is decided
--   table, table_joins   == a relation on the states as rows of truth values
--   decided_bisimilar    == so bisimilarity is decided
use Rattle.std.proofs.Common.{ℕ, ◌≡◌, ◌<◌, ◌&&◌, Bool, true, false, nat_lt, List, [], map, get_or, Contains, IsTrue, refl, sym, ap, ◌∙◌, subst, arith, lt-ltb}
use Rattle.std.specs.List.{range_with_len}
use Rattle.std.proofs.lemmas.Bool.{and_parts, and_from}
use Rattle.std.proofs.lemmas.Bool.Decides.{nat_tests}
use Rattle.std.proofs.lemmas.List.FromFn.{get_or-map-range_with_len}
use Rattle.ml_base.specs.declared.structure.Edge.{Edge}
use Rattle.ml_base.specs.Structure.{Structure, IsStructure, lists}
use Rattle.ml_lists.specs.Member.{IsMember}
use Rattle.ml_lists.proofs.Decided.{Decided, decided_same, decided_both, decided_bytes, decided_number, decided_test}
use Rattle.ml_lists.proofs.Deciding.{Having, decided_below, decided_if, decided_member, decided_members, some_member}
use Rattle.ml_lists.proofs.Members.{member_of_contains, contains_of_member}
use Rattle.ml_lists.proofs.Says.{same_truth}
use Rattle.ml_bisim.specs.Bisimilar.{Bisimilar, HasEdge, IsBisimulation}
use Rattle.ml_bisim.proofs.Classes.{edge_from, target_low}
use Rattle.ml_bisim.proofs.FiniteSearch.{AreEach, mapped, some_bool, some_list}
use Rattle.ml_bisim.proofs.Labels.{listed, row}

module _ (m : Structure) (ok : IsStructure m) where
  abbrev pub HasLabels : ℕ → ℕ → Type 0
  HasLabels s t = (p : List ℕ) → IsMember p (row m s) → IsMember p (row m t)

  -- each edge of s is matched by one of t
  abbrev pub HasSteps : (ℕ → ℕ → Bool) → ℕ → ℕ → Type 0
  HasSteps R s t = (e : Edge) → IsMember e m.edges → e.source ≡ s
      → Having (λ (f : Edge). (f.source ≡ t) × ((f.action ≡ e.action) × (R e.target f.target ≡ true))) m.edges

  abbrev pub flipped : (ℕ → ℕ → Bool) → ℕ → ℕ → Bool
  flipped R s t = R t s

  pub record Matches (R : ℕ → ℕ → Bool) (s t : ℕ) : Type 0 where
    pub labels : HasLabels s t
    pub labels_back : HasLabels t s
    pub steps : HasSteps R s t
    pub steps_back : HasSteps (flipped R) t s

  abbrev pub AllMatch : (ℕ → ℕ → Bool) → Type 0
  AllMatch R = (s : ℕ) → s < m.states → (t : ℕ) → t < m.states → R s t ≡ true → Matches R s t

  -- ---- relations cut to the states

  abbrev pub cut : (ℕ → ℕ → Bool) → ℕ → ℕ → Bool
  cut R s t = nat_lt s m.states && (nat_lt t m.states && R s t)

  record AreJoined (R : ℕ → ℕ → Bool) (s t : ℕ) : Type 0 where
    pub source : s < m.states
    pub target : t < m.states
    pub related : R s t ≡ true

  low_of : (s : ℕ) → nat_lt s m.states ≡ true → s < m.states
  low_of s e = grind (arith, nat_tests)

  joined : (R : ℕ → ℕ → Bool) (s t : ℕ) → IsTrue (cut R s t) → AreJoined R s t
  joined R s t e =
      let first = and_parts (nat_lt s m.states) (nat_lt t m.states && R s t) e in
      let rest = and_parts (nat_lt t m.states) (R s t) first.1 in
      record { source = low_of s first.0; target = low_of t rest.0; related = rest.1 }

  pub joins : (R : ℕ → ℕ → Bool) (s t : ℕ) → s < m.states → t < m.states → R s t ≡ true → IsTrue (cut R s t)
  joins R s t s_low t_low e =
      and_from (nat_lt s m.states) (nat_lt t m.states && R s t) (lt-ltb s m.states s_low)
      (and_from (nat_lt t m.states) (R s t) (lt-ltb t m.states t_low) e)

  same_labels : (s t : ℕ) → HasLabels s t → HasLabels t s → (p : List ℕ) → lists m s p ≡ lists m t p
  same_labels s t there back p =
      same_truth (lists m s p) (lists m t p)
      (λ e. (listed m t p).1 (contains_of_member p (row m t)
      (there p (member_of_contains p (row m s) ((listed m s p).0 e)))))
      (λ e. (listed m s p).1 (contains_of_member p (row m s)
      (back p (member_of_contains p (row m t) ((listed m t p).0 e)))))

  step_of : (R : ℕ → ℕ → Bool) (s t : ℕ) → HasSteps R s t → (a : List ℕ) (x : ℕ) → HasEdge m s a x
      → (y : ℕ) × HasEdge m t a y × (R x y ≡ true)
  step_of R s t steps a x edge = of_having (steps (edge_from s a x) (member_of_contains (edge_from s a x) m.edges edge) refl)
    where
      of_having : Having (λ (f : Edge). (f.source ≡ t) × ((f.action ≡ a) × (R x f.target ≡ true))) m.edges
          → (y : ℕ) × HasEdge m t a y × (R x y ≡ true)
      of_having h =
          let same : h.item ≡ edge_from t a h.item.target =
          λ i. record { source = h.holds.0 i; action = h.holds.1.0 i; target = h.item.target } in (
            h.item.target,
            subst (λ e. Contains m.edges e) same (contains_of_member h.item m.edges h.member),
            h.holds.1.1,
          )

  pub cut_is : (R : ℕ → ℕ → Bool) → AllMatch R → IsBisimulation m (cut R)
  cut_is R all = record {
    same_labels = λ s t e p.
        let j = joined R s t e in
        let match = all s j.source t j.target j.related in same_labels s t match.labels match.labels_back p;
    forth = λ s t e a x edge.
        let j = joined R s t e in
        let y = step_of R s t (all s j.source t j.target j.related).steps a x edge in
        (y.0, y.1, joins R x y.0 (target_low m ok s a x edge) (target_low m ok t a y.0 y.1) y.2);
    back = λ s t e a y edge.
        let j = joined R s t e in
        let x = step_of (flipped R) t s (all s j.source t j.target j.related).steps_back a y edge in
        (x.0, x.1, joins R x.0 y (target_low m ok s a x.0 x.1) (target_low m ok t a y edge) x.2);
  }

  -- ---- where a relation agrees with a bisimulation on the states

  labels_of : (R : ℕ → ℕ → Bool) → IsBisimulation m R → (s t : ℕ) → IsTrue (R s t) → HasLabels s t
  labels_of R is s t e p h =
      member_of_contains p (row m t)
      ((listed m t p).0 (sym (is.same_labels s t e p) ∙ (listed m s p).1 (contains_of_member p (row m s) h)))

  labels_back_of : (R : ℕ → ℕ → Bool) → IsBisimulation m R → (s t : ℕ) → IsTrue (R s t) → HasLabels t s
  labels_back_of R is s t e p h =
      member_of_contains p (row m s)
      ((listed m s p).0 (is.same_labels s t e p ∙ (listed m t p).1 (contains_of_member p (row m t) h)))

  having : (R : ℕ → ℕ → Bool) (t : ℕ) (a : List ℕ) (x y : ℕ) → HasEdge m t a y → R x y ≡ true
      → Having (λ (f : Edge). (f.source ≡ t) × ((f.action ≡ a) × (R x f.target ≡ true))) m.edges
  having R t a x y edge related = record {
    item = edge_from t a y;
    member = member_of_contains (edge_from t a y) m.edges edge;
    holds = (refl, (refl, related));
  }

  edge_at : (e : Edge) (s : ℕ) → IsMember e m.edges → e.source ≡ s → HasEdge m s e.action e.target
  edge_at e s h is = subst (λ u. HasEdge m u e.action e.target) is (contains_of_member e m.edges h)

  module _ (R T : ℕ → ℕ → Bool) (is : IsBisimulation m R)
      (agree : (s t : ℕ) → s < m.states → t < m.states → T s t ≡ R s t) where
    match : AllMatch T
    match s s_low t t_low e =
        let related : IsTrue (R s t) = sym (agree s t s_low t_low) ∙ e in
        record {
          labels = labels_of R is s t related;
          labels_back = labels_back_of R is s t related;
          steps = λ e h at.
              let edge = edge_at e s h at in
              let y = is.forth s t related e.action e.target edge in
              having T t e.action e.target y.0 y.1
              (agree e.target y.0 (target_low m ok s e.action e.target edge) (target_low m ok t e.action y.0 y.1) ∙ y.2);
          steps_back = λ e h at.
              let edge = edge_at e t h at in
              let x = is.back s t related e.action e.target edge in
              having (flipped T) s e.action e.target x.0 x.1
              (agree x.0 e.target (target_low m ok s e.action x.0 x.1) (target_low m ok t e.action e.target edge) ∙ x.2);
        }

  -- ---- it is decided

  decided_labels : (s t : ℕ) → Decided (HasLabels s t)
  decided_labels s t =
      decided_members (λ p. IsMember p (row m t)) (row m s) (λ p h. decided_member decided_bytes p (row m t))

  decided_steps : (R : ℕ → ℕ → Bool) (s t : ℕ) → Decided (HasSteps R s t)
  decided_steps R s t =
      decided_members
      (λ (e : Edge). e.source ≡ s
      → Having (λ (f : Edge). (f.source ≡ t) × ((f.action ≡ e.action) × (R e.target f.target ≡ true))) m.edges)
      m.edges
      (λ e h. decided_if (decided_number e.source s) (λ at.
      some_member (λ (f : Edge). (f.source ≡ t) × ((f.action ≡ e.action) × (R e.target f.target ≡ true))) m.edges
      (λ f i. decided_both (decided_number f.source t)
      (decided_both (decided_bytes f.action e.action) (decided_test (R e.target f.target))))))

  decided_matches : (R : ℕ → ℕ → Bool) (s t : ℕ) → Decided (Matches R s t)
  decided_matches R s t =
      decided_same
      (λ (all : (HasLabels s t × HasLabels t s) × (HasSteps R s t × HasSteps (flipped R) t s)).
      record { labels = all.0.0; labels_back = all.0.1; steps = all.1.0; steps_back = all.1.1 })
      (λ (match : Matches R s t). ((match.labels, match.labels_back), (match.steps, match.steps_back)))
      (decided_both (decided_both (decided_labels s t) (decided_labels t s))
      (decided_both (decided_steps R s t) (decided_steps (flipped R) t s)))

  decided_all : (R : ℕ → ℕ → Bool) → Decided (AllMatch R)
  decided_all R =
      decided_below (λ s. (t : ℕ) → t < m.states → R s t ≡ true → Matches R s t) m.states
      (λ s s_low. decided_below (λ t. R s t ≡ true → Matches R s t) m.states
      (λ t t_low. decided_if (decided_test (R s t)) (λ e. decided_matches R s t)))

  -- ---- relations as rows of truth values

  abbrev in_rows : List (List Bool) → ℕ → ℕ → Bool
  in_rows rows s t = get_or (get_or rows s []) t false

  abbrev row_of : (ℕ → ℕ → Bool) → ℕ → List Bool
  row_of R s = map (R s) (range_with_len 0 m.states)

  abbrev table : (ℕ → ℕ → Bool) → List (List Bool)
  table R = map (row_of R) (range_with_len 0 m.states)

  table_joins : (R : ℕ → ℕ → Bool) (s t : ℕ) → s < m.states → t < m.states → in_rows (table R) s t ≡ R s t
  table_joins R s t s_low t_low =
      ap (λ (bs : List Bool). get_or bs t false) (get_or-map-range_with_len (row_of R) 0 m.states s s [] s_low (omega arith))
      ∙ get_or-map-range_with_len (R s) 0 m.states t t false t_low (omega arith)

  AnyTruth : Bool → Type 0
  AnyTruth b = Unit {0}

  AreTables : List (List Bool) → Type 0
  AreTables rows = AreEach (AreEach AnyTruth m.states) m.states rows

  table_is : (R : ℕ → ℕ → Bool) → AreTables (table R)
  unfolding AreTables AnyTruth
  table_is R =
      mapped (AreEach AnyTruth m.states) (row_of R) (λ s. mapped AnyTruth (R s) (λ t. tt) 0 m.states) 0 m.states

  module _ (s t : ℕ) (s_low : s < m.states) (t_low : t < m.states) where
    abbrev IsGood : List (List Bool) → Type 0
    IsGood rows = (in_rows rows s t ≡ true) × AllMatch (in_rows rows)

    of_rows : (rows : List (List Bool)) × (AreTables rows × IsGood rows) → Bisimilar m s t
    of_rows (rows, both) = record {
      relation = cut (in_rows rows);
      is_bisimulation = cut_is (in_rows rows) both.1.1;
      joined = joins (in_rows rows) s t s_low t_low both.1.0;
    }

    as_rows : Bisimilar m s t → (rows : List (List Bool)) × (AreTables rows × IsGood rows)
    as_rows b =
        let R = b.relation in (
          table R,
          (
            table_is R,
            (
              table_joins R s t s_low t_low ∙ b.joined,
              match R (in_rows (table R)) b.is_bisimulation (table_joins R),
            ),
          ),
        )

    pub decided_bisimilar : Decided (Bisimilar m s t)
    unfolding AreTables AnyTruth
    decided_bisimilar =
        decided_same of_rows as_rows
        (some_list (AreEach AnyTruth m.states) (some_list AnyTruth some_bool m.states) m.states IsGood
        (λ rows. decided_both (decided_test (in_rows rows s t)) (decided_all (in_rows rows))))
