-- States that no formula tells apart are bisimilar.
--
-- Begin with all pairs of states joined. As long as two joined states don't match each other's labels and edges some formula
-- tells them apart, put together of formulas for pairs that are joined no more: so this pair goes too. When all joined states
-- match, being joined is a bisimulation.
--
--   turned           == what tells s from t tells t from s
--   Parts, parts     == a formula that holds at x and at no end of some edges
--   by_step          == an edge that no edge of the other state answers tells them apart
--   by_label         == so does a label
--   matched          == two states match, or are told apart, where states that aren't joined are
--   fault_or_none    == two joined states are told apart, or all joined states match
--   without, fewer, gone == a list of pairs without one of them
--   rounds           == the claim, by the number of pairs that are joined
--   alike_are_bisimilar == the theorem
use Rattle.std.proofs.Common.{ℕ, zero, suc, ◌≡◌, ◌<◌, ◌≤◌, ◌==◌, ◌&&◌, ◌||◌, ◌⊎◌, inl, inr, Bool, true, false, not, if◌then◌else◌, List, [], ◌∷◌, length, map, refl, sym, ap, ◌∙◌, subst, ⊎_elim, arith}
use Rattle.std.specs.List.{flat_map, list_any, range_with_len}
use Rattle.std.specs.Str.{bytes_eq}
use Rattle.std.proofs.lemmas.Bool.{cases_Bool, cases_lt, and_parts, and_from, eqb-true, eq-eqb, true≢false, false_from_ne_true}
use Rattle.std.proofs.lemmas.List.{get_or-map}
use Rattle.ml_base.specs.declared.structure.Edge.{Edge}
use Rattle.ml_base.specs.Structure.{Structure, IsStructure, is_member, lists}
use Rattle.ml_base.proofs.Edges.{target_within}
use Rattle.ml_base.proofs.StateSets.{member_where}
use Rattle.ml_lists.specs.Found.{Found}
use Rattle.ml_lists.specs.Member.{IsMember}
use Rattle.ml_lists.proofs.Decided.{Decided, decided_both, decided_bytes, decided_number, decided_test}
use Rattle.ml_lists.proofs.Deciding.{Having, decided_member, decided_not, some_member}
use Rattle.ml_lists.proofs.Member.{Passing, list_any-member, member-flat_map, member-list_any, member-map}
use Rattle.ml_lists.proofs.Members.{member_of_contains, contains_of_member}
use Rattle.ml_lists.proofs.Ranges.{member-range}
use Rattle.ml_lists.proofs.Search.{search}
use Rattle.ml_mu.specs.Formula.{Formula, Const, Prop, Not, Binary, Modal}
use Rattle.ml_mu.specs.declared.term.Modality.TheVariants.{Diamond}
use Rattle.ml_mu.specs.Meaning.{meaning, some_edge}
use Rattle.ml_mu.proofs.MeaningFlags.{meaning_flags}
use Rattle.ml_text.specs.declared.token.Operator.TheVariants.{And}
use Rattle.ml_bisim.specs.Bisimilar.{Bisimilar, HasEdge}
use Rattle.ml_bisim_problems.specs.Laws.{AlikeAreBisimilar}
use Rattle.ml_bisim_problems.specs.Told.{HasNoBinder, ToldApart}
use Rattle.ml_bisim.proofs.Classes.{edge_from, leaves, leaves_from, from_leaves, target_low}
use Rattle.ml_bisim.proofs.DecidedBisimilar.{AllMatch, HasLabels, HasSteps, Matches, cut, cut_is, flipped, joins}
use Rattle.ml_bisim.proofs.Labels.{listed, row}

and_false : (a b : Bool) → (a ≡ false) ⊎ (b ≡ false) → (a && b) ≡ false
and_false false b (inl e) = refl
and_false false b (inr e) = refl
and_false true false (inr e) = refl
and_false true false (inl e) = absurd (true≢false e)
and_false true true (inl e) = absurd (true≢false e)
and_false true true (inr e) = absurd (true≢false e)

module _ (m : Structure) (ok : IsStructure m) where
  abbrev holds : Formula → ℕ → Bool
  holds f s = is_member (meaning m [] f) s

  holds_not : (f : Formula) (s : ℕ) → s < m.states → holds (Not f) s ≡ not (holds f s)
  holds_not f s low = get_or-map not (meaning m [] f) s false false (omega (arith, low, meaning_flags m [] f tt))

  -- a formula tells them apart either way
  turned : (s t : ℕ) → s < m.states → t < m.states → ToldApart m s t → ToldApart m t s
  turned s t s_low t_low apart = record {
    formula = Not apart.formula;
    no_binder = apart.no_binder;
    here = holds_not apart.formula t t_low ∙ ap not apart.not_there;
    not_there = holds_not apart.formula s s_low ∙ ap not apart.here;
  }

  -- ---- what steps tell

  -- a formula that holds at x, and at no end of these edges from t by the action a
  record Parts (x t : ℕ) (a : List ℕ) (es : List Edge) : Type 0 where
    pub formula : Formula
    pub no_binder : HasNoBinder formula
    pub here : holds formula x ≡ true
    pub nowhere : (e : Edge) → IsMember e es → leaves t a e ≡ true → holds formula e.target ≡ false

  module _ (x t : ℕ) (a : List ℕ) (x_low : x < m.states) where
    none_yet : Parts x t a []
    none_yet = record {
      formula = Const true;
      no_binder = tt;
      here = member_where m (λ s. true) x x_low;
      nowhere = λ e h is. absurd h;
    }

    passed : (e : Edge) (es : List Edge) → leaves t a e ≡ false → Parts x t a es → Parts x t a (e ∷ es)
    passed e es other p = record {
      formula = p.formula;
      no_binder = p.no_binder;
      here = p.here;
      nowhere = nowhere;
    }
      where
        nowhere : (d : Edge) → IsMember d (e ∷ es) → leaves t a d ≡ true → holds p.formula d.target ≡ false
        nowhere d (inl same) is = absurd (true≢false (sym is ∙ ap (leaves t a) same ∙ other))
        nowhere d (inr h) is = p.nowhere d h is

    joined : (e : Edge) (es : List Edge) → ((d : Edge) → IsMember d (e ∷ es) → d.target < m.states)
        → ToldApart m x e.target → Parts x t a es → Parts x t a (e ∷ es)
    joined e es low apart p = record {
      formula = Binary And apart.formula p.formula;
      no_binder = (apart.no_binder, p.no_binder);
      here =
          member_where m (λ s. holds apart.formula s && holds p.formula s) x x_low
          ∙ and_from (holds apart.formula x) (holds p.formula x) apart.here p.here;
      nowhere = nowhere;
    }
      where
        at : (d : Edge) → IsMember d (e ∷ es) → leaves t a d ≡ true
            → (holds apart.formula d.target ≡ false) ⊎ (holds p.formula d.target ≡ false)
        at d (inl same) is = inl (ap (λ (f : Edge). holds apart.formula f.target) same ∙ apart.not_there)
        at d (inr h) is = inr (p.nowhere d h is)

        nowhere : (d : Edge) → IsMember d (e ∷ es) → leaves t a d ≡ true
            → holds (Binary And apart.formula p.formula) d.target ≡ false
        nowhere d h is =
            member_where m (λ s. holds apart.formula s && holds p.formula s) d.target (low d h)
            ∙ and_false (holds apart.formula d.target) (holds p.formula d.target) (at d h is)

    parts : (es : List Edge) → ((d : Edge) → IsMember d es → d.target < m.states)
        → ((d : Edge) → IsMember d es → leaves t a d ≡ true → ToldApart m x d.target) → Parts x t a es
    parts [] low each = none_yet
    parts (e ∷ es) low each =
        ⊎_elim
        (λ (is : leaves t a e ≡ true). joined e es low (each e (inl refl) is)
        (parts es (λ d h. low d (inr h)) (λ d h. each d (inr h))))
        (λ (is : leaves t a e ≡ false). passed e es is (parts es (λ d h. low d (inr h)) (λ d h. each d (inr h))))
        (cases_Bool (leaves t a e))

  -- where an edge of s leads to a state that is told apart from all ends of such edges of t, so is s from t
  by_step : (s t : ℕ) (a : List ℕ) (x : ℕ) → s < m.states → t < m.states → HasEdge m s a x
      → ((d : Edge) → IsMember d m.edges → leaves t a d ≡ true → ToldApart m x d.target) → ToldApart m s t
  by_step s t a x s_low t_low edge each =
      of_parts (parts x t a (target_low m ok s a x edge) m.edges (target_within m ok) each)
    where
      of_parts : Parts x t a m.edges → ToldApart m s t
      of_parts p = record {
        formula = Modal Diamond a p.formula;
        no_binder = p.no_binder;
        here =
            member_where m (some_edge m a (meaning m [] p.formula)) s s_low
            ∙ member-list_any (λ (e : Edge). leaves s a e && holds p.formula e.target) (edge_from s a x) m.edges
            (member_of_contains (edge_from s a x) m.edges edge)
            (and_from (leaves s a (edge_from s a x)) (holds p.formula x) (from_leaves s a x) p.here);
        not_there =
            member_where m (some_edge m a (meaning m [] p.formula)) t t_low
            ∙ false_from_ne_true (some_edge m a (meaning m [] p.formula) t) (λ some. none
            (list_any-member (λ (e : Edge). leaves t a e && holds p.formula e.target) m.edges some));
      }
        where
          none : Passing (λ (e : Edge). leaves t a e && holds p.formula e.target) m.edges → ⊥
          none found =
              let both = and_parts (leaves t a found.item) (holds p.formula found.item.target) found.passes in
              true≢false (sym both.1 ∙ p.nowhere found.item found.member both.0)

  -- ---- states that don't match are told apart, where states that aren't joined are

  module _ (R : ℕ → ℕ → Bool)
      (apart : (s t : ℕ) → s < m.states → t < m.states → R s t ≡ false → ToldApart m s t) where
    by_label : (s t : ℕ) → s < m.states → t < m.states → Having (λ p. ¬ (IsMember p (row m t))) (row m s) → ToldApart m s t
    by_label s t s_low t_low h = record {
      formula = Prop h.item;
      no_binder = tt;
      here =
          member_where m (λ u. lists m u h.item) s s_low
          ∙ (listed m s h.item).1 (contains_of_member h.item (row m s) h.member);
      not_there =
          member_where m (λ u. lists m u h.item) t t_low
          ∙ false_from_ne_true (lists m t h.item) (λ is. h.holds (member_of_contains h.item (row m t) ((listed m t h.item).0 is)));
    }

    labels : (s t : ℕ) → s < m.states → t < m.states → HasLabels m ok s t ⊎ ToldApart m s t
    labels s t s_low t_low =
        told
        (some_member (λ p. ¬ (IsMember p (row m t))) (row m s) (λ p h. decided_not (decided_member decided_bytes p (row m t))))
      where
        by_membership : (p : List ℕ) → IsMember p (row m s) → (¬ (Having (λ q. ¬ (IsMember q (row m t))) (row m s)))
            → Decided (IsMember p (row m t)) → IsMember p (row m t)
        by_membership p h none (inl is) = is
        by_membership p h none (inr is_none) = absurd (none (record { item = p; member = h; holds = is_none }))

        told : Decided (Having (λ p. ¬ (IsMember p (row m t))) (row m s)) → HasLabels m ok s t ⊎ ToldApart m s t
        told (inl h) = inr (by_label s t s_low t_low h)
        told (inr none) = inl (λ p h. by_membership p h none (decided_member decided_bytes p (row m t)))

    abbrev Answers : (ℕ → ℕ → Bool) → ℕ → Edge → Type 0
    Answers T t e = Having (λ (f : Edge). (f.source ≡ t) × ((f.action ≡ e.action) × (T e.target f.target ≡ true))) m.edges

    decided_answers : (T : ℕ → ℕ → Bool) (t : ℕ) (e : Edge) → Decided (Answers T t e)
    decided_answers T t e =
        some_member (λ (f : Edge). (f.source ≡ t) × ((f.action ≡ e.action) × (T e.target f.target ≡ true))) m.edges
        (λ f i. decided_both (decided_number f.source t)
        (decided_both (decided_bytes f.action e.action) (decided_test (T e.target f.target))))

    module _ (T : ℕ → ℕ → Bool)
        (parted : (x y : ℕ) → x < m.states → y < m.states → T x y ≡ false → ToldApart m x y) where
      unanswered : (s t : ℕ) → s < m.states → t < m.states → (e : Edge) → IsMember e m.edges → e.source ≡ s
          → (¬ (Answers T t e)) → ToldApart m s t
      unanswered s t s_low t_low e h at none =
          by_step s t e.action e.target s_low t_low
          (subst (λ u. HasEdge m u e.action e.target) at (contains_of_member e m.edges h))
          (λ d i is.
          parted e.target d.target (target_within m ok e h) (target_within m ok d i)
          (false_from_ne_true (T e.target d.target) (λ related.
          let parts = and_parts (d.source == t) (bytes_eq d.action e.action) is in
          let same = leaves_from t e.action d is in
          none (record {
            item = d;
            member = i;
            holds = (eqb-true d.source t parts.0, (ap (λ (f : Edge). f.action) same, related));
          }))))

      steps : (s t : ℕ) → s < m.states → t < m.states → HasSteps m ok T s t ⊎ ToldApart m s t
      steps s t s_low t_low =
          told
          (some_member (λ (e : Edge). (e.source ≡ s) × (¬ (Answers T t e))) m.edges
          (λ e h. decided_both (decided_number e.source s) (decided_not (decided_answers T t e))))
        where
          by_answer : (e : Edge) → IsMember e m.edges → e.source ≡ s
              → (¬ (Having (λ (d : Edge). (d.source ≡ s) × (¬ (Answers T t d))) m.edges)) → Decided (Answers T t e) → Answers T t e
          by_answer e h at none (inl is) = is
          by_answer e h at none (inr is_none) = absurd (none (record { item = e; member = h; holds = (at, is_none) }))

          told : Decided (Having (λ (e : Edge). (e.source ≡ s) × (¬ (Answers T t e))) m.edges)
              → HasSteps m ok T s t ⊎ ToldApart m s t
          told (inl h) = inr (unanswered s t s_low t_low h.item h.member h.holds.0 h.holds.1)
          told (inr none) = inl (λ e h at. by_answer e h at none (decided_answers T t e))

    matched : (s t : ℕ) → s < m.states → t < m.states → Matches m ok R s t ⊎ ToldApart m s t
    matched s t s_low t_low =
        all (labels s t s_low t_low) (labels t s t_low s_low) (steps R apart s t s_low t_low)
        (steps (flipped m ok R) (λ x y x_low y_low e. turned y x y_low x_low (apart y x y_low x_low e)) t s t_low s_low)
      where
        all : HasLabels m ok s t ⊎ ToldApart m s t → HasLabels m ok t s ⊎ ToldApart m t s
            → HasSteps m ok R s t ⊎ ToldApart m s t → HasSteps m ok (flipped m ok R) t s ⊎ ToldApart m t s
            → Matches m ok R s t ⊎ ToldApart m s t
        all (inr told) b c d = inr told
        all (inl a) (inr told) c d = inr (turned t s t_low s_low told)
        all (inl a) (inl b) (inr told) d = inr told
        all (inl a) (inl b) (inl c) (inr told) = inr (turned t s t_low s_low told)
        all (inl a) (inl b) (inl c) (inl d) = inl (record { labels = a; labels_back = b; steps = c; steps_back = d })

    -- two joined states that are told apart
    record Fault (s t : ℕ) : Type 0 where
      pub source : s < m.states
      pub target : t < m.states
      pub related : R s t ≡ true
      pub told : ToldApart m s t

    abbrev Match : ℕ → ℕ → Type 0
    Match s t = s < m.states → t < m.states → R s t ≡ true → Matches m ok R s t

    pair : (s t : ℕ) → Fault s t ⊎ Match s t
    pair s t = of (cases_lt s m.states) (cases_lt t m.states) (cases_Bool (R s t))
      where
        of : (s < m.states) ⊎ (m.states ≤ s) → (t < m.states) ⊎ (m.states ≤ t) → (R s t ≡ true) ⊎ (R s t ≡ false)
            → Fault s t ⊎ Match s t
        of (inr past) b c = inr (λ low. absurd (omega arith))
        of (inl s_low) (inr past) c = inr (λ low other. absurd (omega arith))
        of (inl s_low) (inl t_low) (inr apart_now) = inr (λ low other e. absurd (true≢false (sym e ∙ apart_now)))
        of (inl s_low) (inl t_low) (inl related) =
            ⊎_elim (λ (is : Matches m ok R s t). inr (λ low other e. is))
            (λ (told : ToldApart m s t). inl (record { source = s_low; target = t_low; related = related; told = told }))
            (matched s t s_low t_low)

    record SomeFault : Type 0 where
      pub one : ℕ
      pub other : ℕ
      pub fault : Fault one other

    fault_or_none : SomeFault ⊎ AllMatch m ok R
    fault_or_none = of (search (λ s. Found (Fault s) m.states) (λ s. (t : ℕ) → t < m.states → Match s t)
        (λ s. search (Fault s) (Match s) (pair s) m.states) m.states)
      where
        of : Found (λ s. Found (Fault s) m.states) m.states ⊎ ((s : ℕ) → s < m.states → (t : ℕ) → t < m.states → Match s t)
            → SomeFault ⊎ AllMatch m ok R
        of (inl f) = inl (record { one = f.place; other = f.holds.place; fault = f.holds.holds })
        of (inr none) = inr (λ s s_low t t_low e. none s s_low t t_low s_low t_low e)

  -- ---- fewer and fewer pairs

  abbrev Pairs : Type 0
  Pairs = List (ℕ × ℕ)

  abbrev is_pair : ℕ → ℕ → ℕ × ℕ → Bool
  is_pair s t p = (p.0 == s) && (p.1 == t)

  abbrev joins_by : Pairs → ℕ → ℕ → Bool
  joins_by ps s t = list_any (is_pair s t) ps

  is_itself : (s t : ℕ) → is_pair s t (s, t) ≡ true
  is_itself s t = and_from (s == s) (t == t) (eq-eqb s s refl) (eq-eqb t t refl)

  -- the pairs but for one
  abbrev without : ℕ → ℕ → Pairs → Pairs
  without s t [] = []
  without s t (p ∷ ps) = if is_pair s t p then without s t ps else p ∷ without s t ps

  shorter : (s t : ℕ) (ps : Pairs) → length (without s t ps) ≤ length ps
  shorter s t [] = omega arith
  shorter s t (p ∷ ps) = by_test (is_pair s t p) (shorter s t ps)
    where
      by_test : (b : Bool) → length (without s t ps) ≤ length ps
          → length (if b then without s t ps else p ∷ without s t ps) ≤ length (p ∷ ps)
      by_test true less = omega arith
      by_test false less = omega arith

  fewer : (s t : ℕ) (ps : Pairs) → joins_by ps s t ≡ true → length (without s t ps) < length ps
  fewer s t [] e = absurd (true≢false (sym e))
  fewer s t (p ∷ ps) e = by_test (is_pair s t p) e (shorter s t ps) (fewer s t ps)
    where
      by_test : (b : Bool) → (b || joins_by ps s t) ≡ true → length (without s t ps) ≤ length ps
          → (joins_by ps s t ≡ true → length (without s t ps) < length ps)
          → length (if b then without s t ps else p ∷ without s t ps) < length (p ∷ ps)
      by_test true is less rest = omega arith
      by_test false is less rest = let low = rest is in omega arith

  -- who is joined no more was not joined before, or is the pair that went
  gone : (s t : ℕ) (ps : Pairs) (x y : ℕ) → joins_by (without s t ps) x y ≡ false
      → (joins_by ps x y ≡ false) ⊎ ((x ≡ s) × (y ≡ t))
  gone s t [] x y e = inl e
  gone s t (p ∷ ps) x y e = by_tests (is_pair s t p) refl (is_pair x y p) refl e (gone s t ps x y)
    where
      same : is_pair s t p ≡ true → is_pair x y p ≡ true → (x ≡ s) × (y ≡ t)
      same is too =
          let at = and_parts (p.0 == s) (p.1 == t) is in
          let also = and_parts (p.0 == x) (p.1 == y) too in
          (sym (eqb-true p.0 x also.0) ∙ eqb-true p.0 s at.0, sym (eqb-true p.1 y also.1) ∙ eqb-true p.1 t at.1)

      by_tests : (b : Bool) → is_pair s t p ≡ b → (c : Bool) → is_pair x y p ≡ c
          → joins_by (if b then without s t ps else p ∷ without s t ps) x y ≡ false
          → (joins_by (without s t ps) x y ≡ false → (joins_by ps x y ≡ false) ⊎ ((x ≡ s) × (y ≡ t)))
          → ((c || joins_by ps x y) ≡ false) ⊎ ((x ≡ s) × (y ≡ t))
      by_tests true is true too e rest = inr (same is too)
      by_tests true is false too e rest = rest e
      by_tests false is true too e rest = absurd (true≢false (sym (ap (λ b. b || joins_by (without s t ps) x y) too) ∙ e))
      by_tests false is false too e rest =
          rest (sym (ap (λ b. b || joins_by (without s t ps) x y) too) ∙ e)

  abbrev ArePartly : Pairs → Type 0
  ArePartly ps = (s t : ℕ) → s < m.states → t < m.states → joins_by ps s t ≡ false → ToldApart m s t

  abbrev Claim : Type 0
  Claim = (s t : ℕ) → s < m.states → t < m.states → Bisimilar m s t ⊎ ToldApart m s t

  settled : (ps : Pairs) → ArePartly ps → AllMatch m ok (joins_by ps) → Claim
  settled ps apart all s t s_low t_low =
      ⊎_elim
      (λ (is : joins_by ps s t ≡ true). inl (record {
        relation = cut m ok (joins_by ps);
        is_bisimulation = cut_is m ok (joins_by ps) all;
        joined = joins m ok (joins_by ps) s t s_low t_low is;
      }))
      (λ (none : joins_by ps s t ≡ false). inr (apart s t s_low t_low none))
      (cases_Bool (joins_by ps s t))

  less_apart : (ps : Pairs) (apart : ArePartly ps) (f : SomeFault (joins_by ps) apart) → ArePartly (without f.one f.other ps)
  less_apart ps apart f s t s_low t_low e =
      ⊎_elim (λ (none : joins_by ps s t ≡ false). apart s t s_low t_low none)
      (λ (both : (s ≡ f.one) × (t ≡ f.other)).
      subst (λ u. ToldApart m u t) (sym both.0) (subst (λ u. ToldApart m f.one u) (sym both.1) f.fault.told))
      (gone f.one f.other ps s t e)

  rounds : (fuel : ℕ) (ps : Pairs) → length ps ≤ fuel → ArePartly ps → Claim
  rounds zero ps low apart =
      ⊎_elim
      (λ (f : SomeFault (joins_by ps) apart). absurd (omega (arith, low, fewer f.one f.other ps f.fault.related)))
      (λ (all : AllMatch m ok (joins_by ps)). settled ps apart all)
      (fault_or_none (joins_by ps) apart)
  rounds (suc fuel) ps low apart =
      ⊎_elim
      (λ (f : SomeFault (joins_by ps) apart).
      rounds fuel (without f.one f.other ps) (omega (arith, low, fewer f.one f.other ps f.fault.related))
      (less_apart ps apart f))
      (λ (all : AllMatch m ok (joins_by ps)). settled ps apart all)
      (fault_or_none (joins_by ps) apart)

  -- ---- all pairs

  abbrev row_of_pairs : ℕ → List (ℕ × ℕ)
  row_of_pairs s = map (λ t. (s, t)) (range_with_len 0 m.states)

  abbrev all_pairs : Pairs
  all_pairs = flat_map row_of_pairs (range_with_len 0 m.states)

  all_joined : (s t : ℕ) → s < m.states → t < m.states → joins_by all_pairs s t ≡ true
  all_joined s t s_low t_low =
      member-list_any (is_pair s t) (s, t) all_pairs
      (member-flat_map row_of_pairs s (s, t) (range_with_len 0 m.states) (member-range m.states s s_low)
      (member-map (λ u. (s, u)) t (range_with_len 0 m.states) (member-range m.states t t_low)))
      (is_itself s t)

  pub alike : Claim
  alike =
      rounds (length all_pairs) all_pairs (omega arith)
      (λ s t s_low t_low e. absurd (true≢false (sym (all_joined s t s_low t_low) ∙ e)))

pub alike_are_bisimilar : AlikeAreBisimilar
alike_are_bisimilar m ok = alike m ok
