-- An automaton with edges left out and flags changed accepts the same.
--
--   flag_kept, flag_from == what becomes of a flag
--   same_accepted        == with a guide that is right the same is accepted
--   trimmed_labelled     == and it is an automaton
--   all_trimmed          == so it is of what a program holds
use Rattle.std.proofs.Common.{ℕ, ◌≡◌, ◌<◌, ◌≤◌, ◌⊎◌, ◌^◌, inl, inr, ⊎_elim, arith, Bool, true, false, nat_lt, if◌then◌else◌, List, length, refl, sym, ap, ◌∙◌, subst}
use Rattle.std.specs.List.{All}
use Rattle.std.proofs.lemmas.Bool.{cases_Bool, cond-true, cond-false, ltb-true}
use Rattle.ml_base.specs.Name.{IsName}
use Rattle.ml_labelled.specs.Labelled.{AcceptSame, Automaton, Edge, Fits, IsCube, IsEdge, IsLabelled, Leads, Letter, edges_of}
use Rattle.ml_labelled.specs.declared.guide.Guide.{Guide}
use Rattle.ml_labelled.specs.private.Trimming.{AreTrimmed, Guides, IsCovered, IsTrimming, by_guide, unchanged, depth_of, flag_of, flagged, is_dead, is_full, order_of}
use Rattle.ml_labelled.proofs.TrimmedRuns.{filled_accepts, trimmed_accepts}

-- ---- flags

module _ (g : Guide) (p to : ℕ) where
  pub flag_kept : (b : Bool) → b ≡ true → (flag_of g p to b ≡ true) ⊎ (order_of g p < order_of g to)
  flag_kept b is = by (cases_Bool (nat_lt (order_of g p) (order_of g to))) (cases_Bool (is_full g p))
    where
      by : (nat_lt (order_of g p) (order_of g to) ≡ true) ⊎ (nat_lt (order_of g p) (order_of g to) ≡ false)
          → (is_full g p ≡ true) ⊎ (is_full g p ≡ false)
          → (flag_of g p to b ≡ true) ⊎ (order_of g p < order_of g to)
      by (inl less) full = inr (ltb-true (order_of g p) (order_of g to) less)
      by (inr level) (inl full) =
          inl (cond-false (nat_lt (order_of g p) (order_of g to)) (is_full g to) (if is_full g p then true else b) level
          ∙ cond-true (is_full g p) true b full)
      by (inr level) (inr free) =
          inl (cond-false (nat_lt (order_of g p) (order_of g to)) (is_full g to) (if is_full g p then true else b) level
          ∙ cond-false (is_full g p) true b free ∙ is)

  pub flag_from : (b : Bool) → flag_of g p to b ≡ true
      → (b ≡ true) ⊎ ((order_of g p < order_of g to) ⊎ (is_full g p ≡ true))
  flag_from b is = by (cases_Bool (nat_lt (order_of g p) (order_of g to))) (cases_Bool (is_full g p))
    where
      by : (nat_lt (order_of g p) (order_of g to) ≡ true) ⊎ (nat_lt (order_of g p) (order_of g to) ≡ false)
          → (is_full g p ≡ true) ⊎ (is_full g p ≡ false)
          → (b ≡ true) ⊎ ((order_of g p < order_of g to) ⊎ (is_full g p ≡ true))
      by (inl less) full = inr (inl (ltb-true (order_of g p) (order_of g to) less))
      by (inr level) (inl full) = inr (inr full)
      by (inr level) (inr free) =
          inl (sym (cond-false (nat_lt (order_of g p) (order_of g to)) (is_full g to) (if is_full g p then true else b) level
          ∙ cond-false (is_full g p) true b free) ∙ is)

-- ---- automata

module _ (a b : Automaton) (g : Guide) (guided : Guides g a.edges) (trimmed : AreTrimmed g a.edges b.edges)
    (same_props : b.props ≡ a.props) where
  abbrev order : ℕ → ℕ
  order = order_of g

  rises : (l : Letter) (p q : ℕ) (c : Bool) → Leads a l p q c → order p ≤ order q
  rises l p q c lead =
      subst (λ n. order p ≤ order n) lead.to_is (guided p lead.edge lead.is_edge).no_fall

  abbrev Dies : ℕ → Type 0
  Dies p = is_dead g p ≡ true

  dies : (l : Letter) (p q : ℕ) (c : Bool) → Dies p → Leads a l p q c → Dies q × (c ≡ true → order p < order q)
  dies l p q c dead lead =
      let next = (guided p lead.edge lead.is_edge).keeps_dead dead in (
        subst Dies lead.to_is next.stays,
        λ is. subst (λ n. order p < order n) lead.to_is (next.rises (lead.accepting_is ∙ is)),
      )

  there : (l : Letter) (p q : ℕ) (c : Bool)
      → Leads a l p q c
      → Dies q ⊎ ((d : Bool) × Leads b l p q d × (c ≡ true → (d ≡ true) ⊎ (order p < order q)))
  there l p q c lead = by ((trimmed.trimmed p).there e lead.is_edge)
    where
      e : Edge
      e = lead.edge

      by : (is_dead g e.to ≡ true) ⊎ IsCovered (flagged g p e) (edges_of b p)
          → Dies q ⊎ ((d : Bool) × Leads b l p q d × (c ≡ true → (d ≡ true) ⊎ (order p < order q)))
      by (inl dead) = inl (subst Dies lead.to_is dead)
      by (inr (f, m, covers)) =
          inr (
            f.accepting,
            record {
              edge = f;
              is_edge = m;
              fits = subst (λ ps. Fits ps l f.cube) (sym same_props) (λ x k. lead.fits x (covers.weaker x k));
              to_is = covers.same_end ∙ lead.to_is;
              accepting_is = refl;
            },
            λ is.
                ⊎_elim (λ (set : flag_of g p e.to e.accepting ≡ true). inl (covers.accepts set))
                (λ (more : order p < order e.to). inr (subst (λ n. order p < order n) lead.to_is more))
                (flag_kept g p e.to e.accepting (lead.accepting_is ∙ is)),
          )

  abbrev IsFull : ℕ → Type 0
  IsFull p = is_full g p ≡ true

  fills : (l : Letter) (p q : ℕ) (c : Bool) → IsFull p → Leads a l p q c → order q ≡ order p
      → IsFull q × ((c ≡ true) ⊎ (depth_of g p < depth_of g q))
  fills l p q c full lead level =
      let e = lead.edge in
      let next = (guided p e lead.is_edge).keeps_full full (ap order lead.to_is ∙ level) in (
        subst IsFull lead.to_is next.stays,
        ⊎_elim (λ (is : e.accepting ≡ true). inl (sym lead.accepting_is ∙ is))
            (λ (deeper : depth_of g p < depth_of g e.to). inr (subst (λ n. depth_of g p < depth_of g n) lead.to_is deeper))
            next.accepts,
      )

  back : (l : Letter) (p q : ℕ) (d : Bool)
      → Leads b l p q d
      → (c : Bool) × Leads a l p q c × (d ≡ true → (c ≡ true) ⊎ ((order p < order q) ⊎ IsFull p))
  back l p q d lead =
      let f = lead.edge in
      let from = (trimmed.trimmed p).back f lead.is_edge in
      let e = from.0 in
      let same = from.2 in
      let to : e.to ≡ q = sym (ap (λ (x : Edge). x.to) same) ∙ lead.to_is in (
        e.accepting,
        record {
          edge = e;
          is_edge = from.1;
          fits = subst (λ ps. Fits ps l e.cube) same_props (subst (λ (x : Edge). Fits b.props l x.cube) same lead.fits);
          to_is = to;
          accepting_is = refl;
        },
        λ is.
            ⊎_elim (λ (set : e.accepting ≡ true). inl set)
            (λ (other : (order p < order e.to) ⊎ IsFull p).
            inr (⊎_elim (λ (more : order p < order e.to). inl (subst (λ n. order p < order n) to more)) (λ (full : IsFull p). inr full) other))
            (flag_from g p e.to e.accepting (sym (ap (λ (x : Edge). x.accepting) same) ∙ lead.accepting_is ∙ is)),
      )

  pub same_accepted : AcceptSame a b
  same_accepted w lasso = (
    trimmed_accepts (Leads a) (Leads b) order rises Dies dies there w 0,
    filled_accepts (Leads a) (Leads b) order rises IsFull (depth_of g) fills back w 0,
  )

  pub trimmed_labelled : IsLabelled a → IsLabelled b
  trimmed_labelled is = record {
    some_state = let long = trimmed.as_long in let some = is.some_state in omega (arith, long, some);
    few_states = let long = trimmed.as_long in let few = is.few_states in omega (arith, long, few);
    few_props = subst (λ ps. length ps < 2 ^ 32) (sym same_props) is.few_props;
    names = subst (All IsName) (sym same_props) is.names;
    edges = λ p f m.
        let from = (trimmed.trimmed p).back f m in
        let fits = is.edges p from.0 from.1 in
        subst (IsEdge (length b.edges) (length b.props)) (sym from.2)
        (record {
          is_cube = subst (λ ps. IsCube (length ps) (from.0).cube) (sym same_props) fits.is_cube;
          to_state = let long = trimmed.as_long in let low = fits.to_state in omega (arith, long, low);
        });
  }

-- ---- all of it

pub record IsTrimmedOf (a b : Automaton) : Type 0 where
  pub labelled : IsLabelled b
  pub same : AcceptSame a b
  pub props : b.props ≡ a.props
  pub as_many : length b.edges ≡ length a.edges

pub all_trimmed : (props : List (List ℕ)) (old rows : List (List Edge))
    → IsLabelled (record { props = props; edges = old })
    → IsTrimming old rows
    → IsTrimmedOf (record { props = props; edges = old }) (record { props = props; edges = rows })
all_trimmed props old rows is (by_guide g guided trimmed) =
    let a : Automaton = record { props = props; edges = old } in
    let b : Automaton = record { props = props; edges = rows } in record {
      labelled = trimmed_labelled a b g guided trimmed refl is;
      same = same_accepted a b g guided trimmed refl;
      props = refl;
      as_many = trimmed.as_long;
    }
all_trimmed props old rows is (unchanged same) =
    let a : Automaton = record { props = props; edges = old } in
    subst (λ es. IsTrimmedOf a (record { props = props; edges = es })) (sym same)
    (record { labelled = is; same = λ w lasso. ((λ k. k), (λ k. k)); props = refl; as_many = refl })
