-- The parts into which a round cuts classes, by signatures.
--
--   step_eq, signature_eq == the tests of a table; what they tell
--   step_order, steps_exact == the order of steps is total, and tells different ones apart
--   matched          == states with one signature match each other's edges
--   within           == the steps of a state are those of one that matches its edges
--   are_parts        == so numbers of signatures tell apart the states of a class that don't match each other's edges
use Rattle.std.proofs.Common.{ℕ, ◌≡◌, ◌↔◌, ◌&&◌, Bool, true, nat_eq, List, get_or, slice_get, map, Some, Contains, refl, sym, ap, ◌∙◌, subst, arith}
use Rattle.std.specs.Cmp.{IsTotalOrder}
use Rattle.std.specs.Cmp.Lexicographic.{pointwise, pointwise_decides}
use Rattle.std.specs.Option.{option_map}
use Rattle.std.specs.Ordering.{nat_cmp}
use Rattle.std.specs.declared.cmp.Ordering.TheVariants.{Equal}
use Rattle.std.proofs.lemmas.Bool.{and_parts, and_from, eqb-true}
use Rattle.std.proofs.lemmas.Bool.Decides.{nat_tests}
use Rattle.std.proofs.lemmas.Cmp.{on_total, then_total, nat_cmp_total, nat_eq_equiv}
use Rattle.std.proofs.lemmas.Slice.Eq.{bytes_eq-Decides}
use Rattle.std.proofs.lemmas.Option.{slice_get-get_or, slice_get-map}
use Rattle.ml_base.specs.declared.structure.Edge.{Edge}
use Rattle.ml_base.specs.Structure.{Structure}
use Rattle.ml_lists.proofs.Member.{Place, member-place, member_of_get}
use Rattle.ml_lists.proofs.Members.{member_of_contains, contains_of_member}
use Rattle.ml_lists.proofs.StrictlySorted.{same_from_members}
use Rattle.ml_lists.proofs.Orderings.{both_tied}
use Rattle.ml_bisim.specs.declared.edges.Edges.{Edges}
use Rattle.ml_bisim.specs.declared.signatures.Signature.{Signature}
use Rattle.ml_bisim.specs.declared.signatures.Step.{Step}
use Rattle.ml_bisim.specs.Bisimilar.{HasEdge}
use Rattle.ml_bisim.specs.Quotient.{class_of}
use Rattle.ml_bisim.specs.private.Numbers.{AreNumbers}
use Rattle.ml_bisim.specs.private.Signatures.{AreEdges, AreParts, AreSignatures, IsSignature, SameSteps, StepAt, step_cmp}
use Rattle.ml_bisim.proofs.Classes.{edge_from}

numbers_exact : (x y : ℕ) → nat_cmp x y ≡ Equal → x ≡ y
numbers_exact x y e = grind (arith, nat_tests)

pub steps_exact : (x y : Step) → step_cmp x y ≡ Equal → x ≡ y
steps_exact x y tied =
    let both = both_tied (nat_cmp x.action y.action) (nat_cmp x.class y.class) tied in
    let action = numbers_exact x.action y.action both.0 in
    let class = numbers_exact x.class y.class both.1 in
    λ i. record { action = action i; class = class i }

pub step_order : IsTotalOrder step_cmp
step_order = then_total (on_total (λ (x : Step). x.action) nat_cmp_total) (on_total (λ (x : Step). x.class) nat_cmp_total)

abbrev pub step_eq : Step → Step → Bool
step_eq x y = nat_eq x.action y.action && nat_eq x.class y.class

abbrev pub signature_eq : Signature → Signature → Bool
signature_eq k l = nat_eq k.class l.class && pointwise step_eq k.steps.items l.steps.items

pub number_itself : (x y : ℕ) → x ≡ y → nat_eq x y ≡ true
number_itself x y e = subst (λ z. nat_eq x z ≡ true) e (nat_eq_equiv.refl x)

pub step_tests : (x y : Step) → (step_eq x y ≡ true → x ≡ y) × (x ≡ y → step_eq x y ≡ true)
step_tests x y = (
  there,
  λ e. and_from (nat_eq x.action y.action) (nat_eq x.class y.class)
      (number_itself x.action y.action (ap (λ (z : Step). z.action) e))
      (number_itself x.class y.class (ap (λ (z : Step). z.class) e)),
)
  where
    there : step_eq x y ≡ true → x ≡ y
    there e =
        let both = and_parts (nat_eq x.action y.action) (nat_eq x.class y.class) e in
        let action = eqb-true x.action y.action both.0 in
        let class = eqb-true x.class y.class both.1 in
        λ i. record { action = action i; class = class i }

abbrev HasSameParts : Signature → Signature → Type 0
HasSameParts k l = (k.class ≡ l.class) × (k.steps.items ≡ l.steps.items)

signature_tests : (k l : Signature) → (signature_eq k l ≡ true) ↔ HasSameParts k l
signature_tests k l = (
  (λ e.
      let both = and_parts (nat_eq k.class l.class) (pointwise step_eq k.steps.items l.steps.items) e in
      (eqb-true k.class l.class both.0, (pointwise_decides step_tests k.steps.items l.steps.items).0 both.1)),
  (λ parts. and_from (nat_eq k.class l.class) (pointwise step_eq k.steps.items l.steps.items)
      (number_itself k.class l.class parts.0) ((pointwise_decides step_tests k.steps.items l.steps.items).1 parts.1)),
)

module _ (m : Structure) (e : Edges) (ok : AreEdges m e) (class : List ℕ) where
  -- edges at places have one number of an action if they have one action
  same_action : (i j : ℕ) (f g : Edge) → slice_get m.edges i ≡ Some f → slice_get m.edges j ≡ Some g
      → (get_or e.actions.items i 0 ≡ get_or e.actions.items j 0) ↔ (f.action ≡ g.action)
  same_action i j f g at_i at_j =
      let same = ok.actions.1.same i j f.action g.action (action_at i f at_i) (action_at j g at_j) in
      let tells = bytes_eq-Decides f.action g.action in
      ((λ n. tells.0 (same.0 n)), (λ a. same.1 (tells.1 a)))
    where
      action_at : (k : ℕ) (h : Edge) → slice_get m.edges k ≡ Some h
          → slice_get (map (λ (x : Edge). x.action) m.edges) k ≡ Some h.action
      action_at k h at = slice_get-map (λ (x : Edge). x.action) m.edges k ∙ ap (option_map (λ (x : Edge). x.action)) at

  abbrev Steps : ℕ → Step → Type 0
  Steps s step = StepAt m.edges e.actions.items class 0 s step

  -- the step of an edge of s
  record StepOf (s : ℕ) (a : List ℕ) (x : ℕ) : Type 0 where
    pub step : Step
    pub at : Steps s step
    pub by_action : at.edge.action ≡ a
    pub into : at.edge.target ≡ x

  step_of : (s : ℕ) (a : List ℕ) (x : ℕ) → HasEdge m s a x → StepOf s a x
  step_of s a x edge = of_place (member-place (edge_from s a x) m.edges (member_of_contains (edge_from s a x) m.edges edge))
    where
      of_place : Place (edge_from s a x) m.edges → StepOf s a x
      of_place p = record {
        step = record { action = get_or e.actions.items p.place 0; class = class_of class x };
        at = record {
          place = p.place;
          edge = edge_from s a x;
          stands =
              slice_get-get_or m.edges p.place (edge_from s a x) p.below ∙ ap Some (p.holds (edge_from s a x));
          from_here = omega arith;
          leaves = refl;
          by_action = refl;
          into_class = refl;
        };
        by_action = refl;
        into = refl;
      }

  -- a step is one of an edge
  edge_of : (s : ℕ) (step : Step) (o : Steps s step) → HasEdge m s o.edge.action o.edge.target
  edge_of s step o =
      subst (λ f. Contains m.edges f)
      (λ k. record { source = o.leaves k; action = o.edge.action; target = o.edge.target })
      (contains_of_member o.edge m.edges (member_of_get m.edges o.place o.edge o.stands))

  abbrev Signs : ℕ → Signature → Type 0
  Signs s k = IsSignature m.edges e.actions.items class s k

  module _ (s t : ℕ) (k l : Signature) (of_s : Signs s k) (of_t : Signs t l) where
    -- one signature: an edge of s is matched by one of t
    matched : k.steps.items ≡ l.steps.items
        → (a : List ℕ) (x : ℕ)
        → HasEdge m s a x
        → (y : ℕ) × HasEdge m t a y × (class_of class x ≡ class_of class y)
    matched same a x edge =
        let o = step_of s a x edge in
        let in_k = (of_s.steps.same o.step).1 o.at in
        of_other o ((of_t.steps.same o.step).0 (subst (λ (xs : List Step). Contains xs o.step) same in_k))
      where
        of_other : (o : StepOf s a x) → Steps t o.step → (y : ℕ) × HasEdge m t a y × (class_of class x ≡ class_of class y)
        of_other o other =
            let numbers = sym o.at.by_action ∙ other.by_action in
            let action = (same_action o.at.place other.place o.at.edge other.edge o.at.stands other.stands).0 numbers in (
              other.edge.target,
              subst (λ b. HasEdge m t b other.edge.target) (sym action ∙ o.by_action) (edge_of t o.step other),
              ap (class_of class) (sym o.into) ∙ sym o.at.into_class ∙ other.into_class,
            )

    -- the steps of s are steps of t, where t matches the edges of s
    within : ((a : List ℕ) (x : ℕ) → HasEdge m s a x → (y : ℕ) × HasEdge m t a y × (class_of class x ≡ class_of class y))
        → (step : Step)
        → Contains k.steps.items step
        → Contains l.steps.items step
    within matches step h = of_edge ((of_s.steps.same step).0 h)
      where
        of_edge : Steps s step → Contains l.steps.items step
        of_edge o =
            let there = matches o.edge.action o.edge.target (edge_of s step o) in
            of_step o there.0 there.2 (step_of t o.edge.action there.0 there.1)
          where
            of_step : (o : Steps s step) (y : ℕ)
                → class_of class o.edge.target ≡ class_of class y
                → StepOf t o.edge.action y
                → Contains l.steps.items step
            of_step o y classes p =
                let numbers = (same_action o.place p.at.place o.edge p.at.edge o.stands p.at.stands).1 (sym p.by_action) in
                let action = p.at.by_action ∙ sym numbers ∙ sym o.by_action in
                let class = p.at.into_class ∙ ap (class_of class) p.into ∙ sym classes ∙ sym o.into_class in
                let same : p.step ≡ step = λ i. record { action = action i; class = class i } in
                subst (λ x. Contains l.steps.items x) same ((of_t.steps.same p.step).1 p.at)

  module _ (s t : ℕ) (k l : Signature) (of_s : Signs s k) (of_t : Signs t l) where
    abbrev Alike : Type 0
    Alike = (class_of class s ≡ class_of class t) × SameSteps m class s t

    alike : HasSameParts k l → Alike
    alike same = (
      sym of_s.in_class ∙ same.0 ∙ of_t.in_class,
      record {
        forth = matched s t k l of_s of_t same.1;
        back = λ a y edge.
            let there = matched t s l k of_t of_s (sym same.1) a y edge in (there.0, there.1, sym there.2);
      },
    )

    same_signature : Alike → HasSameParts k l
    same_signature a = (
      of_s.in_class ∙ a.0 ∙ sym of_t.in_class,
      same_from_members step_cmp step_order steps_exact k.steps.items l.steps.items of_s.steps.ascends of_t.steps.ascends
          (within s t k l of_s of_t a.1.forth)
          (within t s l k of_t of_s (λ b y edge. let there = a.1.back b y edge in (there.0, there.1, sym there.2))),
    )

  pub are_parts : (states : List ℕ) (ks : List Signature) (ns : List ℕ) (n : ℕ)
      → AreSignatures m.edges e.actions.items class states ks
      → AreNumbers signature_eq ks ns n
      → AreParts m class states ns n
  are_parts states ks ns n signed are = record {
    each_state = are.each_key ∙ signed.each_state;
    in_turn = are.in_turn;
    same = λ i j i_low j_low.
        let at_i = signed.signs i i_low in
        let at_j = signed.signs j j_low in
        let s = get_or states i 0 in
        let t = get_or states j 0 in
        let same = are.same i j at_i.0 at_j.0 at_i.1 at_j.1 in
        let tests = signature_tests at_i.0 at_j.0 in (
          (λ one. alike s t at_i.0 at_j.0 at_i.2 at_j.2 (tests.0 (same.0 one))),
          (λ a. same.1 (tests.1 (same_signature s t at_i.0 at_j.0 at_i.2 at_j.2 a))),
        );
  }
