-- What a refutation asks of two graphs that differ in the numbers of their names alone.
--
--   children_same, walk_same, spread_same == local walks and spreads are the same
--   open_same, cause_same, is_diamond_same, target_same, trace_same, odds_same, names_same == and what is asked of them
--   keeps_same        == a part that keeps its rules in one keeps them in the other
--   accepted_same, first_bad_same == so a refutation is accepted in both or in none, and has the same first bad part
use Rattle.std.proofs.Common.{◌≡◌, ℕ, ◌<◌, ◌≤◌, ◌%◌, min, ◌⊎◌, Bool, true, false, List, [], ◌∷◌, All, get_or, inl, inr, refl, sym, ap, ◌∙◌, subst}
use Rattle.ml_lists.specs.Documents.{KeepsAll, IsFirstBroken}
use Rattle.ml_lists.specs.Member.{IsMember}
use Rattle.ml_trace.specs.declared.letters.AutomatonState.{AutomatonState}
use Rattle.ml_trace.specs.declared.letters.Triple.{Triple}
use Rattle.ml_trace.specs.declared.marks.Mark.{Mark}
use Rattle.ml_trace.specs.Automaton.{IsState, Leads}
use Rattle.ml_trace.specs.NamesCondition.{NamesCondition, Predecessor, Progress}
use Rattle.ml_trace.specs.Stack as traced
use Rattle.ml_graph.specs.declared.node.Node.{Node}
use Rattle.ml_graph.specs.declared.node.Node.TheVariants as node
use Rattle.ml_graph.specs.Graph.{Graph, node_at, priority_at, odd_priorities}
use Rattle.ml_graph.proofs.Places.{same_place}
use Rattle.ml_front.proofs.AlikeGraphs.{AreAlike, shape, flip, same_priorities, or_shaped, false_shaped, literal_there, diamond_there, same_square}
use Rattle.ml_sequent.specs.declared.choice.Side.{Side}
use Rattle.ml_sequent.specs.declared.clashes.ClashCause.{ClashCause}
use Rattle.ml_sequent.specs.declared.clashes.ClashCause.TheVariants as cause
use Rattle.ml_sequent.specs.LocalWalk.{LocalWalk, stays, goes, InSpread, children, children_of}
use Rattle.ml_sequent.specs.Spread.{SpreadList, IsSpreadOf, IsOpenOr, IsCause, IsPair, is_diamond}
use Rattle.ml_sequent.specs.Step.{IsDiamondOf, LeadsOut, IsTarget, IsTrace}
use Rattle.ml_refutation.specs.Refutation.{Refutation, Decision, Split, Clash, Go}
use Rattle.ml_refutation.specs.GoStep.{GoStep, HasTransition}
use Rattle.ml_refutation.specs.Acceptance.{entry_at, OfSpread, IsWellStarted, StandsIn, TracesNames, Part, Sequent, Live, Item, Decided, parts, rules, IsAccepted, IsFirstBad}

-- a node's children, and whether it is a diamond, are told by its shape
children_by_shape : (c : List (ℕ × Side)) (n : ℕ) (x : Node) → children_of c n (shape x) ≡ children_of c n x
children_by_shape c n node.True = refl
children_by_shape c n node.False = refl
children_by_shape c n (node.Lit p positive) = refl
children_by_shape c n (node.And l r) = refl
children_by_shape c n (node.Or l r) = refl
children_by_shape c n (node.Diamond a to) = refl
children_by_shape c n (node.Square a to) = refl

diamond_by_shape : (x : Node) → is_diamond (shape x) ≡ is_diamond x
diamond_by_shape node.True = refl
diamond_by_shape node.False = refl
diamond_by_shape (node.Lit p positive) = refl
diamond_by_shape (node.And l r) = refl
diamond_by_shape (node.Or l r) = refl
diamond_by_shape (node.Diamond a to) = refl
diamond_by_shape (node.Square a to) = refl

module _ (g h : Graph) (a : AreAlike g h) where
  priority_same : (n : ℕ) → priority_at g n ≡ priority_at h n
  priority_same n = (a.nodes n).ranks

  children_same : (c : List (ℕ × Side)) (n : ℕ) → children g c n ≡ children h c n
  children_same c n =
      sym (children_by_shape c n (node_at g n))
      ∙ ap (children_of c n) (a.nodes n).shapes
      ∙ children_by_shape c n (node_at h n)

  walk_same : (c : List (ℕ × Side)) (n k m : ℕ) → LocalWalk g c n k m → LocalWalk h c n k m
  walk_same c _ _ _ (stays n) = subst (λ p. LocalWalk h c n p n) (sym (priority_same n)) (stays n)
  walk_same c _ _ _ (goes {k = low} {m = m} n next child walk) =
      subst (λ p. LocalWalk h c n (min p low) m) (sym (priority_same n))
      (goes n next (subst (IsMember next) (children_same c n) child) (walk_same c next low m walk))

  in_spread_same : (c : List (ℕ × Side)) (C : List ℕ) (m : ℕ) → InSpread g c C m → InSpread h c C m
  in_spread_same c C m s = record {
    from = s.from;
    member = s.member;
    lowest = s.lowest;
    walk = walk_same c s.from s.lowest m s.walk;
  }

module _ (g h : Graph) (a : AreAlike g h) where
  abbrev b : AreAlike h g
  b = flip g h a

  pub spread_same : (C : List ℕ) (c : List (ℕ × Side)) (sp : SpreadList) → IsSpreadOf g C c sp → IsSpreadOf h C c sp
  spread_same C c sp is = record {
    choice = is.choice;
    ascends = is.ascends;
    low = λ m member. subst (λ n. m < n) a.sizes (is.low m member);
    nodes = λ m. (
      λ member. in_spread_same g h a c C m ((is.nodes m).0 member),
      λ s. (is.nodes m).1 (in_spread_same h g b c C m s),
    );
  }

  pub open_same : (sp : SpreadList) (n : ℕ) → IsOpenOr g sp n → IsOpenOr h sp n
  open_same sp n o = record {
    member = o.member;
    is_open = record {
      left = o.is_open.left;
      right = o.is_open.right;
      is_or = or_shaped o.is_open.left o.is_open.right (node_at h n) (sym (ap shape o.is_open.is_or) ∙ (a.nodes n).shapes);
      unchosen = o.is_open.unchosen;
    };
  }

  pair_same : (p q : ℕ) → IsPair g p q → IsPair h p q
  pair_same p q i =
      let first = literal_there g h a p i.prop true i.positive in
      let second = literal_there g h a q i.prop false i.negative in
      let same =
      same_place h.props a.is_other.props_differ second.0 first.0 second.3 first.3 (sym second.2 ∙ first.2)
      in
      record { prop = first.0; positive = first.1; negative = second.1 ∙ ap (λ k. node.Lit k false) same }

  pub cause_same : (sp : SpreadList) (x : ClashCause) → IsCause g sp x → IsCause h sp x
  cause_same sp (cause.False n) i = (i.0, false_shaped (node_at h n) (sym (ap shape i.1) ∙ (a.nodes n).shapes))
  cause_same sp (cause.Pair p q) i = (i.0, i.1, pair_same p q i.2)
  cause_same sp (cause.Cycle n) i =
      let cycle = i.1.1 in (
        i.0,
        (
          subst (λ k. k % 2 ≡ 1) (priority_same g h a n) i.1.0,
          record {
            next = cycle.next;
            child = subst (IsMember cycle.next) (children_same g h a sp.choice n) cycle.child;
            lowest = cycle.lowest;
            walk = walk_same g h a sp.choice cycle.next cycle.lowest n cycle.walk;
            high = subst (λ k. k ≤ cycle.lowest) (priority_same g h a n) cycle.high;
          },
        ),
      )

  pub is_diamond_same : (n : ℕ) → is_diamond (node_at g n) ≡ is_diamond (node_at h n)
  is_diamond_same n =
      sym (diamond_by_shape (node_at g n))
      ∙ ap is_diamond (a.nodes n).shapes
      ∙ diamond_by_shape (node_at h n)

  diamond_same : (sp : SpreadList) (d : ℕ) → IsDiamondOf g sp d → IsDiamondOf h sp d
  diamond_same sp d i = record { member = i.member; holds = sym (is_diamond_same d) ∙ i.holds }

  leads_same : (sp : SpreadList) (d e m : ℕ) → LeadsOut g sp d e m → LeadsOut h sp d e m
  leads_same sp d e m l = by_kind l.leaves
    where
      by_kind : ((e ≡ d) × (m ≡ l.child)) ⊎ (IsMember e sp.nodes × (node_at g e ≡ node.Square l.action m))
          → LeadsOut h sp d e m
      by_kind (inl is) =
          let there = diamond_there g h a d l.action l.child l.is_diamond in
          record { action = there.0; child = l.child; is_diamond = there.1; leaves = inl is }
      by_kind (inr is) =
          let both = same_square g h a d e l.action l.child m l.is_diamond is.1 in
          record { action = both.0; child = l.child; is_diamond = both.1; leaves = inr (is.0, both.2) }

  pub target_same : (sp : SpreadList) (d m : ℕ) → IsTarget g sp d m → IsTarget h sp d m
  target_same sp d m t = record { leaving = t.leaving; leads = leads_same sp d t.leaving m t.leads }

  pub trace_same : (C : List ℕ) (sp : SpreadList) (d : ℕ) (t : Triple) → IsTrace g C sp d t → IsTrace h C sp d t
  trace_same C sp d t i = record {
    from = i.from;
    leaving = i.leaving;
    walk = walk_same g h a sp.choice t.from t.lowest i.leaving i.walk;
    leads = leads_same sp d i.leaving t.to i.leads;
  }

  pub odds_same : odd_priorities g ≡ odd_priorities h
  odds_same =
      ap (λ ps. odd_priorities (record { nodes = []; priorities = ps; root = 0; props = []; actions = [] }))
      (same_priorities g h a)

  transition_same : (step : GoStep) (p q : AutomatonState) (acc : Bool)
      → HasTransition g step p q acc
      → HasTransition h step p q acc
  transition_same step p q acc i = record {
    trace = i.trace;
    is_trace = trace_same step.sequent step.spread step.diamond i.trace i.is_trace;
    stays = i.stays;
    begins = i.begins;
    ends = i.ends;
    leads = subst (λ ds. Leads ds i.trace.lowest p.odd q.odd acc) odds_same i.leads;
  }

  module _ (step : GoStep) (m : Mark) (e f : traced.Entry AutomatonState) where
    before_same : (y : ℕ) (x : traced.Item AutomatonState)
        → Predecessor (HasTransition g) step e y x
        → Predecessor (HasTransition h) step e y x
    before_same y x p = record {
      item = p.item;
      accepting = p.accepting;
      member = p.member;
      named = p.named;
      transition = transition_same step p.item.state x.state p.accepting p.transition;
    }

    gains_same : (y : ℕ) (x : traced.Item AutomatonState)
        → Progress (HasTransition g) step e y x
        → Progress (HasTransition h) step e y x
    unfolding before_same
    gains_same y x p = record { before = before_same y x p.before; progress = p.progress }

    names_same : NamesCondition (HasTransition g) step m e f → NamesCondition (HasTransition h) step m e f
    names_same n = record {
      in_use = n.in_use;
      green_in_use = n.green_in_use;
      traced = λ y low x member named. before_same y x (n.traced y low x member named);
      advanced = λ y low x member is. gains_same y x (n.advanced y low x member is);
      green_traced = λ y is x member named. gains_same y x (n.green_traced y is x member named);
      green_reset = n.green_reset;
    }

  of_spread_same : (C : List ℕ) (c : List (ℕ × Side)) (P Q : SpreadList → Type 0) → ((sp : SpreadList) → P sp → Q sp)
      → OfSpread g C c P → OfSpread h C c Q
  of_spread_same C c P Q goes_on o = record {
    spread = o.spread;
    is_spread = spread_same C c o.spread o.is_spread;
    holds = goes_on o.spread o.holds;
  }

-- ---- the rules of a part

module _ (r : Refutation) (e : ℕ) (g h : Graph) (a : AreAlike g h) where
  abbrev C : List ℕ
  C = (entry_at r e).sequent

  splits : (c : List (ℕ × Side)) (n : ℕ)
      → OfSpread g C c (λ sp. IsOpenOr g sp n)
      → OfSpread h C c (λ sp. IsOpenOr h sp n)
  splits c n k = of_spread_same g h a C c (λ sp. IsOpenOr g sp n) (λ sp. IsOpenOr h sp n) (λ sp. open_same g h a sp n) k

  clashes : (c : List (ℕ × Side)) (x : ClashCause)
      → OfSpread g C c (λ sp. IsCause g sp x)
      → OfSpread h C c (λ sp. IsCause h sp x)
  clashes c x k = of_spread_same g h a C c (λ sp. IsCause g sp x) (λ sp. IsCause h sp x) (λ sp. cause_same g h a sp x) k

  leaves : (c : List (ℕ × Side)) (d : ℕ)
      → OfSpread g C c (λ sp. IsDiamondOf g sp d)
      → OfSpread h C c (λ sp. IsDiamondOf h sp d)
  leaves c d k =
      of_spread_same g h a C c (λ sp. IsDiamondOf g sp d) (λ sp. IsDiamondOf h sp d) (λ sp. diamond_same g h a sp d) k

  within : (c : List (ℕ × Side)) (d f : ℕ) → OfSpread g C c (λ sp. All (IsTarget g sp d) (entry_at r f).sequent)
      → OfSpread h C c (λ sp. All (IsTarget h sp d) (entry_at r f).sequent)
  within c d f k =
      of_spread_same g h a C c (λ sp. All (IsTarget g sp d) (entry_at r f).sequent)
      (λ sp. All (IsTarget h sp d) (entry_at r f).sequent)
      (λ sp all i z low. target_same g h a sp d (get_or (entry_at r f).sequent i z) (all i z low)) k

  traces : (c : List (ℕ × Side)) (d f : ℕ) (m : Mark) → TracesNames (entry_at r e) c d (entry_at r f) m g
      → TracesNames (entry_at r e) c d (entry_at r f) m h
  traces c d f m k =
      let step : SpreadList → GoStep = λ sp. record {
        sequent = C;
        spread = sp;
        diamond = d;
        next = (entry_at r f).sequent;
      } in
      of_spread_same g h a C c
      (λ sp. NamesCondition (HasTransition g) (step sp) m (entry_at r e).traces (entry_at r f).traces)
      (λ sp. NamesCondition (HasTransition h) (step sp) m (entry_at r e).traces (entry_at r f).traces)
      (λ sp. names_same g h a (step sp) m (entry_at r e).traces (entry_at r f).traces) k

  starts : IsWellStarted r e g → IsWellStarted r e h
  starts k = record {
    in_graph = subst (λ n. All (λ m. m < n) C) a.sizes k.in_graph;
    starts = λ first. k.starts first ∙ ap (λ n. n ∷ []) a.roots;
  }

  stands : (x : traced.Item AutomatonState) → StandsIn C x g → StandsIn C x h
  stands x k = record { member = k.member; occurs = subst (λ ds. IsState ds x.state) (odds_same g h a) k.occurs }

  branch_keeps : (c : List (ℕ × Side)) (d : Decision)
      → KeepsAll (rules r e (Decided (record { choice = c; decision = d }))) g
      → KeepsAll (rules r e (Decided (record { choice = c; decision = d }))) h
  branch_keeps c (Split n left right) (k, u) = (splits c n k, u)
  branch_keeps c (Clash x) (k, u) = (clashes c x k, u)
  branch_keeps c (Go d f m) (k, (w, (n, (falls, u)))) = (leaves c d k, (within c d f w, (traces c d f m n, (falls, u))))

  pub keeps_same : (part : Part) → KeepsAll (rules r e part) g → KeepsAll (rules r e part) h
  keeps_same Sequent (k, u) = (starts k, u)
  keeps_same Live k = k
  keeps_same (Item x) (k, u) = (stands x k, u)
  keeps_same (Decided x) k = branch_keeps x.choice x.decision k

-- what is broken in one is broken in the other
module _ (r : Refutation) (e : ℕ) (g h : Graph) (a : AreAlike g h) where
  abbrev b' : AreAlike h g
  b' = flip g h a

  branch_broken : (c : List (ℕ × Side)) (d : Decision) (n : ℕ)
      → IsFirstBroken (rules r e (Decided (record { choice = c; decision = d }))) g n
      → IsFirstBroken (rules r e (Decided (record { choice = c; decision = d }))) h n
  branch_broken c (Split o left right) n (inl (is, fails)) = inl (is, λ k. fails (splits r e h g b' c o k))
  branch_broken c (Split o left right) n (inr (k, none)) = absurd none
  branch_broken c (Clash x) n (inl (is, fails)) = inl (is, λ k. fails (clashes r e h g b' c x k))
  branch_broken c (Clash x) n (inr (k, none)) = absurd none
  branch_broken c (Go d f m) n (inl (is, fails)) = inl (is, λ k. fails (leaves r e h g b' c d k))
  branch_broken c (Go d f m) n (inr (k, inl (is, fails))) =
      inr (leaves r e g h a c d k, inl (is, λ w. fails (within r e h g b' c d f w)))
  branch_broken c (Go d f m) n (inr (k, inr (w, inl (is, fails)))) =
      inr (leaves r e g h a c d k, inr (within r e g h a c d f w, inl (is, λ t. fails (traces r e h g b' c d f m t))))
  branch_broken c (Go d f m) n (inr (k, inr (w, inr (t, inl (is, fails))))) =
      inr (leaves r e g h a c d k, inr (within r e g h a c d f w, inr (traces r e g h a c d f m t, inl (is, fails))))
  branch_broken c (Go d f m) n (inr (k, inr (w, inr (t, inr (falls, none))))) = absurd none

  broken_same : (part : Part) (n : ℕ) → IsFirstBroken (rules r e part) g n → IsFirstBroken (rules r e part) h n
  broken_same Sequent n (inl (is, fails)) = inl (is, λ k. fails (starts r e h g b' k))
  broken_same Sequent n (inr (k, none)) = absurd none
  broken_same Live n x = x
  broken_same (Item y) n (inl (is, fails)) = inl (is, λ k. fails (stands r e h g b' y k))
  broken_same (Item y) n (inr (k, none)) = absurd none
  broken_same (Decided y) n x = branch_broken y.choice y.decision n x

module _ (g h : Graph) (a : AreAlike g h) (r : Refutation) where
  pub accepted_same : IsAccepted g r → IsAccepted h r
  accepted_same all e part low member = keeps_same r e g h a part (all e part low member)

  pub first_bad_same : (e k n : ℕ) → IsFirstBad g r e k n → IsFirstBad h r e k n
  first_bad_same e k n f = record {
    is_entry = f.is_entry;
    is_part = f.is_part;
    entries_before = λ d part less member. keeps_same r d g h a part (f.entries_before d part less member);
    parts_before = λ j less. keeps_same r e g h a (get_or (parts (entry_at r e)) j Sequent) (f.parts_before j less);
    broken = broken_same r e g h a (get_or (parts (entry_at r e)) k Sequent) n f.broken;
  }
