-- What is asked of the spread of nodes is decided.
--
-- Nodes of a graph have one spread under a choice. So what is decided of it is decided of nodes and choice.
--
--   some_spread       == the spread, as a value
--   one_spread        == there is one
--   decided_of_spread == whether it has a property that is decided of it is decided
--   decided_open_or, decided_cause, decided_diamond, decided_target, decided_trace == these properties
use Rattle.std.proofs.Common.{◌≡◌, ℕ, ◌<◌, ◌⊎◌, Bool, true, false, List, ◌∷◌, Option, None, Some, All, inl, inr, refl, sym, ap, ◌∙◌, subst}
use Rattle.ml_lists.specs.Member.{IsMember}
use Rattle.ml_lists.proofs.Ascending.{ascending_same}
use Rattle.ml_lists.proofs.Decided.{Decided, decided_same, decided_both, decided_either, decided_number, decided_test}
use Rattle.ml_lists.proofs.Member.{All-member}
use Rattle.ml_trace.specs.declared.letters.Triple.{Triple}
use Rattle.ml_graph.specs.declared.node.Node.{Node}
use Rattle.ml_graph.specs.declared.node.Node.TheVariants as node
use Rattle.ml_graph.specs.Graph.{Graph, IsGraph, size, node_at}
use Rattle.ml_sequent.specs.declared.choice.Side.{Side}
use Rattle.ml_sequent.specs.declared.clashes.ClashCause.{ClashCause}
use Rattle.ml_sequent.specs.declared.clashes.ClashCause.TheVariants as cause
use Rattle.ml_sequent.specs.Choice.{side_of}
use Rattle.ml_sequent.specs.LocalWalk.{LocalWalk, InSpread}
use Rattle.ml_sequent.specs.Spread.{SpreadList, IsSpreadOf, IsOpenNode, IsOpenOr, IsCause, IsPair, is_diamond}
use Rattle.ml_sequent.specs.Step.{IsDiamondOf, LeadsOut, IsTarget, IsTrace}
use Rattle.ml_sequent.proofs.RankedWalks.{spread_low}
use Rattle.ml_refutation.specs.Acceptance.{OfSpread}
use Rattle.ml_lists.proofs.Deciding.{decided_and, decided_truth, decided_member, some_member, Having, sieve}
use Rattle.ml_refutation.proofs.HighWalks.{decided_odd_cycle}
use Rattle.ml_refute_check.proofs.DecidedWalks.{decided_walk, decided_spread}

abbrev pub Within : Graph → List ℕ → Type 0
Within g C = All (λ n. n < size g) C

-- ---- the spread

pub record SomeSpread (g : Graph) (C : List ℕ) (c : List (ℕ × Side)) : Type 0 where
  pub spread : SpreadList
  pub is : IsSpreadOf g C c spread

module _ (g : Graph) (ok : IsGraph g) (C : List ℕ) (low : Within g C) (c : List (ℕ × Side)) where
  pub some_spread : SomeSpread g C c
  some_spread =
      let kept = sieve (InSpread g c C) (size g) (λ m m_low. decided_spread g c ok C low m) in
      record {
        spread = record { nodes = kept.list; choice = c };
        is = record {
          choice = refl;
          ascends = kept.ascends;
          low = λ m h. (kept.members m h).0;
          nodes = λ m. ((λ h. (kept.members m h).1), (λ s. kept.all m (spread_low g ok C low c m s) s));
        };
      }

  pub one_spread : (sp other : SpreadList) → IsSpreadOf g C c sp → IsSpreadOf g C c other → sp ≡ other
  one_spread sp other is is_other =
      let nodes =
      ascending_same sp.nodes other.nodes is.ascends is_other.ascends
      (λ m h. (is_other.nodes m).1 ((is.nodes m).0 h)) (λ m h. (is.nodes m).1 ((is_other.nodes m).0 h)) in
      let choices : sp.choice ≡ other.choice = is.choice ∙ sym is_other.choice in
      λ i. record { nodes = nodes i; choice = choices i }

  pub decided_of_spread : (P : SpreadList → Type 0)
      → ((sp : SpreadList) → IsSpreadOf g C c sp → Decided (P sp))
      → Decided (OfSpread g C c P)
  decided_of_spread P decide = of_value some_spread
    where
      of_value : SomeSpread g C c → Decided (OfSpread g C c P)
      of_value s =
          decided_same (λ h. record { spread = s.spread; is_spread = s.is; holds = h })
          (λ o. subst P (one_spread o.spread s.spread o.is_spread s.is) o.holds)
          (decide s.spread s.is)

-- ---- kinds of nodes

is_false : (x : Node) → Decided (x ≡ node.False)
is_false node.False = inl refl
is_false other = inr (λ e. cc)

-- the two children of an or-node
record IsOr (x : Node) : Type 0 where
  pub left : ℕ
  pub right : ℕ
  pub is : x ≡ node.Or left right

is_or : (x : Node) → Decided (IsOr x)
is_or (node.Or l r) = inl (record { left = l; right = r; is = refl })
is_or other = inr (λ h. let e = h.is in absurd (cc))

-- the proposition of a literal
record IsLit (x : Node) : Type 0 where
  pub prop : ℕ
  pub positive : Bool
  pub is : x ≡ node.Lit prop positive

is_lit : (x : Node) → Decided (IsLit x)
is_lit (node.Lit p b) = inl (record { prop = p; positive = b; is = refl })
is_lit other = inr (λ h. let e = h.is in absurd (cc))

-- the action and the child of a diamond
record IsDiamond (x : Node) : Type 0 where
  pub action : ℕ
  pub child : ℕ
  pub is : x ≡ node.Diamond action child

is_diamond_node : (x : Node) → Decided (IsDiamond x)
is_diamond_node (node.Diamond a to) = inl (record { action = a; child = to; is = refl })
is_diamond_node other = inr (λ h. let e = h.is in absurd (cc))

-- is the node a square of this action, with this child
is_square : (x : Node) (action child : ℕ) → Decided (x ≡ node.Square action child)
is_square (node.Square a to) action child =
    decided_same (λ (both : (a ≡ action) × (to ≡ child)) i. node.Square (both.0 i) (both.1 i))
    (λ e. (let s : a ≡ action = cc in s, let s : to ≡ child = cc in s))
    (decided_both (decided_number a action) (decided_number to child))
is_square other action child = inr (λ e. cc)

no_side : (o : Option Side) → Decided (o ≡ None)
no_side None = inl refl
no_side (Some s) = inr (λ e. cc)

-- ---- what is asked of a spread

module _ (g : Graph) (sp : SpreadList) where
  in_nodes : (n : ℕ) → Decided (IsMember n sp.nodes)
  in_nodes n = decided_member decided_number n sp.nodes

  decided_open_node : (n : ℕ) → Decided (IsOpenNode g sp.choice n)
  decided_open_node n =
      decided_same
      (λ (both : IsOr (node_at g n) × (side_of sp.choice n ≡ None)).
      record { left = both.0.left; right = both.0.right; is_or = both.0.is; unchosen = both.1 })
      (λ o. (record { left = o.left; right = o.right; is = o.is_or }, o.unchosen))
      (decided_both (is_or (node_at g n)) (no_side (side_of sp.choice n)))

  pub decided_open_or : (n : ℕ) → Decided (IsOpenOr g sp n)
  decided_open_or n =
      decided_same
      (λ (both : IsMember n sp.nodes × IsOpenNode g sp.choice n). record { member = both.0; is_open = both.1 })
      (λ o. (o.member, o.is_open))
      (decided_both (in_nodes n) (decided_open_node n))

  pub decided_diamond : (d : ℕ) → Decided (IsDiamondOf g sp d)
  decided_diamond d =
      decided_same
      (λ (both : IsMember d sp.nodes × (is_diamond (node_at g d) ≡ true)). record { member = both.0; holds = both.1 })
      (λ h. (h.member, h.holds))
      (decided_both (in_nodes d) (decided_test (is_diamond (node_at g d))))

  -- two literals, each of which is as it has to be
  decided_pair : (p q : ℕ) → Decided (IsPair g p q)
  decided_pair p q = by_first (is_lit (node_at g p)) (is_lit (node_at g q))
    where
      by_first : Decided (IsLit (node_at g p)) → Decided (IsLit (node_at g q)) → Decided (IsPair g p q)
      by_first (inr none) other = inr (λ h. none (record { prop = h.prop; positive = true; is = h.positive }))
      by_first (inl l) (inr none) = inr (λ h. none (record { prop = h.prop; positive = false; is = h.negative }))
      by_first (inl l) (inl m) =
          decided_same there back
          (decided_both (decided_number l.prop m.prop)
          (decided_both (decided_truth l.positive true) (decided_truth m.positive false)))
        where
          there : (l.prop ≡ m.prop) × ((l.positive ≡ true) × (m.positive ≡ false)) → IsPair g p q
          there h = record {
            prop = l.prop;
            positive = l.is ∙ ap (node.Lit l.prop) h.1.0;
            negative = m.is ∙ ap (λ k. node.Lit k m.positive) (sym h.0) ∙ ap (node.Lit l.prop) h.1.1;
          }

          back : IsPair g p q → (l.prop ≡ m.prop) × ((l.positive ≡ true) × (m.positive ≡ false))
          back h =
              let first : node.Lit l.prop l.positive ≡ node.Lit h.prop true = sym l.is ∙ h.positive in
              let second : node.Lit m.prop m.positive ≡ node.Lit h.prop false = sym m.is ∙ h.negative in
              let props : l.prop ≡ m.prop = cc in
              let is_positive : l.positive ≡ true = cc in
              let is_negative : m.positive ≡ false = cc in
              (props, (is_positive, is_negative))

  -- what leaves along a diamond
  pub decided_leads_out : (d e m : ℕ) → Decided (LeadsOut g sp d e m)
  decided_leads_out d e m = by_node (is_diamond_node (node_at g d))
    where
      by_node : Decided (IsDiamond (node_at g d)) → Decided (LeadsOut g sp d e m)
      by_node (inr none) =
          inr (λ h. none (record { action = h.action; child = h.child; is = h.is_diamond }))
      by_node (inl x) =
          decided_same (λ h. record { action = x.action; child = x.child; is_diamond = x.is; leaves = h }) back
          (decided_either (decided_both (decided_number e d) (decided_number m x.child))
          (decided_both (in_nodes e) (is_square (node_at g e) x.action m)))
        where
          Leaves : ℕ → ℕ → Type 0
          Leaves action child =
              ((e ≡ d) × (m ≡ child)) ⊎ (IsMember e sp.nodes × (node_at g e ≡ node.Square action m))

          back : LeadsOut g sp d e m → Leaves x.action x.child
          back h =
              let same : node.Diamond h.action h.child ≡ node.Diamond x.action x.child = sym h.is_diamond ∙ x.is in
              let actions : h.action ≡ x.action = cc in
              let children : h.child ≡ x.child = cc in
              subst (λ k. Leaves x.action k) children (subst (λ a. Leaves a h.child) actions h.leaves)

  -- what leaves is the diamond or a node of the spread
  leaving_is : (d e m : ℕ) → LeadsOut g sp d e m → IsMember e (d ∷ sp.nodes)
  leaving_is d e m h = by_kind h.leaves
    where
      by_kind : ((e ≡ d) × (m ≡ h.child)) ⊎ (IsMember e sp.nodes × (node_at g e ≡ node.Square h.action m))
          → (e ≡ d) ⊎ IsMember e sp.nodes
      by_kind (inl is) = inl is.0
      by_kind (inr is) = inr is.0

  pub decided_target : (d m : ℕ) → Decided (IsTarget g sp d m)
  decided_target d m =
      decided_same
      (λ (h : Having (λ e. LeadsOut g sp d e m) (d ∷ sp.nodes)). record { leaving = h.item; leads = h.holds })
      (λ t. record { item = t.leaving; member = leaving_is d t.leaving m t.leads; holds = t.leads })
      (some_member (λ e. LeadsOut g sp d e m) (d ∷ sp.nodes) (λ e h. decided_leads_out d e m))

  module _ (ok : IsGraph g) where
    -- from nodes of the graph
    pub decided_trace : (C : List ℕ) → Within g C → (d : ℕ) (t : Triple) → Decided (IsTrace g C sp d t)
    decided_trace C low d t =
        decided_same
        (λ (both : IsMember t.from C × Having Leaves (d ∷ sp.nodes)).
        record { from = both.0; leaving = both.1.item; walk = both.1.holds.0; leads = both.1.holds.1 })
        (λ h. (
          h.from,
          record { item = h.leaving; member = leaving_is d h.leaving t.to h.leads; holds = (h.walk, h.leads) },
        ))
        (decided_and (decided_member decided_number t.from C)
        (λ h.
        let is_node = All-member (λ n. n < size g) C low t.from h in
        some_member Leaves (d ∷ sp.nodes)
        (λ e inside. decided_both (decided_walk g sp.choice ok t.from t.lowest e is_node)
        (decided_leads_out d e t.to))))
      where
        Leaves : ℕ → Type 0
        Leaves e = LocalWalk g sp.choice t.from t.lowest e × LeadsOut g sp d e t.to

    -- of a spread in the graph
    pub decided_cause : ((m : ℕ) → IsMember m sp.nodes → m < size g) → (x : ClashCause) → Decided (IsCause g sp x)
    decided_cause low (cause.False n) = decided_both (in_nodes n) (is_false (node_at g n))
    decided_cause low (cause.Pair p q) =
        decided_same
        (λ (h : (IsMember p sp.nodes × IsMember q sp.nodes) × IsPair g p q). (h.0.0, h.0.1, h.1))
        (λ h. ((h.0, h.1), h.2))
        (decided_both (decided_both (in_nodes p) (in_nodes q)) (decided_pair p q))
    decided_cause low (cause.Cycle n) =
        decided_and (in_nodes n) (λ h. decided_odd_cycle g sp.choice ok n (low n h))
