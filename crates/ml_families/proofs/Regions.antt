-- Regions: sets of nodes that local moves don't leave, and what is done at a position inside one.
--
--   IsRegion g c S  == from a node of S local moves lead to nodes of S, by the choice c
--   inside          == so the spread of nodes of S stays in S
--   IsTame g b n    == the node n is not False, its priority is even, and it is no literal of the sign b
--   no_clash        == a spread in a region of such nodes doesn't clash
--   no_move         == a position in a region without diamonds, where no or-node is open, has no move to a position
--   no_target       == so where there are no or-nodes
--   HasOneDiamond   == a region of such nodes, without or-nodes, with one diamond, which is reached
--   one_target      == a position there has one move, the step along that diamond
use Rattle.std.proofs.Common.{◌≡◌, ℕ, ◌%◌, ◌⊎◌, Bool, true, false, List, [], ◌∷◌, length, min, inl, inr, refl, sym, ap, subst, ◌∙◌, arith}
use Rattle.ml_lists.specs.Member.{IsMember}
use Rattle.ml_lists.proofs.Ascending.{ascending_same, ascending-one, ascending-filter}
use Rattle.ml_lists.proofs.Member.{member-filter, member-filter_from}
use Rattle.ml_graph.specs.Graph.{Graph, node_at, priority_at}
use Rattle.ml_graph.specs.declared.node.Node.{Node}
use Rattle.ml_graph.specs.declared.node.Node.TheVariants as node
use Rattle.ml_sequent.specs.declared.choice.Side.{Side}
use Rattle.ml_sequent.specs.declared.clashes.ClashCause.{ClashCause}
use Rattle.ml_sequent.specs.declared.clashes.ClashCause.TheVariants as cause
use Rattle.ml_sequent.specs.LocalWalk.{LocalWalk, stays, goes, children}
use Rattle.ml_sequent.specs.Spread.{SpreadList, IsSpreadOf, IsCause, IsOpenOr, is_diamond}
use Rattle.ml_product.specs.Position.{Position, Follows}
use Rattle.ml_product.specs.DecisionGame.{Verdict, Clashing, Open, Leading, Settled, Target, To, Lost, Won, Turn, AreSteps, AreMoves, IsVerdictOf, diamonds_of}

abbrev pub Nodes : Type 1
Nodes = ℕ → Type 0

abbrev pub IsRegion : Graph → List (ℕ × Side) → Nodes → Type 0
IsRegion g c S = (n m : ℕ) → S n → IsMember m (children g c n) → S m

abbrev pub AreIn : Nodes → List ℕ → Type 0
AreIn S C = (n : ℕ) → IsMember n C → S n

pub walk_inside : (g : Graph) (c : List (ℕ × Side)) (S : Nodes) → IsRegion g c S
    → (n k m : ℕ) → LocalWalk g c n k m → S n → S m
walk_inside g c S region n k m (stays _) here = here
walk_inside g c S region n k m (goes {k = j} _ next child w) here =
    walk_inside g c S region next j m w (region n next here child)

-- a local walk leads from one node to the other
abbrev pub Reaches : Graph → List (ℕ × Side) → ℕ → ℕ → Type 0
Reaches g c n m = (k : ℕ) × LocalWalk g c n k m

pub one_more : (g : Graph) (c : List (ℕ × Side)) (n next m : ℕ)
    → IsMember next (children g c n) → Reaches g c next m → Reaches g c n m
one_more g c n next m child w = (min (priority_at g n) w.0, goes n next child w.1)

pub inside : (g : Graph) (p : Position) (S : Nodes) (sp : SpreadList) → IsRegion g p.choice S → AreIn S p.sequent
    → IsSpreadOf g p.sequent p.choice sp
    → AreIn S sp.nodes
inside g p S sp region all is n m =
    let s = (is.nodes n).0 m in walk_inside g p.choice S region s.from s.lowest n s.walk (all s.from s.member)

-- ---- no clash

pub record IsTame (g : Graph) (b : Bool) (n : ℕ) : Type 0 where
  pub is_even : priority_at g n % 2 ≡ 0
  pub holds : node_at g n ≡ node.False → ⊥
  pub one_sign : (p : ℕ) → node_at g n ≡ node.Lit p b → ⊥

pub no_clash : (g : Graph) (b : Bool) (sp : SpreadList) → ((n : ℕ) → IsMember n sp.nodes → IsTame g b n)
    → (x : ClashCause)
    → IsCause g sp x
    → ⊥
no_clash g b sp tame (cause.False n) (m, is) = (tame n m).holds is
no_clash g true sp tame (cause.Pair n k) (m, l, pair) = (tame n m).one_sign pair.prop pair.positive
no_clash g false sp tame (cause.Pair n k) (m, l, pair) = (tame k l).one_sign pair.prop pair.negative
no_clash g b sp tame (cause.Cycle n) (m, odd) = let even = (tame n m).is_even in omega (arith, even, odd.0)

-- ---- no target

-- neither an or-node nor a diamond
abbrev pub is_quiet : Node → Bool
is_quiet node.True = true
is_quiet node.False = true
is_quiet (node.Lit p positive) = true
is_quiet (node.And l r) = true
is_quiet (node.Or l r) = false
is_quiet (node.Diamond a to) = false
is_quiet (node.Square a to) = true

quiet_no_diamond : (x : Node) → is_quiet x ≡ true → is_diamond x ≡ true → ⊥
quiet_no_diamond (node.Diamond a to) quiet d = cc
quiet_no_diamond node.True quiet d = cc
quiet_no_diamond node.False quiet d = cc
quiet_no_diamond (node.Lit p positive) quiet d = cc
quiet_no_diamond (node.And l r) quiet d = cc
quiet_no_diamond (node.Or l r) quiet d = cc
quiet_no_diamond (node.Square a to) quiet d = cc

not_open : (g : Graph) (sp : SpreadList) (o : ℕ) → IsOpenOr g sp o → is_quiet (node_at g o) ≡ true → ⊥
not_open g sp o is quiet = let same = ap is_quiet is.is_open.is_or in cc

only_lost : (ts : List Target) (q : Position) → ts ≡ Lost ∷ [] → IsMember (To q) ts → ⊥
only_lost ts q is m = by_one (subst (IsMember (To q)) is m)
  where
    by_one : (To q ≡ Lost) ⊎ ⊥ → ⊥
    by_one (inl same) = cc
    by_one (inr none) = none

only_won : (ts : List Target) (q : Position) → ts ≡ Won ∷ [] → IsMember (To q) ts → ⊥
only_won ts q is m = by_one (subst (IsMember (To q)) is m)
  where
    by_one : (To q ≡ Won) ⊎ ⊥ → ⊥
    by_one (inl same) = cc
    by_one (inr none) = none

-- where nothing is open either
pub no_move : (g : Graph) (p : Position) (S : Nodes) → IsRegion g p.choice S → AreIn S p.sequent
    → ((n : ℕ) → S n → is_diamond (node_at g n) ≡ true → ⊥)
    → (t : Turn g p)
    → ((o : ℕ) → IsOpenOr g t.spread o → ⊥)
    → (q : Position)
    → IsMember (To q) t.targets
    → ⊥
no_move g p S region all no_diamond t none_open q m = by_verdict t.verdict t.is_verdict t.are_moves
  where
    by_verdict : (v : Verdict) → IsVerdictOf g t.spread v → AreMoves g p t.spread v t.targets → ⊥
    by_verdict Clashing is moves = only_lost t.targets q moves m
    by_verdict (Open o) is moves = none_open o is.1.is_open
    by_verdict (Leading []) is moves = absurd (omega (arith, is.2))
    by_verdict (Leading (d ∷ ds)) is moves =
        let found = member-filter_from (λ n. is_diamond (node_at g n)) d t.spread.nodes (subst (IsMember d) is.1 (inl refl)) in
        no_diamond d (inside g p S t.spread region all t.is_spread d found.0) found.1
    by_verdict Settled is moves = only_won t.targets q moves m

pub no_target : (g : Graph) (p : Position) (S : Nodes) → IsRegion g p.choice S → AreIn S p.sequent
    → ((n : ℕ) → S n → is_quiet (node_at g n) ≡ true)
    → (t : Turn g p) (q : Position)
    → IsMember (To q) t.targets
    → ⊥
no_target g p S region all quiet t q m =
    no_move g p S region all (λ n here. quiet_no_diamond (node_at g n) (quiet n here)) t
    (λ o is. not_open g t.spread o is (quiet o (inside g p S t.spread region all t.is_spread o is.member))) q m

-- ---- one target

-- the members of an ascending list that pass a test ascend
pub record HasOneDiamond (g : Graph) (p : Position) (b : Bool) (S : Nodes) (d : ℕ) : Type 0 where
  pub region : IsRegion g p.choice S
  pub sequent : AreIn S p.sequent
  pub tame : (n : ℕ) → S n → IsTame g b n
  pub quiet : (n : ℕ) → S n → (n ≡ d) ⊎ (is_quiet (node_at g n) ≡ true)
  pub is_diamond : is_diamond (node_at g d) ≡ true
  pub from : ℕ
  pub member : IsMember from p.sequent
  pub reaches : Reaches g p.choice from d

-- the step along the diamond, from the spread that lies in the region
pub record Stepped (g : Graph) (p : Position) (S : Nodes) (d : ℕ) (ts : List Target) : Type 0 where
  pub spread : SpreadList
  pub within : AreIn S spread.nodes
  pub choice : spread.choice ≡ p.choice
  pub to : Position
  pub follows : Follows g p spread d to
  pub is : ts ≡ To to ∷ []

pub one_target : (g : Graph) (p : Position) (b : Bool) (S : Nodes) (d : ℕ) → HasOneDiamond g p b S d
    → (t : Turn g p)
    → Stepped g p S d t.targets
one_target g p b S d h t = by_verdict t.verdict t.is_verdict t.are_moves
  where
    here : AreIn S t.spread.nodes
    here = inside g p S t.spread h.region h.sequent t.is_spread

    found : IsMember d t.spread.nodes
    found = (t.is_spread.nodes d).1
        (record { from = h.from; member = h.member; lowest = h.reaches.0; walk = h.reaches.1 })

    leads : IsMember d (diamonds_of g t.spread)
    leads = member-filter (λ n. is_diamond (node_at g n)) d t.spread.nodes found h.is_diamond

    only : (n : ℕ) → IsMember n (diamonds_of g t.spread) → n ≡ d
    only n m =
        let f = member-filter_from (λ k. is_diamond (node_at g k)) n t.spread.nodes m in
        by_node (h.quiet n (here n f.0)) f.1
      where
        by_node : (n ≡ d) ⊎ (is_quiet (node_at g n) ≡ true) → is_diamond (node_at g n) ≡ true → n ≡ d
        by_node (inl same) is = same
        by_node (inr quiet) is = absurd (quiet_no_diamond (node_at g n) quiet is)

    one : diamonds_of g t.spread ≡ d ∷ []
    one =
        ascending_same (diamonds_of g t.spread) (d ∷ [])
        (ascending-filter (λ n. is_diamond (node_at g n)) t.spread.nodes t.is_spread.ascends) (ascending-one d)
        (λ n m. inl (only n m)) back
      where
        back : (n : ℕ) → (n ≡ d) ⊎ ⊥ → IsMember n (diamonds_of g t.spread)
        back n (inl same) = subst (λ k. IsMember k (diamonds_of g t.spread)) (sym same) leads
        back n (inr none) = absurd none

    step : AreSteps g p t.spread (d ∷ []) t.targets → Stepped g p S d t.targets
    step (q, others, follows, none, is) = record {
      spread = t.spread;
      within = here;
      choice = t.is_spread.choice;
      to = q;
      follows = follows;
      is = is ∙ ap (λ ts. To q ∷ ts) none;
    }

    by_verdict : (v : Verdict)
        → IsVerdictOf g t.spread v
        → AreMoves g p t.spread v t.targets
        → Stepped g p S d t.targets
    by_verdict Clashing is moves = absurd (no_clash g b t.spread (λ n m. h.tame n (here n m)) is.0 is.1)
    by_verdict (Open o) is moves = absurd (by_node (h.quiet o (here o is.1.is_open.member)))
      where
        by_node : (o ≡ d) ⊎ (is_quiet (node_at g o) ≡ true) → ⊥
        by_node (inl same) =
            let or_node = ap (λ x. is_diamond x) is.1.is_open.is_open.is_or in
            let dia = ap (λ k. is_diamond (node_at g k)) same in
            let yes_dia = h.is_diamond in cc
        by_node (inr quiet) = not_open g t.spread o is.1.is_open quiet
    by_verdict (Leading ds) is moves =
        step (subst (λ xs. AreSteps g p t.spread xs t.targets) (is.1 ∙ one) moves)
    by_verdict Settled is moves = let none = ap length (sym one ∙ is.1) in absurd (omega (arith, none))
