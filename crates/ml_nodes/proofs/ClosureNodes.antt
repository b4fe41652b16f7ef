-- Where the nodes of a closure hold, and what a closure asks of the edges of a structure.
--
--   diamond_action, square_action == each action that the graph names at a node of edges is `_`
--   HoldsFor s p       == the value p holds, as a node, at the state s
--   both_hold          == where an and holds, its parts do
--   some_target        == where a diamond holds, an edge by `_` leads on
--   behind_target      == where a square holds, its child holds behind each edge by `_`
--   AsksForEdges F root == the root asks that each state have an edge by `_`, and so does each that is reached
--   asked_first, asked_behind, has_target == so it does
use Rattle.std.proofs.Common.{ℕ, ◌≡◌, ◌<◌, arith, true, false, List, Contains, Some, get_or, codes, sym, ◌∙◌, subst}
use Rattle.std.specs.List.{slice_get}
use Rattle.std.proofs.lemmas.Option.{slice_get_within, slice_get-get_or}
use Rattle.ml_lists.specs.Member.{IsMember}
use Rattle.ml_lists.proofs.Members.{member_of_contains, contains_of_member}
use Rattle.ml_base.specs.Structure.{Structure, IsStructure}
use Rattle.ml_graph.specs.CheckingGame.{HoldsAt, targets}
use Rattle.ml_graph.specs.Graph.{Graph, size, node_at, action_at}
use Rattle.ml_graph.specs.Laws.{NodeHolds}
use Rattle.ml_graph.specs.declared.node.Node.{Node}
use Rattle.ml_graph.specs.declared.node.Node.TheVariants as node
use Rattle.ml_graph.proofs.OneStep.{one_step}
use Rattle.ml_nodes.specs.ClosureGraph.{Form, Forms, Constant, Literal, And, Or, Diamond, Square, HasForm, IsGraphFrom, IsNumberedBy}

-- ---- actions

module _ {P : Type 0} (g : Graph) (ps : List P) (a c : ℕ) where
  diamond_of_form : (v : Node) (f : Form P) → HasForm g ps v f → v ≡ node.Diamond a c → action_at g a ≡ codes "_"
  diamond_of_form v (Constant true) h e = absurd (let wrong = sym h ∙ e in cc)
  diamond_of_form v (Constant false) h e = absurd (let wrong = sym h ∙ e in cc)
  diamond_of_form v (Literal name sign) h e = absurd (let wrong = sym h.1 ∙ e in cc)
  diamond_of_form v (And l r) h e = absurd (let wrong = sym h.4 ∙ e in cc)
  diamond_of_form v (Or l r) h e = absurd (let wrong = sym h.4 ∙ e in cc)
  diamond_of_form v (Diamond q) h e =
      let both = sym h.3 ∙ e in
      let same : h.0 ≡ a = cc in
      subst (λ b. action_at g b ≡ codes "_") same h.4
  diamond_of_form v (Square q) h e = absurd (let wrong = sym h.3 ∙ e in cc)

  square_of_form : (v : Node) (f : Form P) → HasForm g ps v f → v ≡ node.Square a c → action_at g a ≡ codes "_"
  square_of_form v (Constant true) h e = absurd (let wrong = sym h ∙ e in cc)
  square_of_form v (Constant false) h e = absurd (let wrong = sym h ∙ e in cc)
  square_of_form v (Literal name sign) h e = absurd (let wrong = sym h.1 ∙ e in cc)
  square_of_form v (And l r) h e = absurd (let wrong = sym h.4 ∙ e in cc)
  square_of_form v (Or l r) h e = absurd (let wrong = sym h.4 ∙ e in cc)
  square_of_form v (Diamond q) h e = absurd (let wrong = sym h.3 ∙ e in cc)
  square_of_form v (Square q) h e =
      let both = sym h.3 ∙ e in
      let same : h.0 ≡ a = cc in
      subst (λ b. action_at g b ≡ codes "_") same h.4

module _ {P : Type 0} (F : Forms P) (root : P) (g : Graph) (is_g : IsGraphFrom F g root) where
  abbrev pub places : List P
  places = (is_g.is_numbered).0

  abbrev N : IsNumberedBy F g root places
  N = (is_g.is_numbered).1

  -- the value of a node
  pub record ValueOf (n : ℕ) : Type 0 where
    pub value : P
    pub stands : slice_get places n ≡ Some value

  pub value_of : (n : ℕ) → n < size g → ValueOf n
  value_of n low =
      let sizes = N.one_each in
      record {
        value = get_or places n root;
        stands = slice_get-get_or places n root (omega (arith, low, sizes));
      }

  pub diamond_action : (n a c : ℕ) → n < size g → node_at g n ≡ node.Diamond a c → action_at g a ≡ codes "_"
  diamond_action n a c low e =
      let x = value_of n low in
      diamond_of_form g places a c (node_at g n) (F.form_of x.value) (N.has_forms n x.value x.stands) e

  pub square_action : (n a c : ℕ) → n < size g → node_at g n ≡ node.Square a c → action_at g a ≡ codes "_"
  square_action n a c low e =
      let x = value_of n low in
      square_of_form g places a c (node_at g n) (F.form_of x.value) (N.has_forms n x.value x.stands) e

  -- ---- nodes that hold

  module _ (m : Structure) (is : IsStructure m) where
    pub record HoldsFor (s : ℕ) (p : P) : Type 0 where
      pub number : ℕ
      pub stands : slice_get places number ≡ Some p
      pub holds : HoldsAt g m s number

    node_holds : (s : ℕ) (p : P) → s < m.states → (h : HoldsFor s p) → NodeHolds g m s (node_at g h.number)
    node_holds s p low h =
        let within = slice_get_within places h.number p h.stands in
        let sizes = N.one_each in
        (one_step g m is_g.is_graph is s h.number low (omega (arith, within, sizes))).0 h.holds

    has_form : (s : ℕ) (p : P) (f : Form P) → F.form_of p ≡ f → (h : HoldsFor s p) → HasForm g places (node_at g h.number) f
    has_form s p f e h = subst (HasForm g places (node_at g h.number)) e (N.has_forms h.number p h.stands)

    pub root_holds : (s : ℕ) → HoldsAt g m s g.root → HoldsFor s root
    root_holds s holds = record { number = g.root; stands = N.root_is; holds = holds }

    pub both_hold : (s : ℕ) (p l r : P) → s < m.states → F.form_of p ≡ And l r → HoldsFor s p → HoldsFor s l × HoldsFor s r
    both_hold s p l r low e h =
        let f = has_form s p (And l r) e h in
        let both = subst (NodeHolds g m s) f.4 (node_holds s p low h) in (
          record { number = f.0; stands = f.2; holds = both.0 },
          record { number = f.1; stands = f.3; holds = both.1 },
        )

    pub some_target : (s : ℕ) (p q : P) → s < m.states → F.form_of p ≡ Diamond q → HoldsFor s p
        → (t : ℕ) × IsMember t (targets m s (codes "_"))
    some_target s p q low e h =
        let f = has_form s p (Diamond q) e h in
        let some = subst (NodeHolds g m s) f.3 (node_holds s p low h) in (
          some.0,
          member_of_contains some.0 (targets m s (codes "_"))
              (subst (λ name. Contains (targets m s name) some.0) f.4 some.1),
        )

    pub behind_target : (s : ℕ) (p q : P) → s < m.states → F.form_of p ≡ Square q → HoldsFor s p
        → (t : ℕ)
        → IsMember t (targets m s (codes "_"))
        → HoldsFor t q
    behind_target s p q low e h t target =
        let f = has_form s p (Square q) e h in
        let every = subst (NodeHolds g m s) f.3 (node_holds s p low h) in
        record {
          number = f.1;
          stands = f.2;
          holds = every t (subst (λ name. Contains (targets m s name) t) (sym f.4)
              (contains_of_member t (targets m s (codes "_")) target));
        }

-- ---- closures that ask for edges

pub record AsksForEdges {P : Type 0} (F : Forms P) (root : P) : Type 0 where
  pub start : P
  pub total : P
  pub has_edge : P
  pub leads_on : P
  pub anything : P
  pub root_is : F.form_of root ≡ And start total
  pub total_is : F.form_of total ≡ And has_edge leads_on
  pub has_edge_is : F.form_of has_edge ≡ Diamond anything
  pub leads_on_is : F.form_of leads_on ≡ Square total

module _ {P : Type 0} (F : Forms P) (root : P) (g : Graph) (is_g : IsGraphFrom F g root) (m : Structure) (is : IsStructure m)
    (asks : AsksForEdges F root) where
  -- the state is asked for an edge, and so is each behind it
  abbrev pub IsAsked : ℕ → Type 0
  IsAsked s = HoldsFor F root g is_g m is s asks.total

  pub asked_first : (s : ℕ) → s < m.states → HoldsAt g m s g.root → IsAsked s
  asked_first s low holds =
      (both_hold F root g is_g m is s root asks.start asks.total low asks.root_is (root_holds F root g is_g m is s holds)).1

  pub asked_behind : (s t : ℕ) → s < m.states → IsAsked s → IsMember t (targets m s (codes "_")) → IsAsked t
  asked_behind s t low asked target =
      let on = (both_hold F root g is_g m is s asks.total asks.has_edge asks.leads_on low asks.total_is asked).1 in
      behind_target F root g is_g m is s asks.leads_on asks.total low asks.leads_on_is on t target

  pub has_target : (s : ℕ) → s < m.states → IsAsked s → (t : ℕ) × IsMember t (targets m s (codes "_"))
  has_target s low asked =
      some_target F root g is_g m is s asks.has_edge asks.anything low asks.has_edge_is
      (both_hold F root g is_g m is s asks.total asks.has_edge asks.leads_on low asks.total_is asked).0
