-- Who wins the nodes of a graph, for both players alike.
--
-- With a sign goes a player: with positive nodes and diamonds Even, who shows that the formula holds, or finds a run;
-- with negative nodes and boxes Odd, who shows that the formula's negation fails, or finds a run by which the box
-- fails. So a formula holds exactly where the player of the sign wins its node of that sign, and all is said once.
--
--   player_of e            == that player; node_of e i the node of occurrence i
--   own_by, other_by, go_by == the node with two children at which that player moves, that at which the opponent does,
--                             and the node at which the player takes an edge
--   Tells g m q s n b      == q wins the node n at the state s exactly if b is true
--   tells_other            == the opponent wins it exactly if b is false
--   tells_leads, tells_own, tells_other_by, tells_literal, tells_constant == at a node of each kind
use Rattle.std.proofs.Common.{◌≡◌, ◌↔◌, ℕ, ◌+◌, ◌*◌, ◌<◌, ◌≤◌, ◌⊎◌, Bool, true, false, ◌&&◌, ◌||◌, not, [], ◌∷◌, inl, inr, refl, sym, ap, subst, ◌∙◌, ⊎_elim, arith}
use Rattle.std.proofs.lemmas.Bool.{false≢true}
use Rattle.ml_lists.specs.Member.{IsMember}
use Rattle.ml_lists.proofs.Says.{Says, says_by, both_say, either_says}
use Rattle.ml_base.specs.Structure.{Structure, IsStructure, lists}
use Rattle.ml_parity.specs.declared.players.Player.{Player}
use Rattle.ml_parity.specs.declared.players.Player.TheVariants.{Even, Odd}
use Rattle.ml_parity.specs.Player.{opponent}
use Rattle.ml_parity.specs.Game.{HasMove}
use Rattle.ml_parity.specs.Winner.{Wins}
use Rattle.ml_parity.proofs.OneStep.{WinningMove, own_vertex_won, other_vertex_won}
use Rattle.ml_parity.proofs.Winners.{won_by_either, clash}
use Rattle.ml_graph.specs.declared.node.Node.{Node}
use Rattle.ml_graph.specs.declared.node.Node.TheVariants as node
use Rattle.ml_graph.specs.Graph.{Graph, IsGraph, size, node_at, prop_at}
use Rattle.ml_graph.specs.CheckingGame.{Vertex, Pair, mover, vertex_number, successors, successors_of, checking_game, HoldsAt}
use Rattle.ml_graph.proofs.CheckingGame.{IsVertex, owner_is, is_game}
use Rattle.ml_graph.proofs.OneStep.{vertex_low, one_step_at, move_to, move_from}
use Rattle.ml_nodes.specs.Nodes.{positive, negative, constant}

abbrev pub player_of : Bool → Player
player_of true = Even
player_of false = Odd

abbrev pub node_of : Bool → ℕ → ℕ
node_of true i = positive i
node_of false i = negative i

abbrev pub own_by : Bool → ℕ → ℕ → Node
own_by true l r = node.Or l r
own_by false l r = node.And l r

abbrev pub other_by : Bool → ℕ → ℕ → Node
other_by true l r = node.And l r
other_by false l r = node.Or l r

abbrev pub go_by : Bool → ℕ → ℕ → Node
go_by true a to = node.Diamond a to
go_by false a to = node.Square a to

pub own_mover : (e : Bool) (l r : ℕ) → mover (own_by e l r) ≡ player_of e
own_mover true l r = refl
own_mover false l r = refl

pub other_mover : (e : Bool) (l r : ℕ) → mover (other_by e l r) ≡ opponent (player_of e)
other_mover true l r = refl
other_mover false l r = refl

pub go_mover : (e : Bool) (a to : ℕ) → mover (go_by e a to) ≡ player_of e
go_mover true a to = refl
go_mover false a to = refl

pub own_children : (g : Graph) (m : Structure) (s : ℕ) (e : Bool) (l r : ℕ)
    → successors_of g m s (own_by e l r) ≡ Pair s l ∷ Pair s r ∷ []
own_children g m s true l r = refl
own_children g m s false l r = refl

pub other_children : (g : Graph) (m : Structure) (s : ℕ) (e : Bool) (l r : ℕ)
    → successors_of g m s (other_by e l r) ≡ Pair s l ∷ Pair s r ∷ []
other_children g m s true l r = refl
other_children g m s false l r = refl

pub node_range : (e : Bool) (i : ℕ) → (2 * i ≤ node_of e i) × (node_of e i < 2 * i + 2)
node_range true i = (omega arith, omega arith)
node_range false i = (omega arith, omega arith)

pub other_player : (e : Bool) → player_of (not e) ≡ opponent (player_of e)
other_player true = refl
other_player false = refl

-- ---- who wins

module _ (g : Graph) (m : Structure) (g_ok : IsGraph g) (m_ok : IsStructure m) where
  abbrev pub at : ℕ → ℕ → ℕ
  at s n = vertex_number g m (Pair s n)

  abbrev pub WinsAt : Player → ℕ → ℕ → Type 0
  WinsAt q s n = Wins (checking_game g m) q (at s n)

  abbrev pub Tells : Player → ℕ → ℕ → Bool → Type 0
  Tells q s n b = Says (WinsAt q s n) b

  pub never_both : (q : Player) (v : Vertex)
      → IsVertex g m v
      → Wins (checking_game g m) q (vertex_number g m v)
      → Wins (checking_game g m) (opponent q) (vertex_number g m v)
      → ⊥
  never_both q v is =
      clash (checking_game g m) (is_game g m g_ok m_ok) q (vertex_number g m v) (vertex_low g m g_ok m_ok v is)

  pub one_of_both : (q : Player) (v : Vertex)
      → IsVertex g m v
      → Wins (checking_game g m) q (vertex_number g m v) ⊎ Wins (checking_game g m) (opponent q) (vertex_number g m v)
  one_of_both q v is =
      won_by_either (checking_game g m) (is_game g m g_ok m_ok) q (vertex_number g m v) (vertex_low g m g_ok m_ok v is)

  -- the opponent wins exactly where the player doesn't
  pub tells_other : (q : Player) (s n : ℕ)
      → s < m.states
      → n < size g
      → (b : Bool)
      → Tells q s n b
      → Tells (opponent q) s n (not b)
  tells_other q s n s_low n_low true says = (
    λ other. absurd (never_both q (Pair s n) (s_low, n_low) (says.1 refl) other),
    λ e. absurd (false≢true e),
  )
  tells_other q s n s_low n_low false says = (
    λ other. refl,
    λ e. ⊎_elim (λ (own : WinsAt q s n). absurd (false≢true (says.0 own))) (λ (other : WinsAt (opponent q) s n). other)
        (one_of_both q (Pair s n) (s_low, n_low)),
  )

  -- with the other sign
  pub tells_turned : (e : Bool) (s n : ℕ)
      → s < m.states
      → n < size g
      → (b : Bool)
      → Tells (player_of e) s n b
      → Tells (player_of (not e)) s n (not b)
  tells_turned e s n s_low n_low b says =
      subst (λ q. Tells q s n (not b)) (sym (other_player e)) (tells_other (player_of e) s n s_low n_low b says)

  module _ (s n : ℕ) (s_low : s < m.states) (n_low : n < size g) where
    own_won : (q : Player) (x : Node)
        → node_at g n ≡ x
        → mover x ≡ q
        → (l r : ℕ)
        → successors_of g m s x ≡ Pair s l ∷ Pair s r ∷ []
        → WinsAt q s n ↔ (WinsAt q s l ⊎ WinsAt q s r)
    own_won q x is own l r next = (
      λ a. let good = step.0 a in let image = move_from g m g_ok m_ok (Pair s n) (s_low, n_low) good.to good.move in
          there image.from (subst (Wins (checking_game g m) q) image.holds good.wins)
          (subst (IsMember image.from) leads image.member),
      λ h. ⊎_elim
          (λ (a : WinsAt q s l). step.1 (record {
            to = at s l;
            move = move_to g m g_ok m_ok (Pair s n) (s_low, n_low) (Pair s l)
                (subst (IsMember (Pair s l)) (sym leads) (inl refl));
            wins = a;
          }))
          (λ (a : WinsAt q s r). step.1 (record {
            to = at s r;
            move = move_to g m g_ok m_ok (Pair s n) (s_low, n_low) (Pair s r)
                (subst (IsMember (Pair s r)) (sym leads) (inr (inl refl)));
            wins = a;
          }))
          h,
    )
      where
        leads : successors g m (Pair s n) ≡ Pair s l ∷ Pair s r ∷ []
        leads = ap (successors_of g m s) is ∙ next

        step : WinsAt q s n ↔ WinningMove (checking_game g m) q (at s n)
        step =
            own_vertex_won (checking_game g m) (is_game g m g_ok m_ok) q (at s n)
            (vertex_low g m g_ok m_ok (Pair s n) (s_low, n_low))
            (owner_is g m (Pair s n) (s_low, n_low) ∙ ap mover is ∙ own)

        there : (w : Vertex)
            → Wins (checking_game g m) q (vertex_number g m w)
            → IsMember w (Pair s l ∷ Pair s r ∷ [])
            → WinsAt q s l ⊎ WinsAt q s r
        there w a (inl e) = inl (subst (λ v. Wins (checking_game g m) q (vertex_number g m v)) e a)
        there w a (inr (inl e)) = inr (subst (λ v. Wins (checking_game g m) q (vertex_number g m v)) e a)
        there w a (inr (inr none)) = absurd none

    other_won : (q : Player) (x : Node)
        → node_at g n ≡ x
        → mover x ≡ opponent q
        → (l r : ℕ)
        → successors_of g m s x ≡ Pair s l ∷ Pair s r ∷ []
        → WinsAt q s n ↔ (WinsAt q s l × WinsAt q s r)
    other_won q x is own l r next = (
      λ a. (
        step.0 a (at s l) (move_to g m g_ok m_ok (Pair s n) (s_low, n_low) (Pair s l)
            (subst (IsMember (Pair s l)) (sym leads) (inl refl))),
        step.0 a (at s r) (move_to g m g_ok m_ok (Pair s n) (s_low, n_low) (Pair s r)
            (subst (IsMember (Pair s r)) (sym leads) (inr (inl refl)))),
      ),
      λ h. step.1 (λ v move. let image = move_from g m g_ok m_ok (Pair s n) (s_low, n_low) v move in
          subst (Wins (checking_game g m) q) (sym image.holds)
          (there h image.from (subst (IsMember image.from) leads image.member))),
    )
      where
        leads : successors g m (Pair s n) ≡ Pair s l ∷ Pair s r ∷ []
        leads = ap (successors_of g m s) is ∙ next

        step : WinsAt q s n ↔ ((v : ℕ) → HasMove (checking_game g m) (at s n) v → Wins (checking_game g m) q v)
        step =
            other_vertex_won (checking_game g m) (is_game g m g_ok m_ok) q (at s n)
            (vertex_low g m g_ok m_ok (Pair s n) (s_low, n_low))
            (owner_is g m (Pair s n) (s_low, n_low) ∙ ap mover is ∙ own)

        there : (WinsAt q s l × WinsAt q s r)
            → (w : Vertex)
            → IsMember w (Pair s l ∷ Pair s r ∷ [])
            → Wins (checking_game g m) q (vertex_number g m w)
        there h w (inl e) = subst (λ v. Wins (checking_game g m) q (vertex_number g m v)) (sym e) h.0
        there h w (inr (inl e)) = subst (λ v. Wins (checking_game g m) q (vertex_number g m v)) (sym e) h.1
        there h w (inr (inr none)) = absurd none

    pub tells_own : (e : Bool) (l r : ℕ) (a b : Bool)
        → node_at g n ≡ own_by e l r
        → Tells (player_of e) s l a
        → Tells (player_of e) s r b
        → Tells (player_of e) s n (a || b)
    tells_own e l r a b is x y =
        says_by (WinsAt (player_of e) s n) (WinsAt (player_of e) s l ⊎ WinsAt (player_of e) s r) (a || b)
        (own_won (player_of e) (own_by e l r) is (own_mover e l r) l r (own_children g m s e l r))
        (either_says (WinsAt (player_of e) s l) (WinsAt (player_of e) s r) a b x y)

    pub tells_other_by : (e : Bool) (l r : ℕ) (a b : Bool)
        → node_at g n ≡ other_by e l r
        → Tells (player_of e) s l a
        → Tells (player_of e) s r b
        → Tells (player_of e) s n (a && b)
    tells_other_by e l r a b is x y =
        says_by (WinsAt (player_of e) s n) (WinsAt (player_of e) s l × WinsAt (player_of e) s r) (a && b)
        (other_won (player_of e) (other_by e l r) is (other_mover e l r) l r (other_children g m s e l r))
        (both_say (WinsAt (player_of e) s l) (WinsAt (player_of e) s r) a b x y)

    pub leads_won : (e : Bool) (t : ℕ)
        → node_at g n ≡ node.And t t
        → WinsAt (player_of e) s n ↔ WinsAt (player_of e) s t
    leads_won true t is =
        let one = other_won Even (node.And t t) is refl t t refl in (λ a. (one.0 a).0, λ a. one.1 (a, a))
    leads_won false t is =
        let one = own_won Odd (node.And t t) is refl t t refl in
        (λ a. ⊎_elim (λ (h : WinsAt Odd s t). h) (λ (h : WinsAt Odd s t). h) (one.0 a), λ a. one.1 (inl a))

    pub tells_leads : (e : Bool) (t : ℕ) (b : Bool)
        → node_at g n ≡ node.And t t
        → Tells (player_of e) s t b
        → Tells (player_of e) s n b
    tells_leads e t b is x = says_by (WinsAt (player_of e) s n) (WinsAt (player_of e) s t) b (leads_won e t is) x

    even_constant : (b : Bool) → node_at g n ≡ constant b → Tells Even s n b
    even_constant true is = let one = one_step_at g m g_ok m_ok s n s_low n_low node.True is in (λ h. refl, λ e. one.1 tt)
    even_constant false is = let one = one_step_at g m g_ok m_ok s n s_low n_low node.False is in (λ h. absurd (one.0 h), λ e. absurd (false≢true e))

    even_literal : (q : ℕ) (sign : Bool)
        → node_at g n ≡ node.Lit q sign
        → HoldsAt g m s n ↔ (lists m s (prop_at g q) ≡ sign)
    even_literal q sign is = one_step_at g m g_ok m_ok s n s_low n_low (node.Lit q sign) is

    not_not : (b : Bool) → not (not b) ≡ b
    not_not true = refl
    not_not false = refl

    is_false : (b : Bool) → (b ≡ false) ↔ (not b ≡ true)
    is_false true = (λ e. sym e, λ e. sym e)
    is_false false = (λ e. refl, λ e. refl)

    pub tells_constant : (b : Bool) → node_at g n ≡ constant b → Tells Even s n b
    tells_constant = even_constant

    pub tells_negated_constant : (b : Bool) → node_at g n ≡ constant (not b) → Tells Odd s n b
    tells_negated_constant b is =
        subst (Tells Odd s n) (not_not b) (tells_other Even s n s_low n_low (not b) (even_constant (not b) is))

    pub tells_literal : (q : ℕ) → node_at g n ≡ node.Lit q true → Tells Even s n (lists m s (prop_at g q))
    tells_literal q is = even_literal q true is

    pub tells_negated_literal : (q : ℕ) → node_at g n ≡ node.Lit q false → Tells Odd s n (lists m s (prop_at g q))
    tells_negated_literal q is =
        let b : Bool = lists m s (prop_at g q) in
        subst (Tells Odd s n) (not_not b) (tells_other Even s n s_low n_low (not b)
        (says_by (HoldsAt g m s n) (b ≡ false) (not b) (even_literal q false is) (is_false b)))
