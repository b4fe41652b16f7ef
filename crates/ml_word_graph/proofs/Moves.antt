-- The moves of the checking game on a formula's graph, by the truth values of nodes.
--
-- Even plays at vertices whose node is true, and Odd at those whose node is false: such a vertex is good for the player. The
-- player takes the left child where it is good, and the right one elsewhere.
--
--   at_number, number_linear  == each number of a node is that of a node as a value, with formulas of LTL
--   only_target, a_target     == the edge by `_` leads to the next state
--   choose b u                == where the player moves from the vertex u; b is true for Even
--   chosen                    == that is a move
--   Good b u                  == the vertex is good for the player
--   state_behind f s          == the state to which a node of the form f leads
--   ChildOf f s b w           == the vertex w is that of a child of the form f
--   pair_step                 == from a good pair one comes to a good child or to a good sink
--   chosen_left               == the player takes the left child where it is good
use Rattle.std.proofs.Common.{◌≡◌, ℕ, ◌<◌, ◌⊎◌, ◌==◌, ◌&&◌, ◌||◌, Bool, true, false, List, [], ◌∷◌, Option, None, Some}
use Rattle.std.proofs.Common.{if◌then◌else◌, slice_get, codes, bytes_eq, inl, inr, refl, sym, ap, subst, ◌∙◌, eqb-true, arith}
use Rattle.std.specs.Bool.{beq}
use Rattle.std.proofs.lemmas.Bool.{and_parts, and_from, eq-eqb, false≢true, or_parts}
use Rattle.std.proofs.lemmas.Option.{slice_get_within}
use Rattle.ml_lists.specs.Member.{IsMember}
use Rattle.ml_lists.proofs.Member.{member-map, member-map_from, member-filter, member-filter_from, list_any-member, member-list_any, member_of_get}
use Rattle.ml_lists.proofs.Entries.{some_entry}
use Rattle.ml_base.specs.declared.structure.Edge.{Edge}
use Rattle.ml_base.specs.Structure.{Structure, lists}
use Rattle.ml_parity.specs.declared.players.Player.{Player}
use Rattle.ml_parity.specs.declared.players.Player.TheVariants.{Even, Odd}
use Rattle.ml_graph.specs.Graph.{Graph, size, node_at, prop_at, action_at}
use Rattle.ml_graph.specs.CheckingGame.{Vertex, Pair, Sink, mover, owner_at, pairs_or_sink, successors, successors_of, targets}
use Rattle.ml_graph.specs.declared.node.Node.{Node}
use Rattle.ml_graph.specs.declared.node.Node.TheVariants as node
use Rattle.ml_graph.proofs.CheckingGame.{IsVertex}
use Rattle.ml_graph.proofs.OneStep.{pair_member}
use Rattle.ml_nodes.specs.Nodes.{constant}
use Rattle.ml_ctl.specs.Paths.{has_step}
use Rattle.ml_word_graph.specs.Problem.{IsAdmitted}
use Rattle.ml_word_graph.specs.WordGraph.{Place, Form, Constant, Literal, And, Or, Diamond, Square, IsNumberOf, IsNumberedBy, HasForm, children, form_of}
use Rattle.ml_word_graph.proofs.Words.{next_leads, next_low, only_next}
use Rattle.ml_word_graph.proofs.StateValues.{next}
use Rattle.ml_word_graph.proofs.NodeValues.{signed, const_value, node_value, form_value, consistent}
use Rattle.ml_word_graph.proofs.Levels.{IsLinear, reached_linear}

abbrev pub player_of : Bool → Player
player_of true = Even
player_of false = Odd

-- the sink that is good for the player
abbrev pub verdict : Bool → ℕ
verdict b = if b then 0 else 1

-- a conjunction where Odd is the player, and a disjunction where Even is
abbrev pub own_form : Bool → Place → Place → Form
own_form true l r = Or l r
own_form false l r = And l r

module _ (g : Graph) (m : Structure) (ok : IsAdmitted m) (root : Place) (places : List Place) (nb : IsNumberedBy g root places)
    (linear : IsLinear root) where
  pub at_number : (n : ℕ) → n < size g → (p : Place) × IsNumberOf places n p
  at_number n low = some_entry places n (omega (arith, low, nb.one_each))

  pub number_low : (n : ℕ) (p : Place) → IsNumberOf places n p → n < size g
  number_low n p is = omega (arith, slice_get_within places n p is, nb.one_each)

  pub number_linear : (n : ℕ) (p : Place) → IsNumberOf places n p → IsLinear p
  number_linear n p is = reached_linear root p linear ((nb.is_closure.are_reached p).0 (member_of_get places n p is))

  -- ---- the edge by `_`

  abbrev pub behind : ℕ → ℕ
  behind s = next m ok s

  abbrev leaves : ℕ → Edge → Bool
  leaves s e = (e.source == s) && bytes_eq e.action (codes "_")

  abbrev to : ℕ → ℕ → Edge → Bool
  to s t e = (e.source == s) && bytes_eq e.action (codes "_") && (e.target == t)

  pub a_target : (s : ℕ) → s < m.states → IsMember (next m ok s) (targets m s (codes "_"))
  a_target s low =
      let some = list_any-member (to s (behind s)) m.edges (next_leads m ok s low) in
      let parts = and_parts (leaves s some.item) (some.item.target == behind s) some.passes in
      subst (λ t. IsMember t (targets m s (codes "_"))) (eqb-true some.item.target (behind s) parts.1)
      (member-map (λ (e : Edge). e.target) some.item _ (member-filter (leaves s) some.item m.edges some.member parts.0))

  pub only_target : (s t : ℕ) → s < m.states → IsMember t (targets m s (codes "_")) → t ≡ next m ok s
  only_target s t low h =
      let image = member-map_from (λ (e : Edge). e.target) t _ h in
      let kept = member-filter_from (leaves s) image.from m.edges image.member in
      let step : has_step m s image.from.target ≡ true =
      member-list_any (to s image.from.target) image.from m.edges kept.0
      (and_from (leaves s image.from) (image.from.target == image.from.target) kept.1 (eq-eqb image.from.target image.from.target refl)) in
      image.holds ∙ only_next m ok s low image.from.target step

  -- ---- the choice of a player

  abbrev pub place_value : Option Place → ℕ → Bool
  place_value None s = true
  place_value (Some p) s = node_value m ok p s

  abbrev pub value_at : ℕ → ℕ → Bool
  value_at n s = place_value (slice_get places n) s

  value_is : (n : ℕ) (p : Place) (s : ℕ) → IsNumberOf places n p → value_at n s ≡ node_value m ok p s
  value_is n p s is = ap (λ o. place_value o s) is

  abbrev pub pick : Bool → ℕ → ℕ → ℕ → ℕ
  pick b s l r = if beq (value_at l s) b then l else r

  abbrev pub choose_node : Bool → ℕ → Node → Vertex
  choose_node b s node.True = Sink 0
  choose_node b s node.False = Sink 1
  choose_node b s (node.Lit p sign) = Sink (if beq (lists m s (prop_at g p)) sign then 0 else 1)
  choose_node b s (node.And l r) = Pair s (pick b s l r)
  choose_node b s (node.Or l r) = Pair s (pick b s l r)
  choose_node b s (node.Diamond a c) = Pair (next m ok s) c
  choose_node b s (node.Square a c) = Pair (next m ok s) c

  abbrev pub choose : Bool → Vertex → Vertex
  choose b (Pair s n) = choose_node b s (node_at g n)
  choose b (Sink p) = Sink p

  picked : (c : Bool) (s l r : ℕ) → IsMember (Pair s (if c then l else r)) (Pair s l ∷ Pair s r ∷ [])
  picked true s l r = inl refl
  picked false s l r = inr (inl refl)

  module _ (b : Bool) (s : ℕ) (low : s < m.states) where
    abbrev Chosen : Node → Type 0
    Chosen x = IsMember (choose_node b s x) (successors_of g m s x)

    chosen_constant : (c : Bool) → Chosen (constant c)
    chosen_constant true = inl refl
    chosen_constant false = inl refl

    chosen_form : (x : Node) (f : Form) → HasForm g places x f → Chosen x
    chosen_form x (Constant c) is = subst Chosen (sym is) (chosen_constant c)
    chosen_form x (Literal name sign) (p, is, named) = subst Chosen (sym is) (inl refl)
    chosen_form x (And l r) (c, d, one, other, is) = subst Chosen (sym is) (picked (beq (value_at c s) b) s c d)
    chosen_form x (Or l r) (c, d, one, other, is) = subst Chosen (sym is) (picked (beq (value_at c s) b) s c d)
    chosen_form x (Diamond p) (a, c, one, is, act) =
        subst Chosen (sym is) (pair_member c 1 (behind s) (targets m s (action_at g a))
        (subst (λ y. IsMember (behind s) (targets m s y)) (sym act) (a_target s low)))
    chosen_form x (Square p) (a, c, one, is, act) =
        subst Chosen (sym is) (pair_member c 0 (behind s) (targets m s (action_at g a))
        (subst (λ y. IsMember (behind s) (targets m s y)) (sym act) (a_target s low)))

  pub chosen : (b : Bool) (u : Vertex) → IsVertex g m u → IsMember (choose b u) (successors g m u)
  chosen b (Pair s n) is =
      let at = at_number n is.1 in chosen_form b s is.0 (node_at g n) (form_of at.0) (nb.has_forms n at.0 at.1)
  chosen b (Sink p) is = inl refl

  -- ---- good vertices

  pub data Good (b : Bool) : Vertex → Type 0 where
    good_pair : (s n : ℕ) (p : Place) → s < m.states → IsNumberOf places n p → node_value m ok p s ≡ b → Good b (Pair s n)
    good_sink : (k : ℕ) → k ≡ verdict b → Good b (Sink k)

  verdict_low : (b : Bool) → verdict b < 2
  verdict_low true = omega arith
  verdict_low false = omega arith

  pub good_vertex : (b : Bool) (u : Vertex) → Good b u → IsVertex g m u
  good_vertex b u (good_pair s n p low is value) = (low, number_low n p is)
  good_vertex b u (good_sink k is) = subst (λ n. n < 2) (sym is) (verdict_low b)

  abbrev pub state_behind : Form → ℕ → ℕ
  state_behind (Diamond p) s = next m ok s
  state_behind (Square p) s = next m ok s
  state_behind f s = s

  -- the vertex of a child of a node of this form, which is good
  pub record ChildOf (f : Form) (s : ℕ) (b : Bool) (w : Vertex) : Type 0 where
    pub child : Place
    pub number : ℕ
    pub is_child : IsMember child (children f)
    pub is_number : IsNumberOf places number child
    pub is : w ≡ Pair (state_behind f s) number
    pub low : state_behind f s < m.states
    pub value : node_value m ok child (state_behind f s) ≡ b

  abbrev pub StepBy : Form → ℕ → Bool → Vertex → Type 0
  StepBy f s b w = ChildOf f s b w ⊎ (w ≡ Sink (verdict b))

  module _ (s : ℕ) (low : s < m.states) (w : Vertex) where
    abbrev Reached : Node → Type 0
    Reached x = IsMember w (successors_of g m s x)

    abbrev Owned : Bool → Node → Type 0
    Owned b x = mover x ≡ player_of b → w ≡ choose_node b s x

    one_sink : (k : ℕ) (b : Bool) → k ≡ verdict b → IsMember w (Sink k ∷ []) → w ≡ Sink (verdict b)
    one_sink k b is (inl same) = same ∙ ap Sink is
    one_sink k b is (inr none) = absurd none

    constant_step : (c b : Bool) → c ≡ b → Reached (constant c) → w ≡ Sink (verdict b)
    constant_step true b is h = one_sink 0 b (ap verdict is) h
    constant_step false b is h = one_sink 1 b (ap verdict is) h

    module _ (f : Form) (l r : Place) (c d : ℕ) (b : Bool) (stays : state_behind f s ≡ s) (left : IsMember l (children f))
        (right : IsMember r (children f)) (one : IsNumberOf places c l) (other : IsNumberOf places d r) where
      -- the one child, or the other
      at_left : node_value m ok l s ≡ b → w ≡ Pair s c → StepBy f s b w
      at_left value is = inl (record {
        child = l;
        number = c;
        is_child = left;
        is_number = one;
        is = is ∙ ap (λ t. Pair t c) (sym stays);
        low = subst (λ t. t < m.states) (sym stays) low;
        value = ap (node_value m ok l) stays ∙ value;
      })

      at_right : node_value m ok r s ≡ b → w ≡ Pair s d → StepBy f s b w
      at_right value is = inl (record {
        child = r;
        number = d;
        is_child = right;
        is_number = other;
        is = is ∙ ap (λ t. Pair t d) (sym stays);
        low = subst (λ t. t < m.states) (sym stays) low;
        value = ap (node_value m ok r) stays ∙ value;
      })

      -- both are good
      both_good : node_value m ok l s ≡ b → node_value m ok r s ≡ b → IsMember w (Pair s c ∷ Pair s d ∷ []) → StepBy f s b w
      both_good x y (inl same) = at_left x same
      both_good x y (inr (inl same)) = at_right y same
      both_good x y (inr (inr none)) = absurd none

      -- one of them is, and the player picks
      by_pick : (e : Bool) → beq (value_at c s) b ≡ e → (node_value m ok l s ≡ b → ⊥) ⊎ (node_value m ok l s ≡ b)
          → ((node_value m ok l s ≡ b → ⊥) → node_value m ok r s ≡ b) → w ≡ Pair s (pick b s c d) → StepBy f s b w
      by_pick true e (inl bad) right_good is =
          absurd (bad (sym (value_is c l s one) ∙ equal_test (value_at c s) b e))
        where
          equal_test : (x y : Bool) → beq x y ≡ true → x ≡ y
          equal_test true true h = refl
          equal_test true false h = absurd (false≢true h)
          equal_test false true h = absurd (false≢true h)
          equal_test false false h = refl
      by_pick true e (inr good) right_good is = at_left good (is ∙ ap (λ h. Pair s (if h then c else d)) e)
      by_pick false e (inl bad) right_good is = at_right (right_good bad) (is ∙ ap (λ h. Pair s (if h then c else d)) e)
      by_pick false e (inr good) right_good is =
          absurd (false≢true (sym e ∙ same_test (value_at c s) b (value_is c l s one ∙ good)))
        where
          same_test : (x y : Bool) → x ≡ y → beq x y ≡ true
          same_test true true h = refl
          same_test true false h = sym h
          same_test false true h = h
          same_test false false h = refl

      picks : ((node_value m ok l s ≡ b → ⊥) → node_value m ok r s ≡ b) → w ≡ Pair s (pick b s c d) → StepBy f s b w
      picks right_good is = by_pick (beq (value_at c s) b) refl (is_or_not (node_value m ok l s) b) right_good is
        where
          is_or_not : (x y : Bool) → (x ≡ y → ⊥) ⊎ (x ≡ y)
          is_or_not true true = inr refl
          is_or_not true false = inl (λ h. false≢true (sym h))
          is_or_not false true = inl (λ h. false≢true h)
          is_or_not false false = inr refl

    or_right : (x y : Bool) → (x || y) ≡ true → (x ≡ true → ⊥) → y ≡ true
    or_right true y e none = absurd (none refl)
    or_right false y e none = e

    and_right : (x y : Bool) → (x && y) ≡ false → (x ≡ false → ⊥) → y ≡ false
    and_right true y e none = e
    and_right false y e none = absurd (none refl)

    along_edge : (f : Form) (p : Place) (a c k : ℕ) (b : Bool) → state_behind f s ≡ behind s → IsMember p (children f) → IsNumberOf places c p
        → action_at g a ≡ codes "_" → node_value m ok p (behind s) ≡ b → (ts : List ℕ) → targets m s (action_at g a) ≡ ts
        → IsMember w (pairs_or_sink c k ts) → StepBy f s b w
    along_edge f p a c k b goes child one act value [] same h =
        absurd (subst (IsMember (behind s)) (ap (targets m s) (sym act) ∙ same) (a_target s low))
    along_edge f p a c k b goes child one act value (t ∷ ts) same h =
        let image = member-map_from (λ x. Pair x c) w (t ∷ ts) h in
        let at = only_target s image.from low (subst (IsMember image.from) (sym (ap (targets m s) (sym act) ∙ same)) image.member) in
        inl (record {
          child = p;
          number = c;
          is_child = child;
          is_number = one;
          is = image.holds ∙ ap (λ x. Pair x c) (at ∙ sym goes);
          low = subst (λ x. x < m.states) (sym goes) (next_low m ok s low);
          value = ap (node_value m ok p) goes ∙ value;
        })

    step_form : (x : Node) (f : Form) (b : Bool) → HasForm g places x f → form_value m ok f s ≡ b → Reached x → Owned b x → StepBy f s b w
    step_form x (Constant c) b is value h own = inr (constant_step c b value (subst Reached is h))
    step_form x (Literal name sign) b (p, is, named) value h own =
        let same : beq (lists m s (prop_at g p)) sign ≡ b =
        const_value (lists m s (prop_at g p)) sign ∙ ap (λ y. signed sign (lists m s y)) named ∙ value in
        inr (one_sink (if beq (lists m s (prop_at g p)) sign then 0 else 1) b (ap verdict same) (subst Reached is h))
    step_form x (And l r) true (c, d, one, other, is) value h own =
        let parts = and_parts (node_value m ok l s) (node_value m ok r s) value in
        both_good (And l r) l r c d true refl (inl refl) (inr (inl refl)) one other parts.0 parts.1 (subst Reached is h)
    step_form x (And l r) false (c, d, one, other, is) value h own =
        picks (And l r) l r c d false refl (inl refl) (inr (inl refl)) one other
        (and_right (node_value m ok l s) (node_value m ok r s) value) (subst (Owned false) is own refl)
    step_form x (Or l r) true (c, d, one, other, is) value h own =
        picks (Or l r) l r c d true refl (inl refl) (inr (inl refl)) one other
        (or_right (node_value m ok l s) (node_value m ok r s) value) (subst (Owned true) is own refl)
    step_form x (Or l r) false (c, d, one, other, is) value h own =
        let parts = or_parts (node_value m ok l s) (node_value m ok r s) value in
        both_good (Or l r) l r c d false refl (inl refl) (inr (inl refl)) one other parts.0 parts.1 (subst Reached is h)
    step_form x (Diamond p) b (a, c, one, is, act) value h own =
        along_edge (Diamond p) p a c 1 b refl (inl refl) one act value (targets m s (action_at g a)) refl (subst Reached is h)
    step_form x (Square p) b (a, c, one, is, act) value h own =
        along_edge (Square p) p a c 0 b refl (inl refl) one act value (targets m s (action_at g a)) refl (subst Reached is h)

    -- from a good pair
    pub pair_step : (n : ℕ) (p : Place) (b : Bool) → IsNumberOf places n p → node_value m ok p s ≡ b
        → IsMember w (successors g m (Pair s n)) → (owner_at g (Pair s n) ≡ player_of b → w ≡ choose b (Pair s n))
        → StepBy (form_of p) s b w
    pair_step n p b is value h own =
        step_form (node_at g n) (form_of p) b (nb.has_forms n p is) (consistent m ok p s low (number_linear n p is) ∙ value) h own

    -- the player takes the left child where it is good
    left_form : (x : Node) (l r : Place) (b : Bool) → HasForm g places x (own_form b l r) → node_value m ok l s ≡ b → Owned b x
        → (c : ℕ) × IsNumberOf places c l × (w ≡ Pair s c)
    left_form x l r true (c, d, one, other, is) value own =
        let same : beq (value_at c s) true ≡ true = ap (λ y. beq y true) (value_is c l s one ∙ value) in
        (c, one, subst (Owned true) is own refl ∙ ap (λ h. Pair s (if h then c else d)) same)
    left_form x l r false (c, d, one, other, is) value own =
        let same : beq (value_at c s) false ≡ true = ap (λ y. beq y false) (value_is c l s one ∙ value) in
        (c, one, subst (Owned false) is own refl ∙ ap (λ h. Pair s (if h then c else d)) same)

    pub chosen_left : (n : ℕ) (p l r : Place) (b : Bool) → IsNumberOf places n p → form_of p ≡ own_form b l r → node_value m ok l s ≡ b
        → (owner_at g (Pair s n) ≡ player_of b → w ≡ choose b (Pair s n))
        → (c : ℕ) × IsNumberOf places c l × (w ≡ Pair s c)
    chosen_left n p l r b is form value own =
        left_form (node_at g n) l r b (subst (HasForm g places (node_at g n)) form (nb.has_forms n p is)) value own
