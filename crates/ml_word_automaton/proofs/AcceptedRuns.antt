-- What the automaton accepts Odd doesn't win.
--
-- Where Odd's strategy wins a block at the first place, an accepting run is followed against it: at an And of a state node
-- that is true the strategy goes on to the block, since Even wins the state node; at an Or Even goes where the run does, and
-- a Diamond has one place to lead to. So the loop of the run is a closed walk that follows the strategy, and has the
-- priority 0 on it.
--
--   came           == a walk under a letter, as moves that follow the strategy
--   turned         == a transition, as such moves; one that accepts passes the priority 0
--   ran, ran_well  == a run, and one that accepts
--   never_accepted == the law
use Rattle.std.proofs.Common.{ℕ, ◌≡◌, ◌<◌, ◌⊎◌, min, inl, inr, arith, true, false, Bool, List, [], ◌∷◌, ◌++◌, length, codes, refl, sym, ap, subst, ◌∙◌, eqb-true}
use Rattle.ml_lists.specs.Member.{IsMember}
use Rattle.ml_lists.specs.Repeated.{repeated}
use Rattle.ml_lists.proofs.Entries.{some_entry}
use Rattle.ml_base.specs.Structure.{Structure}
use Rattle.ml_parity.specs.declared.players.Player.TheVariants.{Odd}
use Rattle.ml_parity.specs.Game.{ParityGame}
use Rattle.ml_parity.specs.Game as parity
use Rattle.ml_parity.specs.Winner.{IsStrategyOf, WinsFrom}
use Rattle.ml_parity.proofs.FollowedWalks.{FollowedMove, FollowedWalk, last, walks_joined, won_behind, closed_walk_good}
use Rattle.ml_graph.specs.CheckingGame.{Vertex, Pair, mover, pairs_or_sink, successors, successors_of, targets, vertex_number}
use Rattle.ml_graph.specs.declared.node.Node.{Node}
use Rattle.ml_graph.specs.declared.node.Node.TheVariants as node
use Rattle.ml_graph.specs.Graph.{Graph, node_at, size, priority_at, action_at}
use Rattle.ml_graph.proofs.CheckingGame.{priority_is}
use Rattle.ml_graph.proofs.OneStep.{pair_member}
use Rattle.ml_graph.proofs.References.{and_left, and_right, or_left, or_right, diamond_target}
use Rattle.ml_trace.specs.Run.{Run, AcceptingRun}
use Rattle.ml_trace.specs.WordAutomata.{WordLasso, IsWordLasso, IsAcceptedFrom, stem, turn}
use Rattle.ml_ctl.specs.Formula.{Formula}
use Rattle.ml_blocks.specs.BlockClosures.{HasForm}
use Rattle.ml_blocks.specs.Places.{Place, Form, form_of}
use Rattle.ml_nodes.specs.ClosureGraph.{Constant, Literal, And, Or, Diamond, Square}
use Rattle.ml_blocks.proofs.BlocksTold.{never_both}
use Rattle.ml_blocks.proofs.PlaceVertices as vertices
use Rattle.ml_blocks.proofs.PlaceVertices.{Board, at, own_move, other_move, step_target}
use Rattle.ml_word_automaton.specs.WordAutomaton.{IsBlockGraph, IsTrueIn, IsTrueNode, Walks, itself, past_same, past_true, to_left, to_right, Leads}
use Rattle.ml_word_automaton.specs.Words.{Letter, next_letter, word_structure}
use Rattle.ml_word_automaton.proofs.WordBoards.{letter_at, Reads, board, reads_joined, reads_stem, reads_repeated, true_won}
use Rattle.ml_word_automaton.proofs.WordPlaces.{has_next}

-- all edges have the action `_`
diamond_action : (g : Graph) (places : List Place) (v : Node) (form : Form) (a q : ℕ)
    → v ≡ node.Diamond a q
    → HasForm g places v form
    → action_at g a ≡ codes "_"
diamond_action g places v (Constant true) a q e h = absurd (let wrong = sym e ∙ h in cc)
diamond_action g places v (Constant false) a q e h = absurd (let wrong = sym e ∙ h in cc)
diamond_action g places v (Literal p b) a q e h = absurd (let wrong = sym e ∙ h.1 in cc)
diamond_action g places v (And l r) a q e h = absurd (let wrong = sym e ∙ h.4 in cc)
diamond_action g places v (Or l r) a q e h = absurd (let wrong = sym e ∙ h.4 in cc)
diamond_action g places v (Square p) a q e h = absurd (let wrong = sym e ∙ h.3 in cc)
diamond_action g places v (Diamond p) a q e h =
    let same : a ≡ h.0 = same_action (sym e ∙ h.3) in ap (action_at g) same ∙ h.4
  where
    same_action : {b c : ℕ} → node.Diamond a q ≡ node.Diamond b c → a ≡ b
    same_action is = cc

module _ (g : Graph) (f : Formula) (negated : Bool) (w : WordLasso Letter) (is : IsBlockGraph g f negated)
    (ok : IsWordLasso w) where
  abbrev B : Board
  B = board g f negated w is ok

  abbrev m : Structure
  m = word_structure w

  abbrev G : ParityGame
  G = vertices.game B

  module _ (choice : ℕ → ℕ) (is_strategy : IsStrategyOf G Odd choice) where
    abbrev From : ℕ → Type 0
    From v = WinsFrom G Odd choice v

    abbrev Goes : ℕ → ℕ → Type 0
    Goes v x = FollowedMove G Odd choice v x

    abbrev Walk : ℕ → ℕ → ℕ → Type 0
    Walk v k x = FollowedWalk G Odd choice v k x

    abbrev Some : ℕ → ℕ → Type 0
    Some v x = (k : ℕ) × Walk v k x

    abbrev Way : ℕ → ℕ → Type 0
    Way v x = (v ≡ x) ⊎ Some v x

    -- a way, and one more move: the priority 0 of the vertex before it is the lowest
    record Ending (v x y : ℕ) : Type 0 where
      pub lowest : ℕ
      pub walk : Walk v lowest y
      pub good : parity.priority_of G x ≡ 0 → lowest ≡ 0

    then_goes : (v x y : ℕ) → Way v x → Goes x y → Ending v x y
    then_goes v x y (inl e) goes =
        let p : ℕ = parity.priority_of G x in
        record { lowest = p; walk = subst (λ u. Walk u p y) (sym e) (last x y goes); good = λ zero_is. zero_is }
    then_goes v x y (inr (k, walk)) goes =
        let p : ℕ = parity.priority_of G x in
        record {
          lowest = min k p;
          walk = walks_joined G Odd choice v k x p y walk (last x y goes);
          good = λ zero_is. omega (arith, zero_is);
        }

    then_way : (v j x y : ℕ) → Walk v j x → Way x y → Some v y
    then_way v j x y walk (inl e) = (j, subst (Walk v j) e walk)
    then_way v j x y walk (inr (k, more)) = (min j k, walks_joined G Odd choice v j x k y walk more)

    -- Odd doesn't win where Even does
    not_true : (s n : ℕ) → s < length w.word → n < size g → IsTrueIn g (letter_at w s) n → From (at B s n) → ⊥
    not_true s n low n_low t from =
        never_both B s n low n_low (true_won g f negated w is ok s n low n_low t)
        (record { strategy = choice; is_strategy = is_strategy; wins = from })

    -- ---- one letter

    module _ (s : ℕ) (low : s < length w.word) where
      record Came (p n : ℕ) : Type 0 where
        pub n_low : n < size g
        pub from : From (at B s n)
        pub way : Way (at B s p) (at B s n)

      further : (p n r : ℕ) → Came p n → r < size g → Goes (at B s n) (at B s r) → Came p r
      further p n r c r_low goes = record {
        n_low = r_low;
        from = won_behind G Odd choice (at B s n) (at B s r) goes c.from;
        way = let e = then_goes (at B s p) (at B s n) (at B s r) c.way goes in inr (e.lowest, e.walk);
      }

      odd_moves : (n l r : ℕ) → n < size g → node_at g n ≡ node.And l r
          → Goes (at B s n) (at B s l) ⊎ Goes (at B s n) (at B s r)
      odd_moves n l r n_low e = by_move (own_move B Odd choice is_strategy (Pair s n) (low, n_low) (ap mover e))
        where
          to_pair : (v : Vertex) (q : ℕ) → v ≡ Pair s q → Goes (at B s n) (vertex_number g m v)
              → Goes (at B s n) (at B s q)
          to_pair v q same goes = subst (λ u. Goes (at B s n) (vertex_number g m u)) same goes

          by_member : (v : Vertex)
              → IsMember v (Pair s l ∷ Pair s r ∷ [])
              → Goes (at B s n) (vertex_number g m v)
              → Goes (at B s n) (at B s l) ⊎ Goes (at B s n) (at B s r)
          by_member v (inl same) goes = inl (to_pair v l same goes)
          by_member v (inr (inl same)) goes = inr (to_pair v r same goes)
          by_member v (inr (inr none)) goes = absurd none

          by_move : (v : Vertex) × IsMember v (successors g m (Pair s n))
              × Goes (at B s n) (vertex_number g m v)
              → Goes (at B s n) (at B s l) ⊎ Goes (at B s n) (at B s r)
          by_move (v, member, goes) = by_member v (subst (IsMember v) (ap (successors_of g m s) e) member) goes

      even_moves : (n l r q : ℕ) → n < size g → node_at g n ≡ node.Or l r
          → IsMember (Pair s q) (Pair s l ∷ Pair s r ∷ [])
          → Goes (at B s n) (at B s q)
      even_moves n l r q n_low e member =
          other_move B Odd choice is_strategy (Pair s n) (low, n_low) (ap mover e) (Pair s q)
          (subst (IsMember (Pair s q)) (sym (ap (successors_of g m s) e)) member)

      from_same : (p n l r : ℕ) → node_at g n ≡ node.And l r → l ≡ r → Came p n → Came p r
      from_same p n l r e same c = by_side (odd_moves n l r c.n_low e)
        where
          r_low : r < size g
          r_low = and_right g is.is_graph n c.n_low l r e

          by_side : Goes (at B s n) (at B s l) ⊎ Goes (at B s n) (at B s r) → Came p r
          by_side (inl goes) = further p n r c r_low (subst (λ q. Goes (at B s n) (at B s q)) same goes)
          by_side (inr goes) = further p n r c r_low goes

      from_true : (p n l r : ℕ) → node_at g n ≡ node.And l r → IsTrueIn g (letter_at w s) l → Came p n → Came p r
      from_true p n l r e true_in c = by_side (odd_moves n l r c.n_low e)
        where
          by_side : Goes (at B s n) (at B s l) ⊎ Goes (at B s n) (at B s r) → Came p r
          by_side (inl goes) =
              absurd (not_true s l low (and_left g is.is_graph n c.n_low l r e) true_in
              (won_behind G Odd choice (at B s n) (at B s l) goes c.from))
          by_side (inr goes) = further p n r c (and_right g is.is_graph n c.n_low l r e) goes

      came : (p n : ℕ) → p < size g → From (at B s p) → Walks g (letter_at w s) p n → Came p n
      came p _ p_low from itself = record { n_low = p_low; from = from; way = inl refl }
      came p _ p_low from (past_same n l r walks e same) = from_same p n l r e same (came p n p_low from walks)
      came p _ p_low from (past_true n l r walks e true_in) = from_true p n l r e true_in (came p n p_low from walks)
      came p _ p_low from (to_left n l r walks e) =
          let c = came p n p_low from walks in
          further p n l c (or_left g is.is_graph n c.n_low l r e) (even_moves n l r l c.n_low e (inl refl))
      came p _ p_low from (to_right n l r walks e) =
          let c = came p n p_low from walks in
          further p n r c (or_right g is.is_graph n c.n_low l r e) (even_moves n l r r c.n_low e (inr (inl refl)))

      -- ---- a transition

      record Turned (p q : ℕ) (accepting : Bool) : Type 0 where
        pub q_low : q < size g
        pub from : From (at B (next_letter w s) q)
        pub lowest : ℕ
        pub walk : Walk (at B s p) lowest (at B (next_letter w s) q)
        pub good : accepting ≡ true → lowest ≡ 0

      edge_moves : (d a q : ℕ) → d < size g → node_at g d ≡ node.Diamond a q → Goes (at B s d) (at B (next_letter w s) q)
      edge_moves d a q d_low e =
          let place = some_entry B.places d (let size_is = B.numbered.one_each in omega (arith, size_is, d_low)) in
          let name =
          diamond_action g B.places (node_at g d) (form_of place.0) a q e (B.numbered.has_forms d place.0 place.1) in
          let t : ℕ = next_letter w s in
          let member = pair_member q 1 t (targets m s (codes "_")) (step_target m s t (has_next w ok s low)) in
          other_move B Odd choice is_strategy (Pair s d) (low, d_low) (ap mover e) (Pair t q)
          (subst (IsMember (Pair t q)) (sym (ap (successors_of g m s) e))
          (subst (λ action. IsMember (Pair t q) (pairs_or_sink q 1 (targets m s action))) (sym name) member))

      turned : (p q : ℕ) (accepting : Bool) → p < size g → From (at B s p) → Leads g (letter_at w s) p q accepting
          → Turned p q accepting
      turned p q accepting p_low from (inr leads) =
          let c = came p q p_low from leads.walks in
          absurd (not_true s q low c.n_low (subst (true_node (letter_at w s)) (sym leads.is_true) tt) c.from)
        where
          true_node : Letter → Node → Type 0
          true_node letter x = IsTrueNode g letter x
      turned p q accepting p_low from (inl leads) =
          let d : ℕ = leads.diamond in
          let t : ℕ = next_letter w s in
          let c = came p d p_low from leads.walks in
          let goes = edge_moves d leads.action q c.n_low leads.is_diamond in
          let e = then_goes (at B s p) (at B s d) (at B t q) c.way goes in
          record {
            q_low = diamond_target g is.is_graph d c.n_low leads.action q leads.is_diamond;
            from = won_behind G Odd choice (at B s d) (at B t q) goes c.from;
            lowest = e.lowest;
            walk = e.walk;
            good = λ a.
                let zero_is = eqb-true (priority_at g d) 0 (sym leads.accepts ∙ a) in
                e.good (priority_is g m (Pair s d) (low, c.n_low) ∙ zero_is);
          }

    -- ---- words

    record Ran (s p t q : ℕ) : Type 0 where
      pub q_low : q < size g
      pub from : From (at B t q)
      pub way : Way (at B s p) (at B t q)

    first_turn : (l : Letter) (s p q : ℕ) (accepting : Bool) (low : s < length w.word)
        → l ≡ letter_at w s
        → p < size g
        → From (at B s p)
        → Leads g l p q accepting
        → Turned s low p q accepting
    first_turn l s p q accepting low e p_low from leads =
        turned s low p q accepting p_low from (subst (λ k. Leads g k p q accepting) e leads)

    ran : (u : List Letter) (s t p q : ℕ) → p < size g → From (at B s p) → Reads w u s t → Run (Leads g) u p q
        → Ran s p t q
    ran [] s t p q p_low from e same = record {
      q_low = subst (λ n. n < size g) same p_low;
      from = subst (λ n. From (at B t n)) same (subst (λ i. From (at B i p)) e from);
      way = inl (ap (λ i. at B i p) e ∙ ap (at B t) same);
    }
    ran (l ∷ u) s t p q p_low from (low, is_letter, rest) (n, accepting, leads, more) =
        let a = first_turn l s p n accepting low is_letter p_low from leads in
        let b = ran u (next_letter w s) t n q a.q_low a.from rest more in
        record {
          q_low = b.q_low;
          from = b.from;
          way = inr (then_way (at B s p) a.lowest (at B (next_letter w s) n) (at B t q) a.walk b.way);
        }

    zero_way : (v j x y : ℕ) → j ≡ 0 → Walk v j x → Way x y → Walk v 0 y
    zero_way v j x y e walk (inl same) = subst (Walk v 0) same (subst (λ k. Walk v k x) e walk)
    zero_way v j x y e walk (inr (k, more)) =
        let lowest : min j k ≡ 0 = omega (arith, e) in
        subst (λ i. Walk v i y) lowest (walks_joined G Odd choice v j x k y walk more)

    zero_later : (v j x y : ℕ) → Walk v j x → Walk x 0 y → Walk v 0 y
    zero_later v j x y walk more =
        let lowest : min j 0 ≡ 0 = omega arith in
        subst (λ i. Walk v i y) lowest (walks_joined G Odd choice v j x 0 y walk more)

    ran_well : (u : List Letter) (s t p q : ℕ) → p < size g → From (at B s p) → Reads w u s t
        → AcceptingRun (Leads g) u p q
        → Walk (at B s p) 0 (at B t q)
    ran_well [] s t p q p_low from e none = absurd none
    ran_well (l ∷ u) s t p q p_low from (low, is_letter, rest) (inl (n, leads, more)) =
        let a = first_turn l s p n true low is_letter p_low from leads in
        let b = ran u (next_letter w s) t n q a.q_low a.from rest more in
        zero_way (at B s p) a.lowest (at B (next_letter w s) n) (at B t q) (a.good refl) a.walk b.way
    ran_well (l ∷ u) s t p q p_low from (low, is_letter, rest) (inr (n, accepting, leads, more)) =
        let a = first_turn l s p n accepting low is_letter p_low from leads in
        zero_later (at B s p) a.lowest (at B (next_letter w s) n) (at B t q) a.walk
        (ran_well u (next_letter w s) t n q a.q_low a.from rest more)

    pub never_accepted : (p : ℕ) → p < size g → From (at B 0 p) → IsAcceptedFrom (Leads g) p w → ⊥
    never_accepted p p_low from a =
        let k : ℕ = w.loop_start in
        let turns = reads_repeated w ok a.turns in
        let rounds = reads_repeated w ok a.rounds in
        let comes = reads_joined w ok (stem w) (repeated a.turns (turn w)) 0 k k (reads_stem w ok) turns in
        let b = ran (stem w ++ repeated a.turns (turn w)) 0 k p a.state p_low from comes a.comes in
        let closed = ran_well (repeated a.rounds (turn w)) k k a.state a.state b.q_low b.from rounds a.returns in
        let wrong = closed_walk_good G Odd choice (at B k a.state) 0 closed b.from in absurd (cc)
