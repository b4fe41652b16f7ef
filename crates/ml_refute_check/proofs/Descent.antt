-- Down the decision of an entry, at a state at which its sequent is won.
--
-- At an or-node the side is taken that the strategy takes at the state. So no clash is met, and the branch ends in a
-- diamond, along which the strategy takes an edge: the sequent of the next entry is won at the target of this edge, and
-- each transition of the step is a piece of a play that follows the strategy.
--
--   Plays letter t u  == each transition of the step is a walk from the state t to the state u that follows the
--                        strategy
--   Leads e t         == what the entry e leads to at the state t
--   agrees_with       == a choice with the side more that the strategy takes agrees with it
--   leads_on          == an entry that is won at a state leads to one that is won at a state
use Rattle.std.proofs.Common.{ℕ, ◌≡◌, ◌<◌, ◌⊎◌, inl, inr, Bool, List, [], ◌∷◌, length, map, Contains, Some, None, refl, sym, ap, ◌∙◌, subst}
use Rattle.ml_base.specs.Structure.{Structure}
use Rattle.ml_lists.specs.Documents.{KeepsAll}
use Rattle.ml_lists.specs.Member.{IsMember}
use Rattle.ml_lists.proofs.Member.{member-map, Image, member-map_from, member-append_left, member-append_right, All-member, place-member}
use Rattle.ml_lists.proofs.Members.{member_of_contains, contains_none}
use Rattle.ml_parity.specs.declared.players.Player.TheVariants.{Even}
use Rattle.ml_parity.specs.Game.{HasMove}
use Rattle.ml_trace.specs.declared.letters.AutomatonState.{AutomatonState}
use Rattle.ml_trace.specs.declared.marks.Mark.{Mark}
use Rattle.ml_trace.specs.NamesCondition.{NamesCondition}
use Rattle.ml_graph.specs.declared.node.Node.TheVariants as node
use Rattle.ml_graph.specs.Graph.{Graph, size, node_at, action_at}
use Rattle.ml_graph.specs.CheckingGame.{Vertex, Pair, mover, vertex_number, successors, successors_of, pairs_or_sink, targets, checking_game, HoldsAt}
use Rattle.ml_graph.specs.Laws.{NodeHolds}
use Rattle.ml_graph.proofs.CheckingGame.{owner_is, moves_are, target_is_state}
use Rattle.ml_graph.proofs.OneStep.{vertex_low, pair_member}
use Rattle.ml_graph.proofs.References.{diamond_target, square_target}
use Rattle.ml_sequent.specs.declared.choice.Side.{Side}
use Rattle.ml_sequent.specs.declared.choice.Side.TheVariants.{Left, Right}
use Rattle.ml_sequent.specs.Choice.{side_of, with_side, chosen}
use Rattle.ml_sequent.specs.LocalWalk.{LocalWalk}
use Rattle.ml_sequent.specs.Spread.{SpreadList, IsSpreadOf, IsOpenOr}
use Rattle.ml_sequent.specs.Step.{LeadsOut, IsTarget}
use Rattle.ml_refutation.specs.Refutation.{Refutation, IsRefutation, IsEntry, Decision, Split, Clash, Go, IsDecided, IsMarkOf}
use Rattle.ml_refutation.specs.GoStep.{GoStep, HasTransition}
use Rattle.ml_refutation.specs.Acceptance.{entry_at, no_entry, Branch, branches, Decided, rules, OfSpread, Item, IsAccepted, HeightsFall}
use Rattle.ml_sequent.proofs.ChoicesWith.{side_with}
use Rattle.ml_sequent.proofs.Traces.{diamond_of}
use Rattle.ml_parity.proofs.FollowedWalks.{won_behind}
use Rattle.ml_refute_check.proofs.Positions.{Board, vertex, Move, Walk, IsWon, takes, free_move, Agrees, walk_to, won_spread, no_clash}

module _ (board : Board) where
  abbrev g : Graph
  g = board.graph

  abbrev m : Structure
  m = board.structure

  abbrev Won : ℕ → ℕ → Type 0
  Won t n = IsWon board t n

  abbrev Chosen : List (ℕ × Side) → ℕ → Type 0
  Chosen c t = Agrees board c t

  abbrev at : ℕ → ℕ → ℕ
  at t n = vertex board t n

  -- each transition of the step is a walk from one state to the other that follows the strategy
  abbrev pub Plays : GoStep → ℕ → ℕ → Type 0
  Plays letter t u =
      (p q : AutomatonState) (accepting : Bool) (a : HasTransition g letter p q accepting)
      → Walk board (at t p.node) a.trace.lowest (at u q.node)

  -- ---- or-nodes

  -- where the strategy moves, it moves to a successor
  strategy_moves : (t n : ℕ) → t < m.states → n < size g → mover (node_at g n) ≡ Even
      → Image (vertex_number g m) (board.strategy (at t n)) (successors g m (Pair t n))
  strategy_moves t n t_low n_low own =
      let move = board.is_strategy (at t n) (vertex_low g m board.is_graph board.is_structure (Pair t n) (t_low, n_low))
      (owner_is g m (Pair t n) (t_low, n_low) ∙ own) in
      member-map_from (vertex_number g m) (board.strategy (at t n)) (successors g m (Pair t n))
      (member_of_contains (board.strategy (at t n)) (map (vertex_number g m) (successors g m (Pair t n)))
      (subst (λ ws. Contains ws (board.strategy (at t n))) (moves_are g m (Pair t n) (t_low, n_low)) move))

  -- at an or-node to one of the two sides
  takes_side : (t n l r : ℕ) → t < m.states → n < size g → node_at g n ≡ node.Or l r
      → (at t l ≡ board.strategy (at t n)) ⊎ (at t r ≡ board.strategy (at t n))
  takes_side t n l r t_low n_low is = from (strategy_moves t n t_low n_low (ap mover is))
    where
      by_member : (w : Vertex) → board.strategy (at t n) ≡ vertex_number g m w → IsMember w (Pair t l ∷ Pair t r ∷ [])
          → (at t l ≡ board.strategy (at t n)) ⊎ (at t r ≡ board.strategy (at t n))
      by_member w e (inl left) = inl (sym (e ∙ ap (vertex_number g m) left))
      by_member w e (inr (inl right)) = inr (sym (e ∙ ap (vertex_number g m) right))
      by_member w e (inr (inr none)) = absurd none

      from : Image (vertex_number g m) (board.strategy (at t n)) (successors g m (Pair t n))
          → (at t l ≡ board.strategy (at t n)) ⊎ (at t r ≡ board.strategy (at t n))
      from image = by_member image.from image.holds
          (subst (IsMember image.from) (ap (successors_of g m t) is) image.member)

  -- a choice with the side more that the strategy takes agrees with it
  pub agrees_with : (c : List (ℕ × Side)) (t n l r : ℕ) (x : Side) → Chosen c t → node_at g n ≡ node.Or l r
      → at t (chosen x l r) ≡ board.strategy (at t n) → Chosen (with_side c n x) t
  agrees_with c t n l r x agrees is taken k left right y is_or side = by_side (side_with c n x k y side)
    where
      by_side : ((n ≡ k) × (x ≡ y)) ⊎ (side_of c k ≡ Some y) → at t (chosen y left right) ≡ board.strategy (at t k)
      by_side (inl same) =
          let nodes : node.Or l r ≡ node.Or left right = sym is ∙ ap (node_at g) same.0 ∙ is_or in
          let lefts : l ≡ left = cc in
          let rights : r ≡ right = cc in
          let sides : chosen x l r ≡ chosen y left right = ap (λ z. chosen z l r) same.1 ∙ ap (λ z. chosen y z r) lefts
          ∙ ap (λ z. chosen y left z) rights in
          ap (at t) (sym sides) ∙ taken ∙ ap (λ z. board.strategy (at t z)) same.0
      by_side (inr old) = agrees k left right y is_or old

  -- ---- diamonds

  -- the edge that the strategy takes at a diamond
  record TakesEdge (t d a to : ℕ) : Type 0 where
    pub state : ℕ
    pub member : IsMember state (targets m t (action_at g a))
    pub taken : board.strategy (at t d) ≡ at state to

  takes_edge : (t d a to : ℕ) → t < m.states → Won t d → node_at g d ≡ node.Diamond a to → TakesEdge t d a to
  takes_edge t d a to t_low won is =
      from (strategy_moves t d t_low won.is_node (ap mover is))
    where
      some : NodeHolds g m t (node.Diamond a to)
      some = subst (NodeHolds g m t) is (takes board t d t_low won)

      of_pairs : (ts : List ℕ)
          → ((x : ℕ) × Contains ts x × HoldsAt g m x to)
          → (w : Vertex)
          → IsMember w (pairs_or_sink to 1 ts)
          → Image (λ s. Pair s to) w ts
      of_pairs [] holds w h = absurd (contains_none holds.0 holds.1)
      of_pairs (x ∷ xs) holds w h = member-map_from (λ s. Pair s to) w (x ∷ xs) h

      by_pair : (w : Vertex)
          → board.strategy (at t d) ≡ vertex_number g m w
          → Image (λ s. Pair s to) w (targets m t (action_at g a))
          → TakesEdge t d a to
      by_pair w e pair = record {
        state = pair.from;
        member = pair.member;
        taken = e ∙ ap
            (vertex_number g m) pair.holds;
      }

      from : Image (vertex_number g m) (board.strategy (at t d)) (successors g m (Pair t d)) → TakesEdge t d a to
      from image = by_pair image.from image.holds
          (of_pairs (targets m t (action_at g a)) some image.from
          (subst (IsMember image.from) (ap (successors_of g m t) is) image.member))

  -- what leaves along the diamond leads to the target of that edge
  record LeavesTo (t u leaving n : ℕ) : Type 0 where
    pub move : Move board (at t leaving) (at u n)
    pub is_node : n < size g

  leaves_to : (t d a to : ℕ) → t < m.states → Won t d → node_at g d ≡ node.Diamond a to → (edge : TakesEdge t d a to)
      → (sp : SpreadList) (e n : ℕ) → e < size g → LeadsOut g sp d e n → LeavesTo t edge.state e n
  leaves_to t d a to t_low won is edge sp e n e_low leads = by_kind leads.leaves
    where
      same_diamond : node.Diamond a to ≡ node.Diamond leads.action leads.child
      same_diamond = sym is ∙ leads.is_diamond

      same_child : to ≡ leads.child
      same_child = let same = same_diamond in cc

      same_action : a ≡ leads.action
      same_action = let same = same_diamond in cc

      along : LeavesTo t edge.state d to
      along = record {
        move = record {
          move = subst (λ w. HasMove (checking_game g m) (at t d) w) edge.taken
              (board.is_strategy (at t d) (vertex_low g m board.is_graph board.is_structure (Pair t d)
              (t_low, won.is_node)) (owner_is g m (Pair t d) (t_low, won.is_node) ∙ ap mover is));
          chosen = λ own. sym edge.taken;
        };
        is_node = diamond_target g board.is_graph d won.is_node a to is;
      }

      by_square : node_at g e ≡ node.Square leads.action n → LeavesTo t edge.state e n
      by_square square =
          let same : node.Square leads.action n ≡ node.Square a n = ap (λ b. node.Square b n) (sym same_action) in
          let here : node_at g e ≡ node.Square a n = square ∙ same in
          record {
            move = free_move board (Pair t e) (t_low, e_low) (ap mover here) (Pair edge.state n)
                (subst (IsMember (Pair edge.state n)) (sym (ap (successors_of g m t) here))
                (pair_member n 0 edge.state (targets m t (action_at g a)) edge.member));
            is_node = square_target g board.is_graph e e_low a n here;
          }

      by_kind : ((e ≡ d) × (n ≡ leads.child)) ⊎ (IsMember e sp.nodes × (node_at g e ≡ node.Square leads.action n))
          → LeavesTo t edge.state e n
      by_kind (inl h) =
          subst (λ k. LeavesTo t edge.state e k) (same_child ∙ sym h.1)
          (subst (λ k. LeavesTo t edge.state k to) (sym h.0) along)
      by_kind (inr h) = by_square h.1

  -- ---- down the decision

  module _ (r : Refutation) where
    -- what the entry e leads to at the state t
    pub record Leads (e t : ℕ) : Type 0 where
      pub letter : GoStep
      pub mark : Mark
      pub entry : ℕ
      pub state : ℕ
      pub is_entry : entry < length r.entries
      pub is_state : state < m.states
      pub fits : IsMarkOf r.names mark
      pub won : (n : ℕ) → IsMember n (entry_at r entry).sequent → Won state n
      pub names : NamesCondition (HasTransition g) letter mark (entry_at r e).traces (entry_at r entry).traces
      pub falls : HeightsFall r e entry mark
      pub plays : Plays letter t state

    module _ (e t : ℕ) (t_low : t < m.states) (won : (n : ℕ) → IsMember n (entry_at r e).sequent → Won t n) where
      -- the spread is won
      spread_won : (c : List (ℕ × Side)) → Chosen c t → (sp : SpreadList) → IsSpreadOf g (entry_at r e).sequent c sp
          → (n : ℕ) → IsMember n sp.nodes → Won t n
      spread_won c agrees sp is n h =
          won_spread board c t t_low agrees (entry_at r e).sequent won n ((is.nodes n).0 h)

      -- along the diamond
      go_on : (c : List (ℕ × Side)) → Chosen c t → (d f : ℕ) (k : Mark) → f < length r.entries → IsMarkOf r.names k
          → KeepsAll (rules r e (Decided (record { choice = c; decision = Go d f k }))) g
          → Leads e t
      go_on c agrees d f k f_low fits keeps = along (diamond_of (node_at g d) keeps.0.holds.holds)
        where
          won_d : Won t d
          won_d = spread_won c agrees keeps.0.spread keeps.0.is_spread d keeps.0.holds.member

          along : ((a : ℕ) × ((to : ℕ) × (node_at g d ≡ node.Diamond a to))) → Leads e t
          along is = record {
            letter = record {
              sequent = (entry_at r e).sequent;
              spread = keeps.1.1.0.spread;
              diamond = d;
              next =
                  (entry_at r f).sequent;
            };
            mark = k;
            entry = f;
            state = edge.state;
            is_entry = f_low;
            is_state = target_is_state m board.is_structure t (action_at g is.0) edge.state edge.member;
            fits = fits;
            won = λ n h. won_target n (All-member (IsTarget g keeps.1.0.spread d)
                (entry_at r f).sequent keeps.1.0.holds n h);
            names = keeps.1.1.0.holds;
            falls = keeps.1.1.1.0;
            plays = λ p q accepting a. play p q accepting a;
          }
            where
              edge : TakesEdge t d is.0 is.1.0
              edge = takes_edge t d is.0 is.1.0 t_low won_d is.1.1

              -- what leaves is won
              won_leaving : (sp : SpreadList)
                  → IsSpreadOf g (entry_at r e).sequent c sp
                  → (x n : ℕ)
                  → LeadsOut g sp d x n
                  → Won t x
              won_leaving sp sp_is x n leads = by_kind leads.leaves
                where
                  by_kind : ((x ≡ d) × (n ≡ leads.child)) ⊎
                      (IsMember x sp.nodes × (node_at g x ≡ node.Square leads.action n))
                      → Won t x
                  by_kind (inl h) = subst (Won t) (sym h.0) won_d
                  by_kind (inr h) = spread_won c agrees sp sp_is x h.0

              won_target : (n : ℕ) → IsTarget g keeps.1.0.spread d n → Won edge.state n
              won_target n target =
                  let here = won_leaving keeps.1.0.spread keeps.1.0.is_spread target.leaving n target.leads in
                  let sp = keeps.1.0.spread in
                  let next =
                  leaves_to t d is.0 is.1.0 t_low won_d is.1.1 edge sp target.leaving n here.is_node target.leads in
                  record {
                    is_node = next.is_node;
                    wins = won_behind (checking_game g m) Even board.strategy (at t target.leaving)
                        (at edge.state n) next.move here.wins;
                  }

              play : (p q : AutomatonState) (accepting : Bool)
                  → (a : HasTransition g (record {
                    sequent =
                        (entry_at r e).sequent;
                    spread = keeps.1.1.0.spread;
                    diamond = d;
                    next =
                        (entry_at r f).sequent;
                  }) p q accepting)
                  → Walk board (at t p.node) a.trace.lowest (at edge.state q.node)
              play p q accepting a =
                  let sp = keeps.1.1.0.spread in
                  let here = won_leaving sp keeps.1.1.0.is_spread a.is_trace.leaving a.trace.to a.is_trace.leads in
                  let next =
                  leaves_to t d is.0 is.1.0 t_low won_d is.1.1 edge sp a.is_trace.leaving a.trace.to here.is_node
                  a.is_trace.leads in
                  let local = subst
                  (λ x. LocalWalk g x a.trace.from a.trace.lowest a.is_trace.leaving) keeps.1.1.0.is_spread.choice
                  a.is_trace.walk in
                  let walk = walk_to board c t t_low agrees a.trace.from a.trace.lowest a.is_trace.leaving
                  (won a.trace.from a.is_trace.from).is_node local (at edge.state a.trace.to) next.move in
                  subst (λ x. Walk board (at t x) a.trace.lowest (at edge.state q.node)) (sym a.begins)
                  (subst (λ x. Walk board (at t a.trace.from) a.trace.lowest (at edge.state x)) (sym a.ends) walk)

      -- down the decision
      descend : (d : Decision) (c : List (ℕ × Side)) → Chosen c t → IsDecided r.names (length r.entries) d
          → ((b : Branch) → IsMember b (branches c d) → KeepsAll (rules r e (Decided b)) g) → Leads e t
      descend (Split n left right) c agrees decided keeps =
          by_side (keeps (record { choice = c; decision = Split n left right }) (inl refl)).0
          (λ chosen_left. descend left (with_side c n Left) chosen_left decided.1
          (λ b h. keeps b (inr (member-append_left b (branches (with_side c n Left) left)
          (branches (with_side c n Right) right) h))))
          (λ chosen_right. descend right (with_side c n Right) chosen_right decided.2
          (λ b h. keeps b (inr (member-append_right b (branches (with_side c n Left) left)
          (branches (with_side c n Right) right) h))))
        where
          by_side : OfSpread g (entry_at r e).sequent c (λ sp. IsOpenOr g sp n)
              → (Chosen (with_side c n Left) t → Leads e t) → (Chosen (with_side c n Right) t → Leads e t) → Leads e t
          by_side at_or on_left on_right =
              of_taken (takes_side t n at_or.holds.is_open.left at_or.holds.is_open.right t_low
              (at_or.is_spread.low n at_or.holds.member) at_or.holds.is_open.is_or)
            where
              of_taken : (at t at_or.holds.is_open.left ≡ board.strategy (at t n)) ⊎
                  (at t at_or.holds.is_open.right ≡ board.strategy (at t n))
                  → Leads e t
              of_taken (inl taken) = on_left
                  (agrees_with c t n at_or.holds.is_open.left at_or.holds.is_open.right Left agrees
                  at_or.holds.is_open.is_or taken)
              of_taken (inr taken) = on_right
                  (agrees_with c t n at_or.holds.is_open.left at_or.holds.is_open.right Right agrees
                  at_or.holds.is_open.is_or taken)
      descend (Clash x) c agrees decided keeps =
          let clash = (keeps (record { choice = c; decision = Clash x }) (inl refl)).0 in
          absurd (no_clash board c t t_low agrees clash.spread clash.is_spread.choice
          (spread_won c agrees clash.spread clash.is_spread) x clash.holds)
      descend (Go d f k) c agrees decided keeps =
          go_on c agrees d f k decided.1 decided.2 (keeps (record { choice = c; decision = Go d f k }) (inl refl))

      -- an entry that is won at a state leads to one that is won at a state
      pub leads_on : IsRefutation r → IsAccepted g r → e < length r.entries → Leads e t
      leads_on r_ok accepted e_low = descend (entry_at r e).decision [] none decided keeps
        where
          none : Chosen [] t
          none n l k x is side = let wrong : None ≡ Some x = side in absurd (cc)

          decided : IsDecided r.names (length r.entries) (entry_at r e).decision
          decided = (All-member (IsEntry r.names (length r.entries)) r.entries r_ok.are_entries (entry_at r e)
              (place-member r.entries e no_entry e_low)).is_decided

          keeps : (b : Branch) → IsMember b (branches [] (entry_at r e).decision) → KeepsAll (rules r e (Decided b)) g
          keeps b h =
              accepted e (Decided b) e_low
              (inr (inr (member-append_right (Decided b) (map Item (entry_at r e).traces.items)
              (map Decided (branches [] (entry_at r e).decision))
              (member-map Decided b (branches [] (entry_at r e).decision) h))))
