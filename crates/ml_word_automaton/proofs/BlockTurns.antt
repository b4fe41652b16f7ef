-- Even's strategy on a block and a word, from place to place: each turn is a transition of the automaton.
--
-- Odd always goes on to the block at an And: the state node is won by Even, so it is true in the letter. Within a place this
-- ends at a Diamond, or at True.
--
--   holding_true    == a state node that Even wins is true in the letter
--   step            == one step within a place
--   Entry           == a block, or True, at a place; Even's strategy wins there
--   OneStep x y     == a transition from x to y, with the moves of the strategy on the way
--   advance         == each entry has one to an entry at the next place
use Rattle.std.proofs.Common.{ℕ, suc, ◌≡◌, ◌+◌, ◌<◌, ◌⊎◌, ◌==◌, inl, inr, arith, true, not, Bool, List, [], ◌∷◌, length, Some, None, refl, sym, ap, subst, ◌∙◌, eq-eqb}
use Rattle.std.specs.Bool.{beq}
use Rattle.std.proofs.lemmas.Bool.{false≢true}
use Rattle.ml_lists.specs.Member.{IsMember}
use Rattle.ml_base.specs.Structure.{Structure}
use Rattle.ml_parity.specs.declared.players.Player.TheVariants.{Even, Odd}
use Rattle.ml_parity.specs.Game.{ParityGame}
use Rattle.ml_parity.specs.Winner.{IsStrategyOf, WinsFrom, Wins}
use Rattle.ml_parity.proofs.FollowedWalks.{FollowedWalk, won_behind}
use Rattle.ml_graph.specs.CheckingGame.{mover, pairs_or_sink, successors_of, targets}
use Rattle.ml_graph.specs.declared.node.Node.TheVariants as node
use Rattle.ml_graph.specs.Graph.{Graph, node_at, priority_at}
use Rattle.ml_trace.specs.WordAutomata.{WordLasso, IsWordLasso}
use Rattle.ml_ctl.specs.Formula.{Formula}
use Rattle.ml_ctl.specs.Sorts.{is_linear}
use Rattle.ml_ctl.specs.Paths.{has_step}
use Rattle.ml_blocks.specs.Items.{Item, Row, OfState, Waits, Becomes, Either, now, row}
use Rattle.ml_blocks.specs.ItemSets.{put_all, without, next_items, eventualities}
use Rattle.ml_blocks.specs.Places.{Place, Holding, first_open, form_of, form_of_item, is_open, is_wait, focus_behind, edge_priority, path_of}
use Rattle.ml_nodes.specs.ClosureGraph.{Constant, Literal, And, Or, Diamond}
use Rattle.ml_blocks.proofs.BlockSteps as block
use Rattle.ml_blocks.proofs.BlockSteps.{path, path_is, block_form, edge_form_of, edge_priority_of, Stepped, Settled, Steps, settle}
use Rattle.ml_blocks.proofs.ItemSetMembers.{load, next_items-all_of}
use Rattle.ml_blocks.proofs.ItemsWithin.{IsOf, same_key}
use Rattle.ml_blocks.proofs.LocalRuns.{Takes, Of, left_of, left_settled, some_open, open_now, none_open, next_of_of}
use Rattle.ml_blocks.proofs.PathsWin.{best_low, edge_low}
use Rattle.ml_blocks.proofs.PlaceVertices as vertices
use Rattle.ml_blocks.proofs.PlaceVertices.{Board, Known, Branches, Edges, at, form_as, number_low, same_number, vertex_is, own_branch, other_left, other_right, own_edge, priority_at_place, move_walk, way_walk}
use Rattle.ml_word_automaton.specs.WordAutomaton.{IsBlockGraph, IsTrueIn, Walks, itself, past_same, past_true, to_left, to_right, Leads}
use Rattle.ml_word_automaton.specs.Words.{Letter, next_letter, word_structure}
use Rattle.ml_word_automaton.proofs.WordBoards.{letter_at, board, won_constant, won_literal}
use Rattle.ml_word_automaton.proofs.WordPlaces.{has_next, next_low, step_is}
use Rattle.ml_word_automaton.proofs.AtomItems.{IsAtom, atom_of}

module _ (g : Graph) (f : Formula) (negated : Bool) (w : WordLasso Letter) (is : IsBlockGraph g f negated)
    (ok : IsWordLasso w) (linear : is_linear f ≡ true) where
  abbrev B : Board
  B = board g f negated w is ok

  abbrev m : Structure
  m = word_structure w

  abbrev G : ParityGame
  G = vertices.game B

  abbrev first : Item
  first = now 0 f (not negated)

  -- ---- letters

  holding_true : (s : ℕ) (low : s < length w.word) (x : Item) (sign : Bool)
      (h : Known B (Holding x.number x.formula sign))
      → IsAtom x.formula
      → Wins G Even (at B s h.number)
      → IsTrueIn g (letter_at w s) h.number
  holding_true s low x sign h (inl (b, e)) won =
      let node_is = form_as B h (Constant (beq b sign)) (ap (λ k. form_of (Holding x.number k sign)) e) in
      won_constant g f negated w is ok s h.number low (number_low B h) (beq b sign) node_is won
  holding_true s low x sign h (inr (p, e)) won =
      let node_is = form_as B h (Literal p sign) (ap (λ k. form_of (Holding x.number k sign)) e) in
      won_literal g f negated w is ok s h.number low (number_low B h) node_is.0 sign node_is.1 won

  -- ---- nodes of blocks

  and_at : {p : Place} (s : ℕ) (a : Known B p) (l r : Place) (e : form_of p ≡ And l r)
      → (c : Branches B Odd s a.number l r) × (node_at g a.number ≡ node.And c.left.number c.right.number)
  and_at s a l r e =
      let h = form_as B a (And l r) e in (
        record {
          left = record { number = h.0; is = h.2 };
          right = record { number = h.1; is = h.3 };
          owner = ap mover h.4;
          leads = ap (successors_of g m s) h.4;
        },
        h.4,
      )

  or_at : {p : Place} (s : ℕ) (a : Known B p) (l r : Place) (e : form_of p ≡ Or l r)
      → (c : Branches B Even s a.number l r) × (node_at g a.number ≡ node.Or c.left.number c.right.number)
  or_at s a l r e =
      let h = form_as B a (Or l r) e in (
        record {
          left = record { number = h.0; is = h.2 };
          right = record { number = h.1; is = h.3 };
          owner = ap mover h.4;
          leads = ap (successors_of g m s) h.4;
        },
        h.4,
      )

  diamond_at : {p : Place} (s : ℕ) (a : Known B p) (q : Place) (e : form_of p ≡ Diamond q)
      → (c : Edges B Even s a.number q) × (action : ℕ) × (node_at g a.number ≡ node.Diamond action c.to.number)
  diamond_at s a q e =
      let h = form_as B a (Diamond q) e in (
        record {
          to = record { number = h.1; is = h.2 };
          owner = ap mover h.3;
          stuck = 1;
          leads = ap (successors_of g m s) h.3 ∙ ap (λ name. pairs_or_sink h.1 1 (targets m s name)) h.4;
        },
        h.0,
        h.3,
      )

  module _ (choice : ℕ → ℕ) (is_strategy : IsStrategyOf G Even choice) where
    abbrev pub From : ℕ → Type 0
    From v = WinsFrom G Even choice v

    abbrev pub Walk : ℕ → ℕ → ℕ → Type 0
    Walk v k x = FollowedWalk G Even choice v k x

    -- ---- within a place

    abbrev Good : Item → List Item → Type 0
    Good x ys = Unit {0}

    module _ (s : ℕ) (low : s < length w.word) (p : ℕ) where
      abbrev Inv : List Item → ℕ → Type 0
      Inv xs n = From (at B s n) × Walks g (letter_at w s) p n

      abbrev StepOn : List Item → ℕ → Item → ℕ → Type 0
      StepOn xs k x n = Stepped first true B Even choice is_strategy Good s low Inv xs k x n

      step : Steps first true B Even choice is_strategy Good s low Inv
      step xs k a of inv x is_first = by_row (row x) refl
        where
          found : IsMember x xs × (is_open x ≡ true)
          found = some_open xs x is_first

          n : ℕ
          n = a.number

          form_by : (r : Row) → row x ≡ r → form_of (path first true xs k) ≡ form_of_item (block.block first true xs k) x r
          form_by r e = block_form first true xs k x is_first ∙ ap (form_of_item (block.block first true xs k) x) e

          after_is : (ys : List Item)
              → path_of (block.block first true xs k) (put_all ys (without x xs)) k ≡ block.after first true xs k x ys
          after_is ys = path_is first true xs k (put_all ys (without x xs)) k

          stepped : (ys : List Item)
              → Takes (row x) ys
              → (to : Known B (block.after first true xs k x ys))
              → vertices.Goes B Even choice is_strategy (at B s n) (at B s to.number)
              → Walks g (letter_at w s) p to.number
              → StepOn xs k x n
          stepped ys takes to goes walks = record {
            ways = ys;
            takes = takes;
            good = tt;
            to = to;
            goes = goes;
            inv = (won_behind G Even choice (at B s n) (at B s to.number) goes inv.0, walks);
          }

          state_row : (e : row x ≡ OfState)
              → (c : Branches B Odd s n (Holding x.number x.formula (beq x.positive true)) (block.after first true xs k x []))
              → node_at g n ≡ node.And c.left.number c.right.number
              → StepOn xs k x n
          state_row e c is_and =
              let goes = other_left B Even choice is_strategy s n (vertex_is B s low a) _ _ c in
              let true_in =
              holding_true s low x (beq x.positive true) c.left (atom_of 0 f (not negated) linear x (of x found.0) e)
              (record {
                strategy = choice;
                is_strategy = is_strategy;
                wins = won_behind G Even choice (at B s n) (at B s c.left.number) goes inv.0;
              }) in
              stepped [] (subst (λ r. Takes r []) (sym e) refl) c.right
              (other_right B Even choice is_strategy s n (vertex_is B s low a) _ _ c)
              (past_true n c.left.number c.right.number inv.1 is_and true_in)

          by_row : (r : Row) → row x ≡ r → StepOn xs k x n
          by_row OfState e =
              let l = Holding x.number x.formula (beq x.positive true) in
              let c = and_at s a l (block.after first true xs k x []) (form_by OfState e ∙ ap (And l) (after_is [])) in
              state_row e c.0 c.1
          by_row Waits e = absurd (false≢true (sym (open_now x found.1).1 ∙ ap is_wait e))
          by_row (Becomes ys) e =
              let q = block.after first true xs k x ys in
              let c = and_at s a q q (form_by (Becomes ys) e ∙ ap (λ z. And z z) (after_is ys)) in
              stepped ys (subst (λ r. Takes r ys) (sym e) refl) c.0.right
              (other_right B Even choice is_strategy s n (vertex_is B s low a) _ _ c.0)
              (past_same n c.0.left.number c.0.right.number inv.1 c.1 (same_number B c.0.left c.0.right))
          by_row (Either ys zs) e =
              by_side (or_at s a l r (form_by (Either ys zs) e ∙ ap (λ z. Or z second) (after_is ys) ∙ ap (Or l) (after_is zs)))
            where
              second : Place
              second = path_of (block.block first true xs k) (put_all zs (without x xs)) k

              l : Place
              l = block.after first true xs k x ys

              r : Place
              r = block.after first true xs k x zs

              by_side : (c : Branches B Even s n l r) × (node_at g n ≡ node.Or c.left.number c.right.number)
                  → StepOn xs k x n
              by_side (c, is_or) = go (own_branch B Even choice is_strategy s n (vertex_is B s low a) _ _ c)
                where
                  go : vertices.Goes B Even choice is_strategy (at B s n) (at B s c.left.number)
                      ⊎ vertices.Goes B Even choice is_strategy (at B s n) (at B s c.right.number)
                      → StepOn xs k x n
                  go (inl goes) =
                      stepped ys (subst (λ q. Takes q ys) (sym e) (inl refl)) c.left goes
                      (to_left n c.left.number c.right.number inv.1 is_or)
                  go (inr goes) =
                      stepped zs (subst (λ q. Takes q zs) (sym e) (inr refl)) c.right goes
                      (to_right n c.left.number c.right.number inv.1 is_or)

    -- ---- from place to place

    pub record Entry : Type 0 where
      pub s : ℕ
      pub low : s < length w.word
      pub xs : List Item
      pub k : ℕ
      pub a : Known B (path first true xs k)
      pub of : Of first xs
      pub from : (y : Item) → IsMember y xs → From (at B s a.number)

    abbrev pub vertex : Entry → ℕ
    vertex x = at B x.s x.a.number

    -- something is still asked
    abbrev pub Asks : Entry → Type 0
    Asks x = (v : Item) × IsMember v x.xs

    pub record OneStep (x y : Entry) : Type 0 where
      pub accepting : Bool
      pub leads : Leads g (letter_at w x.s) x.a.number y.a.number accepting
      pub next : y.s ≡ next_letter w x.s
      pub asked : Asks y → Asks x
      pub lowest : ℕ
      pub low : lowest < 2
      pub walk : Asks y → Walk (vertex x) lowest (vertex y)
      pub accepts : lowest ≡ 0 → accepting ≡ true

    pub record Advanced (x : Entry) : Type 0 where
      pub to : Entry
      pub step : OneStep x to

    -- True was reached
    ended : (x : Entry) (k : ℕ) (a : Known B (path first true [] k))
        → Walks g (letter_at w x.s) x.a.number a.number
        → Advanced x
    ended x k a walks = record {
      to = record {
        s = next_letter w x.s;
        low = next_low w ok x.s;
        xs = [];
        k = k;
        a = a;
        of = λ v none. absurd none;
        from = λ v none. absurd none;
      };
      step = record {
        accepting = true;
        leads = inr (record { walks = walks; is_true = form_as B a (Constant true) refl; accepts = refl });
        next = refl;
        asked = λ none. absurd none.1;
        lowest = 0;
        low = omega arith;
        walk = λ none. absurd none.1;
        accepts = λ e. refl;
      };
    }

    pub advance : (x : Entry) → Advanced x
    advance x = by_items x.xs refl
      where
        on : (y : Item) → IsMember y x.xs → Advanced x
        on y member = by_left r.left refl
          where
            n : ℕ
            n = x.a.number

            r : Settled first true B Even choice is_strategy Good x.s x.low (Inv x.s x.low n) x.xs x.k n
            r =
                settle first true B Even choice is_strategy Good x.s x.low (Inv x.s x.low n) (step x.s x.low n)
                (suc (load x.xs)) x.xs x.k x.a (omega arith) x.of (x.from y member, itself)

            shut : first_open r.left ≡ None
            shut = left_settled first Good x.xs r.left r.run

            k2 : ℕ
            k2 = focus_behind (eventualities first) x.k r.left

            lowest : ℕ
            lowest = edge_priority (eventualities first) x.k r.left

            q : Place
            q = path first true (next_items r.left) k2

            same_lowest : lowest + 0 ≡ lowest
            same_lowest = omega arith

            left_is_of : Of first r.left
            left_is_of = left_of first Good x.xs r.left x.of r.run

            along : (z : Item)
                → IsMember z r.left
                → (c : Edges B Even x.s r.to.number q)
                → (action : ℕ)
                → node_at g r.to.number ≡ node.Diamond action c.to.number
                → Advanced x
            along z there c action is_diamond =
                by_edge
                (own_edge B Even choice is_strategy x.s r.to.number (vertex_is B x.s x.low r.to) q c (next_letter w x.s)
                (has_next w ok x.s x.low))
              where
                priority_is : priority_at g r.to.number ≡ lowest
                priority_is =
                    B.numbered.has_priorities r.to.number (path first true r.left x.k) r.to.is
                    ∙ edge_priority_of first true r.left x.k z there shut
                    ∙ same_lowest

                by_edge : (t : ℕ) × (has_step m x.s t ≡ true)
                    × vertices.Goes B Even choice is_strategy (at B x.s r.to.number) (at B t c.to.number)
                    → Advanced x
                by_edge (t, leads_there, goes_there) = record {
                  to = record {
                    s = next_letter w x.s;
                    low = next_low w ok x.s;
                    xs = next_items r.left;
                    k = k2;
                    a = c.to;
                    of =
                        next_items-all_of (IsOf first) (same_key first) r.left
                        (λ v i. next_of_of first v (left_is_of v i) (none_open r.left shut v i));
                    from = λ v i. won_behind G Even choice (at B x.s r.to.number) there_at goes r.inv.0;
                  };
                  step = record {
                    accepting = priority_at g r.to.number == 0;
                    leads = inl (record {
                      diamond = r.to.number;
                      action = action;
                      walks = r.inv.1;
                      is_diamond = is_diamond;
                      accepts = refl;
                    });
                    next = refl;
                    asked = λ also. (y, member);
                    lowest = lowest;
                    low = edge_low (eventualities first) x.k r.left;
                    walk = λ also. whole;
                    accepts = λ e. eq-eqb (priority_at g r.to.number) 0 (priority_is ∙ e);
                  };
                }
                  where
                    there_at : ℕ
                    there_at = at B (next_letter w x.s) c.to.number

                    goes : vertices.Goes B Even choice is_strategy (at B x.s r.to.number) there_at
                    goes =
                        subst (λ i. vertices.Goes B Even choice is_strategy (at B x.s r.to.number) (at B i c.to.number))
                        (step_is w ok x.s t leads_there) goes_there

                    whole : Walk (at B x.s n) lowest there_at
                    whole =
                        subst (λ j. Walk (at B x.s n) j there_at) same_lowest
                        (way_walk B Even choice is_strategy (block.other true) (lowest + block.off true) (at B x.s n)
                        (at B x.s r.to.number) there_at r.way
                        (move_walk B Even choice is_strategy (lowest + block.off true) (at B x.s r.to.number) there_at
                        (priority_at_place B x.s x.low r.to ∙ edge_priority_of first true r.left x.k z there shut) goes)
                        (best_low true (eventualities first) x.k r.left))

            by_left : (zs : List Item) → r.left ≡ zs → Advanced x
            by_left [] e =
                let none = ap (λ zs. Some (path first true zs x.k)) e in
                ended x x.k (record { number = r.to.number; is = r.to.is ∙ none }) r.inv.1
            by_left (z ∷ zs) e =
                let there = subst (IsMember z) (sym e) (inl refl) in
                let d = diamond_at x.s r.to q (edge_form_of first true r.left x.k z there shut) in
                along z there d.0 d.1 d.2

        by_items : (zs : List Item) → x.xs ≡ zs → Advanced x
        by_items [] e =
            ended x x.k (record { number = x.a.number; is = x.a.is ∙ ap (λ zs. Some (path first true zs x.k)) e }) itself
        by_items (z ∷ zs) e = on z (subst (IsMember z) (sym e) (inl refl))
