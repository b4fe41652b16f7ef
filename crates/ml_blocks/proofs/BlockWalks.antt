-- The walk from a block along a strategy of the player who looks for a path: one place after the other.
--
--   AllWon            == a state item that this player wins holds
--   Entry             == a block at a state, at which the strategy wins unless no item is left
--   BigStep           == from one place to the next one
--   advance           == each entry leads on
--   twice             == so some entry comes again
use Rattle.std.proofs.Common.{ℕ, suc, ◌≡◌, ◌+◌, ◌<◌, ◌⊎◌, inl, inr, arith, true, false, Bool, List, [], ◌∷◌, length, Some, None, refl, sym, ap, subst, ◌∙◌}
use Rattle.std.specs.Bool.{beq}
use Rattle.std.specs.List.{slice_get}
use Rattle.std.proofs.lemmas.Bool.{false≢true}
use Rattle.std.proofs.lemmas.Nat.{same_from_place}
use Rattle.std.proofs.lemmas.Option.{same_Some}
use Rattle.ml_lists.specs.Member.{IsMember}
use Rattle.ml_lists.specs.Pigeons.{Twice}
use Rattle.ml_lists.specs.Walk.{walk}
use Rattle.ml_lists.proofs.Pigeons.{pigeons}
use Rattle.ml_parity.specs.declared.players.Player.{Player}
use Rattle.ml_parity.specs.Winner.{IsStrategyOf, WinsFrom, Wins}
use Rattle.ml_parity.proofs.FollowedWalks.{FollowedWalk, won_behind}
use Rattle.ml_parity.specs.Game as parity
use Rattle.ml_graph.specs.Graph.{size}
use Rattle.ml_graph.specs.CheckingGame.{Pair}
use Rattle.ml_graph.proofs.OneStep.{vertex_low}
use Rattle.ml_ctl.specs.Meaning.{HoldsAt}
use Rattle.ml_ctl.specs.Paths.{has_step}
use Rattle.ml_blocks.specs.Items.{Item, Row, OfState, Waits, Becomes, Either, row}
use Rattle.ml_blocks.specs.ItemSets.{next_items, eventualities}
use Rattle.ml_blocks.specs.Laws.{signed}
use Rattle.ml_blocks.specs.Places.{Place, Path, Holding, first_open, is_open, is_wait, focus_behind, edge_priority}
use Rattle.ml_blocks.proofs.BlockSteps as block
use Rattle.ml_blocks.proofs.BlockSteps.{path, other, off, edge_form_of, edge_priority_of, of_state, becomes, either, Stepped, Settled, Steps, settle}
use Rattle.ml_blocks.proofs.ItemSetMembers.{AreNow, load, next_items-all_of}
use Rattle.ml_blocks.proofs.ItemsWithin.{IsOf, same_key}
use Rattle.ml_blocks.proofs.LocalRuns.{Takes, LocalRun, Of, left_of, left_settled, some_open, open_now, none_open, next_of_of}
use Rattle.ml_blocks.proofs.PathsWin.{focus_low, best_low}
use Rattle.ml_blocks.proofs.PlaceVertices.{Board, Known, Branches, Edges, at, game, player_of, Goes, number_low, vertex_is, edges}
use Rattle.ml_blocks.proofs.PlaceVertices.{own_branch, other_left, other_right, own_edge, priority_at_place, move_walk, way_walk}
use Rattle.ml_blocks.proofs.SaidItems.{step_states}
use Rattle.ml_blocks.proofs.RowShapes.{next_items_now}

-- a state item that the player wins holds
abbrev pub AllWon : Board → Item → Bool → Type 0
AllWon B first b =
    (s : ℕ) → s < (B.m).states → (x : Item) → IsOf first x → row x ≡ OfState
    → (h : Known B (Holding x.number x.formula (beq x.positive b)))
    → Wins (game B) (player_of b) (at B s h.number)
    → signed x.positive (HoldsAt B.m x.formula s)

-- ---- blocks are told apart by their nodes

items_of : Place → List Item
items_of (Path c) = c.items
items_of _ = []

focus_of : Place → ℕ
focus_of (Path c) = c.focus
focus_of _ = 0

items_is : (first : Item) (b : Bool) (xs : List Item) (k : ℕ) → items_of (path first b xs k) ≡ xs
unfolding items_of
items_is first true [] k = refl
items_is first false [] k = refl
items_is first b (x ∷ xs) k = refl

focus_is : (first : Item) (b : Bool) (xs : List Item) (k : ℕ) (y : Item)
    → IsMember y xs
    → focus_of (path first b xs k) ≡ k
unfolding focus_of
focus_is first b [] k y none = absurd none
focus_is first b (x ∷ xs) k y m = refl

module _ (B : Board) (first : Item) (b : Bool) (choice : ℕ → ℕ)
    (is_strategy : IsStrategyOf (game B) (player_of b) choice) (all_won : AllWon B first b) where
  abbrev mine : Player
  mine = player_of b

  abbrev pub From : ℕ → Type 0
  From v = WinsFrom (game B) mine choice v

  abbrev pub Walk : ℕ → ℕ → ℕ → Type 0
  Walk v k w = FollowedWalk (game B) mine choice v k w

  -- ---- at one state

  module _ (s : ℕ) (low : s < (B.m).states) where
    -- what is known of an item that was decomposed
    abbrev pub Good : Item → List Item → Type 0
    Good x ys = row x ≡ OfState → signed x.positive (HoldsAt B.m x.formula s)

    abbrev pub Inv : List Item → ℕ → Type 0
    Inv xs n = (y : Item) → IsMember y xs → From (at B s n)

    step : Steps first b B mine choice is_strategy Good s low Inv
    step xs k a of inv x is = by_row (row x) refl
      where
        found : IsMember x xs × (is_open x ≡ true)
        found = some_open xs x is

        from : From (at B s a.number)
        from = inv x found.0

        stepped : (ys : List Item)
            → Takes (row x) ys
            → Good x ys
            → (to : Known B (block.after first b xs k x ys))
            → Goes B mine choice is_strategy (at B s a.number) (at B s to.number)
            → Stepped first b B mine choice is_strategy Good s low Inv xs k x a.number
        stepped ys takes good to goes = record {
          ways = ys;
          takes = takes;
          good = good;
          to = to;
          goes = goes;
          inv = λ y i. won_behind (game B) mine choice (at B s a.number) (at B s to.number) goes from;
        }

        by_row : (r : Row) → row x ≡ r → Stepped first b B mine choice is_strategy Good s low Inv xs k x a.number
        by_row OfState e =
            let c = of_state first b B s xs k x is a e in
            let goes = other_left B mine choice is_strategy s a.number (vertex_is B s low a) _ _ c in
            stepped [] (subst (λ r. Takes r []) (sym e) refl)
            (λ also. all_won s low x (of x found.0) e c.left
            (record {
              strategy = choice;
              is_strategy = is_strategy;
              wins = won_behind (game B) mine choice (at B s a.number) (at B s (c.left).number) goes from;
            }))
            c.right (other_right B mine choice is_strategy s a.number (vertex_is B s low a) _ _ c)
        by_row Waits e = absurd (false≢true (sym (open_now x found.1).1 ∙ ap is_wait e))
        by_row (Becomes ys) e =
            let c = becomes first b B s xs k x is a ys e in
            stepped ys (subst (λ r. Takes r ys) (sym e) refl) (λ also. absurd (let wrong = sym e ∙ also in cc)) c.left
            (other_left B mine choice is_strategy s a.number (vertex_is B s low a) _ _ c)
        by_row (Either ys zs) e = go (own_branch B mine choice is_strategy s a.number (vertex_is B s low a) _ _ c)
          where
            c : Branches B mine s a.number (block.after first b xs k x ys) (block.after first b xs k x zs)
            c = either first b B s xs k x is a ys zs e

            go : Goes B mine choice is_strategy (at B s a.number) (at B s (c.left).number)
                ⊎ Goes B mine choice is_strategy (at B s a.number) (at B s (c.right).number)
                → Stepped first b B mine choice is_strategy Good s low Inv xs k x a.number
            go (inl goes) =
                stepped ys (subst (λ r. Takes r ys) (sym e) (inl refl))
                (λ also. absurd (let wrong = sym e ∙ also in cc)) c.left goes
            go (inr goes) =
                stepped zs (subst (λ r. Takes r zs) (sym e) (inr refl))
                (λ also. absurd (let wrong = sym e ∙ also in cc)) c.right goes

  -- ---- from place to place

  pub record Entry : Type 0 where
    pub s : ℕ
    pub low : s < (B.m).states
    pub xs : List Item
    pub k : ℕ
    pub a : Known B (path first b xs k)
    pub of : Of first xs
    pub all_now : AreNow xs
    pub from : (y : Item) → IsMember y xs → From (at B s a.number)
    pub focus : 0 < length (eventualities first) → k < length (eventualities first)

  abbrev pub vertex : Entry → ℕ
  vertex x = at B x.s (x.a).number

  abbrev pub priority : Entry → List Item → ℕ
  priority x left = edge_priority (eventualities first) x.k left

  pub record BigStep (x : Entry) : Type 0 where
    pub to : Entry
    pub left : List Item
    pub run : LocalRun (Good x.s x.low) x.xs left
    pub settled : first_open left ≡ None
    pub goes : has_step B.m x.s to.s ≡ true
    pub walk : (y : Item) → IsMember y left → Walk (vertex x) (priority x left + off b) (vertex to)
    pub xs_is : to.xs ≡ next_items left
    pub k_is : (y : Item) → IsMember y left → to.k ≡ focus_behind (eventualities first) x.k left

  pub advance : (x : Entry) → BigStep x
  advance x = go r.left refl
    where
      n : ℕ
      n = (x.a).number

      r : Settled first b B mine choice is_strategy (Good x.s x.low) x.s x.low (Inv x.s x.low) x.xs x.k n
      r =
          settle first b B mine choice is_strategy (Good x.s x.low) x.s x.low (Inv x.s x.low) (step x.s x.low)
          (suc (load x.xs)) x.xs x.k x.a (omega arith) x.of x.from

      shut : first_open r.left ≡ None
      shut = left_settled first (Good x.s x.low) x.xs r.left r.run

      left_of_first : Of first r.left
      left_of_first = left_of first (Good x.s x.low) x.xs r.left x.of r.run

      some_state : (t : ℕ) × (has_step B.m x.s t ≡ true)
      some_state = B.is_total x.s x.low

      ended : r.left ≡ [] → BigStep x
      ended e = record {
        to = record {
          s = some_state.0;
          low = (step_states B.m B.is_structure x.s some_state.0 some_state.1).1;
          xs = [];
          k = x.k;
          a = record { number = (r.to).number; is = (r.to).is ∙ ap (λ zs. Some (path first b zs x.k)) e };
          of = λ y none. absurd none;
          all_now = λ y none. absurd none;
          from = λ y none. absurd none;
          focus = x.focus;
        };
        left = r.left;
        run = r.run;
        settled = shut;
        goes = some_state.1;
        walk = λ y i. absurd (subst (IsMember y) e i);
        xs_is = ap next_items (sym e);
        k_is = λ y i. absurd (subst (IsMember y) e i);
      }

      k2 : ℕ
      k2 = focus_behind (eventualities first) x.k r.left

      along : (y : Item) → IsMember y r.left → BigStep x
      along y member =
          made (edges B b (path first b (next_items r.left) k2) x.s r.to (edge_form_of first b r.left x.k y member shut))
        where
          made : Edges B mine x.s (r.to).number (path first b (next_items r.left) k2) → BigStep x
          made c =
              let edge =
              own_edge B mine choice is_strategy x.s (r.to).number
              (vertex_is B x.s x.low r.to) _ c some_state.0 some_state.1 in
              let end = won_behind (game B) mine choice (at B x.s (r.to).number) _ edge.2 (r.inv y member) in
              record {
                to = record {
                  s = edge.0;
                  low = (step_states B.m B.is_structure x.s edge.0 edge.1).1;
                  xs = next_items r.left;
                  k = k2;
                  a = c.to;
                  of =
                      next_items-all_of (IsOf first) (same_key first) r.left
                      (λ v i. next_of_of first v (left_of_first v i) (none_open r.left shut v i));
                  all_now = next_items_now r.left (none_open r.left shut);
                  from = λ v i. end;
                  focus = focus_low (eventualities first) x.k r.left x.focus;
                };
                left = r.left;
                run = r.run;
                settled = shut;
                goes = edge.1;
                walk =
                    λ v i. way_walk B mine choice is_strategy (other b) (priority x r.left + off b) (at B x.s n)
                    (at B x.s (r.to).number) _ r.way
                    (move_walk B mine choice is_strategy (priority x r.left + off b) (at B x.s (r.to).number) _
                    (priority_at_place B x.s x.low r.to ∙ edge_priority_of first b r.left x.k y member shut) edge.2)
                    (best_low b (eventualities first) x.k r.left);
                xs_is = refl;
                k_is = λ v i. refl;
              }

      go : (zs : List Item) → r.left ≡ zs → BigStep x
      go [] e = ended e
      go (y ∷ ys) e = along y (subst (IsMember y) (sym e) (inl refl))

  -- ---- what comes again

  abbrev pub entry_at : Entry → ℕ → Entry
  entry_at x k = walk (λ y. (advance y).to) x k

  pub record Same (x y : Entry) : Type 0 where
    pub state : x.s ≡ y.s
    pub items : x.xs ≡ y.xs
    pub focus : (v : Item) → IsMember v x.xs → x.k ≡ y.k

  pub same_vertex : (x y : Entry) → vertex x ≡ vertex y → Same x y
  same_vertex x y e =
      let parts = same_from_place x.s (x.a).number y.s (y.a).number (size B.g) (number_low B x.a) (number_low B y.a) e in
      let place =
      same_Some _ _ (sym (x.a).is ∙ ap (slice_get B.places) parts.1 ∙ (y.a).is) in
      let items = sym (items_is first b x.xs x.k) ∙ ap items_of place ∙ items_is first b y.xs y.k in
      record {
        state = parts.0;
        items = items;
        focus = λ v i. sym (focus_is first b x.xs x.k v i) ∙ ap focus_of place
            ∙ focus_is first b y.xs y.k v (subst (IsMember v) items i);
      }

  pub twice : (x : Entry) → Twice (λ k. vertex (entry_at x k)) (parity.size (game B))
  twice x =
      pigeons (parity.size (game B)) (λ k. vertex (entry_at x k))
      (λ k low. vertex_low B.g B.m B.is_graph B.is_structure
      (Pair (entry_at x k).s ((entry_at x k).a).number) (vertex_is B (entry_at x k).s (entry_at x k).low (entry_at x k).a))
