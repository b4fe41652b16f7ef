-- Steps of the game within a block, at one state.
--
--   path first b xs k   == the node of the block that begins with the item first, with the sign b, the items xs, the focus k
--   other b             == the priority of all its nodes but those of edges
--   block_form, edge_form_of, block_priority, edge_priority_of == what these nodes are
--   Stepped             == one step on from a block by decomposing its first open item, with what is known of it
--   Settled             == the same until no item is open
--   settle              == step by step, as far as it goes
use Rattle.std.proofs.Common.{ℕ, zero, suc, ◌≡◌, ◌+◌, ◌<◌, inl, arith, true, false, Bool, cond, List, [], ◌∷◌, Option, Some, None, refl, ap, ◌∙◌}
use Rattle.std.specs.Bool.{beq}
use Rattle.ml_lists.specs.Member.{IsMember}
use Rattle.ml_parity.specs.declared.players.Player.{Player}
use Rattle.ml_parity.specs.Player.{opponent}
use Rattle.ml_parity.specs.Winner.{IsStrategyOf}
use Rattle.ml_blocks.specs.Items.{Item, Row, OfState, Becomes, Either, row}
use Rattle.ml_blocks.specs.ItemSets.{put_all, without, next_items, eventualities}
use Rattle.ml_blocks.specs.Places.{Block, Place, Path, True, False, Holding, form_of, priority_of, path_of, form_of_item, form_of_block}
use Rattle.ml_blocks.specs.Places.{form_of_edge, priority_of_block, first_open, focus_behind, edge_priority}
use Rattle.ml_nodes.specs.ClosureGraph.{all_of, one_of}
use Rattle.ml_blocks.proofs.ItemSetMembers.{load}
use Rattle.ml_blocks.proofs.LighterRows.{step_lighter}
use Rattle.ml_blocks.proofs.LocalRuns.{Takes, LocalRun, settled, taken, Of, after_of}
use Rattle.ml_blocks.proofs.PlaceVertices.{Board, Known, Branches, at, game, player_of, both, one, edge_form, priority_at_place, Goes, Way, move_walk, further}

abbrev pub block : Item → Bool → List Item → ℕ → Block
block first b xs k = record { first = first; positive = b; items = xs; focus = k }

abbrev pub constant : Bool → Place
constant true = True
constant false = False

abbrev pub path : Item → Bool → List Item → ℕ → Place
path first b [] k = constant b
path first b (x ∷ xs) k = Path (block first b (x ∷ xs) k)

abbrev pub other : Bool → ℕ
other true = 1
other false = 2

abbrev pub off : Bool → ℕ
off b = cond b 0 1

module _ (first : Item) (b : Bool) where
  pub path_is : (ws : List Item) (j : ℕ) (xs : List Item) (k : ℕ)
      → path_of (block first b ws j) xs k ≡ path first b xs k
  path_is ws j [] k = is_constant b
    where
      is_constant : (c : Bool) → cond c True False ≡ constant c
      is_constant true = refl
      is_constant false = refl
  path_is ws j (x ∷ xs) k = refl

  pub block_form : (xs : List Item) (k : ℕ) (x : Item)
      → first_open xs ≡ Some x
      → form_of (path first b xs k) ≡ form_of_item (block first b xs k) x (row x)
  block_form [] k x e = absurd (cc)
  block_form (y ∷ ys) k x e = ap (form_of_block (block first b (y ∷ ys) k)) e

  edge_is : (c : Bool) (xs : List Item) (k : ℕ)
      → form_of_edge (block first c xs k)
      ≡ edge_form c (path_of (block first c xs k) (next_items xs) (focus_behind (eventualities first) k xs))
  edge_is true xs k = refl
  edge_is false xs k = refl

  pub edge_form_of : (xs : List Item) (k : ℕ) (x : Item)
      → IsMember x xs
      → first_open xs ≡ None
      → form_of (path first b xs k)
      ≡ edge_form b (path first b (next_items xs) (focus_behind (eventualities first) k xs))
  edge_form_of [] k x none e = absurd none
  edge_form_of (y ∷ ys) k x m e =
      ap (form_of_block (block first b (y ∷ ys) k)) e ∙ edge_is b (y ∷ ys) k
      ∙ ap (edge_form b) (path_is (y ∷ ys) k (next_items (y ∷ ys)) (focus_behind (eventualities first) k (y ∷ ys)))

  other_is : (c : Bool) → 1 + off c ≡ other c
  other_is true = refl
  other_is false = refl

  pub block_priority : (xs : List Item) (k : ℕ) (x : Item)
      → first_open xs ≡ Some x
      → priority_of (path first b xs k) ≡ other b
  block_priority [] k x e = absurd (cc)
  block_priority (y ∷ ys) k x e =
      ap (λ o. priority_of_block (block first b (y ∷ ys) k) o + off b) e ∙ other_is b

  pub edge_priority_of : (xs : List Item) (k : ℕ) (x : Item)
      → IsMember x xs
      → first_open xs ≡ None
      → priority_of (path first b xs k) ≡ edge_priority (eventualities first) k xs + off b
  edge_priority_of [] k x none e = absurd none
  edge_priority_of (y ∷ ys) k x m e = ap (λ o. priority_of_block (block first b (y ∷ ys) k) o + off b) e

  -- ---- what a block with an open item leads to

  abbrev pub after : List Item → ℕ → Item → List Item → Place
  after xs k x ys = path first b (put_all ys (without x xs)) k

  module _ (B : Board) (s : ℕ) (xs : List Item) (k : ℕ) (x : Item) (is : first_open xs ≡ Some x)
      (a : Known B (path first b xs k)) where
    form_by : (r : Row) → row x ≡ r → form_of (path first b xs k) ≡ form_of_item (block first b xs k) x r
    form_by r e = block_form xs k x is ∙ ap (form_of_item (block first b xs k) x) e

    pub of_state : row x ≡ OfState
        → Branches B (opponent (player_of b)) s a.number (Holding x.number x.formula (beq x.positive b)) (after xs k x [])
    of_state e =
        both B b (Holding x.number x.formula (beq x.positive b)) (after xs k x []) s a
        (form_by OfState e
        ∙ ap (all_of b (Holding x.number x.formula (beq x.positive b))) (path_is xs k (without x xs) k))

    pub becomes : (ys : List Item)
        → row x ≡ Becomes ys
        → Branches B (opponent (player_of b)) s a.number (after xs k x ys) (after xs k x ys)
    becomes ys e =
        let p = path_is xs k (put_all ys (without x xs)) k in
        both B b (after xs k x ys) (after xs k x ys) s a
        (form_by (Becomes ys) e ∙ ap (λ q. all_of b q q) p)

    pub either : (ys zs : List Item)
        → row x ≡ Either ys zs
        → Branches B (player_of b) s a.number (after xs k x ys) (after xs k x zs)
    either ys zs e =
        one B b (after xs k x ys) (after xs k x zs) s a
        (form_by (Either ys zs) e
        ∙ ap (λ q. one_of b q (path_of (block first b xs k) (put_all zs (without x xs)) k))
        (path_is xs k (put_all ys (without x xs)) k)
        ∙ ap (one_of b (after xs k x ys)) (path_is xs k (put_all zs (without x xs)) k))

  -- ---- step by step

  module _ (B : Board) (p : Player) (choice : ℕ → ℕ) (is_strategy : IsStrategyOf (game B) p choice)
      (Good : Item → List Item → Type 0) (s : ℕ) (low : s < (B.m).states) (Inv : List Item → ℕ → Type 0) where
    pub record Stepped (xs : List Item) (k : ℕ) (x : Item) (n : ℕ) : Type 0 where
      pub ways : List Item
      pub takes : Takes (row x) ways
      pub good : Good x ways
      pub to : Known B (after xs k x ways)
      pub goes : Goes B p choice is_strategy (at B s n) (at B s to.number)
      pub inv : Inv (put_all ways (without x xs)) to.number

    pub record Settled (xs : List Item) (k n : ℕ) : Type 0 where
      pub left : List Item
      pub run : LocalRun Good xs left
      pub to : Known B (path first b left k)
      pub way : Way B p choice is_strategy (other b) (at B s n) (at B s to.number)
      pub inv : Inv left to.number

    abbrev pub Steps : Type 0
    Steps = (xs : List Item) (k : ℕ) (a : Known B (path first b xs k)) → Of first xs → Inv xs a.number
        → (x : Item)
        → first_open xs ≡ Some x
        → Stepped xs k x a.number

    pub settle : Steps → (fuel : ℕ) (xs : List Item) (k : ℕ) (a : Known B (path first b xs k))
        → load xs < fuel
        → Of first xs
        → Inv xs a.number
        → Settled xs k a.number
    settle step zero xs k a under of inv = absurd (omega arith)
    settle step (suc fuel) xs k a under of inv = by_first (first_open xs) refl (settle step fuel)
      where
        joined : (x : Item)
            → first_open xs ≡ Some x
            → (t : Stepped xs k x a.number)
            → Settled (put_all t.ways (without x xs)) k (t.to).number
            → Settled xs k a.number
        joined x e t r = record {
          left = r.left;
          run = taken xs x t.ways r.left e t.takes t.good r.run;
          to = r.to;
          way =
              further B p choice is_strategy (other b) (at B s a.number) (at B s (t.to).number) (at B s (r.to).number)
              (move_walk B p choice is_strategy (other b) (at B s a.number) (at B s (t.to).number)
              (priority_at_place B s low a ∙ block_priority xs k x e) t.goes) r.way;
          inv = r.inv;
        }

        by_first : (o : Option Item)
            → first_open xs ≡ o
            → ((ys : List Item) (j : ℕ) (c : Known B (path first b ys j)) → load ys < fuel → Of first ys → Inv ys c.number
            → Settled ys j c.number)
            → Settled xs k a.number
        by_first None e rest =
            record { left = xs; run = settled xs xs refl e; to = a; way = inl refl; inv = inv }
        by_first (Some x) e rest =
            let t = step xs k a of inv x e in
            let lighter = step_lighter xs x t.ways e t.takes in
            joined x e t
            (rest (put_all t.ways (without x xs)) k t.to (omega (arith, lighter, under))
            (after_of first xs x t.ways of e t.takes) t.inv)
