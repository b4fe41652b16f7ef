-- A path that satisfies all items of a block: the opponent doesn't win the block.
--
-- The opponent's strategy is followed against a player who goes along the path. Wherever all items of the first way of a row
-- are asked of the place, that way is taken; else the other one. So an eventuality in focus is put off no longer than until
-- its first way is asked: an edge comes at which the focus moves on, again and again.
--
--   Lost              == what the opponent would win: no state item that holds
--   Situation         == a block at a place of the path, all of whose items are asked there
--   never_lost        == the opponent's strategy doesn't win from a situation
use Rattle.std.proofs.Common.{ℕ, zero, suc, ◌≡◌, ◌+◌, ◌<◌, ◌%◌, ◌&&◌, ◌==◌, ◌⊎◌, min, inl, inr, arith, true, false, Bool, List, []}
use Rattle.std.proofs.Common.{◌∷◌, length, map, filter, get_or, Some, None, refl, sym, ap, subst, ◌∙◌, ⊎_elim}
use Rattle.std.specs.Bool.{beq}
use Rattle.std.proofs.lemmas.Bool.{cases_Bool, cond-true, cond-false, false≢true, and_parts, eqb-true}
use Rattle.std.proofs.lemmas.Nat.{mod_below}
use Rattle.ml_lists.specs.Lasso.{Lasso, entry, next_place}
use Rattle.ml_lists.specs.Member.{IsMember}
use Rattle.ml_lists.proofs.Ascending.{ascending-member}
use Rattle.ml_lists.proofs.Member.{list_any-member, place-member, member-map_from, member-filter_from}
use Rattle.ml_parity.specs.declared.players.Player.{Player}
use Rattle.ml_parity.specs.Player.{opponent, side}
use Rattle.ml_parity.specs.Winner.{IsStrategyOf, WinsFrom, Wins}
use Rattle.ml_parity.proofs.FollowedWalks.{FollowedWalk, walks_joined, won_behind}
use Rattle.ml_parity.proofs.Opponents.{opponent-opponent}
use Rattle.ml_graph.specs.CheckingGame.{Pair}
use Rattle.ml_graph.proofs.OneStep.{vertex_low}
use Rattle.ml_ctl.specs.Laws.{IsDecided}
use Rattle.ml_ctl.specs.Meaning.{HoldsAt}
use Rattle.ml_ctl.specs.Paths.{IsPath, has_step}
use Rattle.ml_ctl.specs.Unrolled.{IsPlace, after}
use Rattle.ml_ctl.proofs.PlaceWalks.{walk-shift}
use Rattle.ml_ctl.proofs.StepByStep.{next_is_place}
use Rattle.ml_blocks.specs.Items.{Item, Row, OfState, Waits, Becomes, Either, row, is_least}
use Rattle.ml_blocks.specs.ItemSets.{key, due, next_of, put_all, without, next_items, items_within, eventualities}
use Rattle.ml_blocks.specs.Laws.{Asks, AllSay, SaysBy, by_time, signed, QuantifiersAreDecided}
use Rattle.ml_blocks.specs.Places.{Holding, first_open, is_open, is_wait, is_put_off, focus_behind, edge_priority}
use Rattle.ml_blocks.proofs.BlockSteps.{path, constant, other, off, edge_form_of, edge_priority_of, of_state, becomes, either, Stepped, Settled, Steps, settle}
use Rattle.ml_blocks.proofs.BlockSteps as block
use Rattle.ml_blocks.proofs.ComingTrue.{TwoWays, two_ways, eventualities_come_true}
use Rattle.ml_nodes.proofs.EndlessWalks.{Onward, never_for_ever}
use Rattle.ml_blocks.proofs.ItemSetMembers.{AreNow, load, next_items-member, next_items-all_of, next_items-has, put_all-member, without-member}
use Rattle.ml_blocks.proofs.ItemsWithin.{IsOf, within_stands, same_key}
use Rattle.ml_blocks.proofs.LocalRuns.{Takes, LocalRun, Of, left_of, left_settled, some_open, open_now, none_open, waiting, next_of_of, taken_of}
use Rattle.ml_blocks.proofs.PlaceVertices.{Board, Known, Branches, Edges, at, game, player_of, Goes, vertex_is, edges, own_branch}
use Rattle.ml_blocks.proofs.PlaceVertices.{other_left, other_right, other_edge, priority_at_place, move_walk, way_walk}
use Rattle.ml_blocks.proofs.RowShapes.{Part, ways_parts, next_later, next_waits, next_items_now}
use Rattle.ml_blocks.proofs.RowsOfItems.{rows_say_the_same, due_now}
use Rattle.ml_blocks.proofs.SaidItems.{Says, ways_say, decided_of, decided_say, later_origin, PutOffBy, path_step, path_states}

-- nothing decides for the opponent where a state item holds
abbrev pub NoneLost : Board → Item → Bool → Type 0
NoneLost B first b =
    (s : ℕ) → s < (B.m).states → (x : Item) → IsOf first x → row x ≡ OfState → signed x.positive (HoldsAt B.m x.formula s)
    → (h : Known B (Holding x.number x.formula (beq x.positive b)))
    → Wins (game B) (opponent (player_of b)) (at B s h.number)
    → ⊥

abbrev pub ConstantLost : Board → Bool → Type 0
ConstantLost B b =
    (s : ℕ) → s < (B.m).states → (h : Known B (constant b)) → Wins (game B) (opponent (player_of b)) (at B s h.number) → ⊥

-- ---- the focus

abbrev members : Item → List ℕ
members first = eventualities first

pub record OnFocus (ms : List ℕ) (k : ℕ) (xs : List Item) : Type 0 where
  pub some : 0 < length ms
  pub item : Item
  pub member : IsMember item xs
  pub later : item.later ≡ true
  pub in_focus : key (due item) ≡ get_or ms k 0

-- an edge is good, or the eventuality in focus is put off
pub edge_cases : (ms : List ℕ) (k : ℕ) (xs : List Item)
    → (edge_priority ms k xs ≡ 0) ⊎ (OnFocus ms k xs × (edge_priority ms k xs ≡ 1) × (focus_behind ms k xs ≡ k))
edge_cases [] k xs = inl refl
edge_cases (e ∷ es) k xs = by_test (cases_Bool (is_put_off (e ∷ es) k xs))
  where
    test : Item → Bool
    test x = x.later && (key (due x) == get_or (e ∷ es) k 0)

    by_test : (is_put_off (e ∷ es) k xs ≡ true) ⊎ (is_put_off (e ∷ es) k xs ≡ false)
        → (edge_priority (e ∷ es) k xs ≡ 0)
        ⊎ (OnFocus (e ∷ es) k xs × (edge_priority (e ∷ es) k xs ≡ 1) × (focus_behind (e ∷ es) k xs ≡ k))
    by_test (inr f) = inl (cond-false (is_put_off (e ∷ es) k xs) 1 0 f)
    by_test (inl t) =
        let found = list_any-member (λ x. x.later && (key (due x) == get_or (e ∷ es) k 0)) xs t in
        let parts = and_parts (found.item).later (key (due found.item) == get_or (e ∷ es) k 0) found.passes in
        inr (
          record {
            some = omega arith;
            item = found.item;
            member = found.member;
            later = parts.0;
            in_focus = eqb-true (key (due found.item)) (get_or (e ∷ es) k 0) parts.1;
          },
          cond-true (is_put_off (e ∷ es) k xs) 1 0 t,
          cond-true (is_put_off (e ∷ es) k xs) k ((k + 1) % length (e ∷ es)) t,
        )

pub edge_low : (ms : List ℕ) (k : ℕ) (xs : List Item) → edge_priority ms k xs < 2
edge_low ms k xs =
    ⊎_elim (λ (good : edge_priority ms k xs ≡ 0). omega (arith, good))
    (λ (bad : OnFocus ms k xs × (edge_priority ms k xs ≡ 1) × (focus_behind ms k xs ≡ k)). let is = bad.1 in omega
    (arith, is))
    (edge_cases ms k xs)

-- the eventuality in focus is one
pub focus_is_least : (first x : Item) (k : ℕ)
    → IsOf first x
    → k < length (eventualities first)
    → key (due x) ≡ get_or (eventualities first) k 0
    → is_least x ≡ true
focus_is_least first x k of low is =
    let all = items_within first.number first.formula first.positive in
    let listed = place-member (eventualities first) k 0 low in
    let there = ascending-member (get_or (eventualities first) k 0) (map key (filter is_least all)) listed in
    let image = member-map_from key (get_or (eventualities first) k 0) (filter is_least all) there in
    let kept = member-filter_from is_least image.from all image.member in
    let now = (within_stands first.number first.formula first.positive image.from kept.0).is_now in
    let due_is : due image.from ≡ image.from = due_now image.from now in
    let of_y : IsOf first image.from = subst (λ z. IsMember z all) (sym due_is) kept.0 in
    let same : due x ≡ image.from = same_key first (due x) image.from of of_y (is ∙ image.holds) in
    subst (λ z. is_least z ≡ true) (sym same) kept.1

off_best : (b : Bool) → side (off b) ≡ opponent (opponent (player_of b))
off_best true = refl
off_best false = refl

other_off : (b : Bool) → 1 + off b ≡ other b
other_off true = refl
other_off false = refl

pub focus_low : (ms : List ℕ) (k : ℕ) (xs : List Item)
    → (0 < length ms → k < length ms)
    → 0 < length ms
    → focus_behind ms k xs < length ms
focus_low [] k xs low some = absurd (omega (arith, some))
focus_low (e ∷ es) k xs low some =
    ⊎_elim
    (λ (t : is_put_off (e ∷ es) k xs ≡ true).
    let is = cond-true (is_put_off (e ∷ es) k xs) k ((k + 1) % length (e ∷ es)) t in
    let under = low some in
    omega (arith, is, under))
    (λ (f : is_put_off (e ∷ es) k xs ≡ false).
    let is = cond-false (is_put_off (e ∷ es) k xs) k ((k + 1) % length (e ∷ es)) f in
    let under = mod_below (k + 1) (length (e ∷ es)) some in
    omega (arith, is, under))
    (cases_Bool (is_put_off (e ∷ es) k xs))

pub best_low : (c : Bool) (ms : List ℕ) (k : ℕ) (xs : List Item) → edge_priority ms k xs + off c < other c + 1
best_low c ms k xs = let low = edge_low ms k xs in let is = other_off c in omega (arith, low, is)

module _ (B : Board) (first : Item) (b : Bool) (l : Lasso) (is_path : IsPath B.m l)
    (given : QuantifiersAreDecided B.m l first.formula) (choice : ℕ → ℕ)
    (is_strategy : IsStrategyOf (game B) (opponent (player_of b)) choice)
    (none_lost : NoneLost B first b) (constant_lost : ConstantLost B b) where
  abbrev foe : Player
  foe = opponent (player_of b)

  abbrev From : ℕ → Type 0
  From v = WinsFrom (game B) foe choice v

  abbrev Walk : ℕ → ℕ → ℕ → Type 0
  Walk v k w = FollowedWalk (game B) foe choice v k w

  wins : (v : ℕ) → From v → Wins (game B) foe v
  wins v from = record { strategy = choice; is_strategy = is_strategy; wins = from }

  state_low : (p : ℕ) → IsPlace l p → entry l p < (B.m).states
  state_low p place = path_states B.m l B.is_structure is_path p place

  -- ---- at one place

  module _ (p : ℕ) (place : IsPlace l p) where
    abbrev s : ℕ
    s = entry l p

    -- the first way is taken wherever it is asked
    pub record Good (x : Item) (ys : List Item) : Type 0 where
      pub say : (y : Item) → IsMember y ys → Says B.m l y p
      pub rule : (zs ws : List Item) → row x ≡ Either zs ws → AllSay B.m l (Asks B.m l x) zs p → ys ≡ zs

    pub record Inv (xs : List Item) (n : ℕ) : Type 0 where
      pub says : (y : Item) → IsMember y xs → Says B.m l y p
      pub from : From (at B s n)

    step : Steps first b B foe choice is_strategy Good s (state_low p place) Inv
    step xs k a of inv x is = by_row (row x) refl
      where
        found : IsMember x xs × (is_open x ≡ true)
        found = some_open xs x is

        is_now : x.later ≡ false
        is_now = (open_now x found.1).0

        asked : Asks B.m l x p
        asked =
            subst (λ t. by_time t (Asks B.m l x p) (Asks B.m l x (next_place l p))) is_now (inv.says x found.0)

        said : (r : Row) → row x ≡ r → SaysBy B.m l (Asks B.m l x) x r p
        said r e =
            subst (λ q. SaysBy B.m l (Asks B.m l x) x q p) e
            ((rows_say_the_same B.m l x p place (decided_of B.m l first x given (of x found.0))).0 asked)

        -- what is said after the step
        later_says : (ys : List Item)
            → ((y : Item) → IsMember y ys → Says B.m l y p)
            → (y : Item)
            → IsMember y (put_all ys (without x xs))
            → Says B.m l y p
        later_says ys say y m =
            ⊎_elim (λ (i : IsMember y ys). say y i)
            (λ (i : IsMember y (without x xs)). inv.says y (without-member y x xs i))
            (put_all-member y ys (without x xs) m)

        stepped : (ys : List Item)
            → Takes (row x) ys
            → ((y : Item) → IsMember y ys → Says B.m l y p)
            → ((zs ws : List Item) → row x ≡ Either zs ws → AllSay B.m l (Asks B.m l x) zs p → ys ≡ zs)
            → (to : Known B (block.after first b xs k x ys))
            → Goes B foe choice is_strategy (at B s a.number) (at B s to.number)
            → Stepped first b B foe choice is_strategy Good s (state_low p place) Inv xs k x a.number
        stepped ys takes say rule to goes = record {
          ways = ys;
          takes = takes;
          good = record { say = say; rule = rule };
          to = to;
          goes = goes;
          inv = record {
            says = later_says ys say;
            from = won_behind (game B) foe choice (at B s a.number) (at B s to.number) goes inv.from;
          };
        }

        by_row : (r : Row)
            → row x ≡ r
            → Stepped first b B foe choice is_strategy Good s (state_low p place) Inv xs k x a.number
        by_row OfState e = go (own_branch B foe choice is_strategy s a.number (vertex_is B s (state_low p place) a) _ _ c)
          where
            c : Branches B foe s a.number (Holding x.number x.formula (beq x.positive b)) (block.after first b xs k x [])
            c = of_state first b B s xs k x is a e

            go : Goes B foe choice is_strategy (at B s a.number) (at B s (c.left).number)
                ⊎ Goes B foe choice is_strategy (at B s a.number) (at B s (c.right).number)
                → Stepped first b B foe choice is_strategy Good s (state_low p place) Inv xs k x a.number
            go (inl goes) =
                absurd (none_lost s (state_low p place) x (of x found.0) e (said OfState e) c.left
                (wins (at B s (c.left).number)
                (won_behind (game B) foe choice (at B s a.number) (at B s (c.left).number) goes inv.from)))
            go (inr goes) =
                stepped [] (subst (λ r. Takes r []) (sym e) refl) (λ y none. absurd none)
                (λ zs ws other. absurd (let wrong = sym e ∙ other in cc)) c.right goes
        by_row Waits e = absurd (false≢true (sym (open_now x found.1).1 ∙ ap is_wait e))
        by_row (Becomes ys) e =
            go (own_branch B foe choice is_strategy s a.number (vertex_is B s (state_low p place) a) _ _ c)
          where
            c : Branches B foe s a.number (block.after first b xs k x ys) (block.after first b xs k x ys)
            c = becomes first b B s xs k x is a ys e

            takes : Takes (row x) ys
            takes = subst (λ r. Takes r ys) (sym e) refl

            to : (h : Known B (block.after first b xs k x ys))
                → Goes B foe choice is_strategy (at B s a.number) (at B s h.number)
                → Stepped first b B foe choice is_strategy Good s (state_low p place) Inv xs k x a.number
            to h goes =
                stepped ys takes (ways_say B.m l x ys p takes (said (Becomes ys) e))
                (λ zs ws other. absurd (let wrong = sym e ∙ other in cc)) h goes

            go : Goes B foe choice is_strategy (at B s a.number) (at B s (c.left).number)
                ⊎ Goes B foe choice is_strategy (at B s a.number) (at B s (c.right).number)
                → Stepped first b B foe choice is_strategy Good s (state_low p place) Inv xs k x a.number
            go (inl goes) = to c.left goes
            go (inr goes) = to c.right goes
        by_row (Either ys zs) e =
            go (decided_say B.m l first x ys p given (of x found.0)
            (taken_of first x ys (of x found.0) is_now takes_first) place)
          where
            takes_first : Takes (row x) ys
            takes_first = subst (λ r. Takes r ys) (sym e) (inl refl)

            takes_second : Takes (row x) zs
            takes_second = subst (λ r. Takes r zs) (sym e) (inr refl)

            c : Branches B (opponent foe) s a.number (block.after first b xs k x ys) (block.after first b xs k x zs)
            c =
                subst
                (λ q. Branches B q s a.number (block.after first b xs k x ys) (block.after first b xs k x zs))
                (sym (opponent-opponent (player_of b))) (either first b B s xs k x is a ys zs e)

            same_first : (us ws : List Item) → row x ≡ Either us ws → ys ≡ us
            same_first us ws other = let both : Either ys zs ≡ Either us ws = sym e ∙ other in cc

            go : IsDecided (AllSay B.m l (Asks B.m l x) ys p)
                → Stepped first b B foe choice is_strategy Good s (state_low p place) Inv xs k x a.number
            go (inl all) =
                stepped ys takes_first (ways_say B.m l x ys p takes_first all)
                (λ us ws other said. same_first us ws other) c.left
                (other_left B foe choice is_strategy s a.number (vertex_is B s (state_low p place) a) _ _ c)
            go (inr none) =
                stepped zs takes_second
                (ways_say B.m l x zs p takes_second
                (⊎_elim (λ (all : AllSay B.m l (Asks B.m l x) ys p). absurd (none all))
                (λ (all : AllSay B.m l (Asks B.m l x) zs p). all) (said (Either ys zs) e)))
                (λ us ws other said. absurd (none
                (subst (λ vs. AllSay B.m l (Asks B.m l x) vs p) (sym (same_first us ws other)) said))) c.right
                (other_right B foe choice is_strategy s a.number (vertex_is B s (state_low p place) a) _ _ c)

  -- ---- from place to place

  pub record Situation : Type 0 where
    pub p : ℕ
    pub place : IsPlace l p
    pub xs : List Item
    pub k : ℕ
    pub a : Known B (path first b xs k)
    pub of : Of first xs
    pub all_now : AreNow xs
    pub asks : (y : Item) → IsMember y xs → Asks B.m l y p
    pub from : From (at B (entry l p) a.number)
    pub low : 0 < length (eventualities first) → k < length (eventualities first)

  abbrev pub vertex : Situation → ℕ
  vertex x = at B (entry l x.p) (x.a).number

  abbrev priority : Situation → List Item → ℕ
  priority x left = edge_priority (eventualities first) x.k left

  pub record BigStep (x : Situation) : Type 0 where
    pub to : Situation
    pub left : List Item
    pub run : LocalRun (Good x.p x.place) x.xs left
    pub settled : first_open left ≡ None
    pub walk : Walk (vertex x) (priority x left + off b) (vertex to)
    pub says : (y : Item) → IsMember y left → Says B.m l y x.p
    pub p_is : to.p ≡ next_place l x.p
    pub xs_is : to.xs ≡ next_items left
    pub k_is : to.k ≡ focus_behind (eventualities first) x.k left

  -- what is left asks of the next place
  asks_next : (p : ℕ) (place : IsPlace l p) (y : Item)
      → IsOf first y
      → is_open y ≡ false
      → Says B.m l y p
      → Asks B.m l (next_of y) (next_place l p)
  asks_next p place y of shut says = by_time_of (waiting y shut)
    where
      by_time_of : (y.later ≡ true) ⊎ ((y.later ≡ false) × (row y ≡ Waits)) → Asks B.m l (next_of y) (next_place l p)
      by_time_of (inl later) =
          subst (λ z. Asks B.m l z (next_place l p)) (sym (next_later y later))
          (subst (λ t. by_time t (Asks B.m l y p) (Asks B.m l y (next_place l p))) later says)
      by_time_of (inr (now, waits)) =
          let asked : Asks B.m l y p =
          subst (λ t. by_time t (Asks B.m l y p) (Asks B.m l y (next_place l p))) now says in
          let said = (rows_say_the_same B.m l y p place (decided_of B.m l first y given of)).0 asked in
          subst (λ z. Asks B.m l z (next_place l p)) (sym (next_waits y now))
          (subst (λ r. SaysBy B.m l (Asks B.m l y) y r p) waits said)

  advance : (x : Situation) → BigStep x
  advance x = go r.left refl
    where
      n : ℕ
      n = (x.a).number

      says_at : (y : Item) → IsMember y x.xs → Says B.m l y x.p
      says_at y i =
          subst (λ t. by_time t (Asks B.m l y x.p) (Asks B.m l y (next_place l x.p))) (sym (x.all_now y i)) (x.asks y i)

      r : Settled first b B foe choice is_strategy (Good x.p x.place) (entry l x.p) (state_low x.p x.place)
          (Inv x.p x.place) x.xs x.k n
      r =
          settle first b B foe choice is_strategy (Good x.p x.place) (entry l x.p) (state_low x.p x.place) (Inv x.p x.place)
          (step x.p x.place) (suc (load x.xs)) x.xs x.k x.a (omega arith) x.of
          (record { says = says_at; from = x.from })

      shut : first_open r.left ≡ None
      shut = left_settled first (Good x.p x.place) x.xs r.left r.run

      left_of_first : Of first r.left
      left_of_first = left_of first (Good x.p x.place) x.xs r.left x.of r.run

      next_of_all : (y : Item) → IsMember y r.left → IsOf first (next_of y)
      next_of_all y i = next_of_of first y (left_of_first y i) (none_open r.left shut y i)

      step_on : has_step B.m (entry l x.p) (entry l (next_place l x.p)) ≡ true
      step_on = path_step B.m l is_path x.p x.place

      along : (y : Item) → IsMember y r.left → BigStep x
      along y member = made edge_to
        where
          k2 : ℕ
          k2 = focus_behind (eventualities first) x.k r.left

          edge_to : Edges B (opponent foe) (entry l x.p) (r.to).number (path first b (next_items r.left) k2)
          edge_to =
              subst (λ q. Edges B q (entry l x.p) (r.to).number (path first b (next_items r.left) k2))
              (sym (opponent-opponent (player_of b)))
              (edges B b (path first b (next_items r.left) k2) (entry l x.p) r.to
              (edge_form_of first b r.left x.k y member shut))

          next_asks : (v : Item) → IsMember v (next_items r.left) → Asks B.m l v (next_place l x.p)
          next_asks v i =
              let found = next_items-member v r.left i in
              subst (λ z. Asks B.m l z (next_place l x.p)) (sym found.2)
              (asks_next x.p x.place found.0 (left_of_first found.0 found.1) (none_open r.left shut found.0 found.1)
              ((r.inv).says found.0 found.1))

          made : Edges B (opponent foe) (entry l x.p) (r.to).number (path first b (next_items r.left) k2) → BigStep x
          made c =
              let goes =
              other_edge B foe choice is_strategy (entry l x.p) (r.to).number
              (vertex_is B (entry l x.p) (state_low x.p x.place) r.to) _ c (entry l (next_place l x.p)) step_on in
              record {
                to = record {
                  p = next_place l x.p;
                  place = next_is_place l x.p x.place;
                  xs = next_items r.left;
                  k = k2;
                  a = c.to;
                  of = next_items-all_of (IsOf first) (same_key first) r.left next_of_all;
                  all_now = next_items_now r.left (none_open r.left shut);
                  asks = next_asks;
                  from = won_behind (game B) foe choice (at B (entry l x.p) (r.to).number) _ goes (r.inv).from;
                  low = focus_low (eventualities first) x.k r.left x.low;
                };
                left = r.left;
                run = r.run;
                settled = shut;
                walk =
                    way_walk B foe choice is_strategy (other b) (priority x r.left + off b) (at B (entry l x.p) n)
                    (at B (entry l x.p) (r.to).number) _ r.way
                    (move_walk B foe choice is_strategy (priority x r.left + off b) (at B (entry l x.p) (r.to).number) _
                    (priority_at_place B (entry l x.p) (state_low x.p x.place) r.to
                    ∙ edge_priority_of first b r.left x.k y member shut) goes)
                    (best_low b (eventualities first) x.k r.left);
                says = (r.inv).says;
                p_is = refl;
                xs_is = refl;
                k_is = refl;
              }

      go : (zs : List Item) → r.left ≡ zs → BigStep x
      go [] e =
          absurd (constant_lost (entry l x.p) (state_low x.p x.place)
          (record { number = (r.to).number; is = (r.to).is ∙ ap (λ zs. Some (path first b zs x.k)) e })
          (wins (at B (entry l x.p) (r.to).number) (r.inv).from))
      go (y ∷ ys) e = along y (subst (IsMember y) (sym e) (inl refl))

  -- ---- until the focus moves on

  abbrev Known_lowest : ℕ → ℕ → ℕ → Type 0
  Known_lowest v k w = k ≡ off b

  abbrev Next : Situation → Type 0
  Next x = Onward (game B) foe choice Known_lowest Situation vertex x

  abbrev Bad : (x : Situation) → List Item → Type 0
  Bad x left =
      OnFocus (eventualities first) x.k left × (priority x left ≡ 1) × (focus_behind (eventualities first) x.k left ≡ x.k)

  good_step : (x : Situation) (t : BigStep x) → priority x t.left ≡ 0 → Next x
  good_step x t good = record {
    to = t.to;
    stretch = record { lowest = priority x t.left + off b; way = t.walk; known = omega (arith, good) };
  }

  then_on : (x : Situation) (t : BigStep x) → priority x t.left ≡ 1 → Next t.to → Next x
  then_on x t bad n =
      let known = (n.stretch).known in
      record {
        to = n.to;
        stretch = record {
          lowest = min (priority x t.left + off b) (n.stretch).lowest;
          way =
              walks_joined (game B) foe choice (vertex x) (priority x t.left + off b) (vertex t.to) (n.stretch).lowest
              (vertex n.to) t.walk (n.stretch).way;
          known = omega (arith, bad, known);
        };
      }

  left_is_of : (x : Situation) (t : BigStep x) → Of first t.left
  left_is_of x t = left_of first (Good x.p x.place) x.xs t.left x.of t.run

  -- the eventuality in focus stands in the next block
  next_has : (x : Situation) (t : BigStep x) (o : OnFocus (eventualities first) x.k t.left)
      → IsMember (due o.item) (t.to).xs
  next_has x t o =
      subst (IsMember (due o.item)) (sym t.xs_is)
      (subst (λ z. IsMember z (next_items t.left)) (next_later o.item o.later)
      (next_items-has (IsOf first) (same_key first) t.left
      (λ y i. next_of_of first y (left_is_of x t y i) (none_open t.left t.settled y i)) o.item o.member))

  in_focus_still : (x : Situation) (t : BigStep x) (v : Item)
      → IsMember v x.xs
      → key v ≡ get_or (eventualities first) x.k 0
      → (o : OnFocus (eventualities first) x.k t.left)
      → due o.item ≡ v
  in_focus_still x t v member in_focus o =
      same_key first (due o.item) v (left_is_of x t o.item o.member) (x.of v member) (o.in_focus ∙ sym in_focus)

  -- what took its first way isn't put off
  not_put_off : (x : Situation) (t : BigStep x) (v : Item)
      → IsMember v x.xs
      → (w : TwoWays B.m l v)
      → key v ≡ get_or (eventualities first) x.k 0
      → AllSay B.m l (Asks B.m l v) w.first x.p
      → OnFocus (eventualities first) x.k t.left
      → ⊥
  not_put_off x t v member w in_focus there o =
      ⊎_elim (λ (i : IsMember o.item x.xs). false≢true (sym (x.all_now o.item i) ∙ o.later)) put
      (later_origin first (Good x.p x.place) x.xs t.left x.of t.run o.item o.member)
    where
      put : PutOffBy first (Good x.p x.place) o.item → ⊥
      put q = by_part (ways_parts (q.by).number (q.by).formula (q.by).positive (q.by).later q.ways q.takes o.item q.member)
        where
          by_part : Part (q.by).formula q.by o.item → ⊥
          by_part (inl now) = false≢true (sym now.0 ∙ o.later)
          by_part (inr e) =
              let same : q.by ≡ v =
              sym (due_now q.by q.is_now) ∙ sym (ap due e) ∙ in_focus_still x t v member in_focus o in
              let first_way : q.ways ≡ w.first =
              (q.good).rule w.first w.second (ap row same ∙ w.is_row)
              (subst (λ z. AllSay B.m l (Asks B.m l z) w.first x.p) (sym same) there) in
              false≢true (sym (w.all_now o.item (subst (IsMember o.item) first_way q.member)) ∙ o.later)

  onward_by : (r : ℕ) (x : Situation) (v : Item)
      → IsMember v x.xs
      → (w : TwoWays B.m l v)
      → key v ≡ get_or (eventualities first) x.k 0
      → AllSay B.m l (Asks B.m l v) w.first (after l x.p r)
      → Next x
  onward_by zero x v member w in_focus there = by_edge (edge_cases (eventualities first) x.k t.left)
    where
      t : BigStep x
      t = advance x

      by_edge : (priority x t.left ≡ 0) ⊎ Bad x t.left → Next x
      by_edge (inl good) = good_step x t good
      by_edge (inr bad) = absurd (not_put_off x t v member w in_focus there bad.0)
  onward_by (suc r) x v member w in_focus there =
      by_edge (onward_by r) (edge_cases (eventualities first) x.k t.left)
    where
      t : BigStep x
      t = advance x

      by_edge : ((y : Situation) (u : Item)
          → IsMember u y.xs
          → (z : TwoWays B.m l u)
          → key u ≡ get_or (eventualities first) y.k 0
          → AllSay B.m l (Asks B.m l u) z.first (after l y.p r)
          → Next y)
          → (priority x t.left ≡ 0) ⊎ Bad x t.left
          → Next x
      by_edge rest (inl good) = good_step x t good
      by_edge rest (inr bad) =
          let same_k : (t.to).k ≡ x.k = t.k_is ∙ bad.2 in
          then_on x t bad.1
          (rest t.to v (subst (λ z. IsMember z (t.to).xs) (in_focus_still x t v member in_focus bad.0)
          (next_has x t bad.0)) w
          (in_focus ∙ ap (λ k. get_or (eventualities first) k 0) (sym same_k))
          (subst (AllSay B.m l (Asks B.m l v) w.first)
          (sym (ap (λ p. after l p r) t.p_is ∙ walk-shift (next_place l) x.p r)) there))

  same_first : (us vs ws zs : List Item) → Either us vs ≡ Either ws zs → us ≡ ws
  same_first us vs ws zs e = cc

  onward : (x : Situation) → Next x
  onward x = by_edge (edge_cases (eventualities first) x.k t.left)
    where
      t : BigStep x
      t = advance x

      by_edge : (priority x t.left ≡ 0) ⊎ Bad x t.left → Next x
      by_edge (inl good) = good_step x t good
      by_edge (inr (o, bad, stays)) =
          let v : Item = due o.item in
          let member = next_has x t o in
          let of = left_is_of x t o.item o.member in
          let least = focus_is_least first o.item x.k of (x.low o.some) o.in_focus in
          let w = two_ways B.m l v.number v.formula v.positive v.later least in
          let c =
          eventualities_come_true B.m l v (t.to).p (t.to).place (decided_of B.m l first v given of) least
          ((t.to).asks v member) in
          let same_k : (t.to).k ≡ x.k = t.k_is ∙ stays in
          then_on x t bad
          (onward_by c.steps t.to v member w (o.in_focus ∙ ap (λ k. get_or (eventualities first) k 0) (sym same_k))
          (subst (λ zs. AllSay B.m l (Asks B.m l v) zs (after l (t.to).p c.steps))
          (same_first c.first c.second w.first w.second (sym c.is_row ∙ w.is_row)) c.there))

  pub never_lost : Situation → ⊥
  never_lost x =
      never_for_ever (game B) foe choice Known_lowest Situation vertex
      (λ y. vertex_low B.g B.m B.is_graph B.is_structure (Pair (entry l y.p) (y.a).number)
      (vertex_is B (entry l y.p) (state_low y.p y.place) y.a))
      (λ v j w k y first_known known. omega (arith, first_known, known))
      (λ v k known. ap side known ∙ off_best b)
      onward x x.from
