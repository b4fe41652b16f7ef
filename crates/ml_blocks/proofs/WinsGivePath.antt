-- Where the player who looks for a path wins a block, some path satisfies all its items.
--
-- The walk along the strategy comes to an entry twice; its states until then are a lasso. By induction on the size of
-- formulas, each item that comes up at a place is asked there truly: an item that is no eventuality since it comes up again
-- for as long as it is put off, and an eventuality since it isn't put off for ever: else it would be put off all round the
-- loop, the focus would stay, and the opponent would win the loop.
--
--   loop_path       == the lasso is a path
--   true_items      == what comes up at a place is true there
--   path_from_win   == the law
use Rattle.std.proofs.Common.{ℕ, zero, suc, ◌≡◌, ◌+◌, ◌-◌, ◌<◌, ◌≤◌, ◌⊎◌, min, inl, inr, arith, true, false, Bool, List, length, ltb, refl, sym, ap, subst, ◌∙◌, ⊎_elim}
use Rattle.std.proofs.lemmas.Bool.{cases_Bool, cases_lt, cond-true, cond-false, false≢true, ltb-true, ltb-false}
use Rattle.ml_lists.specs.Lasso.{Lasso, entry, next_place}
use Rattle.ml_lists.specs.Member.{IsMember}
use Rattle.ml_lists.specs.Pigeons.{Twice}
use Rattle.ml_lists.proofs.Lasso.{lasso_of, lasso_of-length, lasso_of-entry, lasso_of_is}
use Rattle.ml_lists.proofs.Member.{Place, member-place}
use Rattle.ml_lists.proofs.Walks.{walk-add-one}
use Rattle.ml_parity.specs.Player.{opponent, side}
use Rattle.ml_parity.specs.Game as parity
use Rattle.ml_parity.specs.Winner.{IsStrategyOf}
use Rattle.ml_parity.proofs.FollowedWalks.{walks_joined, closed_walk_good}
use Rattle.ml_parity.proofs.Opponents.{not_both}
use Rattle.ml_ctl.specs.Formula.{occurrences}
use Rattle.ml_ctl.specs.Meaning.{Property, Everywhere, iterate_of, HoldsAt}
use Rattle.ml_ctl.specs.Paths.{IsPath, IsPathFrom, places, has_step}
use Rattle.ml_ctl.specs.Unrolled.{IsPlace, after}
use Rattle.ml_ctl.proofs.PlaceWalks.{walk-shift}
use Rattle.ml_lists.proofs.Walks.{walk-sum}
use Rattle.ml_blocks.specs.Items.{Item, Row, OfState, Waits, Becomes, Either, row, put_off, behind_next, is_least}
use Rattle.ml_blocks.specs.ItemSets.{key, due, next_of, next_items, eventualities}
use Rattle.ml_blocks.specs.Laws.{Asks, AllSay, SaysBy, RowSays, by_time, signed, QuantifiersAreDecided}
use Rattle.ml_blocks.specs.Places.{is_open, focus_behind}
use Rattle.ml_blocks.proofs.BlockSteps.{off}
use Rattle.ml_blocks.proofs.BlockWalks.{AllWon, Entry, BigStep, Good, Same, advance, entry_at, vertex, priority, same_vertex, twice, Walk}
use Rattle.ml_blocks.proofs.ComingTrue.{TwoWays, two_ways}
use Rattle.ml_blocks.proofs.FocusRanks.{rank, Fell, rank_falls}
use Rattle.ml_blocks.proofs.ItemSetMembers.{next_items-has}
use Rattle.ml_blocks.proofs.ItemsFollow.{is_eventuality}
use Rattle.ml_blocks.proofs.ItemsWithin.{IsOf, same_key}
use Rattle.ml_blocks.proofs.LocalRuns.{Takes, Seen, Of, left_of, none_open, next_of_of, waiting, seen_first, seen_waits, seen_of, Decomposed, decomposed}
use Rattle.ml_blocks.proofs.PlaceVertices.{Board, game, player_of}
use Rattle.ml_blocks.proofs.RowShapes.{Part, ways_parts, behind_parts, next_waits}
use Rattle.ml_blocks.proofs.RowsOfItems.{rows_say_the_same, others_are_greatest, due_now}
use Rattle.ml_blocks.proofs.SaidItems.{all_say, decided_of}

off_worst : (b : Bool) → side (1 + off b) ≡ opponent (player_of b)
off_worst true = refl
off_worst false = refl

module _ (B : Board) (first : Item) (b : Bool) (choice : ℕ → ℕ)
    (is_strategy : IsStrategyOf (game B) (player_of b) choice) (all_won : AllWon B first b)
    (given : (l : Lasso) → IsPath B.m l → QuantifiersAreDecided B.m l first.formula)
    (e0 : Entry B first b choice is_strategy all_won) where
  abbrev EntryOf : Type 0
  EntryOf = Entry B first b choice is_strategy all_won

  abbrev E : ℕ → EntryOf
  E k = entry_at B first b choice is_strategy all_won e0 k

  abbrev T : (k : ℕ) → BigStep B first b choice is_strategy all_won (E k)
  T k = advance B first b choice is_strategy all_won (E k)

  abbrev again : Twice (λ k. vertex B first b choice is_strategy all_won (E k)) (parity.size (game B))
  again = twice B first b choice is_strategy all_won e0

  abbrev i : ℕ
  i = again.first

  abbrev j : ℕ
  j = again.second

  abbrev state : ℕ → ℕ
  state k = (E k).s

  abbrev l : Lasso
  l = lasso_of state i j

  apart : i < j
  apart = again.apart

  same : Same B first b choice is_strategy all_won (E i) (E j)
  same = same_vertex B first b choice is_strategy all_won (E i) (E j) again.same

  pub loop_path : IsPath B.m l
  loop_path =
      lasso_of_is (λ s t. has_step B.m s t ≡ true) state i j apart same.state
      (λ k low. subst (λ e. has_step B.m (E k).s (Entry.s e) ≡ true)
      (sym (walk-add-one (λ y. (advance B first b choice is_strategy all_won y).to) e0 k)) (T k).goes)

  many : places l ≡ j
  many = lasso_of-length state i j

  place_of : (k : ℕ) → k < j → IsPlace l k
  place_of k low = let is = many in let less = apart in (omega (arith, is, less), omega (arith, is, low))

  next_in : (k : ℕ) → suc k < j → next_place l k ≡ suc k
  next_in k room = by_test (cases_Bool (ltb (suc k) (length l.entries)))
    where
      by_test : (ltb (suc k) (length l.entries) ≡ true) ⊎ (ltb (suc k) (length l.entries) ≡ false)
          → next_place l k ≡ suc k
      by_test (inl t) = cond-true (ltb (suc k) (length l.entries)) (suc k) i t
      by_test (inr f) =
          let past = ltb-false (suc k) (length l.entries) f in
          let is = many in absurd (omega (arith, past, is, room))

  next_round : (k : ℕ) → suc k ≡ j → next_place l k ≡ i
  next_round k full = by_test (cases_Bool (ltb (suc k) (length l.entries)))
    where
      by_test : (ltb (suc k) (length l.entries) ≡ true) ⊎ (ltb (suc k) (length l.entries) ≡ false) → next_place l k ≡ i
      by_test (inl t) =
          let under = ltb-true (suc k) (length l.entries) t in
          let is = many in absurd (omega (arith, under, is, full))
      by_test (inr f) = cond-false (ltb (suc k) (length l.entries)) (suc k) i f

  next_low : (k : ℕ) → k < j → next_place l k < j
  next_low k low =
      ⊎_elim (λ (room : suc k < j). let is = next_in k room in omega (arith, is, room))
      (λ (full : j ≤ suc k). let is = next_round k (omega (arith, full, low)) in let less = apart in omega
      (arith, is, less))
      (cases_lt (suc k) j)

  next_xs : (k : ℕ) → k < j → (E (next_place l k)).xs ≡ next_items (T k).left
  next_xs k low =
      ⊎_elim (λ (room : suc k < j). ap (λ n. (E n).xs) (next_in k room) ∙ (T k).xs_is)
      (λ (full : j ≤ suc k).
      let last : suc k ≡ j = omega (arith, full, low) in
      ap (λ n. (E n).xs) (next_round k last) ∙ same.items ∙ ap (λ n. (E n).xs) (sym last) ∙ (T k).xs_is)
      (cases_lt (suc k) j)

  -- ---- what comes up

  abbrev GoodAt : ℕ → Item → List Item → Type 0
  GoodAt k = Good B first b choice is_strategy all_won (E k).s (E k).low

  abbrev Up : ℕ → Item → Type 0
  Up k v = Seen (T k).run v

  left_is_of : (k : ℕ) → Of first (T k).left
  left_is_of k = left_of first (GoodAt k) (E k).xs (T k).left (E k).of (T k).run

  up_is_of : (k : ℕ) (v : Item) → Up k v → IsOf first v
  up_is_of k v up = seen_of first (GoodAt k) (E k).xs (T k).left (E k).of (T k).run v up

  next_up : (k : ℕ) → k < j → (y : Item) → IsMember y (T k).left → Up (next_place l k) (next_of y)
  next_up k low y m =
      let n = next_place l k in
      seen_first first (GoodAt n) (E n).xs (T n).left (T n).run (next_of y)
      (subst (IsMember (next_of y)) (sym (next_xs k low))
      (next_items-has (IsOf first) (same_key first) (T k).left
      (λ z c. next_of_of first z (left_is_of k z c) (none_open (T k).left (T k).settled z c)) y m))

  left_put : (k : ℕ) (v : Item) → Up k (put_off v) → IsMember (put_off v) (T k).left
  left_put k v up = seen_waits first (GoodAt k) (E k).xs (T k).left (E k).of (T k).run (put_off v) refl up

  up_again : (k : ℕ) → k < j → (v : Item) → v.later ≡ false → IsMember (put_off v) (T k).left → Up (next_place l k) v
  up_again k low v now m = subst (Up (next_place l k)) (due_now v now) (next_up k low (put_off v) m)

  becomes : (k : ℕ) (v : Item)
      → is_open v ≡ true
      → (up : Up k v)
      → Decomposed first (GoodAt k) (E k).xs (T k).left (T k).run v
  becomes k v opens up = decomposed first (GoodAt k) (E k).xs (T k).left (E k).of (T k).run v opens up

  entry_is : (k : ℕ) → k < j → entry l k ≡ (E k).s
  entry_is k low = lasso_of-entry state i j k low

  said_by : (P : Property) (v : Item) (k : ℕ)
      → k < j
      → (ys : List Item)
      → GoodAt k v ys
      → AllSay B.m l P ys k
      → (r : Row)
      → row v ≡ r
      → Takes r ys
      → SaysBy B.m l P v r k
  said_by P v k low ys good all OfState e takes =
      subst (λ s. signed v.positive (HoldsAt B.m v.formula s)) (sym (entry_is k low)) (good e)
  said_by P v k low ys good all Waits e none = absurd none
  said_by P v k low ys good all (Becomes zs) e takes = subst (λ us. AllSay B.m l P us k) takes all
  said_by P v k low ys good all (Either zs ws) e (inl takes) = inl (subst (λ us. AllSay B.m l P us k) takes all)
  said_by P v k low ys good all (Either zs ws) e (inr takes) = inr (subst (λ us. AllSay B.m l P us k) takes all)

  decides : (k : ℕ) (v : Item) → Up k v → QuantifiersAreDecided B.m l v.formula
  decides k v up = decided_of B.m l first v (given l loop_path) (up_is_of k v up)

  abbrev Claim : ℕ → Type 0
  Claim n = (k : ℕ) → k < j → (v : Item) → Up k v → v.later ≡ false → occurrences v.formula < n → Asks B.m l v k

  -- what a way says, where P is asked of the next place if v is put off
  way_says : (n : ℕ) → Claim n → (P : Property) (v : Item) (k : ℕ)
      → k < j
      → occurrences v.formula < suc n
      → (ys : List Item)
      → Takes (row v) ys
      → ((y : Item) → IsMember y ys → Up k y)
      → (Up k (put_off v) → P (next_place l k))
      → AllSay B.m l P ys k
  way_says n claim P v k low small ys takes come_up put =
      all_say B.m l P ys k (λ y m. from y m (ways_parts v.number v.formula v.positive v.later ys takes y m))
    where
      from : (y : Item) → IsMember y ys → Part v.formula v y → by_time y.later (Asks B.m l y k) (P (next_place l k))
      from y m (inl part) =
          subst (λ t. by_time t (Asks B.m l y k) (P (next_place l k))) (sym part.0)
          (let less = part.1 in claim k low y (come_up y m) part.0 (omega (arith, less, small)))
      from y m (inr e) =
          subst (λ z. by_time z.later (Asks B.m l z k) (P (next_place l k))) (sym e)
          (put (subst (Up k) e (come_up y m)))

  module _ (n : ℕ) (claim : Claim n) (v : Item) (now : v.later ≡ false) (small : occurrences v.formula < suc n)
      (opens : is_open v ≡ true) where
    abbrev step : Property → Property
    step P = RowSays B.m l P v

    -- ---- no eventuality

    great : (r k : ℕ) → k < j → Up k v → iterate_of r step Everywhere k
    great zero k low up = tt
    great (suc r) k low up =
        let d = becomes k v opens up in
        said_by (iterate_of r step Everywhere) v k low d.ways d.good
        (way_says n claim (iterate_of r step Everywhere) v k low small d.ways d.takes d.come_up
        (λ put. great r (next_place l k) (next_low k low) (up_again k low v now (left_put k v put)))) (row v) refl d.takes

    -- ---- an eventuality

    abbrev PutOffAt : ℕ → Type 0
    PutOffAt k = (k < j) × IsMember (put_off v) (T k).left

    abbrev PutOffFor : ℕ → ℕ → Type 0
    PutOffFor r k = (h : ℕ) → h < r → PutOffAt (after l k h)

    module _ (w : TwoWays B.m l v) where
      asked_by : (k : ℕ) → k < j → Up k v → SaysBy B.m l (Asks B.m l v) v (Either w.first w.second) k → Asks B.m l v k
      asked_by k low up said =
          (rows_say_the_same B.m l v k (place_of k low) (decides k v up)).1
          (subst (λ r. SaysBy B.m l (Asks B.m l v) v r k) (sym w.is_row) said)

      one_later : (r k : ℕ) → PutOffAt k → PutOffFor r (next_place l k) → PutOffFor (suc r) k
      one_later r k here rest zero under = here
      one_later r k here rest (suc h) under = subst PutOffAt (walk-shift (next_place l) k h) (rest h (omega (arith, under)))

      true_or_put_off : (r k : ℕ) → k < j → Up k v → Asks B.m l v k ⊎ PutOffFor r k
      true_or_put_off zero k low up = inr (λ h under. absurd (omega (arith, under)))
      true_or_put_off (suc r) k low up =
          by_way (subst (λ q. Takes q d.ways) w.is_row d.takes)
          (λ below behind. true_or_put_off r (next_place l k) below behind)
        where
          d : Decomposed first (GoodAt k) (E k).xs (T k).left (T k).run v
          d = becomes k v opens up

          comes : (ys : List Item) → d.ways ≡ ys → (y : Item) → IsMember y ys → Up k y
          comes ys e y m = d.come_up y (subst (IsMember y) (sym e) m)

          takes_as : (ys : List Item) → d.ways ≡ ys → Takes (row v) ys
          takes_as ys e = subst (Takes (row v)) e d.takes

          by_way : (d.ways ≡ w.first) ⊎ (d.ways ≡ w.second)
              → (next_place l k < j → Up (next_place l k) v → Asks B.m l v (next_place l k) ⊎ PutOffFor r (next_place l k))
              → Asks B.m l v k ⊎ PutOffFor (suc r) k
          by_way (inl e) rest =
              inl (asked_by k low up
              (inl (w.here_alone Everywhere (Asks B.m l v) k
              (way_says n claim Everywhere v k low small w.first (takes_as w.first e) (comes w.first e) (λ put. tt)))))
          by_way (inr e) rest =
              let put : IsMember (put_off v) (T k).left = left_put k v (comes w.second e (put_off v) w.put) in
              ⊎_elim
              (λ (asked : Asks B.m l v (next_place l k)).
              inl (asked_by k low up
              (inr (way_says n claim (Asks B.m l v) v k low small w.second (takes_as w.second e) (comes w.second e)
              (λ p. asked)))))
              (λ (ahead : PutOffFor r (next_place l k)). inr (one_later r k (low, put) ahead))
              (rest (next_low k low) (up_again k low v now put))

      -- ---- round the loop

      after_in : (k d : ℕ) → k + d < j → after l k d ≡ k + d
      after_in k zero low = omega arith
      after_in k (suc d) low =
          let before = after_in k d (omega (arith, low)) in
          ap (next_place l) before ∙ next_in (k + d) (omega (arith, low)) ∙ omega arith

      after_round : (k d : ℕ) → suc (k + d) ≡ j → after l k (suc d) ≡ i
      after_round k d full = ap (next_place l) (after_in k d (omega (arith, full))) ∙ next_round (k + d) full

      loop_put : (k : ℕ) → k < j → PutOffFor (j + j) k → (e : ℕ) → i + e < j → IsMember (put_off v) (T (i + e)).left
      loop_put k low put e under =
          let d : ℕ = j - suc k in
          let full : suc (k + d) ≡ j = omega (arith, low) in
          let there : after l k (suc d + e) ≡ i + e =
          sym (walk-sum (next_place l) k (suc d) e) ∙ ap (λ p. after l p e) (after_round k d full) ∙ after_in i e under in
          (subst PutOffAt there (put (suc d + e) (omega (arith, full, under)))).1

      abbrev ms : List ℕ
      ms = eventualities first

      abbrev V : ℕ → ℕ
      V k = vertex B first b choice is_strategy all_won (E k)

      abbrev Ranked : ℕ → ℕ → ℕ → Type 0
      Ranked e low k =
          ((low ≡ 1 + off b) × (rank (length ms) e (E k).k ≡ rank (length ms) e (E i).k))
          ⊎ (rank (length ms) e (E k).k < rank (length ms) e (E i).k)

      record Round (e k : ℕ) : Type 0 where
        pub lowest : ℕ
        pub way : Walk B first b choice is_strategy all_won (V i) lowest (V k)
        pub ranked : Ranked e lowest k

      module _ (seat : Place (key (due v)) ms) (put : (e : ℕ) → i + e < j → IsMember (put_off v) (T (i + e)).left) where
        abbrev e : ℕ
        e = seat.place

        e_low : e < length ms
        e_low = seat.below

        one_edge : (k : ℕ) → IsMember (put_off v) (T k).left → Fell ms e (E k).k (T k).left
        one_edge k m =
            let low = e_low in
            rank_falls ms e (E k).k (T k).left (put_off v) low ((E k).focus (omega (arith, low))) m refl
            (sym (seat.holds 0))

        edge_walk : (k : ℕ) → IsMember (put_off v) (T k).left
            → Walk B first b choice is_strategy all_won (V k)
            (priority B first b choice is_strategy all_won (E k) (T k).left + off b) (V (suc k))
        edge_walk k m = (T k).walk (put_off v) m

        focus_next : (k : ℕ) → IsMember (put_off v) (T k).left → (E (suc k)).k ≡ focus_behind ms (E k).k (T k).left
        focus_next k m = (T k).k_is (put_off v) m

        first_round : IsMember (put_off v) (T i).left → Round e (suc i)
        first_round m = record {
          lowest = priority B first b choice is_strategy all_won (E i) (T i).left + off b;
          way = edge_walk i m;
          ranked = from (one_edge i m);
        }
          where
            from : Fell ms e (E i).k (T i).left
                → Ranked e (priority B first b choice is_strategy all_won (E i) (T i).left + off b) (suc i)
            from (inl (bad, stays)) =
                inl (ap (λ n. n + off b) bad, ap (rank (length ms) e) (focus_next i m ∙ stays))
            from (inr falls) =
                inr (subst (λ n. rank (length ms) e n < rank (length ms) e (E i).k) (sym (focus_next i m)) falls)

        next_round_of : (k : ℕ) → IsMember (put_off v) (T k).left → Round e k → Round e (suc k)
        next_round_of k m c = record {
          lowest = min c.lowest (priority B first b choice is_strategy all_won (E k) (T k).left + off b);
          way =
              walks_joined (game B) (player_of b) choice (V i) c.lowest (V k)
              (priority B first b choice is_strategy all_won (E k) (T k).left + off b) (V (suc k)) c.way (edge_walk k m);
          ranked = from (one_edge k m) c.ranked;
        }
          where
            from : Fell ms e (E k).k (T k).left
                → Ranked e c.lowest k
                → Ranked e (min c.lowest (priority B first b choice is_strategy all_won (E k) (T k).left + off b)) (suc k)
            from (inl (bad, stays)) (inl (low, still)) =
                inl (
                  omega (arith, bad, low),
                  ap (rank (length ms) e) (focus_next k m ∙ stays) ∙ still,
                )
            from (inl (bad, stays)) (inr falls) =
                inr (subst (λ n. rank (length ms) e n < rank (length ms) e (E i).k) (sym (focus_next k m ∙ stays)) falls)
            from (inr falls) (inl (low, still)) =
                inr (subst (λ n. rank (length ms) e n < rank (length ms) e (E i).k) (sym (focus_next k m))
                (omega (arith, falls, still)))
            from (inr falls) (inr more) =
                inr (subst (λ n. rank (length ms) e n < rank (length ms) e (E i).k) (sym (focus_next k m))
                (omega (arith, falls, more)))

        rounds : (d : ℕ) → i + d < j → Round e (suc (i + d))
        rounds zero under =
            let at_i : i + 0 ≡ i = omega arith in
            subst (λ n. Round e (suc n)) (sym at_i)
            (first_round (subst (λ n. IsMember (put_off v) (T n).left) at_i (put 0 under)))
        rounds (suc d) under =
            let one_on : i + suc d ≡ suc (i + d) = omega arith in
            next_round_of (i + suc d) (put (suc d) under)
            (subst (Round e) (sym one_on) (rounds d (omega (arith, under))))

        never_round : ⊥
        never_round = from (subst (Round e) whole (rounds d (omega (arith, whole, less))))
          where
            less : i < j
            less = apart

            d : ℕ
            d = j - suc i

            whole : suc (i + d) ≡ j
            whole = omega (arith, less)

            begins : (E i).xs ≡ (E j).xs
            begins = same.items

            from : Round e j → ⊥
            from c = by_rank c.ranked
              where
                m0 : IsMember (put_off v) (T i).left
                m0 =
                    let at_i : i + 0 ≡ i = omega arith in
                    subst (λ n. IsMember (put_off v) (T n).left) at_i (put 0 (omega (arith, less)))

                k : ℕ
                k = i + d

                m_last : IsMember (put_off v) (T k).left
                m_last = put d (omega (arith, whole, less))

                some_next : IsMember (next_of (put_off v)) (E (suc k)).xs
                some_next =
                    subst (IsMember (next_of (put_off v))) (sym (T k).xs_is)
                    (next_items-has (IsOf first) (same_key first) (T k).left
                    (λ z c. next_of_of first z (left_is_of k z c) (none_open (T k).left (T k).settled z c))
                    (put_off v) m_last)

                some : (y : Item) × IsMember y (E i).xs
                some = (
                  next_of (put_off v),
                  subst (IsMember (next_of (put_off v))) (sym begins)
                      (subst (λ n. IsMember (next_of (put_off v)) (E n).xs) whole some_next),
                )

                same_focus : (E i).k ≡ (E j).k
                same_focus = same.focus some.0 some.1

                by_rank : Ranked e c.lowest j → ⊥
                by_rank (inr falls) =
                    let is : rank (length ms) e (E i).k ≡ rank (length ms) e (E j).k = ap (rank (length ms) e) same_focus in
                    omega (arith, is, falls)
                by_rank (inl (low, still)) =
                    let closed = subst (λ x. Walk B first b choice is_strategy all_won (V i) c.lowest x)
                    (sym again.same) c.way in
                    not_both (side c.lowest) (player_of b)
                    (closed_walk_good (game B) (player_of b) choice (V i) c.lowest closed ((E i).from some.0 some.1))
                    (ap side low ∙ off_worst b)

      comes_true : (k : ℕ) → k < j → Up k v → is_least v ≡ true → Asks B.m l v k
      comes_true k low up least =
          ⊎_elim (λ (asked : Asks B.m l v k). asked)
          (λ (put : PutOffFor (j + j) k).
          absurd (never_round
          (member-place (key (due v)) ms (is_eventuality first v (up_is_of k v up) least))
          (loop_put k low put)))
          (true_or_put_off (j + j) k low up)

    opened : (k : ℕ) → k < j → Up k v → Asks B.m l v k
    opened k low up =
        ⊎_elim
        (λ (least : is_least v ≡ true).
        comes_true (two_ways B.m l v.number v.formula v.positive v.later least) k low up least)
        (λ (other : is_least v ≡ false).
        (others_are_greatest B.m l v k (place_of k low) (decides k v up) other).1 (great (places l) k low up))
        (cases_Bool (is_least v))

  waits_for : (n : ℕ) → Claim n → (k : ℕ) → k < j → (v : Item)
      → Up k v
      → v.later ≡ false
      → row v ≡ Waits
      → is_open v ≡ false
      → occurrences v.formula < suc n
      → Asks B.m l v k
  waits_for n claim k low v up now waits shut small =
      let next = next_place l k in
      let parts = behind_parts v.number v.formula v.positive v.later waits in
      let left = seen_waits first (GoodAt k) (E k).xs (T k).left (E k).of (T k).run v shut up in
      let smaller = parts.1 in
      let there : Asks B.m l (behind_next v) next =
      claim next (next_low k low) (behind_next v) (subst (Up next) (next_waits v now) (next_up k low v left)) parts.0
      (omega (arith, smaller, small)) in
      (rows_say_the_same B.m l v k (place_of k low) (decides k v up)).1
      (subst (λ r. SaysBy B.m l (Asks B.m l v) v r k) (sym waits) there)

  pub true_items : (n : ℕ) → Claim n
  true_items zero k low v up now small = absurd (omega (arith, small))
  true_items (suc n) k low v up now small = by_test (cases_Bool (is_open v)) (true_items n)
    where
      by_wait : is_open v ≡ false
          → Claim n
          → (v.later ≡ true) ⊎ ((v.later ≡ false) × (row v ≡ Waits))
          → Asks B.m l v k
      by_wait shut claim (inl later) = absurd (false≢true (sym now ∙ later))
      by_wait shut claim (inr (also, waits)) = waits_for n claim k low v up now waits shut small

      by_test : (is_open v ≡ true) ⊎ (is_open v ≡ false) → Claim n → Asks B.m l v k
      by_test (inl opens) claim = opened n claim v now small opens k low up
      by_test (inr shut) claim = by_wait shut claim (waiting v shut)

  pub record SomePath : Type 0 where
    pub lasso : Lasso
    pub is_from : IsPathFrom B.m e0.s lasso
    pub all_true : (v : Item) → IsMember v e0.xs → Asks B.m lasso v 0

  pub path_from_win : SomePath
  path_from_win =
      let less = apart in
      let low : 0 < j = omega (arith, less) in
      record {
        lasso = l;
        is_from = record { is_path = loop_path; starts_at = entry_is 0 low };
        all_true = λ v m. true_items (suc (occurrences v.formula)) 0 low v
            (seen_first first (GoodAt 0) (E 0).xs (T 0).left (T 0).run v m) (e0.all_now v m) (omega arith);
      }
