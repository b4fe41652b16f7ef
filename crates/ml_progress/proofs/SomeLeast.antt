-- Each player has a least progress measure, in each parity game.
--
-- From the measure of zeros vertices are lifted, as long as one of them rises.
--
--   decoded     == a number below the space of the bounds is the code of a list
--   some_target == there is a least value with which a move progresses
--   some_raise  == a vertex rises to a value, or it doesn't
--   extreme     == of some numbers one is the least, or the greatest
--   some_lift   == each vertex can be lifted
--   some_least  == there is a least progress measure
use Rattle.std.proofs.Common.{ℕ, zero, suc, ◌≡◌, ◌+◌, ◌-◌, ◌*◌, ◌<◌, ◌≤◌, ◌⊎◌, inl, inr, ⊎_elim, arith, Bool, true, false, List, [], ◌∷◌, length, get_or, set, replicate, take, drop, Option, Some, None, refl, ◌∙◌, subst}
use Rattle.std.proofs.Math.Nat.{mul-le-mul_right}
use Rattle.std.proofs.lemmas.Bool.{cases_lt}
use Rattle.std.proofs.lemmas.List.{get_or_default}
use Rattle.ml_lists.specs.Found.{Found, Least}
use Rattle.ml_lists.proofs.Search.{search, search_least}
use Rattle.ml_parity.specs.declared.players.Player.{Player}
use Rattle.ml_parity.specs.Player.{opponent}
use Rattle.ml_parity.specs.Game.{ParityGame, IsGame, HasMove, owner_of, priority_of, moves_of, size}
use Rattle.ml_parity.proofs.Opponents.{cases_player, not_both}
use Rattle.ml_progress.specs.Measure.{Measure, IsLeastMeasure, is_bad, measure_at}
use Rattle.ml_progress.specs.private.Bounds.{bounds_of, cut_length}
use Rattle.ml_progress.specs.private.Codes.{Fits, FitsIn, IsTarget, code, cut_level, level, space, step_of}
use Rattle.ml_progress.specs.private.Lifting.{Furthest, IsLifted, IsLow, IsSettled, room}
use Rattle.ml_progress.specs.private.Tables.{IsRaised}
use Rattle.ml_progress.proofs.Codes.{code_low, fits_take, space_parts, space_some}
use Rattle.ml_progress.proofs.Levels.{target_fits}
use Rattle.ml_progress.proofs.LiftedMeasures.{level_below, lift_keeps, lift_settles, low_fits, room_falls, settled_least, zeros_low}
use Rattle.ml_progress.proofs.Progress.{below_level}

-- ---- lists from their codes

record Decoded (bs : List ℕ) (n : ℕ) : Type 0 where
  pub list : List ℕ
  pub fits : Fits bs list
  pub is_code : code bs list ≡ n

record Digit (b : ℕ) (bs : List ℕ) (n : ℕ) : Type 0 where
  pub first : ℕ
  pub low : first ≤ b
  pub rest : ℕ
  pub rest_low : rest < space bs
  pub parts : n ≡ first * space bs + rest

digit : (b : ℕ) (bs : List ℕ) (n : ℕ) → n < suc b * space bs → Digit b bs n
digit zero bs n below =
    record { first = 0; low = omega arith; rest = n; rest_low = omega (arith, below); parts = omega arith }
digit (suc b) bs n below =
    ⊎_elim
    (λ (small : n < space bs).
    let none : Digit (suc b) bs n =
    record { first = 0; low = omega arith; rest = n; rest_low = small; parts = omega arith } in
    none)
    (λ (large : space bs ≤ n). one_more large (digit b bs (n - space bs) (omega (arith, below, large))))
    (cases_lt n (space bs))
  where
    one_more : space bs ≤ n → Digit b bs (n - space bs) → Digit (suc b) bs n
    one_more large d = record {
      first = suc d.first;
      low = omega (arith, d.low);
      rest = d.rest;
      rest_low = d.rest_low;
      parts = omega (arith, d.parts, large);
    }

decoded : (bs : List ℕ) (n : ℕ) → n < space bs → Decoded bs n
decoded [] n below = record { list = []; fits = tt; is_code = omega arith }
decoded (b ∷ bs) n below =
    let d = digit b bs n below in
    let rest = decoded bs d.rest d.rest_low in
    record {
      list = d.first ∷ rest.list;
      fits = (d.low, rest.fits);
      is_code = omega (arith, rest.is_code, d.parts);
    }

-- ---- the value to which a vertex rises

some_target : (c : ℕ) (bs : List ℕ) (t : Bool) (b : Option (List ℕ)) → (o : Option (List ℕ)) × IsTarget c bs t b o
some_target c bs t b =
    ⊎_elim
    (λ (less : cut_level c bs b + step_of t < space (take c bs)). listed less)
    (λ (more : space (take c bs) ≤ cut_level c bs b + step_of t). top more)
    (cases_lt (cut_level c bs b + step_of t) (space (take c bs)))
  where
    top : space (take c bs) ≤ cut_level c bs b + step_of t → (o : Option (List ℕ)) × IsTarget c bs t b o
    top more = (None, more)

    listed : cut_level c bs b + step_of t < space (take c bs) → (o : Option (List ℕ)) × IsTarget c bs t b o
    listed less =
        let n = cut_level c bs b + step_of t in
        let whole : suc n * space (drop c bs) ≤ space (take c bs) * space (drop c bs) =
        mul-le-mul_right (space (drop c bs)) (omega (arith, less)) in
        let below : n * space (drop c bs) < space bs = omega (arith, whole, space_parts c bs, space_some (drop c bs)) in
        let d = decoded bs (n * space (drop c bs)) below in
        (Some d.list, (d.fits, d.is_code))

record Raised (m : Measure) (v : ℕ) (target : Option (List ℕ)) : Type 0 where
  pub next : Measure
  pub rises : Bool
  pub raised : IsRaised target m next v rises

some_raise : (bs : List ℕ) (m : Measure) (v : ℕ) (target : Option (List ℕ))
    → FitsIn bs (measure_at m v)
    → FitsIn bs target
    → Raised m v target
some_raise bs m v target here there =
    ⊎_elim
    (λ (less : level bs (measure_at m v) < level bs target). up less)
    (λ (more : level bs target ≤ level bs (measure_at m v)). stay more)
    (cases_lt (level bs (measure_at m v)) (level bs target))
  where
    up : level bs (measure_at m v) < level bs target → Raised m v target
    up less = record {
      next = set m v target;
      rises = true;
      raised = (level_below bs (measure_at m v) target here there less, refl);
    }

    stay : level bs target ≤ level bs (measure_at m v) → Raised m v target
    stay more = record {
      next = m;
      rises = false;
      raised = (λ under. omega (arith, below_level bs (measure_at m v) target here there under, more), refl);
    }

-- ---- the successor that decides

cut_top : (c : ℕ) (bs : List ℕ) (o : Option (List ℕ)) → FitsIn bs o → cut_level c bs o ≤ space (take c bs)
cut_top c bs None fits = omega arith
cut_top c bs (Some xs) fits = omega (arith, code_low (take c bs) (take c xs) (fits_take c bs xs fits))

record Extreme (least : Bool) (f : ℕ → ℕ) (n : ℕ) : Type 0 where
  pub place : ℕ
  pub below : place < n
  pub extreme : (j : ℕ) → j < n → Furthest least (f place) (f j)

-- of numbers of at most `top` one is the least, or the greatest
extreme : (least : Bool) (f : ℕ → ℕ) (n top : ℕ) → 0 < n → ((j : ℕ) → j < n → f j ≤ top) → Extreme least f n
extreme true f n top some low = from (search_least (λ k. Unit {0}) f (λ k. inl tt) n)
  where
    from : Least (λ k. Unit {0}) f n ⊎ ((k : ℕ) → k < n → Unit {0} → ⊥) → Extreme true f n
    from (inl l) = record { place = l.place; below = l.below; extreme = λ j j_low. l.least j j_low tt }
    from (inr none) = absurd (none 0 some tt)
extreme false f n top some low = from (search_least (λ k. Unit {0}) (λ k. top - f k) (λ k. inl tt) n)
  where
    from : Least (λ k. Unit {0}) (λ k. top - f k) n ⊎ ((k : ℕ) → k < n → Unit {0} → ⊥) → Extreme false f n
    from (inl l) = record {
      place = l.place;
      below = l.below;
      extreme = λ j j_low. omega (arith, l.least j j_low tt, low j j_low, low l.place l.below);
    }
    from (inr none) = absurd (none 0 some tt)

module _ (g : ParityGame) (ok : IsGame g) (p : Player) where
  abbrev bs : List ℕ
  bs = bounds_of g p

  record Lift (m : Measure) (v : ℕ) : Type 0 where
    pub next : Measure
    pub rises : Bool
    pub lifted : IsLifted g p m next v rises

  module _ (m : Measure) (low : IsLow g p m) (v : ℕ) (below : v < size g) where
    abbrev moves : List ℕ
    moves = moves_of g v

    move_at : (j : ℕ) → j < length moves → HasMove g v (get_or moves j 0)
    move_at j less = (j, less, get_or_default moves j (get_or moves j 0) 0 less)

    abbrev cut_of : ℕ → ℕ
    cut_of w = cut_level (cut_length g p v) bs (measure_at m w)

    -- of the successors one has the least cut, or the greatest
    record Chosen (least : Bool) : Type 0 where
      pub chosen : ℕ
      pub move : HasMove g v chosen
      pub extreme : (x : ℕ) → HasMove g v x → Furthest least (cut_of chosen) (cut_of x)

    choose : (least : Bool) → Chosen least
    choose least =
        from (extreme least (λ j. cut_of (get_or moves j 0)) (length moves) (space (take (cut_length g p v) bs))
        (ok.goes_on v below)
        (λ j less. cut_top (cut_length g p v) bs (measure_at m (get_or moves j 0))
        (low_fits g p m low (get_or moves j 0) (ok.in_range v (get_or moves j 0) (move_at j less)))))
      where
        from : Extreme least (λ j. cut_of (get_or moves j 0)) (length moves) → Chosen least
        from e = record {
          chosen = get_or moves e.place 0;
          move = move_at e.place e.below;
          extreme = λ x move.
              subst (λ y. Furthest least (cut_of (get_or moves e.place 0)) (cut_of y))
              (get_or_default moves move.0 0 x move.1 ∙ move.2) (e.extreme move.0 move.1);
        }

    lift_to : (least : Bool) (c : Chosen least)
        → (owner_of g v ≡ p → (x : ℕ) → HasMove g v x → cut_of c.chosen ≤ cut_of x)
        → (owner_of g v ≡ opponent p → (x : ℕ) → HasMove g v x → cut_of x ≤ cut_of c.chosen)
        → Lift m v
    lift_to least c own other =
        let bad = is_bad p (priority_of g v) in
        let target = some_target (cut_length g p v) bs bad (measure_at m c.chosen) in
        let raise = some_raise bs m v target.0 (low_fits g p m low v below)
        (target_fits (cut_length g p v) bs bad (measure_at m c.chosen) target.0 target.1) in
        record {
          next = raise.next;
          rises = raise.rises;
          lifted = record {
            chosen = c.chosen;
            move = c.move;
            own = own;
            other = other;
            target = target.0;
            is_target = target.1;
            raised = raise.raised;
          };
        }

    some_lift : Lift m v
    some_lift =
        ⊎_elim
        (λ (mine : owner_of g v ≡ p).
        let c = choose true in
        lift_to true c (λ is x move. c.extreme x move) (λ theirs. absurd (not_both (owner_of g v) p mine theirs)))
        (λ (theirs : owner_of g v ≡ opponent p).
        let c = choose false in
        lift_to false c (λ mine. absurd (not_both (owner_of g v) p mine theirs)) (λ is x move. c.extreme x move))
        (cases_player (owner_of g v) p)

  -- a vertex rises, or is settled
  rises_or_not : (m : Measure) (low : IsLow g p m) (v : ℕ) → (v < size g) ⊎ (size g ≤ v)
      → ((n : Measure) × (v < size g) × IsLifted g p m n v true) ⊎ (v < size g → IsSettled g p m v)
  rises_or_not m low v (inr high) = inr (λ below. absurd (omega (arith, below, high)))
  rises_or_not m low v (inl below) = from (some_lift m low v below).rises (some_lift m low v below).lifted
    where
      from : (r : Bool) → IsLifted g p m (some_lift m low v below).next v r
          → ((n : Measure) × (v < size g) × IsLifted g p m n v true) ⊎ (v < size g → IsSettled g p m v)
      from true l = inl ((some_lift m low v below).next, below, l)
      from false l = inr (λ again. lift_settles g ok p m (some_lift m low v below).next v low below l)

  -- some vertex rises, with less room behind it, or all are settled
  one_turn : (m : Measure) → IsLow g p m
      → ((n : Measure) → IsLow g p n → room g p n < room g p m → (k : Measure) × IsLeastMeasure g p k)
      → (k : Measure) × IsLeastMeasure g p k
  one_turn m low again =
      ⊎_elim
      (λ (found : Found (λ v. (n : Measure) × (v < size g) × IsLifted g p m n v true) (size g)).
      let l = found.holds in
      again l.0 (lift_keeps g ok p m l.0 found.place low l.1 true l.2) (room_falls g p m l.0 found.place low l.1 l.2))
      (λ (settled : (v : ℕ) → v < size g → v < size g → IsSettled g p m v).
      (m, settled_least g ok p m low (λ v below. settled v below below)))
      (search (λ v. (n : Measure) × (v < size g) × IsLifted g p m n v true) (λ v. v < size g → IsSettled g p m v)
      (λ v. rises_or_not m low v (cases_lt v (size g))) (size g))

  from_low : (fuel : ℕ) (m : Measure) → IsLow g p m → room g p m ≤ fuel → (n : Measure) × IsLeastMeasure g p n
  from_low zero m low small = one_turn m low (λ n is_low less. absurd (omega (arith, less, small)))
  from_low (suc fuel) m low small =
      one_turn m low (λ n is_low less. from_low fuel n is_low (omega (arith, less, small)))

  pub some_least : (n : Measure) × IsLeastMeasure g p n
  some_least =
      let zeros = replicate (size g) (Some (replicate {A = ℕ} (length bs) 0)) in
      from_low (room g p zeros) zeros (zeros_low g ok p (size g) (length bs) zeros refl refl refl) (omega arith)
