-- Lifting keeps a measure low, settles a vertex, and comes to an end.
--
--   low_fits        == the entry of a vertex fits in a low measure
--   zeros_low       == the measure of zeros is low
--   set_low         == it stays low with a value at a vertex that no progress measure is below there
--   lift_keeps      == a lifted measure is low
--   lift_settles    == a vertex that did not rise is settled
--   stays_settled   == after a rise each vertex without a move to the one that rose is settled, if it was, or rose itself
--   top_settled     == a vertex with the top is settled
--   room_falls      == there is less room after a rise
--   settled_least   == a low measure in which all vertices are settled is the least progress measure
use Rattle.std.proofs.Common.{ℕ, zero, suc, ◌≡◌, ◌-◌, ◌<◌, ◌≤◌, ◌⊎◌, inl, inr, ⊎_elim, arith, Bool, true, false, List, length, get_or, replicate, set, Option, Some, None, refl, sym, ap, ◌∙◌, subst, length-set}
use Rattle.std.proofs.lemmas.Bool.{cases_eq, cases_lt}
use Rattle.std.proofs.lemmas.List.{get_or-set_same, get_or-set_other, get_or-replicate, length-replicate}
use Rattle.ml_parity.specs.declared.players.Player.{Player}
use Rattle.ml_parity.specs.Player.{opponent}
use Rattle.ml_parity.specs.Game.{ParityGame, IsGame, HasMove, owner_of, priority_of, moves_of, size}
use Rattle.ml_parity.proofs.Boards.{first_move}
use Rattle.ml_parity.proofs.Opponents.{cases_player}
use Rattle.ml_progress.specs.Measure.{Measure, IsMeasure, IsBelow, Progresses, SomeProgress, IsProgressMeasure, IsLeastMeasure, is_bad, measure_at}
use Rattle.ml_progress.specs.private.Bounds.{bounds_of, cut_length, level_of, StepsAlong}
use Rattle.ml_progress.specs.private.Codes.{space, FitsIn, level, cut_level, Steps}
use Rattle.ml_progress.specs.private.Lifting.{IsLow, IsSettled, IsLifted, total, room}
use Rattle.ml_progress.proofs.Codes.{code_before}
use Rattle.ml_progress.proofs.Levels.{level_top, cut_mono, target_fits, target_least, target_steps}
use Rattle.ml_progress.proofs.NextLists.{fits_zeros, code_zeros}
use Rattle.ml_progress.proofs.Progress.{bounded_of_fits, measure_fits, progress_steps, steps_progress, below_level}

-- what has the lower level is below
pub level_below : (bs : List ℕ) (a b : Option (List ℕ))
    → FitsIn bs a
    → FitsIn bs b
    → level bs a < level bs b
    → IsBelow a b
level_below bs None b f h low = absurd (omega (arith, level_top bs b h))
level_below bs (Some xs) None f h low = tt
level_below bs (Some xs) (Some ys) f h low = code_before bs xs ys f h low

-- the entry of a vertex of the game fits
pub low_fits : (g : ParityGame) (p : Player) (m : Measure)
    → IsLow g p m
    → (v : ℕ)
    → v < size g
    → FitsIn (bounds_of g p) (measure_at m v)
low_fits g p m low v less = low.fits v (omega (arith, low.vertices))

module _ (g : ParityGame) (ok : IsGame g) (p : Player) where
  abbrev bs : List ℕ
  bs = bounds_of g p

  -- the measure of zeros is low
  pub zeros_low : (n w : ℕ) (m : Measure)
      → n ≡ size g
      → w ≡ length bs
      → m ≡ replicate n (Some (replicate {A = ℕ} w 0))
      → IsLow g p m
  zeros_low n w m count wide is = record {
    vertices = ap length is ∙ length-replicate n (Some (replicate {A = ℕ} w 0)) ∙ count;
    fits = λ v low.
        subst (FitsIn bs) (sym (at v (omega (arith, ap length is, length-replicate n (Some (replicate {A = ℕ} w 0))))))
        (fits_zeros bs w wide);
    low = λ k progress v low.
        let e : level bs (measure_at m v) ≡ 0 = ap (level bs) (at v (omega arith)) ∙ code_zeros bs w in omega arith;
  }
    where
      at : (v : ℕ) → v < n → measure_at m v ≡ Some (replicate {A = ℕ} w 0)
      at v low = ap (λ k. measure_at k v) is ∙ get_or-replicate n v (Some (replicate {A = ℕ} w 0)) None low

  -- what a vertex has when it has risen
  module _ (m n : Measure) (v : ℕ) (low : IsLow g p m) (below : v < size g) where
    within : v < length m
    within = omega (arith, low.vertices)

    module _ (o : Option (List ℕ)) (is : n ≡ set m v o) where
      set_here : measure_at n v ≡ o
      set_here = ap (λ k. measure_at k v) is ∙ get_or-set_same m v o None within

      set_there : (u : ℕ) → (u ≡ v → ⊥) → measure_at n u ≡ measure_at m u
      set_there u differs = ap (λ k. measure_at k u) is ∙ get_or-set_other m v u o None differs

      -- with a value that no progress measure is below, a measure stays low
      pub set_low : FitsIn bs o
          → ((k : Measure) → IsProgressMeasure g p k → level bs o ≤ level_of g p k v)
          → IsLow g p n
      set_low fits under = record {
        vertices = ap length is ∙ length-set m v o ∙ low.vertices;
        fits = λ u less. fits_at u (omega (arith, ap length is, length-set m v o, low.vertices)) (cases_eq u v);
        low = λ k progress u less. low_at k progress u less (cases_eq u v);
      }
        where
          fits_at : (u : ℕ) → u < size g → (u ≡ v) ⊎ (u ≡ v → ⊥) → FitsIn bs (measure_at n u)
          fits_at u less (inl same) = subst (FitsIn bs) (sym (ap (measure_at n) same ∙ set_here)) fits
          fits_at u less (inr differs) = subst (FitsIn bs) (sym (set_there u differs)) (low_fits g p m low u less)

          low_at : (k : Measure) → IsProgressMeasure g p k → (u : ℕ) → u < size g → (u ≡ v) ⊎ (u ≡ v → ⊥)
              → level_of g p n u ≤ level_of g p k u
          low_at k progress u less (inl same) =
              let here = ap (λ a. level bs a) (ap (measure_at n) same ∙ set_here) in
              let there = ap (level_of g p k) same in
              omega (arith, under k progress)
          low_at k progress u less (inr differs) =
              let e = ap (level bs) (set_there u differs) in omega (arith, low.low k progress u less)

    module _ (l : IsLifted g p m n v true) where
      risen_here : measure_at n v ≡ l.target
      risen_here = set_here l.target l.raised.1

      risen_there : (u : ℕ) → (u ≡ v → ⊥) → measure_at n u ≡ measure_at m u
      risen_there = set_there l.target l.raised.1

      risen_fits : FitsIn bs l.target
      risen_fits =
          target_fits (cut_length g p v) bs (is_bad p (priority_of g v)) (measure_at m l.chosen) l.target l.is_target

      -- no progress measure is below what the vertex has then
      target_low : (k : Measure) → IsProgressMeasure g p k → level bs l.target ≤ level_of g p k v
      target_low k progress = ⊎_elim
          (λ (mine : owner_of g v ≡ p). own (progress.own v below mine) mine)
          (λ (theirs : owner_of g v ≡ opponent p).
          at l.chosen (progress.other v l.chosen below theirs l.move) l.move (omega arith))
          (cases_player (owner_of g v) p)
        where
          fits_k : (u : ℕ) → u < size g → FitsIn bs (measure_at k u)
          fits_k = measure_fits g p k progress.measure

          at : (x : ℕ) → Progresses g p k v x → HasMove g v x
              → cut_level (cut_length g p v) bs (measure_at m l.chosen) ≤ cut_level (cut_length g p v) bs
              (measure_at m x)
              → level bs l.target ≤ level_of g p k v
          at x goes move under =
              let x_low = ok.in_range v x move in
              target_least (cut_length g p v) bs (is_bad p (priority_of g v)) (measure_at m l.chosen) l.target
              (measure_at k x) (measure_at k v) l.is_target (fits_k v below)
              (omega (
                arith,
                under,
                cut_mono (cut_length g p v) bs (measure_at m x) (measure_at k x) (low_fits g p m low x x_low)
                    (fits_k x x_low)
                    (low.low k progress x x_low),
              ))
              (progress_steps g p v (measure_at k v) (measure_at k x) (fits_k v below) (fits_k x x_low) goes)

          own : SomeProgress g p k v → owner_of g v ≡ p → level bs l.target ≤ level_of g p k v
          own some mine = at some.to some.progresses some.move (l.own mine some.to some.move)

      -- a vertex without a move to the one that rose stays settled; the one that rose is settled then
      pub stays_settled : (u : ℕ)
          → u < size g
          → (HasMove g u v → ⊥)
          → ((u ≡ v → ⊥) → IsSettled g p m u)
          → IsSettled g p n u
      stays_settled u less none was = by_case (cases_eq u v)
        where
          away : (x : ℕ) → HasMove g u x → measure_at n x ≡ measure_at m x
          away x move = risen_there x (λ same. none (subst (HasMove g u) same move))

          at_itself : (x : ℕ) → HasMove g v x → (u ≡ v)
              → cut_level (cut_length g p v) bs (measure_at m x) ≤ cut_level (cut_length g p v) bs
              (measure_at m l.chosen)
              → StepsAlong g p n v x
          at_itself x move same under =
              target_steps (cut_length g p v) bs (is_bad p (priority_of g v)) (measure_at m l.chosen) l.target
              (measure_at n x) (measure_at n v) l.is_target (subst (FitsIn bs) (sym risen_here) risen_fits)
              (let e = ap (cut_level (cut_length g p v) bs) (away x (subst (λ y. HasMove g y x) (sym same) move)) in
              omega arith)
              (let e = ap (level bs) risen_here in omega arith)

          elsewhere : (x : ℕ) → HasMove g u x → (u ≡ v → ⊥) → StepsAlong g p m u x → StepsAlong g p n u x
          elsewhere x move differs steps =
              subst (λ o. Steps (cut_length g p u) bs (is_bad p (priority_of g u)) o (measure_at n x))
              (sym (risen_there u differs))
              (subst (Steps (cut_length g p u) bs (is_bad p (priority_of g u)) (measure_at m u)) (sym (away x move))
              steps)

          by_case : (u ≡ v) ⊎ (u ≡ v → ⊥) → IsSettled g p n u
          by_case (inl same) = subst (IsSettled g p n) (sym same) (record {
            own = λ mine. record { to = l.chosen; move = l.move; steps = at_itself l.chosen l.move same (omega arith) };
            other = λ theirs x move. at_itself x move same (l.other theirs x move);
          })
          by_case (inr differs) =
              let old = was differs in
              record {
                own = λ mine.
                    let some = old.own mine in
                    record { to = some.to; move = some.move; steps = elsewhere some.to some.move differs some.steps };
                other = λ theirs x move. elsewhere x move differs (old.other theirs x move);
              }

    -- a lifted measure is low
    pub lift_keeps : (r : Bool) → IsLifted g p m n v r → IsLow g p n
    lift_keeps true l = set_low l.target l.raised.1 (risen_fits l) (target_low l)
    lift_keeps false l = subst (IsLow g p) (sym l.raised.1) low

    -- a vertex that did not rise is settled
    pub lift_settles : IsLifted g p m n v false → IsSettled g p m v
    lift_settles l = record {
      own = λ mine. record { to = l.chosen; move = l.move; steps = at l.chosen (omega arith) };
      other = λ theirs x move. at x (l.other theirs x move);
    }
      where
        up : level bs l.target ≤ level_of g p m v
        up = by_case (cases_lt (level_of g p m v) (level bs l.target))
          where
            by_case : (level_of g p m v < level bs l.target) ⊎ (level bs l.target ≤ level_of g p m v)
                → level bs l.target ≤ level_of g p m v
            by_case (inl less) =
                absurd (l.raised.0 (level_below bs (measure_at m v) l.target (low_fits g p m low v below)
                (target_fits (cut_length g p v) bs (is_bad p (priority_of g v)) (measure_at m l.chosen) l.target
                l.is_target) less))
            by_case (inr more) = more

        at : (x : ℕ)
            → cut_level (cut_length g p v) bs (measure_at m x) ≤ cut_level (cut_length g p v) bs (measure_at m l.chosen)
            → StepsAlong g p m v x
        at x under =
            target_steps (cut_length g p v) bs (is_bad p (priority_of g v)) (measure_at m l.chosen) l.target
            (measure_at m x) (measure_at m v) l.is_target (low_fits g p m low v below) under up

  -- a vertex with the top is settled
  pub top_settled : (m : Measure) (v : ℕ) → v < size g → measure_at m v ≡ None → IsSettled g p m v
  top_settled m v low top = record {
    own = λ mine. record {
      to = get_or (moves_of g v) 0 0;
      move = first_move g ok v low;
      steps = steps (get_or (moves_of g v) 0 0);
    };
    other = λ theirs w move. steps w;
  }
    where
      steps : (w : ℕ) → StepsAlong g p m v w
      steps w = subst (λ o. Steps (cut_length g p v) bs (is_bad p (priority_of g v)) o (measure_at m w)) (sym top) tt

  -- a low measure in which all vertices are settled is the least progress measure
  pub settled_least : (m : Measure) → IsLow g p m → ((v : ℕ) → v < size g → IsSettled g p m v) → IsLeastMeasure g p m
  settled_least m low settled = record {
    progress = record { measure = measure; own = own; other = other };
    least = λ n progress v below under. omega (
      arith,
      low.low n progress v below,
      below_level bs (measure_at n v) (measure_at m v) (measure_fits g p n progress.measure v below)
          (low_fits g p m low v below) under,
    );
  }
    where
      measure : IsMeasure g p m
      measure = record {
        vertices = low.vertices;
        lists = λ v xs below is. bounded_of_fits g p xs (subst (FitsIn bs) is (low_fits g p m low v below));
      }

      own : (v : ℕ) → v < size g → owner_of g v ≡ p → SomeProgress g p m v
      own v below mine =
          let some = (settled v below).own mine in
          record {
            to = some.to;
            move = some.move;
            progresses = steps_progress g p v (measure_at m v) (measure_at m some.to) (low_fits g p m low v below)
                (low_fits g p m low some.to (ok.in_range v some.to some.move)) some.steps;
          }

      other : (v w : ℕ) → v < size g → owner_of g v ≡ opponent p → HasMove g v w → Progresses g p m v w
      other v w below theirs move =
          steps_progress g p v (measure_at m v) (measure_at m w) (low_fits g p m low v below)
          (low_fits g p m low w (ok.in_range v w move))
          ((settled v below).other theirs w move)

-- ---- room

total_less : (f h : ℕ → ℕ) (n v : ℕ)
    → v < n
    → ((u : ℕ) → u < n → (u ≡ v → ⊥) → f u ≡ h u)
    → f v < h v
    → total f n < total h n
total_less f h zero v low same less = absurd (omega arith)
total_less f h (suc n) v low same less = by_case (cases_eq n v) (total_less f h n v)
  where
    alike : (k : ℕ) → k ≤ n → v ≡ n → total f k ≡ total h k
    alike zero within is = refl
    alike (suc k) within is =
        omega (arith, alike k (omega arith) is, same k (omega arith) (λ e. omega arith))

    by_case : (n ≡ v) ⊎ (n ≡ v → ⊥)
        → (v < n → ((u : ℕ) → u < n → (u ≡ v → ⊥) → f u ≡ h u) → f v < h v → total f n < total h n)
        → total f (suc n) < total h (suc n)
    by_case (inl is) rest = let a = ap f is in let b = ap h is in omega (arith, alike n (omega arith) (sym is))
    by_case (inr differs) rest =
        omega (
          arith,
          rest (omega arith) (λ u under other. same u (omega arith) other) less,
          same n (omega arith)
              differs,
        )

-- there is less room after a rise
pub room_falls : (g : ParityGame) (p : Player) (m n : Measure) (v : ℕ) → IsLow g p m → v < size g
    → IsLifted g p m n v true → room g p n < room g p m
room_falls g p m n v low below l =
    total_less (λ u. space (bounds_of g p) - level_of g p n u) (λ u. space (bounds_of g p) - level_of g p m u) (size g)
    v below
    (λ u under differs.
    ap (λ o. space (bounds_of g p) - level (bounds_of g p) o)
    (ap (λ k. measure_at k u) l.raised.1 ∙ get_or-set_other m v u l.target None differs))
    less
  where
    fits_target : FitsIn (bounds_of g p) l.target
    fits_target = target_fits (cut_length g p v) (bounds_of g p) (is_bad p (priority_of g v)) (measure_at m l.chosen)
        l.target l.is_target

    less : space (bounds_of g p) - level_of g p n v < space (bounds_of g p) - level_of g p m v
    less =
        let here = ap (level (bounds_of g p)) (ap (λ k. measure_at k v) l.raised.1
        ∙ get_or-set_same m v l.target None (omega (arith, low.vertices))) in
        let rose = below_level (bounds_of g p) (measure_at m v) l.target
        (low.fits v (omega (arith, low.vertices))) fits_target l.raised.0 in
        omega (arith, level_top (bounds_of g p) l.target fits_target)
