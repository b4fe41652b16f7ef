-- The queue of the vertices that wait.
--
--   QueueUpTo    == the queue has the vertices below a number
--   queue_more   == one vertex more
--   wait_all     == all vertices wait
--   wait_taken   == the first one is taken
--   wait_added   == one more is put behind them
--   woken_itself == a vertex that is flagged, or has the top, need not be woken
--   woken_set    == a vertex is flagged
--   Waking       == what a walk along a chain has done so far
use Rattle.std.proofs.Common.{ℕ, ◌≡◌, ◌+◌, ◌<◌, ◌≤◌, ◌⊎◌, inl, inr, ⊎_elim, arith, Bool, true, false, List, [], ◌∷◌, ◌++◌, length, get_or, set, replicate, None, refl, sym, ap, ◌∙◌, subst, length-set}
use Rattle.std.proofs.lemmas.Bool.{cases_eq, cases_lt}
use Rattle.std.proofs.lemmas.List.{get_or-set_same, get_or-set_other, get_or_past, length-replicate}
use Rattle.ml_lists.specs.Member.{IsMember}
use Rattle.ml_lists.proofs.Member.{member-append_left, member-append_right, member-append}
use Rattle.ml_progress.specs.Measure.{Measure, measure_at}
use Rattle.ml_progress.specs.declared.predecessors.Arrow.{Arrow}
use Rattle.ml_progress.specs.private.Waits.{InChain, IsWaiting, Woken}

-- the queue has the vertices below k, and no others
pub record QueueUpTo (k : ℕ) (queue : List ℕ) : Type 0 where
  pub all : (v : ℕ) → v < k → IsMember v queue
  pub low : (v : ℕ) → IsMember v queue → v < k

pub queue_more : (k : ℕ) (queue queue2 : List ℕ)
    → queue2 ≡ queue ++ k ∷ []
    → QueueUpTo k queue
    → QueueUpTo (k + 1) queue2
queue_more k queue queue2 is so_far = subst (QueueUpTo (k + 1)) (sym is) (record {
  all = λ v low. by_case v low (cases_eq v k);
  low = λ v inside. from v (member-append v queue (k ∷ []) inside);
})
  where
    by_case : (v : ℕ) → v < k + 1 → (v ≡ k) ⊎ (v ≡ k → ⊥) → IsMember v (queue ++ k ∷ [])
    by_case v low (inl same) = member-append_right v queue (k ∷ []) (inl same)
    by_case v low (inr differs) = member-append_left v queue (k ∷ []) (so_far.all v (omega arith))

    from : (v : ℕ) → IsMember v queue ⊎ IsMember v (k ∷ []) → v < k + 1
    from v (inl inside) = omega (arith, so_far.low v inside)
    from v (inr (inl same)) = omega arith
    from v (inr (inr none)) = absurd none

-- all vertices wait
pub wait_all : (n k : ℕ) (flags : List Bool) (queue : List ℕ)
    → flags ≡ replicate n true
    → n ≤ k
    → k ≤ n
    → QueueUpTo k queue
    → IsWaiting flags queue
wait_all n k flags queue is done within so_far = record {
  stands = λ v flag. by_case v flag (cases_lt v n);
  low = λ v inside. omega (arith, so_far.low v inside, ap length is, length-replicate n true);
}
  where
    by_case : (v : ℕ) → get_or flags v false ≡ true → (v < n) ⊎ (n ≤ v) → IsMember v queue
    by_case v flag (inl under) = so_far.all v (omega arith)
    by_case v flag (inr over) =
        let none = get_or_past (replicate n true) v false (omega (arith, length-replicate n true)) in
        let wrong : true ≡ false = sym flag ∙ ap (λ bs. get_or bs v false) is ∙ none in
        absurd (cc)

-- the first one is taken
module _ (v : ℕ) (flags : List Bool) (queue old : List ℕ) (is : old ≡ v ∷ queue) (waiting : IsWaiting flags old) where
  pub taken_low : v < length flags
  taken_low = waiting.low v (subst (IsMember v) (sym is) (inl refl))

  pub wait_taken : IsWaiting (set flags v false) queue
  wait_taken = record {
    stands = λ u flag. by_case u flag (cases_eq u v);
    low = λ u inside. omega (arith, waiting.low u (subst (IsMember u) (sym is) (inr inside)), length-set flags v false);
  }
    where
      by_case : (u : ℕ) → get_or (set flags v false) u false ≡ true → (u ≡ v) ⊎ (u ≡ v → ⊥) → IsMember u queue
      by_case u flag (inl same) =
          let wrong : true ≡ false = sym flag ∙ ap (λ j. get_or (set flags v false) j false) same
          ∙ get_or-set_same flags v false false taken_low in
          absurd (cc)
      by_case u flag (inr differs) =
          let old_flag = sym (get_or-set_other flags v u false false differs) ∙ flag in
          from (subst (IsMember u) is (waiting.stands u old_flag))
        where
          from : IsMember u (v ∷ queue) → IsMember u queue
          from (inl same) = absurd (differs same)
          from (inr inside) = inside

-- one more is put behind them
pub wait_added : (v : ℕ) (flags : List Bool) (queue : List ℕ) → v < length flags → IsWaiting flags queue
    → IsWaiting (set flags v true) (queue ++ v ∷ [])
wait_added v flags queue low waiting = record {
  stands = λ u flag. by_case u flag (cases_eq u v);
  low = λ u inside. omega (
    arith,
    length-set flags v true,
    ⊎_elim (λ (old : IsMember u queue). waiting.low u old) (from u) (member-append u queue (v ∷ []) inside),
  );
}
  where
    from : (u : ℕ) → IsMember u (v ∷ []) → u < length flags
    from u (inl same) = subst (λ k. k < length flags) (sym same) low
    from u (inr none) = absurd none

    by_case : (u : ℕ) → get_or (set flags v true) u false ≡ true → (u ≡ v) ⊎ (u ≡ v → ⊥) → IsMember u (queue ++ v ∷ [])
    by_case u flag (inl same) = member-append_right u queue (v ∷ []) (inl same)
    by_case u flag (inr differs) = member-append_left u queue (v ∷ [])
        (waiting.stands u (sym (get_or-set_other flags v u true false differs) ∙ flag))

-- ---- woken vertices

module _ (m : Measure) (v : ℕ) (flags : List Bool) where
  -- a vertex that is flagged, or has the top, need not be woken
  pub woken_itself : (get_or flags v false ≡ true) ⊎ (measure_at m v ≡ None) → Woken m flags flags (λ u. u ≡ v)
  woken_itself is = record {
    long = refl;
    kept = λ u flag. flag;
    woken = λ u same. subst (λ k. (get_or flags k false ≡ true) ⊎ (measure_at m k ≡ None)) (sym same) is;
  }

  -- a vertex is flagged
  pub woken_set : v < length flags → Woken m flags (set flags v true) (λ u. u ≡ v)
  woken_set low = record {
    long = length-set flags v true;
    kept = λ u flag. by_case u flag (cases_eq u v);
    woken = λ u same. inl (here_true u same);
  }
    where
      here_true : (u : ℕ) → u ≡ v → get_or (set flags v true) u false ≡ true
      here_true u same = ap (λ j. get_or (set flags v true) j false) same ∙ get_or-set_same flags v true false low

      by_case : (u : ℕ) → get_or flags u false ≡ true → (u ≡ v) ⊎ (u ≡ v → ⊥) → get_or (set flags v true) u false ≡ true
      by_case u flag (inl same) = here_true u same
      by_case u flag (inr differs) = get_or-set_other flags v u true false differs ∙ flag

-- ---- a walk along a chain

-- what the walk has done so far: it is at `at`, the flags and the queue were flags0 and queue0
pub record Waking (m : Measure) (n : ℕ) (arrows : List Arrow) (flags0 : List Bool) (queue0 : List ℕ) (first : ℕ)
    (flags : List Bool) (queue : List ℕ) (at : ℕ) : Type 0 where
  pub low : at ≤ length arrows
  pub waiting : IsWaiting flags queue
  pub long : length flags ≡ n
  pub kept : (v : ℕ) → get_or flags0 v false ≡ true → get_or flags v false ≡ true
  pub woken : (v : ℕ) → InChain arrows v first
      → ((get_or flags v false ≡ true) ⊎ (measure_at m v ≡ None)) ⊎ InChain arrows v at
  pub few : length queue + at ≤ length queue0 + length arrows
