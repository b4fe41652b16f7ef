-- To how many vertices of a priority a strategy leads, before a lower priority comes.
--
-- For a player's winning choice, and a priority that is bad for the player, count the vertices of that priority to which
-- moves of the choice lead from a vertex, itself among them, with no lower priority on the way. Along such a move none is
-- won, and a vertex of that priority is lost when it is left: it can't come back, or the loop would have a bad lowest
-- priority. So there is no need for a largest number of visits.
--
--   Onward q v w       == a move of the choice from v to w, where v has a priority of at least q
--   visits q v         == how many vertices of priority q such moves lead to from v
--   visits_low         == at most as many as there are
--   visits_stay        == a move on doesn't raise the number
--   visits_fall        == and lowers it, from a vertex of priority q that the player wins
use Rattle.std.proofs.Common.{ℕ, zero, suc, ◌≡◌, ◌+◌, ◌<◌, ◌≤◌, ◌⊎◌, inl, inr, arith, min, Bool, true, false, cond, eqb, List, [], ◌∷◌, length, get_or, refl, sym, ap, ◌∙◌, subst}
use Rattle.std.proofs.lemmas.Bool.{cases_lt, cases_Bool, cond-true, cond-false, eq-eqb}
use Rattle.std.proofs.lemmas.List.Recursion.{is_count_by}
use Rattle.ml_lists.specs.Counting.{count}
use Rattle.ml_lists.specs.Reach.{Reaches}
use Rattle.ml_lists.proofs.Counting.{count_mono, count_strict, count-true, count-false}
use Rattle.ml_lists.proofs.Decided.{Decided, decided_same, decided_both, decided_number}
use Rattle.ml_lists.proofs.Deciding.{decided_if, decided_at_most, decided_member}
use Rattle.ml_lists.proofs.DecidedReach.{Leads, first_step, no_step, decided_leads}
use Rattle.ml_lists.proofs.Members.{member_of_contains, contains_of_member}
use Rattle.ml_lists.proofs.Reach.{reaches_self, reaches_step}
use Rattle.ml_parity.specs.declared.players.Player.{Player}
use Rattle.ml_parity.specs.Player.{side}
use Rattle.ml_parity.specs.Game.{ParityGame, IsGame, HasMove, owner_of, priority_of, moves_of, size}
use Rattle.ml_parity.specs.Winner.{WinsFrom}
use Rattle.ml_parity.proofs.Opponents.{is_or_not}
use Rattle.ml_parity.proofs.FollowedWalks.{FollowedMove, FollowedWalk, last, before, closed_walk_good}
use Rattle.ml_progress.specs.Measure.{how_many}

-- ---- decisions as tests

abbrev test_of : {P : Type 0} → Decided P → Bool
test_of (inl p) = true
test_of (inr none) = false

test_tells : {P : Type 0} (d : Decided P) → test_of d ≡ true → P
test_tells (inl p) e = p
test_tells (inr none) e = absurd (cc)

test_passes : {P : Type 0} (d : Decided P) → P → test_of d ≡ true
test_passes (inl p) h = refl
test_passes (inr none) h = absurd (none h)

test_fails : {P : Type 0} (d : Decided P) → ¬ P → test_of d ≡ false
test_fails (inl p) h = absurd (h p)
test_fails (inr none) h = refl

-- ---- counts of entries

-- the count from below is that with the first number apart
count_shift : (test : ℕ → Bool) (n : ℕ) → count test (suc n) ≡ cond (test 0) 1 0 + count (λ k. test (suc k)) n
count_shift test zero = by_case (cases_Bool (test 0))
  where
    by_case : (test 0 ≡ true) ⊎ (test 0 ≡ false) → count test 1 ≡ cond (test 0) 1 0 + 0
    by_case (inl t) = omega (arith, count-true test 0 t, cond-true {A = ℕ} (test 0) 1 0 t)
    by_case (inr f) = omega (arith, count-false test 0 f, cond-false {A = ℕ} (test 0) 1 0 f)
count_shift test (suc n) = by_case (count_shift test n) (cases_Bool (test (suc n)))
  where
    by_case : count test (suc n) ≡ cond (test 0) 1 0 + count (λ k. test (suc k)) n
        → (test (suc n) ≡ true) ⊎ (test (suc n) ≡ false)
        → count test (suc (suc n)) ≡ cond (test 0) 1 0 + count (λ k. test (suc k)) (suc n)
    by_case old (inl t) = omega (arith, old, count-true test (suc n) t, count-true (λ k. test (suc k)) n t)
    by_case old (inr f) = omega (arith, old, count-false test (suc n) f, count-false (λ k. test (suc k)) n f)

abbrev entries_with : ℕ → List ℕ → ℕ
entries_with q [] = 0
entries_with q (x ∷ xs) = cond (eqb x q) (1 + entries_with q xs) (entries_with q xs)

-- how many entries are q, counted by their places
count_entries : (q : ℕ) (xs : List ℕ) → count (λ v. eqb (get_or xs v 0) q) (length xs) ≡ entries_with q xs
count_entries q [] = refl
count_entries q (x ∷ xs) = by_case (count_shift (λ v. eqb (get_or (x ∷ xs) v 0) q) (length xs)) (count_entries q xs) (cases_Bool (eqb x q))
  where
    by_case : count (λ v. eqb (get_or (x ∷ xs) v 0) q) (suc (length xs))
        ≡ cond (eqb x q) 1 0 + count (λ v. eqb (get_or xs v 0) q) (length xs)
        → count (λ v. eqb (get_or xs v 0) q) (length xs) ≡ entries_with q xs
        → (eqb x q ≡ true) ⊎ (eqb x q ≡ false)
        → count (λ v. eqb (get_or (x ∷ xs) v 0) q) (length (x ∷ xs)) ≡ entries_with q (x ∷ xs)
    by_case shift rest (inl t) = omega (
      arith,
      shift,
      rest,
      cond-true {A = ℕ} (eqb x q) 1 0 t,
      cond-true {A = ℕ} (eqb x q) (1 + entries_with q xs) (entries_with q xs) t,
    )
    by_case shift rest (inr f) = omega (
      arith,
      shift,
      rest,
      cond-false {A = ℕ} (eqb x q) 1 0 f,
      cond-false {A = ℕ} (eqb x q) (1 + entries_with q xs) (entries_with q xs) f,
    )

-- ---- where a choice leads

module _ (g : ParityGame) (ok : IsGame g) (p : Player) (s : ℕ → ℕ) where
  -- a move of the choice from v to w, where v has a priority of at least q
  pub record Onward (q v w : ℕ) : Type 0 where
    pub high : q ≤ priority_of g v
    pub follows : FollowedMove g p s v w

  decided_move : (v w : ℕ) → Decided (HasMove g v w)
  decided_move v w = decided_same (contains_of_member w (moves_of g v)) (member_of_contains w (moves_of g v))
      (decided_member decided_number w (moves_of g v))

  decided_onward : (q v w : ℕ) → Decided (Onward q v w)
  decided_onward q v w =
      decided_same
      (λ (all : (q ≤ priority_of g v) × (HasMove g v w × (owner_of g v ≡ p → w ≡ s v))).
      record { high = all.0; follows = record { move = all.1.0; chosen = all.1.1 } })
      (λ o. (o.high, (o.follows.move, o.follows.chosen)))
      (decided_both (decided_at_most q (priority_of g v))
      (decided_both (decided_move v w)
      (decided_if (is_or_not (owner_of g v) p) (λ own. decided_number w (s v)))))

  -- moves of the choice lead from v to the vertex u of priority q
  record Met (q v u : ℕ) : Type 0 where
    pub level : priority_of g u ≡ q
    pub leads : Leads (Onward q) v u

  decided_met : (q v u : ℕ) → v < size g → Decided (Met q v u)
  decided_met q v u low =
      decided_same
      (λ (both : (priority_of g u ≡ q) × Leads (Onward q) v u). record { level = both.0; leads = both.1 })
      (λ m. (m.level, m.leads))
      (decided_both (decided_number (priority_of g u) q)
      (decided_leads (Onward q) (size g) (λ x y o. ok.in_range x y o.follows.move) (decided_onward q) v u low))

  abbrev met_from : (q v u : ℕ) → (v < size g) ⊎ (size g ≤ v) → Bool
  met_from q v u (inl low) = test_of (decided_met q v u low)
  met_from q v u (inr high) = false

  abbrev met : ℕ → ℕ → ℕ → Bool
  met q v u = met_from q v u (cases_lt v (size g))

  met_tells : (q v u : ℕ) → met q v u ≡ true → Met q v u
  met_tells q v u = from (cases_lt v (size g))
    where
      from : (d : (v < size g) ⊎ (size g ≤ v)) → met_from q v u d ≡ true → Met q v u
      from (inl low) e = test_tells (decided_met q v u low) e
      from (inr high) e = absurd (cc)

  met_passes : (q v u : ℕ) → v < size g → Met q v u → met q v u ≡ true
  met_passes q v u low m = from (cases_lt v (size g))
    where
      from : (d : (v < size g) ⊎ (size g ≤ v)) → met_from q v u d ≡ true
      from (inl l) = test_passes (decided_met q v u l) m
      from (inr high) = absurd (omega arith)

  met_fails : (q v u : ℕ) → ¬ (Met q v u) → met q v u ≡ false
  met_fails q v u none = from (cases_lt v (size g))
    where
      from : (d : (v < size g) ⊎ (size g ≤ v)) → met_from q v u d ≡ false
      from (inl l) = test_fails (decided_met q v u l) none
      from (inr high) = refl

  -- how many vertices of priority q such moves lead to from v
  pub visits : ℕ → ℕ → ℕ
  visits q v = count (met q v) (size g)

  -- at most as many as there are
  pub visits_low : (q v : ℕ) → visits q v ≤ how_many g q
  unfolding visits
  visits_low q v =
      let within = count_mono (met q v) (λ u. eqb (priority_of g u) q) (size g)
      (λ u low t. eq-eqb (priority_of g u) q (met_tells q v u t).level) in
      let long : count (λ u. eqb (priority_of g u) q) (size g) ≡ count (λ u. eqb (priority_of g u) q) (length g.priority) =
      ap (count (λ u. eqb (priority_of g u) q)) (sym ok.priorities) in
      omega (
        arith,
        within,
        long,
        count_entries q g.priority,
        is_count_by (entries_with q) (λ x. eqb x q) refl (λ x xs. refl) g.priority,
      )

  -- what is met behind a move on is met from where the move begins
  met_behind : (q v w u : ℕ) → Onward q v w → Met q w u → Met q v u
  met_behind q v w u o m = record {
    level = m.level;
    leads = record {
      steps = suc m.leads.steps;
      reaches = reaches_step (Onward q) v w u m.leads.steps o m.leads.reaches;
    };
  }

  -- a move on doesn't raise the number
  pub visits_stay : (q v w : ℕ) → v < size g → Onward q v w → visits q w ≤ visits q v
  unfolding visits
  visits_stay q v w low o = count_mono (met q w) (met q v) (size g)
      (λ u below t. met_passes q v u low (met_behind q v w u o (met_tells q w u t)))

  -- a walk along moves on, with its lowest priority
  record Walked (q v u : ℕ) : Type 0 where
    pub lowest : ℕ
    pub high : q ≤ lowest
    pub walk : FollowedWalk g p s v lowest u

  walked_more : (q v w u : ℕ) → Onward q v w → Walked q w u → Walked q v u
  walked_more q v w u o k = record {
    lowest = min (priority_of g v) k.lowest;
    high = omega (arith, o.high, k.high);
    walk = before v w o.follows k.walk;
  }

  walked : (q m v w u : ℕ) → Onward q v w → Reaches (Onward q) w u m → Walked q v u
  walked q zero v w u o r = record {
    lowest = priority_of g v;
    high = o.high;
    walk = subst (FollowedWalk g p s v (priority_of g v)) (no_step (Onward q) w u r) (last v w o.follows);
  }
  walked q (suc m) v w u o r =
      let f = first_step (Onward q) w u m r in walked_more q v w u o (walked q m w f.next u f.step f.rest)

  lowest_from : (v k u : ℕ) → FollowedWalk g p s v k u → k ≤ priority_of g v
  lowest_from v k u (last _ _ move) = omega arith
  lowest_from v k u (before _ w move walk) = omega arith

  -- it lowers the number, from a vertex of priority q where the choice wins, unless q is good
  pub visits_fall : (q v w : ℕ)
      → v < size g
      → WinsFrom g p s v
      → priority_of g v ≡ q
      → (side q ≡ p → ⊥)
      → Onward q v w
      → visits q w < visits q v
  unfolding visits
  visits_fall q v w low wins level bad o =
      count_strict (met q w) (met q v) (size g)
      (λ u below t. met_passes q v u low (met_behind q v w u o (met_tells q w u t))) v low
      (met_fails q w v back)
      (met_passes q v v low
      (record { level = level; leads = record { steps = 0; reaches = reaches_self (Onward q) v } }))
    where
      closed : Walked q v v → ⊥
      closed k =
          let is : k.lowest ≡ q = omega (arith, k.high, lowest_from v k.lowest v k.walk) in
          bad (sym (ap side is) ∙ closed_walk_good g p s v k.lowest k.walk wins)

      back : Met q w v → ⊥
      back m = closed (walked q m.leads.steps v w v o m.leads.reaches)
