-- Runs of an automaton of which edges are left out and flags are changed.
--
-- The states have an order that no transition makes fall, so on a loop it stays as it is. Some states are dead: from them an
-- accepting transition makes the order rise, so they are on no accepting loop, and transitions into them may be left out. A
-- transition that makes the order rise is on no loop, so whether it accepts doesn't matter. And some states are full: within
-- their place of the order each transition that doesn't accept makes them deeper, so each loop there accepts anyway.
--
--   no_fall, stays_dead, no_return == what runs do to the order and to dead states
--   trimmed_accepts == what is accepted, is accepted with transitions left out and flags cleared off loops
--   filled          == a run among full states accepts, or leads deeper
--   filled_accepts  == with flags set on full states nothing more is accepted
use Rattle.std.proofs.Common.{◌≡◌, ℕ, ◌+◌, ◌<◌, ◌≤◌, ◌⊎◌, inl, inr, arith, Bool, true, List, [], ◌∷◌, ◌++◌, length, refl, ap, subst}
use Rattle.ml_lists.specs.Repeated.{repeated}
use Rattle.ml_trace.specs.Run.{AcceptingRun, Run}
use Rattle.ml_trace.specs.WordAutomata.{IsAcceptedFrom, WordLasso, stem, turn}
use Rattle.ml_trace.proofs.Runs.{accepting-is_run}

module _ {L : Type 0} (leads others : L → ℕ → ℕ → Bool → Type 0) (order : ℕ → ℕ)
    (rises : (l : L) (p q : ℕ) (b : Bool) → leads l p q b → order p ≤ order q) where
  no_fall : (u : List L) (p q : ℕ) → Run leads u p q → order p ≤ order q
  no_fall [] p q same = let e = ap order same in omega (arith, e)
  no_fall (l ∷ u) p q (r, b, lead, run) = omega (arith, rises l p r b lead, no_fall u r q run)

  no_fall_round : (u : List L) (p q : ℕ) → AcceptingRun leads u p q → order p ≤ order q
  no_fall_round u p q round = no_fall u p q (accepting-is_run leads u p q round)

  -- ---- what is left out

  module _ (Dies : ℕ → Type 0)
      (dies : (l : L) (p q : ℕ) (b : Bool) → Dies p → leads l p q b → Dies q × (b ≡ true → order p < order q))
      (there : (l : L) (p q : ℕ) (b : Bool) → leads l p q b
      → Dies q ⊎ ((c : Bool) × others l p q c × (b ≡ true → (c ≡ true) ⊎ (order p < order q)))) where
    stays_dead : (u : List L) (p q : ℕ) → Dies p → Run leads u p q → Dies q
    stays_dead [] p q dead same = subst Dies same dead
    stays_dead (l ∷ u) p q dead (r, b, lead, run) = stays_dead u r q (dies l p r b dead lead).0 run

    no_return : (u : List L) (p q : ℕ) → Dies p → AcceptingRun leads u p q → order p < order q
    no_return [] p q dead none = absurd none
    no_return (l ∷ u) p q dead (inl (r, lead, run)) =
        omega (arith, (dies l p r true dead lead).1 refl, no_fall u r q run)
    no_return (l ∷ u) p q dead (inr (r, b, lead, round)) =
        omega (arith, rises l p r b lead, no_return u r q (dies l p r b dead lead).0 round)

    run_kept : (u : List L) (p q : ℕ) → (Dies q → ⊥) → Run leads u p q → Run others u p q
    run_kept [] p q lives same = same
    run_kept (l ∷ u) p q lives (r, b, lead, run) = by (there l p r b lead) (run_kept u r q lives run)
      where
        by : Dies r ⊎ ((c : Bool) × others l p r c × (b ≡ true → (c ≡ true) ⊎ (order p < order r)))
            → Run others u r q
            → Run others (l ∷ u) p q
        by (inl dead) rest = absurd (lives (stays_dead u r q dead run))
        by (inr (c, other, flag)) rest = (r, c, other, rest)

    round_kept : (u : List L) (p q : ℕ) → (Dies q → ⊥) → order q ≤ order p → AcceptingRun leads u p q → AcceptingRun others u p q
    round_kept [] p q lives back none = absurd none
    round_kept (l ∷ u) p q lives back (inl (r, lead, run)) = by (there l p r true lead)
      where
        by : Dies r ⊎ ((c : Bool) × others l p r c × (true ≡ true → (c ≡ true) ⊎ (order p < order r)))
            → AcceptingRun others (l ∷ u) p q
        by (inl dead) = absurd (lives (stays_dead u r q dead run))
        by (inr (c, other, flag)) = by_flag (flag refl)
          where
            by_flag : (c ≡ true) ⊎ (order p < order r) → AcceptingRun others (l ∷ u) p q
            by_flag (inl set) = inl (r, subst (others l p r) set other, run_kept u r q lives run)
            by_flag (inr more) = absurd (omega (arith, back, more, no_fall u r q run))
    round_kept (l ∷ u) p q lives back (inr (r, b, lead, round)) =
        by (there l p r b lead) (round_kept u r q lives (omega (arith, back, rises l p r b lead)) round)
      where
        by : Dies r ⊎ ((c : Bool) × others l p r c × (b ≡ true → (c ≡ true) ⊎ (order p < order r)))
            → AcceptingRun others u r q
            → AcceptingRun others (l ∷ u) p q
        by (inl dead) rest = absurd (lives (stays_dead u r q dead (accepting-is_run leads u r q round)))
        by (inr (c, other, flag)) rest = inr (r, c, other, rest)

    pub trimmed_accepts : (w : WordLasso L) (p : ℕ) → IsAcceptedFrom leads p w → IsAcceptedFrom others p w
    trimmed_accepts w p a =
        let s = a.state in
        let rounds = repeated a.rounds (turn w) in
        let lives : Dies s → ⊥ = λ dead. absurd (omega (arith, no_return rounds s s dead a.returns)) in
        record {
          turns = a.turns;
          state = s;
          comes = run_kept (stem w ++ repeated a.turns (turn w)) p s lives a.comes;
          rounds = a.rounds;
          once = a.once;
          returns = round_kept rounds s s lives (omega arith) a.returns;
        }

  -- ---- what is set

  module _ (IsFull : ℕ → Type 0) (depth : ℕ → ℕ)
      (fills : (l : L) (p q : ℕ) (b : Bool) → IsFull p → leads l p q b → order q ≡ order p
      → IsFull q × ((b ≡ true) ⊎ (depth p < depth q)))
      (back : (l : L) (p q : ℕ) (c : Bool) → others l p q c
      → (b : Bool) × leads l p q b × (c ≡ true → (b ≡ true) ⊎ ((order p < order q) ⊎ IsFull p))) where
    filled : (u : List L) (p q : ℕ) → IsFull p → order q ≤ order p → Run leads u p q
        → IsFull q × (AcceptingRun leads u p q ⊎ (depth p + length u ≤ depth q))
    filled [] p q full level same =
        let e = ap depth same in (subst IsFull same full, inr (omega (arith, e)))
    filled (l ∷ u) p q full level (r, b, lead, run) =
        let next = fills l p r b full lead (omega (arith, level, rises l p r b lead, no_fall u r q run)) in
        let rest = filled u r q next.0 (omega (arith, level, rises l p r b lead)) run in
        (rest.0, by next.1 rest.1)
      where
        by : (b ≡ true) ⊎ (depth p < depth r)
            → AcceptingRun leads u r q ⊎ (depth r + length u ≤ depth q)
            → AcceptingRun leads (l ∷ u) p q ⊎ (depth p + length (l ∷ u) ≤ depth q)
        by flag (inl round) = inl (inr (r, b, lead, round))
        by (inl set) (inr deep) = inl (inl (r, subst (leads l p r) set lead, run))
        by (inr deeper) (inr deep) = inr (omega (arith, deeper, deep))

    run_back : (u : List L) (p q : ℕ) → Run others u p q → Run leads u p q
    run_back [] p q same = same
    run_back (l ∷ u) p q (r, c, other, run) = let b = back l p r c other in (r, b.0, b.1, run_back u r q run)

    round_back : (u : List L) (p q : ℕ) → order q ≤ order p → AcceptingRun others u p q → AcceptingRun leads u p q ⊎ IsFull q
    round_back [] p q level none = absurd none
    round_back (l ∷ u) p q level (inl (r, other, run)) =
        let b = back l p r true other in by b.0 b.1 (run_back u r q run) (b.2 refl)
      where
        by : (b : Bool) → leads l p r b → Run leads u r q
            → (b ≡ true) ⊎ ((order p < order r) ⊎ IsFull p)
            → AcceptingRun leads (l ∷ u) p q ⊎ IsFull q
        by b lead rest (inl set) = inl (inl (r, subst (leads l p r) set lead, rest))
        by b lead rest (inr (inl more)) = absurd (omega (arith, level, more, no_fall u r q rest))
        by b lead rest (inr (inr full)) = inr (filled (l ∷ u) p q full level (r, b, lead, rest)).0
    round_back (l ∷ u) p q level (inr (r, c, other, round)) =
        let b = back l p r c other in
        by b.0 b.1 (round_back u r q (omega (arith, level, rises l p r b.0 b.1)) round)
      where
        by : (b : Bool) → leads l p r b → AcceptingRun leads u r q ⊎ IsFull q → AcceptingRun leads (l ∷ u) p q ⊎ IsFull q
        by b lead (inl found) = inl (inr (r, b, lead, found))
        by b lead (inr full) = inr full

    some_letter : (u : List L) (p q : ℕ) → AcceptingRun others u p q → 0 < length u
    some_letter [] p q none = absurd none
    some_letter (l ∷ u) p q round = omega arith

    loop_back : (u : List L) (s : ℕ) → AcceptingRun others u s s → AcceptingRun leads u s s
    loop_back u s round = by (round_back u s s (omega arith) round)
      where
        by_depth : AcceptingRun leads u s s ⊎ (depth s + length u ≤ depth s) → AcceptingRun leads u s s
        by_depth (inl found) = found
        by_depth (inr deep) = absurd (omega (arith, deep, some_letter u s s round))

        by : AcceptingRun leads u s s ⊎ IsFull s → AcceptingRun leads u s s
        by (inl found) = found
        by (inr full) =
            by_depth (filled u s s full (omega arith) (run_back u s s (accepting-is_run others u s s round))).1

    pub filled_accepts : (w : WordLasso L) (p : ℕ) → IsAcceptedFrom others p w → IsAcceptedFrom leads p w
    filled_accepts w p a = record {
      turns = a.turns;
      state = a.state;
      comes = run_back (stem w ++ repeated a.turns (turn w)) p a.state a.comes;
      rounds = a.rounds;
      once = a.once;
      returns = loop_back (repeated a.rounds (turn w)) a.state a.returns;
    }
