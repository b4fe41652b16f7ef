-- Runs of one automaton that another one follows.
--
-- A relation joins states of the two automata. Each transition from a state that is joined to x is followed by one of the
-- other automaton from x, to a state to which the target is joined again. It need not accept where the first one does: joined
-- states have a rank, which falls there, and rises only where the transition that follows accepts. A run that accepts on its
-- loop is followed turn by turn. The other automaton has few states, so one of them comes twice, at the same state of the
-- loop: in between the rank would have fallen, if no transition that follows had accepted.
--
--   Followed          == a transition is followed
--   carry, carry_round == so are runs, and accepting runs
--   followed_accepts  == so what is accepted, the other automaton accepts
use Rattle.std.proofs.Common.{ℕ, zero, suc, ◌≡◌, ◌+◌, ◌<◌, ◌≤◌, ◌⊎◌, inl, inr, ⊎_elim, arith, Bool, true, List, [], ◌∷◌, ◌++◌, refl, sym, ap, ◌∙◌, subst, append_assoc}
use Rattle.std.proofs.lemmas.Bool.{cases_eq}
use Rattle.ml_lists.specs.Pigeons.{Twice}
use Rattle.ml_lists.specs.Repeated.{repeated}
use Rattle.ml_lists.specs.Walk.{walk}
use Rattle.ml_lists.proofs.Pigeons.{pigeons}
use Rattle.ml_lists.proofs.Repeated.{repeated-add}
use Rattle.ml_trace.specs.Run.{AcceptingRun, Run}
use Rattle.ml_trace.specs.WordAutomata.{IsAcceptedFrom, WordLasso, stem, turn}
use Rattle.ml_trace.proofs.Runs.{accepting-append, accepting-is_run, run-append}

-- an accepting run behind a run
run-accepting : {S L : Type 0} (leads : L → S → S → Bool → Type 0) (u v : List L) (p q r : S)
    → Run leads u p q
    → AcceptingRun leads v q r
    → AcceptingRun leads (u ++ v) p r
run-accepting leads [] v p q r same run = subst (λ s. AcceptingRun leads v s r) (sym same) run
run-accepting leads (l ∷ u) v p q r first run =
    inr (first.0, first.1, first.2, run-accepting leads u v first.0 q r first.3 run)

module _ {S L : Type 0} (leads : L → S → S → Bool → Type 0) (others : L → ℕ → ℕ → Bool → Type 0)
    (R : S → ℕ → Type 0) (rank : S → ℕ → ℕ) where
  pub record Followed (l : L) (p q : S) (b : Bool) (x : ℕ) : Type 0 where
    pub to : ℕ
    pub accepting : Bool
    pub leads_there : others l x to accepting
    pub joined : R q to
    pub falls : (accepting ≡ true) ⊎ ((rank q to ≤ rank p x) × (b ≡ true → rank q to < rank p x))

  -- along a word the other automaton comes from x to y, and accepts on the way or comes to no higher rank
  record Carried (u : List L) (p q : S) (x : ℕ) : Type 0 where
    to : ℕ
    joined : R q to
    way : AcceptingRun others u x to ⊎ (Run others u x to × (rank q to ≤ rank p x))

  -- or to a lower one
  abbrev Falls : List L → S → ℕ → ℕ → Type 0
  Falls u p x y = AcceptingRun others u x y ⊎ (Run others u x y × (rank p y < rank p x))

  module _ (step : (l : L) (p q : S) (b : Bool) (x : ℕ) → R p x → leads l p q b → Followed l p q b x) where
    way_run : (u : List L) (p q : S) (x y : ℕ)
        → AcceptingRun others u x y ⊎ (Run others u x y × (rank q y ≤ rank p x))
        → Run others u x y
    way_run u p q x y (inl round) = accepting-is_run others u x y round
    way_run u p q x y (inr (run, less)) = run

    carry : (u : List L) (p q : S) (x : ℕ) → R p x → Run leads u p q → Carried u p q x
    carry [] p q x joined same =
        let level : rank q x ≡ rank p x = ap (λ r. rank r x) (sym same) in
        record { to = x; joined = subst (λ r. R r x) same joined; way = inr (refl, omega (arith, level)) }
    carry (l ∷ u) p q x joined (r, b, lead, run) =
        let f = step l p r b x joined lead in
        let rest = carry u r q f.to f.joined run in
        record { to = rest.to; joined = rest.joined; way = by f rest f.falls rest.way }
      where
        by : (f : Followed l p r b x) (rest : Carried u r q f.to)
            → (f.accepting ≡ true) ⊎ ((rank r f.to ≤ rank p x) × (b ≡ true → rank r f.to < rank p x))
            → AcceptingRun others u f.to rest.to ⊎ (Run others u f.to rest.to × (rank q rest.to ≤ rank r f.to))
            → AcceptingRun others (l ∷ u) x rest.to ⊎ (Run others (l ∷ u) x rest.to × (rank q rest.to ≤ rank p x))
        by f rest (inl accepts) way =
            inl (inl (f.to, subst (others l x f.to) accepts f.leads_there, way_run u r q f.to rest.to way))
        by f rest (inr falls) (inl round) = inl (inr (f.to, f.accepting, f.leads_there, round))
        by f rest (inr falls) (inr (on, less)) =
            let first = falls.0 in inr ((f.to, f.accepting, f.leads_there, on), omega (arith, first, less))

    record Round (u : List L) (p q : S) (x : ℕ) : Type 0 where
      to : ℕ
      joined : R q to
      way : AcceptingRun others u x to ⊎ (Run others u x to × (rank q to < rank p x))

    carry_round : (u : List L) (p q : S) (x : ℕ) → R p x → AcceptingRun leads u p q → Round u p q x
    carry_round [] p q x joined none = absurd none
    carry_round (l ∷ u) p q x joined (inl (r, lead, run)) =
        let f = step l p r true x joined lead in
        let rest = carry u r q f.to f.joined run in
        record { to = rest.to; joined = rest.joined; way = by f rest f.falls rest.way }
      where
        by : (f : Followed l p r true x) (rest : Carried u r q f.to)
            → (f.accepting ≡ true) ⊎ ((rank r f.to ≤ rank p x) × (true ≡ true → rank r f.to < rank p x))
            → AcceptingRun others u f.to rest.to ⊎ (Run others u f.to rest.to × (rank q rest.to ≤ rank r f.to))
            → AcceptingRun others (l ∷ u) x rest.to ⊎ (Run others (l ∷ u) x rest.to × (rank q rest.to < rank p x))
        by f rest (inl accepts) way =
            inl (inl (f.to, subst (others l x f.to) accepts f.leads_there, way_run u r q f.to rest.to way))
        by f rest (inr falls) (inl round) = inl (inr (f.to, f.accepting, f.leads_there, round))
        by f rest (inr falls) (inr (on, less)) =
            let first = falls.1 refl in inr ((f.to, f.accepting, f.leads_there, on), omega (arith, first, less))
    carry_round (l ∷ u) p q x joined (inr (r, b, lead, round)) =
        let f = step l p r b x joined lead in
        let rest = carry_round u r q f.to f.joined round in
        record { to = rest.to; joined = rest.joined; way = by f rest f.falls rest.way }
      where
        run_of : (y z : ℕ) → AcceptingRun others u y z ⊎ (Run others u y z × (rank q z < rank r y)) → Run others u y z
        run_of y z (inl a) = accepting-is_run others u y z a
        run_of y z (inr (on, less)) = on

        by : (f : Followed l p r b x) (rest : Round u r q f.to)
            → (f.accepting ≡ true) ⊎ ((rank r f.to ≤ rank p x) × (b ≡ true → rank r f.to < rank p x))
            → AcceptingRun others u f.to rest.to ⊎ (Run others u f.to rest.to × (rank q rest.to < rank r f.to))
            → AcceptingRun others (l ∷ u) x rest.to ⊎ (Run others (l ∷ u) x rest.to × (rank q rest.to < rank p x))
        by f rest (inl accepts) way =
            inl (inl (f.to, subst (others l x f.to) accepts f.leads_there, run_of f.to rest.to way))
        by f rest (inr falls) (inl a) = inl (inr (f.to, f.accepting, f.leads_there, a))
        by f rest (inr falls) (inr (on, less)) =
            let first = falls.0 in inr ((f.to, f.accepting, f.leads_there, on), omega (arith, first, less))

    -- ---- turn by turn

    module _ (w : WordLasso L) (p : S) (a : IsAcceptedFrom leads p w) where
      abbrev s : S
      s = a.state

      abbrev rounds : List L
      rounds = repeated a.rounds (turn w)

      -- a state to which that of the loop is joined
      record AtLoop : Type 0 where
        at : ℕ
        joined : R s at

      one_turn : (y : AtLoop) → Round rounds s s y.at
      one_turn y = carry_round rounds s s y.at y.joined a.returns

      next_turn : AtLoop → AtLoop
      next_turn y = record { at = (one_turn y).to; joined = (one_turn y).joined }

      turn_way : (y : AtLoop) → Falls rounds s y.at (next_turn y).at
      unfolding next_turn
      turn_way y = (one_turn y).way

      falls_run : (u : List L) (x y : ℕ) → Falls u s x y → Run others u x y
      falls_run u x y (inl round) = accepting-is_run others u x y round
      falls_run u x y (inr (run, less)) = run

      join_falls : (u v : List L) (x y z : ℕ) → Falls u s x y → Falls v s y z → Falls (u ++ v) s x z
      join_falls u v x y z (inl round) more = inl (accepting-append others u v x y z round (falls_run v y z more))
      join_falls u v x y z (inr (run, less)) (inl round) = inl (run-accepting others u v x y z run round)
      join_falls u v x y z (inr (run, less)) (inr (on, more)) =
          inr (run-append others u v x y z run on, omega (arith, less, more))

      module _ (x : ℕ) (begin : AtLoop) (comes : Run others (stem w ++ repeated a.turns (turn w)) x begin.at) where
        abbrev X : ℕ → AtLoop
        X k = walk next_turn begin k

        come : (k : ℕ) → (t : ℕ) × Run others (stem w ++ repeated t (turn w)) x (X k).at
        come zero = (a.turns, comes)
        come (suc k) =
            let so_far = come k in
            let turns = repeated so_far.0 (turn w) in (
              so_far.0 + a.rounds,
              subst (λ v. Run others v x (next_turn (X k)).at)
                  (append_assoc (stem w) turns rounds ∙ ap (λ v. stem w ++ v) (repeated-add so_far.0 a.rounds (turn w)))
                  (run-append others (stem w ++ turns) rounds x (X k).at (next_turn (X k)).at so_far.1
                  (falls_run rounds (X k).at (next_turn (X k)).at (turn_way (X k)))),
            )

        record Between (i j : ℕ) : Type 0 where
          rounds_between : ℕ
          once : 1 ≤ rounds_between
          way : Falls (repeated rounds_between (turn w)) s (X i).at (X j).at

        between : (i j : ℕ) → i < j → Between i j
        between i zero less = absurd (omega (arith, less))
        between i (suc j) less = by (cases_eq i j) (between i j)
          where
            by : (i ≡ j) ⊎ (i ≡ j → ⊥) → (i < j → Between i j) → Between i (suc j)
            by (inl same) rest =
                subst (λ k. Between k (suc j)) (sym same)
                (record { rounds_between = a.rounds; once = a.once; way = turn_way (X j) })
            by (inr apart) rest =
                let so_far = rest (omega (arith, less, apart)) in
                let n = so_far.rounds_between in
                let once = so_far.once in
                record {
                  rounds_between = n + a.rounds;
                  once = omega (arith, once);
                  way =
                      subst (λ v. Falls v s (X i).at (next_turn (X j)).at) (repeated-add n a.rounds (turn w))
                      (join_falls (repeated n (turn w)) rounds (X i).at (X j).at (next_turn (X j)).at so_far.way (turn_way (X j)));
                }

        by_twice : (n : ℕ) → Twice (λ k. (X k).at) n → IsAcceptedFrom others x w
        by_twice n t = by (between t.first t.second t.apart)
          where
            by : Between t.first t.second → IsAcceptedFrom others x w
            by b = record {
              turns = (come t.first).0;
              state = (X t.first).at;
              comes = (come t.first).1;
              rounds = b.rounds_between;
              once = b.once;
              returns = round b.way;
            }
              where
                round : Falls (repeated b.rounds_between (turn w)) s (X t.first).at (X t.second).at
                    → AcceptingRun others (repeated b.rounds_between (turn w)) (X t.first).at (X t.first).at
                round (inl a_round) =
                    subst (AcceptingRun others (repeated b.rounds_between (turn w)) (X t.first).at) (sym t.same) a_round
                round (inr (run, less)) =
                    let level : rank s (X t.first).at ≡ rank s (X t.second).at = ap (rank s) t.same in
                    absurd (omega (arith, less, level))

    pub followed_accepts : (n : ℕ)
        → ((p : S) (x : ℕ) → R p x → x < n)
        → (w : WordLasso L) (p : S) (x : ℕ)
        → R p x
        → IsAcceptedFrom leads p w
        → IsAcceptedFrom others x w
    followed_accepts n low w p x joined a =
        let first = carry (stem w ++ repeated a.turns (turn w)) p a.state x joined a.comes in
        let begin : AtLoop w p a = record { at = first.to; joined = first.joined } in
        let run = way_run (stem w ++ repeated a.turns (turn w)) p a.state x first.to first.way in
        by_twice w p a x begin run n
        (pigeons n (λ k. (X w p a x begin run k).at)
        (λ k le. low a.state (X w p a x begin run k).at (X w p a x begin run k).joined))
