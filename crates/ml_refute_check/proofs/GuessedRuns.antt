-- Accepting runs as closed walks of the checking game.
--
-- A run that has guessed an odd priority d keeps it: each triple that it uses has a lowest priority of at least d, and
-- an accepting transition one of exactly d. An accepting transition is among states with a guess. So an accepting run
-- from a state of the automaton to itself has one guess d throughout, and where each step is a walk that follows Even's
-- strategy, it is a closed walk with the lowest priority d: it loses.
--
--   Guessed, stays_guessed == from a state with a guess a transition leads to one with the same guess
--   run_keeps_guess        == so does a run
--   some_guess             == an accepting run ends in a state with a guess
--   Tours w t u            == the steps w are walks from the state t on to the state u
--   tours-append, tours-repeated == tours one behind the other, and one gone several times
--   run_goes_high          == a run with the guess d is a walk with no lower priority, or stands
--   accepting_meets        == an accepting one is a walk with exactly this lowest priority
--   no_accepting_loop      == where a node is won, no accepting run leads from it round a tour to itself
use Rattle.std.proofs.Common.{ℕ, zero, suc, ◌≡◌, ◌≤◌, ◌==◌, inl, inr, min, Bool, true, List, [], ◌∷◌, ◌++◌, Option, Some, None, refl, sym, ap, ◌∙◌, subst, arith}
use Rattle.std.proofs.lemmas.Bool.Decides.{nat_tests}
use Rattle.ml_base.specs.Structure.{Structure}
use Rattle.ml_lists.specs.Member.{IsMember}
use Rattle.ml_lists.specs.Repeated.{repeated}
use Rattle.ml_parity.specs.declared.players.Player.TheVariants.{Even}
use Rattle.ml_trace.specs.declared.letters.AutomatonState.{AutomatonState}
use Rattle.ml_trace.specs.Automaton.{Leads}
use Rattle.ml_trace.specs.Run.{Run, AcceptingRun}
use Rattle.ml_trace.proofs.Runs.{accepting-is_run}
use Rattle.ml_graph.specs.Graph.{Graph, odd_priorities}
use Rattle.ml_graph.specs.CheckingGame.{checking_game}
use Rattle.ml_refutation.specs.GoStep.{GoStep, HasTransition}
use Rattle.ml_parity.proofs.FollowedWalks.{walks_joined, closed_walk_good, odd_is_not_even}
use Rattle.ml_refute_check.proofs.Positions.{Board, vertex, Walk, IsWon}
use Rattle.ml_refute_check.proofs.Descent.{Plays}
use Rattle.ml_graph.proofs.OddPriorities.{odd_is_odd}

-- ---- guesses

-- a transition from a state with the guess d
pub record Guessed (odds : List ℕ) (k d : ℕ) (o : Option ℕ) (accepting : Bool) : Type 0 where
  pub same : o ≡ Some d
  pub occurs : IsMember d odds
  pub high : d ≤ k
  pub accepts : accepting ≡ (d == k)

-- leads to one with the same guess
pub stays_guessed : (odds : List ℕ) (k d : ℕ) (o : Option ℕ) (accepting : Bool) → Leads odds k (Some d) o accepting
    → Guessed odds k d o accepting
stays_guessed odds k d None accepting h = absurd h
stays_guessed odds k d (Some e) accepting h = record { same = ap Some h.0; occurs = h.1; high = h.2; accepts = h.3 }

-- one from a state without a guess does not accept
never_accepts : (odds : List ℕ) (k : ℕ) (o : Option ℕ) → Leads odds k None o true → ⊥
never_accepts odds k None h = absurd (cc)
never_accepts odds k (Some d) h = let wrong = h.1 in absurd (cc)

-- an odd priority that occurs is odd

module _ (g : Graph) where
  -- a transition of a step, from a state with the guess d
  guessed : (l : GoStep) (p q : AutomatonState) (accepting : Bool) (d : ℕ) (a : HasTransition g l p q accepting)
      → p.odd ≡ Some d
      → Guessed (odd_priorities g) a.trace.lowest d q.odd accepting
  guessed l p q accepting d a is =
      stays_guessed (odd_priorities g) a.trace.lowest d q.odd accepting
      (subst (λ o. Leads (odd_priorities g) a.trace.lowest o q.odd accepting) is a.leads)

  -- a run keeps its guess
  pub run_keeps_guess : (w : List GoStep) (p q : AutomatonState) (d : ℕ) → Run (HasTransition g) w p q → p.odd ≡ Some d
      → q.odd ≡ Some d
  run_keeps_guess [] p q d same is = subst (λ (s : AutomatonState). s.odd ≡ Some d) same is
  run_keeps_guess (l ∷ w) p q d run is = run_keeps_guess w run.0 q d run.3 (guessed l p run.0 run.1 d run.2 is).same

  -- an accepting run ends in a state with a guess
  pub some_guess : (w : List GoStep) (p q : AutomatonState) → AcceptingRun (HasTransition g) w p q → p.odd ≡ None
      → (d : ℕ) × (q.odd ≡ Some d)
  some_guess [] p q run is = absurd run
  some_guess (l ∷ w) p q (inl run) is =
      absurd (never_accepts (odd_priorities g) run.1.trace.lowest run.0.odd
      (subst (λ o. Leads (odd_priorities g) run.1.trace.lowest o run.0.odd true) is run.1.leads))
  some_guess (l ∷ w) p q (inr run) is = by_guess run.0.odd refl (λ none. some_guess w run.0 q run.3 none)
    where
      by_guess : (o : Option ℕ)
          → run.0.odd ≡ o
          → (run.0.odd ≡ None → (d : ℕ) × (q.odd ≡ Some d))
          → (d : ℕ) × (q.odd ≡ Some d)
      by_guess None e later = later e
      by_guess (Some d) e later = (
        d,
        run_keeps_guess w run.0 q d
            (accepting-is_run (HasTransition g) w run.0 q run.3) e,
      )

-- ---- tours

module _ (board : Board) where
  abbrev g : Graph
  g = board.graph

  abbrev m : Structure
  m = board.structure

  abbrev at : ℕ → ℕ → ℕ
  at t n = vertex board t n

  abbrev Goes : ℕ → ℕ → ℕ → Type 0
  Goes v k w = Walk board v k w

  -- the steps are walks from a state on to a state
  abbrev pub Tours : List GoStep → ℕ → ℕ → Type 0
  Tours [] t u = t ≡ u
  Tours (l ∷ w) t u = (x : ℕ) × Plays board l t x × Tours w x u

  pub tours-append : (v w : List GoStep) (t x u : ℕ) → Tours v t x → Tours w x u → Tours (v ++ w) t u
  tours-append [] w t x u same rest = subst (λ y. Tours w y u) (sym same) rest
  tours-append (l ∷ v) w t x u first rest = (first.0, first.1, tours-append v w first.0 x u first.2 rest)

  pub tours-repeated : (k : ℕ) (w : List GoStep) (t : ℕ) → Tours w t t → Tours (repeated k w) t t
  tours-repeated zero w t tour = refl
  tours-repeated (suc k) w t tour = tours-append w (repeated k w) t t t tour (tours-repeated k w t tour)

  -- a walk with no priority below d, or none
  pub data GoesHigh (d v w : ℕ) : Type 0 where
    stands : v ≡ w → GoesHigh d v w
    goes_on : (k : ℕ) → d ≤ k → Goes v k w → GoesHigh d v w

  high_joined : (d v k w x : ℕ) → d ≤ k → Goes v k w → GoesHigh d w x → GoesHigh d v x
  high_joined d v k w x high walk (stands e) = goes_on k high (subst (λ y. Goes v k y) e walk)
  high_joined d v k w x high walk (goes_on j j_high rest) =
      goes_on (min k j) (omega arith) (walks_joined (checking_game g m) Even board.strategy v k w j x walk rest)

  exact_joined : (d v k w x : ℕ) → d ≡ k → Goes v k w → GoesHigh d w x → Goes v d x
  exact_joined d v k w x same walk (stands e) = subst (λ y. Goes v d y) e (subst (λ i. Goes v i w) (sym same) walk)
  exact_joined d v k w x same walk (goes_on j j_high rest) =
      let low : min k j ≡ d = omega arith in
      subst (λ i. Goes v i x) low (walks_joined (checking_game g m) Even board.strategy v k w j x walk rest)

  -- a run with the guess d is a walk with no lower priority, or stands
  pub run_goes_high : (w : List GoStep) (t u : ℕ) (p q : AutomatonState) (d : ℕ)
      → Tours w t u
      → Run (HasTransition g) w p q
      → p.odd ≡ Some d → GoesHigh d (at t p.node) (at u q.node)
  run_goes_high [] t u p q d tour same is = stands
      (ap (λ x. at x p.node) tour ∙ ap (λ (s : AutomatonState). at u s.node) same)
  run_goes_high (l ∷ w) t u p q d tour run is =
      let guess = guessed g l p run.0 run.1 d run.2 is in
      high_joined d (at t p.node) run.2.trace.lowest (at tour.0 run.0.node) (at u q.node) guess.high
      (tour.1 p run.0 run.1 run.2)
      (run_goes_high w tour.0 u run.0 q d tour.2 run.3 guess.same)

  -- an accepting one
  pub record Meets (d : ℕ) (v w : ℕ) : Type 0 where
    pub occurs : IsMember d (odd_priorities g)
    pub walk : Goes v d w

  -- is a walk with exactly this lowest priority
  pub accepting_meets : (w : List GoStep) (t u : ℕ) (p q : AutomatonState) (d : ℕ) → Tours w t u
      → AcceptingRun (HasTransition g) w p q → p.odd ≡ Some d → Meets d (at t p.node) (at u q.node)
  accepting_meets [] t u p q d tour run is = absurd run
  accepting_meets (l ∷ w) t u p q d tour (inl run) is =
      let guess = guessed g l p run.0 true d run.1 is in
      let test = guess.accepts in
      let exact : d ≡ run.1.trace.lowest = grind (arith, nat_tests) in
      record {
        occurs = guess.occurs;
        walk = exact_joined d (at t p.node) run.1.trace.lowest (at tour.0 run.0.node) (at u q.node) exact
            (tour.1 p run.0 true run.1)
            (run_goes_high w tour.0 u run.0 q d tour.2 run.2 guess.same);
      }
  accepting_meets (l ∷ w) t u p q d tour (inr run) is =
      let guess = guessed g l p run.0 run.1 d run.2 is in
      let later = accepting_meets w tour.0 u run.0 q d tour.2 run.3 guess.same in
      let low : min run.2.trace.lowest d ≡ d = omega (arith, guess.high) in
      record {
        occurs = guess.occurs;
        walk = subst (λ i. Goes (at t p.node) i (at u q.node)) low
            (walks_joined (checking_game g m) Even board.strategy (at t p.node) run.2.trace.lowest
            (at tour.0 run.0.node) d (at u q.node) (tour.1 p run.0 run.1 run.2) later.walk);
      }

  -- where a node is won, no accepting run leads from it round a tour to itself
  pub no_accepting_loop : (w : List GoStep) (t : ℕ) (p : AutomatonState)
      → Tours w t t
      → AcceptingRun (HasTransition g) w p p
      → IsWon board t p.node → ⊥
  no_accepting_loop w t p tour run won = by_guess p.odd refl
    where
      by_guess : (o : Option ℕ) → p.odd ≡ o → ⊥
      by_guess None is =
          let some = some_guess g w p p run is in
          let wrong : None ≡ Some some.0 = sym is ∙ some.1 in
          absurd (cc)
      by_guess (Some d) is =
          let meets = accepting_meets w t t p p d tour run is in
          odd_is_not_even d (odd_is_odd g d meets.occurs)
          (closed_walk_good (checking_game g m) Even board.strategy (at t p.node) d meets.walk won.wins)
