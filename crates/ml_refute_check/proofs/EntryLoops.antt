-- Round entries and states, until a pair of them comes again.
--
-- Where the start is won at a state, each entry that is won at a state leads to a next one. There are finitely many
-- pairs of an entry and a state, so there is a loop of them. Its lowest mark is odd, since otherwise the height for it
-- would fall on the loop and never rise. So some item of the entry where it begins has an accepting run to itself along
-- the loop, which no strategy of Even's that wins the item's node allows.
--
--   Situation        == an entry that is won at a state
--   after, reach     == the next one, and the one behind so many steps
--   path             == the marked steps on the way
--   path_is, tour_is == they are a path of the entries' traces, and a tour of the states
--   never_rises, falls_at == heights along a path
--   lowest_on        == the lowest priority of the marks on the way
--   lowest_is_odd    == the lowest mark of a loop is odd
--   no_loop          == there is no loop
--   accepted_holds_nowhere == the theorem
use Rattle.std.proofs.Common.{ℕ, zero, suc, ◌≡◌, ◌+◌, ◌*◌, ◌-◌, ◌<◌, ◌≤◌, ◌%◌, ◌⊎◌, inl, inr, true, List, [], ◌∷◌, length, map, refl, sym, ap, ◌∙◌, subst, arith}
use Rattle.std.proofs.lemmas.Bool.{cases_eq}
use Rattle.std.proofs.lemmas.Nat.{mul-add-lt, same_from_place}
use Rattle.ml_base.specs.Structure.{Structure}
use Rattle.ml_lists.specs.Lowest.{lowest}
use Rattle.ml_lists.specs.Member.{IsMember}
use Rattle.ml_lists.specs.Pigeons.{Twice}
use Rattle.ml_lists.specs.Repeated.{repeated}
use Rattle.ml_lists.proofs.Lowest.{lowest_le, lowest_place, LowestPlace}
use Rattle.ml_lists.proofs.Member.{member-append_left, member-map, member-place, place-member, Place}
use Rattle.ml_lists.proofs.Pigeons.{pigeons}
use Rattle.ml_parity.specs.Heights.{height_of}
use Rattle.ml_trace.specs.declared.letters.AutomatonState.{AutomatonState}
use Rattle.ml_trace.specs.declared.marks.Mark.{Mark}
use Rattle.ml_trace.specs.declared.marks.Mark.TheVariants.{Red, Green, Neutral}
use Rattle.ml_trace.specs.LabelledLoop.{MarkedStep, IsPath, letters, marks, CyclicRun}
use Rattle.ml_trace.specs.Marks.{priority}
use Rattle.ml_trace.specs.MarkOrder.{FitsBelow, is_odd, lowest_mark}
use Rattle.ml_trace.specs.Stack as traced
use Rattle.ml_trace.proofs.OddLoop.{odd_loop}
use Rattle.ml_trace.proofs.Priorities.{priorities_agree}
use Rattle.ml_graph.specs.Graph.{Graph}
use Rattle.ml_graph.proofs.References.{root_in_range}
use Rattle.ml_refutation.specs.Refutation.{Refutation, IsRefutation, IsMarkOf}
use Rattle.ml_refutation.specs.GoStep.{GoStep, HasTransition}
use Rattle.ml_refutation.specs.Acceptance.{entry_at, branches, Sequent, Live, Item, Decided, IsAccepted, heights_of}
use Rattle.ml_refute_check.specs.Soundness.{AcceptedHoldsNowhere}
use Rattle.ml_refute_check.proofs.Positions.{Board, IsWon}
use Rattle.ml_refute_check.proofs.Descent.{Leads, leads_on}
use Rattle.ml_refute_check.proofs.GuessedRuns.{Tours, tours-repeated, no_accepting_loop}

-- the number of a mark whose name is in use is below that of neutral
fits_below : (names : ℕ) (k : Mark) → IsMarkOf names k → FitsBelow (2 * names) k
fits_below names (Red x) low = omega arith
fits_below names (Green x) low = omega arith
fits_below names Neutral low = tt

module _ (board : Board) (r : Refutation) (r_ok : IsRefutation r) (accepted : IsAccepted board.graph r) where
  abbrev g : Graph
  g = board.graph

  abbrev m : Structure
  m = board.structure

  -- an entry that is won at a state
  record Situation : Type 0 where
    pub entry : ℕ
    pub state : ℕ
    pub is_entry : entry < length r.entries
    pub is_state : state < m.states
    pub won : (n : ℕ) → IsMember n (entry_at r entry).sequent → IsWon board state n

  go : (p : Situation) → Leads board r p.entry p.state
  go p = leads_on board r p.entry p.state p.is_state p.won r_ok accepted p.is_entry

  -- the next one
  abbrev after : Situation → Situation
  after p = record {
    entry = (go p).entry;
    state = (go p).state;
    is_entry = (go p).is_entry;
    is_state =
        (go p).is_state;
    won = (go p).won;
  }

  -- the one behind so many steps
  abbrev reach : ℕ → Situation → Situation
  reach zero p = p
  reach (suc n) p = reach n (after p)

  reach-add : (i n : ℕ) (p : Situation) → reach (i + n) p ≡ reach n (reach i p)
  reach-add zero n p = let e : zero + n ≡ n = omega arith in ap (λ k. reach k p) e
  reach-add (suc i) n p = let e : suc i + n ≡ suc (i + n) = omega arith in ap (λ k. reach k p) e ∙ reach-add i n
      (after p)

  -- the marked steps on the way
  abbrev path : ℕ → Situation → List (MarkedStep GoStep)
  path zero p = []
  path (suc n) p = record { letter = (go p).letter; mark = (go p).mark } ∷ path n (after p)

  abbrev traces : Situation → traced.Entry AutomatonState
  traces p = (entry_at r p.entry).traces

  -- they are a path of the entries' traces
  path_is : (n : ℕ) (p : Situation) → IsPath (HasTransition g) (path n p) (traces p) (traces (reach n p))
  path_is zero p = refl
  path_is (suc n) p = (traces (after p), (go p).names, path_is n (after p))

  -- and a tour of the states
  tour_is : (n : ℕ) (p : Situation)
      → Tours board (letters (path n p)) p.state (reach n p).state
  tour_is zero p = refl
  tour_is (suc n) p = ((go p).state, (go p).plays, tour_is n (after p))

  -- ---- heights

  abbrev top : ℕ
  top = 2 * r.names

  abbrev height : ℕ → ℕ → ℕ
  height q e = height_of (heights_of r) q e

  abbrev priorities : ℕ → Situation → List ℕ
  priorities n p = map (priority top) (marks (path n p))

  -- along steps of no lower priority a height doesn't rise
  never_rises : (q : ℕ) → q % 2 ≡ 0 → (n : ℕ) (p : Situation) → ((k : ℕ) → IsMember k (priorities n p) → q ≤ k)
      → height q (reach n p).entry ≤ height q p.entry
  never_rises q even zero p high = omega arith
  never_rises q even (suc n) p high =
      let here : height q (go p).entry ≤ height q p.entry = (go p).falls.stays q even
      (high (priority top (go p).mark) (inl refl)) in
      let later : height q (reach n (after p)).entry ≤ height q (go p).entry = never_rises q even n (after p)
      (λ k h. high k (inr h)) in
      omega arith

  -- and where one of them has this priority, it falls
  falls_at : (q : ℕ) → q % 2 ≡ 0 → (n : ℕ) (p : Situation) → ((k : ℕ) → IsMember k (priorities n p) → q ≤ k)
      → IsMember q (priorities n p) → height q (reach n p).entry < height q p.entry
  falls_at q even zero p high h = absurd h
  falls_at q even (suc n) p high (inl same) =
      let here : height q (go p).entry < height q p.entry = subst (λ k. height k (go p).entry < height k p.entry)
      (sym same) ((go p).falls.falls (subst (λ k. k % 2 ≡ 0) same even)) in
      let later : height q (reach n (after p)).entry ≤ height q (go p).entry = never_rises q even n (after p)
      (λ k h. high k (inr h)) in
      omega arith
  falls_at q even (suc n) p high (inr h) =
      let here : height q (go p).entry ≤ height q p.entry = (go p).falls.stays q even
      (high (priority top (go p).mark) (inl refl)) in
      let later : height q (reach n (after p)).entry < height q (go p).entry = falls_at q even n (after p)
      (λ k i. high k (inr i)) h in
      omega arith

  fits : (n : ℕ) (p : Situation) (k : Mark) → IsMember k (marks (path n p)) → FitsBelow top k
  fits zero p k h = absurd h
  fits (suc n) p k (inl same) = subst (FitsBelow top) (sym same) (fits_below r.names (go p).mark (go p).fits)
  fits (suc n) p k (inr h) = fits n (after p) k h

  -- the lowest priority on the way, of one step at least
  abbrev lowest_on : ℕ → Situation → ℕ
  lowest_on n p = lowest (priority top (go p).mark) (priorities n (after p))

  lowest_on_le : (n : ℕ) (p : Situation) (k : ℕ) → IsMember k (priorities (suc n) p) → lowest_on n p ≤ k
  lowest_on_le n p k h = at_place (member-place k (priorities (suc n) p) h)
    where
      at_place : Place k (priorities (suc n) p) → lowest_on n p ≤ k
      at_place place =
          subst (λ x. lowest_on n p ≤ x) (place.holds 0)
          (lowest_le (priority top (go p).mark) (priorities n (after p)) place.place 0 place.below)

  lowest_on_is : (n : ℕ) (p : Situation) → IsMember (lowest_on n p) (priorities (suc n) p)
  lowest_on_is n p = at_place (lowest_place (priority top (go p).mark) (priorities n (after p)))
    where
      at_place : LowestPlace (priority top (go p).mark) (priorities n (after p))
          → IsMember (lowest_on n p) (priorities (suc n) p)
      at_place place =
          subst (λ x. IsMember x (priorities (suc n) p)) (place.holds 0)
          (place-member (priorities (suc n) p) place.place 0 place.below)

  -- the lowest mark of a loop is odd
  lowest_is_odd : (n : ℕ) (p : Situation) → (reach (suc n) p).entry ≡ p.entry
      → is_odd (lowest_mark (marks (path (suc n) p))) ≡ true
  lowest_is_odd n p back =
      (priorities_agree top (go p).mark (marks (path n (after p))) even_top (fits (suc n) p)).0
      (odd (cases_eq (lowest_on n p % 2) 0))
    where
      even_top : top % 2 ≡ 0
      even_top = omega arith

      odd : (lowest_on n p % 2 ≡ 0) ⊎ (lowest_on n p % 2 ≡ 0 → ⊥) → lowest_on n p % 2 ≡ 1
      odd (inl even) =
          let falls : height (lowest_on n p) (reach (suc n) p).entry < height (lowest_on n p) p.entry = falls_at
          (lowest_on n p) even (suc n) p (lowest_on_le n p) (lowest_on_is n p) in
          let same : height (lowest_on n p) (reach (suc n) p).entry ≡ height (lowest_on n p) p.entry = ap
          (height (lowest_on n p)) back in
          absurd (omega arith)
      odd (inr other) = omega (arith, other)

  -- ---- the loop

  -- there is no loop
  no_loop : (n : ℕ) (p : Situation) → (reach (suc n) p).entry ≡ p.entry → (reach (suc n) p).state ≡ p.state → ⊥
  no_loop n p same_entry same_state = from run
    where
      loop : IsPath (HasTransition g) (path (suc n) p) (traces p) (traces p)
      loop = subst (λ e. IsPath (HasTransition g) (path (suc n) p) (traces p) (entry_at r e).traces) same_entry
          (path_is (suc n) p)

      tour : Tours board (letters (path (suc n) p)) p.state p.state
      tour = subst (Tours board (letters (path (suc n) p)) p.state) same_state (tour_is (suc n) p)

      run : CyclicRun (HasTransition g) (traces p) (letters (path (suc n) p))
      run = odd_loop (HasTransition g) (path (suc n) p) (traces p) loop
          (accepted p.entry Live p.is_entry (inr (inl refl))).0 (lowest_is_odd n p same_entry)

      from : CyclicRun (HasTransition g) (traces p) (letters (path (suc n) p)) → ⊥
      from c =
          let stands = (accepted p.entry (Item c.item) p.is_entry
          (inr (inr (member-append_left (Item c.item) (map Item (traces p).items)
          (map Decided (branches [] (entry_at r p.entry).decision))
          (member-map Item c.item (traces p).items c.member))))).0 in
          no_accepting_loop board (repeated c.times (letters (path (suc n) p))) p.state c.item.state
          (tours-repeated board c.times (letters (path (suc n) p)) p.state tour) c.run
          (p.won c.item.state.node stands.member)

  -- so there is no first situation
  abbrev code : Situation → ℕ
  code p = p.entry * m.states + p.state

  nowhere : Situation → ⊥
  nowhere p = from (pigeons (m.states * length r.entries) (λ k. code (reach k p))
      (λ k low. mul-add-lt (reach k p).entry m.states (reach k p).state (length r.entries) (reach k p).is_entry
      (reach k p).is_state))
    where
      from : Twice (λ k. code (reach k p)) (m.states * length r.entries) → ⊥
      from twice =
          let parts = same_from_place (reach twice.first p).entry (reach twice.first p).state
          (reach twice.second p).entry (reach twice.second p).state m.states (reach twice.first p).is_state
          (reach twice.second p).is_state twice.same in
          let n : ℕ = twice.second - suc twice.first in
          let far : twice.second ≡ twice.first + suc n = omega (arith, twice.apart) in
          let back : reach twice.second p ≡ reach (suc n) (reach twice.first p) = ap (λ k. reach k p) far
          ∙ reach-add twice.first (suc n) p in
          no_loop n (reach twice.first p) (ap (λ (x : Situation). x.entry) (sym back) ∙ sym parts.0)
          (ap (λ (x : Situation). x.state) (sym back) ∙ sym parts.1)

  -- the root isn't won at any state
  pub root_not_won : (s : ℕ) → s < m.states → IsWon board s g.root → ⊥
  root_not_won s low root = nowhere (record {
    entry = 0;
    state = s;
    is_entry = r_ok.has_start;
    is_state = low;
    won = λ n h. at_root n (subst (IsMember n) ((accepted 0 Sequent r_ok.has_start (inl refl)).0.starts refl) h);
  })
    where
      at_root : (n : ℕ) → IsMember n (g.root ∷ []) → IsWon board s n
      at_root n (inl e) = subst (IsWon board s) (sym e) root
      at_root n (inr e) = absurd e

-- where a refutation is accepted for a graph, the graph holds at no state of any structure
pub accepted_holds_nowhere : AcceptedHoldsNowhere
accepted_holds_nowhere g r g_ok r_ok accepted m m_ok s low holds = root_not_won board r r_ok accepted s low root
  where
    board : Board
    board = record {
      graph = g;
      structure = m;
      is_graph = g_ok;
      is_structure = m_ok;
      strategy = holds.strategy;
      is_strategy = holds.is_strategy;
    }

    root : IsWon board s g.root
    root = record { is_node = root_in_range g g_ok; wins = holds.wins }
