-- What Odd's choice leads to, at a position that Odd wins.
--
-- This is what the call that makes the refutation finds there: where nothing clashes and no or-node is open, there is a
-- diamond, since otherwise the one move goes to Won; Odd's choice is the next position of one, and so of a least one;
-- and this position has the number of a mark.
--
--   one_target      == a step along a diamond leads to one position
--   StepAt, step_at == the moves of a position, one for each diamond
--   won_not_odd     == Odd doesn't win Won
--   GoesOn, goes_on == what Odd's choice leads to
use Rattle.std.proofs.Common.{ℕ, zero, suc, ◌≡◌, ◌+◌, ◌<◌, ◌≤◌, ◌⊎◌, inl, inr, List, [], ◌∷◌, Some}
use Rattle.std.proofs.Common.{length, get_or, map, slice_get, Contains, refl, sym, ap, ◌∙◌, subst, arith}
use Rattle.std.proofs.lemmas.Bool.{cases_lt, cases_eq}
use Rattle.std.proofs.lemmas.List.{get_or-append-add, length-map}
use Rattle.std.proofs.lemmas.Option.{slice_get_within}
use Rattle.ml_lists.specs.Ascending.{IsAscending}
use Rattle.ml_lists.specs.Member.{IsMember}
use Rattle.ml_lists.specs.Search.{IsFirst}
use Rattle.ml_lists.specs.Found.{First}
use Rattle.ml_lists.proofs.Ascending.{ascending_same, ascending-apart, ascending-filter}
use Rattle.ml_lists.proofs.Member.{member-place, place-member, Place}
use Rattle.ml_lists.proofs.Members.{member_of_contains, contains_of_member}
use Rattle.ml_lists.proofs.Search.{search_first}
use Rattle.ml_graph.specs.Graph.{Graph, node_at, odd_priorities}
use Rattle.ml_history.specs.HistoryStep.{stepped, step_mark}
use Rattle.ml_history.proofs.definition.LetterSets.{letters_are_sets}
use Rattle.ml_parity.specs.declared.players.Player.TheVariants.{Even, Odd}
use Rattle.ml_parity.specs.Game.{HasMove, owner_of, moves_of, priority_of}
use Rattle.ml_parity.specs.Player.{side}
use Rattle.ml_parity.specs.Solution.{GameSolution, IsSolution, choice_at}
use Rattle.ml_parity.specs.Winner.{WinsFrom}
use Rattle.ml_parity.proofs.FollowedWalks.{FollowedMove, last, won_behind, closed_walk_good}
use Rattle.ml_product.specs.Arena.{Arena, AreVertices, IsPlayed, IsArenaOf, game_of}
use Rattle.ml_product.specs.DecisionGame.{Verdict, Clashing, Open, Leading, Settled, Target, To, Won, IsResolved, IsVerdictOf, diamonds_of, AreSteps, AreMoves}
use Rattle.ml_product.specs.Movers.{mover}
use Rattle.ml_product.specs.Position.{Position, neutral, Follows}
use Rattle.ml_product.proofs.ArenaGame.{owner_at, moves_at, won_moves, size_is}
use Rattle.ml_product.proofs.NeutralPriority.{mark_fits}
use Rattle.ml_product.proofs.OnePlace.{same_spread, same_place}
use Rattle.ml_product.proofs.Reached.{Facts}
use Rattle.ml_sequent.specs.Spread.{SpreadList, IsSpreadOf, is_diamond}
use Rattle.ml_trace.specs.declared.letters.Transition.{Transition}
use Rattle.ml_trace.specs.declared.letters.Triple.{Triple}
use Rattle.ml_trace.specs.declared.marks.Mark.{Mark}
use Rattle.ml_trace.specs.Automaton.{Gives}
use Rattle.ml_trace.specs.Marks.{priority}
use Rattle.ml_trace.specs.MarkOrder.{FitsBelow}
use Rattle.ml_refute.specs.Extracted.{Chooses, IsLeastTo}

-- the members of an ascending list that pass a test ascend
-- ---- one step

-- the transitions of one step are those of another one along the same diamond
same_letter : (g : Graph) (p q x : Position) (sp : SpreadList) (d : ℕ) (f : Follows g p sp d q) (h : Follows g p sp d x)
    (t : Transition)
    → IsMember t f.letter
    → IsMember t h.letter
same_letter g p q x sp d f h t inside = from ((f.is_letter t).0 inside)
  where
    from : ((y : Triple) × IsMember y f.traces × Gives (odd_priorities g) y t) → IsMember t h.letter
    from (y, member, gives) = (h.is_letter t).1 (y, (h.is_step.traces y).1 ((f.is_step.traces y).0 member), gives)

-- a step along a diamond leads to one position
pub one_target : (g : Graph) (p q x : Position) (sp : SpreadList) (d : ℕ)
    → Follows g p sp d q
    → Follows g p sp d x
    → q ≡ x
one_target g p q x sp d f h = λ i. record {
  sequent = sequents i;
  history = histories i;
  priority =
      priorities i;
  choice = choices i;
}
  where
    sequents : q.sequent ≡ x.sequent
    sequents =
        ascending_same q.sequent x.sequent f.is_step.ascends h.is_step.ascends
        (λ m i. (h.is_step.targets m).1 ((f.is_step.targets m).0 i))
        (λ m i. (f.is_step.targets m).1 ((h.is_step.targets m).0 i))

    steps : (stepped p.history f.letter ≡ stepped p.history h.letter)
        × (step_mark p.history f.letter ≡ step_mark p.history h.letter)
    steps = letters_are_sets p.history f.letter h.letter (same_letter g p q x sp d f h) (same_letter g p x q sp d h f)

    histories : q.history ≡ x.history
    histories = f.history ∙ steps.0 ∙ sym h.history

    priorities : q.priority ≡ x.priority
    priorities = f.marked ∙ ap (priority (neutral g)) steps.1 ∙ sym h.marked

    choices : q.choice ≡ x.choice
    choices = f.unchosen ∙ sym h.unchosen

-- the move for the diamond at place k
pub record StepAt (g : Graph) (positions : List Position) (p : Position) (sp : SpreadList) (ds vs : List ℕ)
    (k : ℕ) : Type 0 where
  pub fits : k < length ds
  pub next : Position
  pub stands : slice_get positions (get_or vs k 0) ≡ Some next
  pub follows : Follows g p sp (get_or ds k 0) next

pub step_at : (g : Graph) (positions : List Position) (p : Position) (sp : SpreadList) (ds : List ℕ) (ts : List Target)
    (vs : List ℕ)
    → AreSteps g p sp ds ts → AreVertices positions ts vs → (k : ℕ) → k < length vs → StepAt g positions p sp ds vs k
step_at g positions p sp [] ts vs steps vertices k low =
    let none : vs ≡ [] = subst (λ x. AreVertices positions x vs) steps vertices in
    absurd (omega (arith, ap (λ (x : List ℕ). length x) none))
step_at g positions p sp (d ∷ ds) ts vs (q, rest, f, later, ts_is) vertices k low =
    from (subst (λ x. AreVertices positions x vs) ts_is vertices)
    (λ others are j j_low. step_at g positions p sp ds rest others later are j j_low)
  where
    from : AreVertices positions (To q ∷ rest) vs
        → ((others : List ℕ) → AreVertices positions rest others → (j : ℕ) → j < length others
        → StepAt g positions p sp ds others j)
        → StepAt g positions p sp (d ∷ ds) vs k
    from (v, others, v_is, are, vs_is) again = subst (λ x. StepAt g positions p sp (d ∷ ds) x k) (sym vs_is)
        (at k (subst (λ x. k < length x) vs_is low))
      where
        at : (j : ℕ) → j < length (v ∷ others) → StepAt g positions p sp (d ∷ ds) (v ∷ others) j
        at zero j_low = record { fits = omega arith; next = q; stands = v_is; follows = f }
        at (suc j) j_low =
            let s = again others are j (omega arith) in
            record { fits = omega (arith, s.fits); next = s.next; stands = s.stands; follows = s.follows }

-- ---- Won

module _ (g : Graph) (a : Arena) (arena : IsArenaOf g a) (s : GameSolution) where
  abbrev Won_by_odd : ℕ → Type 0
  Won_by_odd v = WinsFrom (game_of a) Odd (choice_at s.choice) v

  abbrev won : ℕ
  won = length a.positions + 1

  won_priority : priority_of (game_of a) won ≡ 0
  won_priority =
      let e : won ≡ length (map (λ (q : Position). q.priority) a.positions) + 1 =
      omega (arith, length-map a.positions (λ (q : Position). q.priority)) in
      ap (λ k. get_or (game_of a).priority k 0) e ∙ get_or-append-add (map (λ (q : Position). q.priority) a.positions)
      (1 ∷ 0 ∷ []) 1 0

  won_owner : owner_of (game_of a) won ≡ Even
  won_owner =
      let e : won ≡ length a.owners + 1 = omega (arith, arena.an_owner_each) in
      ap (λ k. get_or (game_of a).owner k Even) e ∙ get_or-append-add a.owners (Even ∷ Even ∷ []) 1 Even

  even_free : (v w : ℕ)
      → owner_of (game_of a) v ≡ Even
      → HasMove (game_of a) v w
      → FollowedMove (game_of a) Odd (choice_at s.choice) v w
  even_free v w even move = record { move = move; chosen = λ own. let wrong : Even ≡ Odd = sym even ∙ own in cc }

  -- Odd doesn't win Won
  pub won_not_odd : Won_by_odd won → ⊥
  won_not_odd wins =
      let stays : HasMove (game_of a) won won = subst (λ ms. Contains ms won) (sym (won_moves g a arena))
      (contains_of_member won (won ∷ []) (inl refl)) in
      let round = last won won (even_free won won won_owner stays) in
      let good = closed_walk_good (game_of a) Odd (choice_at s.choice) won (priority_of (game_of a) won) round wins in
      let zero_is : side 0 ≡ Odd = ap side (sym won_priority) ∙ good in
      let wrong : Even ≡ Odd = zero_is in
      absurd (cc)

  -- ---- Odd's choice

  -- what Odd's choice leads to, at the vertex v of p
  pub record GoesOn (v : ℕ) (p : Position) (sp : SpreadList) : Type 0 where
    pub next : Position
    pub stands : slice_get a.positions (choice_at s.choice v) ≡ Some next
    pub is_choice : Chooses a s p next
    pub diamond : ℕ
    pub is_diamond : IsLeastTo g p sp next diamond
    pub mark : Mark
    pub marked : next.priority ≡ priority (neutral g) mark
    pub is_mark : FitsBelow (neutral g) mark
    pub unchosen : next.choice ≡ []
    pub wins : Won_by_odd (choice_at s.choice v)
    -- the diamond has the place that the choice has among the moves
    pub place : ℕ
    pub is_first : IsFirst (λ k. get_or (get_or a.moves v []) k 0 ≡ choice_at s.choice v)
        (length (get_or a.moves v [])) place
    pub fits : place < length (diamonds_of g sp)
    pub diamond_is : diamond ≡ get_or (diamonds_of g sp) place 0

  module _ (solution : IsSolution (game_of a) s) (v : ℕ) (p : Position) (placed : slice_get a.positions v ≡ Some p)
      (facts : Facts g p)
      (sp : SpreadList) (is_spread : IsSpreadOf g p.sequent p.choice sp) (resolved : IsResolved g sp)
      (wins : Won_by_odd v) where
    low : v < length a.positions
    low = slice_get_within a.positions v p placed

    choice : ℕ
    choice = choice_at s.choice v

    -- Odd's choice is the vertex at a place of the moves, of which it is the first such
    along : (ds : List ℕ) (ts : List Target) (vs : List ℕ)
        → ds ≡ diamonds_of g sp
        → vs ≡ get_or a.moves v []
        → AreSteps g p sp ds ts
        → AreVertices a.positions ts vs
        → owner_of (game_of a) v ≡ Odd
        → IsMember (choice_at s.choice v) vs
        → GoesOn v p sp
    along ds ts vs ds_are vs_are steps vertices is_odd inside =
        from (search_first (λ k. get_or vs k 0 ≡ choice_at s.choice v)
        (λ k. cases_eq (get_or vs k 0) (choice_at s.choice v)) (length vs))
      where
        at : (k : ℕ) → k < length vs → StepAt g a.positions p sp ds vs k
        at k k_low = step_at g a.positions p sp ds ts vs steps vertices k k_low

        ascends : IsAscending ds
        ascends = subst IsAscending (sym ds_are) (ascending-filter (λ n. is_diamond (node_at g n)) sp.nodes
            is_spread.ascends)

        of_first : (k : ℕ)
            → IsFirst (λ j. get_or vs j 0 ≡ choice_at s.choice v) (length vs) k
            → StepAt g a.positions p sp ds vs k
            → GoesOn v p sp
        of_first k first t = record {
          next = t.next;
          stands = stands;
          is_choice = record { vertex = v; is_here = placed; chosen = stands };
          diamond = get_or ds k 0;
          is_diamond = record {
            is_diamond = subst (IsMember (get_or ds k 0)) ds_are (place-member ds k 0 t.fits);
            leads = t.follows;
            least = least;
          };
          mark = step_mark p.history t.follows.letter;
          marked = t.follows.marked;
          is_mark = mark_fits g p facts sp is_spread t.follows.letter;
          unchosen = t.follows.unchosen;
          wins = won_behind (game_of a) Odd (choice_at s.choice) v (choice_at s.choice v)
              (record {
                move = solution.strategies Odd v (omega (arith, low, size_is g a arena)) is_odd;
                chosen =
                    λ own. refl;
              }) wins;
          place = k;
          is_first = subst (λ (ws : List ℕ). IsFirst (λ j. get_or ws j 0 ≡ choice_at s.choice v) (length ws) k) vs_are
              first;
          fits = subst (λ (xs : List ℕ). k < length xs) ds_are t.fits;
          diamond_is = ap (λ (xs : List ℕ). get_or xs k 0) ds_are;
        }
          where
            stands : slice_get a.positions (choice_at s.choice v) ≡ Some t.next
            stands = ap (slice_get a.positions) (sym first.holds) ∙ t.stands

            least : (c : ℕ) → c < get_or ds k 0 → IsMember c (diamonds_of g sp) → Follows g p sp c t.next → ⊥
            least c c_low c_in f = at_place (member-place c ds (subst (IsMember c) (sym ds_are) c_in))
              where
                at_place : Place c ds → ⊥
                at_place j = by_order (cases_lt j.place k)
                  where
                    c_is : get_or ds j.place 0 ≡ c
                    c_is = j.holds 0

                    of_step : j.place < k → StepAt g a.positions p sp ds vs j.place → ⊥
                    of_step early u =
                        let same : u.next ≡ t.next = one_target g p u.next t.next sp c
                        (subst (λ x. Follows g p sp x u.next) c_is u.follows) f in
                        let vertex : get_or vs j.place 0 ≡ choice_at s.choice v =
                        same_place a.positions arena.are_different (get_or vs j.place 0) (choice_at s.choice v) t.next
                        (u.stands ∙ ap Some same) stands in
                        first.before j.place early vertex

                    by_order : (j.place < k) ⊎ (k ≤ j.place) → ⊥
                    by_order (inl early) = of_step early (at j.place (omega (arith, early, first.below)))
                    by_order (inr le) = by_same (cases_eq k j.place)
                      where
                        by_same : (k ≡ j.place) ⊎ (k ≡ j.place → ⊥) → ⊥
                        by_same (inl same) = let e = ap (λ i. get_or ds i 0) same in
                            absurd (omega (arith, e, c_is, c_low))
                        by_same (inr differ) =
                            let up = ascending-apart ds k j.place 0 ascends (omega (arith, le, differ)) j.below in
                            absurd (omega (arith, up, c_is, c_low))

        from : First (λ k. get_or vs k 0 ≡ choice_at s.choice v) (length vs)
            ⊎ ((k : ℕ) → k < length vs → get_or vs k 0 ≡ choice_at s.choice v → ⊥)
            → GoesOn v p sp
        from (inl first) = of_first first.place first.is_first (at first.place first.is_first.below)
        from (inr none) = absurd (of_place (member-place (choice_at s.choice v) vs inside))
          where
            of_place : Place (choice_at s.choice v) vs → ⊥
            of_place k = none k.place k.below (k.holds 0)

    pub goes_on : GoesOn v p sp
    goes_on = of_turn turn.turn.verdict refl turn.turn.is_verdict turn.turn.are_moves
      where
        turn : IsPlayed g a.positions p (get_or a.owners v Even) (get_or a.moves v [])
        turn = arena.played v p placed

        same : turn.turn.spread ≡ sp
        same = same_spread g p.sequent p.choice turn.turn.spread sp turn.turn.is_spread is_spread

        here : IsResolved g turn.turn.spread
        here = subst (IsResolved g) (sym same) resolved

        settled : turn.turn.targets ≡ Won ∷ [] → owner_of (game_of a) v ≡ Even → ⊥
        settled targets even = from (subst (λ ts. AreVertices a.positions ts (get_or a.moves v [])) targets
            turn.moves_are)
          where
            from : AreVertices a.positions (Won ∷ []) (get_or a.moves v []) → ⊥
            from (w, others, w_is, none, are) =
                let all : moves_of (game_of a) v ≡ w ∷ others = moves_at g a arena v low ∙ are in
                let move : HasMove (game_of a) v w = subst (λ ms. Contains ms w) (sym all)
                (contains_of_member w (w ∷ others) (inl refl)) in
                won_not_odd (subst Won_by_odd w_is (won_behind (game_of a) Odd (choice_at s.choice) v w
                (even_free v w even move) wins))

        of_turn : (x : Verdict)
            → turn.turn.verdict ≡ x
            → IsVerdictOf g turn.turn.spread x
            → AreMoves g p turn.turn.spread x turn.turn.targets
            → GoesOn v p sp
        of_turn Clashing e at moves = absurd (here.no_clash at.0 at.1)
        of_turn (Open m) e at moves = absurd (here.none_open m at.1.is_open)
        of_turn (Leading ds) e at moves =
            let is_odd : owner_of (game_of a) v ≡ Odd = owner_at g a arena v low ∙ turn.owner_is ∙ ap mover e in
            let move = solution.strategies Odd v (omega (arith, low, size_is g a arena)) is_odd in
            along ds turn.turn.targets (get_or a.moves v []) (at.1 ∙ ap (diamonds_of g) same) refl
            (subst (λ x. AreSteps g p x ds turn.turn.targets) same moves)
            turn.moves_are is_odd (member_of_contains (choice_at s.choice v) (get_or a.moves v [])
            (subst (λ ms. Contains ms (choice_at s.choice v)) (moves_at g a arena v low) move))
        of_turn Settled e at moves = absurd (settled moves (owner_at g a arena v low ∙ turn.owner_is ∙ ap mover e))
