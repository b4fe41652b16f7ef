-- What Even's moves choose, and where the diamonds lead then, in the decision game that Even wins.
--
-- Lost isn't won, so no spread on the way clashes: where an or-node is open, Even's move chooses a side of it, and
-- where none is, the position is resolved. The choices are pieces of a play that have no lower priority than the
-- position where they begin.
--
--   lost_not_won    == Lost isn't won
--   AtWon, at_won   == what happens at a position that is won: Even chooses, or diamonds lead on, or it is settled
--   Chosen, down    == the position that Even's moves end with
--   Way, way_of     == where a diamond of the spread leads
--   way_for         == each diamond has a position to which it leads
use Rattle.std.proofs.Common.{ℕ, ◌≡◌, ◌<◌, ◌%◌, ◌⊎◌, inl, inr, min, true, List, [], ◌∷◌, length, get_or, slice_get, Some, Contains, refl, sym, ap, ◌∙◌, subst, arith}
use Rattle.std.specs.List.{zip}
use Rattle.std.proofs.lemmas.Option.{slice_get_within}
use Rattle.ml_lists.specs.Member.{IsMember}
use Rattle.ml_lists.proofs.Member.{member-filter_from}
use Rattle.ml_lists.proofs.Members.{member_of_contains, contains_of_member, contains_head}
use Rattle.ml_graph.specs.Graph.{Graph, node_at}
use Rattle.ml_parity.specs.declared.players.Player.TheVariants.{Even, Odd}
use Rattle.ml_parity.specs.Game.{HasMove, size, owner_of, priority_of, moves_of}
use Rattle.ml_parity.proofs.FollowedWalks.{last, before, won_behind, closed_walk_good, odd_is_not_even}
use Rattle.ml_sequent.specs.declared.choice.Side.{Side}
use Rattle.ml_sequent.specs.declared.choice.Side.TheVariants.{Left, Right}
use Rattle.ml_sequent.specs.Spread.{SpreadList, IsSpreadOf, IsOpenOr, is_diamond}
use Rattle.ml_product.specs.Position.{Position, with_chosen, neutral, Follows}
use Rattle.ml_product.specs.DecisionGame.{Verdict, Clashing, Open, Leading, Settled, Target, To, Lost, Won, IsResolved, IsVerdictOf, AreSteps, AreMoves, diamonds_of}
use Rattle.ml_product.specs.Movers.{mover}
use Rattle.ml_product.specs.Arena.{IsVertexOf, AreVertices, IsPlayed, game_of}
use Rattle.ml_product.proofs.OnePlace.{same_spread}
use Rattle.ml_product.proofs.ArenaGame.{same_entry, here, size_is, owner_at, moves_at, priority_at, lost_moves, lost_priority, target_of, TargetOf}
use Rattle.ml_product.proofs.NeutralPriority.{priority_at_most}
use Rattle.ml_extract.specs.Model.{PositionAt, SpreadAt, Chooses, ends, moves}
use Rattle.ml_extract.proofs.Board.{Board, even_moves, WonByMoves, EvenMove, EvenWalk}

-- ---- diamonds and their vertices

-- where the diamond d leads from p
pub record Along (g : Graph) (positions : List Position) (p : Position) (sp : SpreadList) (ds vs : List ℕ)
    (d v : ℕ) : Type 0 where
  pub diamond : IsMember d ds
  pub vertex : IsMember v vs
  pub position : Position
  pub stands : slice_get positions v ≡ Some position
  pub follows : Follows g p sp d position

module _ (g : Graph) (positions : List Position) (p : Position) (sp : SpreadList) where
  along : (ds : List ℕ) (ts : List Target) (vs : List ℕ) → AreSteps g p sp ds ts → AreVertices positions ts vs
      → (d v : ℕ) → IsMember (d, v) (zip ds vs) → Along g positions p sp ds vs d v
  along [] ts vs steps vertices d v m = absurd m
  along (e ∷ ds) ts vs (q, others, follows, rest, is) vertices d v m =
      from (subst (λ xs. AreVertices positions xs vs) is vertices)
      (λ behind later. along ds others behind rest later d v)
    where
      from : AreVertices positions (To q ∷ others) vs
          → ((behind : List ℕ) → AreVertices positions others behind → IsMember (d, v) (zip ds behind) → Along g
          positions p sp ds behind d v)
          → Along g positions p sp (e ∷ ds) vs d v
      from (w, behind, stands, later, are) onward =
          by_place (subst (λ xs. IsMember (d, v) (zip (e ∷ ds) xs)) are m) (onward behind later)
        where
          by_place : IsMember (d, v) ((e, w) ∷ zip ds behind)
              → (IsMember (d, v) (zip ds behind) → Along g positions p sp ds behind d v)
              → Along g positions p sp (e ∷ ds) vs d v
          by_place (inl same) again =
              let d_is : d ≡ e = ap (λ (x : ℕ × ℕ). x.0) same in
              let v_is : v ≡ w = ap (λ (x : ℕ × ℕ). x.1) same in
              record {
                diamond = inl d_is;
                vertex = subst (λ xs. IsMember v xs) (sym are) (inl v_is);
                position = q;
                stands = subst (λ x. slice_get positions x ≡ Some q) (sym v_is) stands;
                follows = subst (λ x. Follows g p sp x q) (sym d_is) follows;
              }
          by_place (inr i) again =
              let o = again i in
              record {
                diamond = inr o.diamond;
                vertex = subst (λ xs. IsMember v xs) (sym are) (inr o.vertex);
                position = o.position;
                stands = o.stands;
                follows = o.follows;
              }

  paired : (ds : List ℕ) (ts : List Target) (vs : List ℕ) → AreSteps g p sp ds ts → AreVertices positions ts vs
      → (d : ℕ) → IsMember d ds → (v : ℕ) × IsMember (d, v) (zip ds vs)
  paired [] ts vs steps vertices d m = absurd m
  paired (e ∷ ds) ts vs (q, others, follows, rest, is) vertices d m =
      from (subst (λ xs. AreVertices positions xs vs) is vertices)
      (λ behind later. paired ds others behind rest later d)
    where
      from : AreVertices positions (To q ∷ others) vs
          → ((behind : List ℕ) → AreVertices positions others behind → IsMember d ds → (v : ℕ) × IsMember (d, v)
          (zip ds behind))
          → (v : ℕ) × IsMember (d, v) (zip (e ∷ ds) vs)
      from (w, behind, stands, later, are) onward = by_place m (onward behind later)
        where
          back : (v : ℕ) → IsMember (d, v) (zip (e ∷ ds) (w ∷ behind)) → IsMember (d, v) (zip (e ∷ ds) vs)
          back v i = subst (λ xs. IsMember (d, v) (zip (e ∷ ds) xs)) (sym are) i

          by_place : (d ≡ e) ⊎ IsMember d ds
              → (IsMember d ds → (v : ℕ) × IsMember (d, v) (zip ds behind))
              → (v : ℕ) × IsMember (d, v) (zip (e ∷ ds) vs)
          by_place (inl same) again = (w, back w (inl (ap (λ x. (x, w)) same)))
          by_place (inr i) again = let o = again i in (o.0, back o.0 (inr o.1))

  pub paired_back : (ds : List ℕ) (ts : List Target) (vs : List ℕ)
      → AreSteps g p sp ds ts
      → AreVertices positions ts vs
      → (v : ℕ)
      → IsMember v vs
      → (d : ℕ) × IsMember (d, v) (zip ds vs)
  paired_back [] ts vs steps vertices v m =
      let none : vs ≡ [] = subst (λ xs. AreVertices positions xs vs) steps vertices in
      absurd (subst (λ xs. IsMember v xs) none m)
  paired_back (e ∷ ds) ts vs (q, others, follows, rest, is) vertices v m =
      from (subst (λ xs. AreVertices positions xs vs) is vertices)
      (λ behind later. paired_back ds others behind rest later v)
    where
      from : AreVertices positions (To q ∷ others) vs
          → ((behind : List ℕ) → AreVertices positions others behind → IsMember v behind → (d : ℕ) × IsMember (d, v)
          (zip ds behind))
          → (d : ℕ) × IsMember (d, v) (zip (e ∷ ds) vs)
      from (w, behind, stands, later, are) onward = by_place (subst (λ xs. IsMember v xs) are m) (onward behind later)
        where
          back : (d : ℕ) → IsMember (d, v) (zip (e ∷ ds) (w ∷ behind)) → IsMember (d, v) (zip (e ∷ ds) vs)
          back d i = subst (λ xs. IsMember (d, v) (zip (e ∷ ds) xs)) (sym are) i

          by_place : (v ≡ w) ⊎ IsMember v behind
              → (IsMember v behind → (d : ℕ) × IsMember (d, v) (zip ds behind))
              → (d : ℕ) × IsMember (d, v) (zip (e ∷ ds) vs)
          by_place (inl same) again = (e, back e (inl (ap (λ x. (e, x)) same)))
          by_place (inr i) again = let o = again i in (o.0, back o.0 (inr o.1))

module _ (B : Board) where
  low_of : (v : ℕ) (p : Position) → PositionAt B.a v p → v < size (game_of B.a)
  low_of v p stands = omega (arith, size_is B.g B.a B.arena, slice_get_within B.a.positions v p stands)

  -- Even's own move, and a move of Odd's
  own_move : (v : ℕ) → v < size (game_of B.a) → owner_of (game_of B.a) v ≡ Even → EvenMove B v (even_moves B v)
  own_move v low own = record { move = B.solved.strategies Even v low own; chosen = λ o. refl }

  odd_move : (v w : ℕ) → owner_of (game_of B.a) v ≡ Odd → HasMove (game_of B.a) v w → EvenMove B v w
  odd_move v w own move =
      record { move = move; chosen = λ even. absurd (let wrong : Even ≡ Odd = sym even ∙ own in cc) }

  -- the only move
  pub single_move : (v w : ℕ) → v < size (game_of B.a) → moves_of (game_of B.a) v ≡ w ∷ [] → EvenMove B v w
  single_move v w low is = record {
    move = subst (λ ms. Contains ms w) (sym is) (contains_head w []);
    chosen =
        λ own. only (member_of_contains (even_moves B v) (w ∷ [])
        (subst (λ ms. Contains ms (even_moves B v)) is (B.solved.strategies Even v low own)));
  }
    where
      only : IsMember (even_moves B v) (w ∷ []) → w ≡ even_moves B v
      only (inl same) = sym same
      only (inr none) = absurd none

  -- Lost isn't won
  lost_not_won : WonByMoves B (length B.a.positions) → ⊥
  lost_not_won won =
      let lost : ℕ = length B.a.positions in
      let low : lost < size (game_of B.a) = omega (arith, size_is B.g B.a B.arena) in
      let round = last lost lost (single_move lost lost low (lost_moves B.g B.a B.arena)) in
      odd_is_not_even (priority_of (game_of B.a) lost) (ap (λ k. k % 2) (lost_priority B.g B.a B.arena))
      (closed_walk_good (game_of B.a) Even (even_moves B) lost (priority_of (game_of B.a) lost) round won)

  -- what happens at a position that is won
  pub data AtWon (v : ℕ) (p : Position) (sp : SpreadList) : Type 0 where
    choosing : (o : ℕ) (x : Side)
        → owner_of (game_of B.a) v ≡ Even
        → IsOpenOr B.g sp o
        → PositionAt B.a (even_moves B v) (with_chosen B.g p o x)
        → EvenMove B v (even_moves B v)
        → AtWon v p sp
    leading : (ts : List Target)
        → IsResolved B.g sp
        → AreSteps B.g p sp (diamonds_of B.g sp) ts
        → AreVertices B.a.positions ts (get_or B.a.moves v [])
        → owner_of (game_of B.a) v ≡ Odd
        → AtWon v p sp
    settled : IsResolved B.g sp
        → diamonds_of B.g sp ≡ []
        → AreVertices B.a.positions (Won ∷ []) (get_or B.a.moves v [])
        → AtWon v p sp

  module _ (v : ℕ) (p : Position) (stands : PositionAt B.a v p) (won : WonByMoves B v)
      (played : IsPlayed B.g B.a.positions p (get_or B.a.owners v Even) (get_or B.a.moves v [])) where
    inside : v < length B.a.positions
    inside = slice_get_within B.a.positions v p stands

    -- to Lost alone
    lost : played.turn.targets ≡ Lost ∷ [] → ⊥
    lost is = from (subst (λ ts. AreVertices B.a.positions ts (get_or B.a.moves v [])) is played.moves_are)
      where
        from : AreVertices B.a.positions (Lost ∷ []) (get_or B.a.moves v []) → ⊥
        from (w, others, w_is, none, are) =
            let single : moves_of (game_of B.a) v ≡ length B.a.positions ∷ [] =
            moves_at B.g B.a B.arena v inside ∙ are ∙ ap (λ x. x ∷ others) w_is ∙ ap
            (λ xs. length B.a.positions ∷ xs) none in
            lost_not_won (won_behind (game_of B.a) Even (even_moves B) v (length B.a.positions)
            (single_move v (length B.a.positions) (low_of v p stands) single) won)

    -- Even's choice
    chosen : (o : ℕ) → owner_of (game_of B.a) v ≡ Even → IsOpenOr B.g played.turn.spread o
        → played.turn.targets ≡ To (with_chosen B.g p o Left) ∷ To (with_chosen B.g p o Right) ∷ []
        → AtWon v p played.turn.spread
    chosen o own is_open is =
        from (target_of B.a.positions played.turn.targets (get_or B.a.moves v []) played.moves_are (even_moves B v)
        member)
      where
        member : IsMember (even_moves B v) (get_or B.a.moves v [])
        member =
            subst (λ ms. IsMember (even_moves B v) ms) (moves_at B.g B.a B.arena v inside)
            (member_of_contains (even_moves B v) (moves_of (game_of B.a) v)
            (B.solved.strategies Even v (low_of v p stands) own))

        side : (t : Target)
            → IsVertexOf B.a.positions t (even_moves B v)
            → (x : Side)
            → t ≡ To (with_chosen B.g p o x)
            → AtWon v p played.turn.spread
        side t at x t_is =
            choosing o x own is_open (subst (λ u. IsVertexOf B.a.positions u (even_moves B v)) t_is at)
            (own_move v (low_of v p stands) own)

        by_place : (t : Target) → IsVertexOf B.a.positions t (even_moves B v)
            → IsMember t (To (with_chosen B.g p o Left) ∷ To (with_chosen B.g p o Right) ∷ [])
            → AtWon v p played.turn.spread
        by_place t at (inl left) = side t at Left left
        by_place t at (inr (inl right)) = side t at Right right
        by_place t at (inr (inr none)) = absurd none

        from : TargetOf B.a.positions played.turn.targets (even_moves B v) → AtWon v p played.turn.spread
        from t = by_place t.target t.is_vertex (subst (λ ts. IsMember t.target ts) is t.member)

    by_verdict : (x : Verdict)
        → owner_of (game_of B.a) v ≡ mover x
        → IsVerdictOf B.g played.turn.spread x
        → AreMoves B.g p played.turn.spread x played.turn.targets
        → AtWon v p played.turn.spread
    by_verdict Clashing own is are = absurd (lost are)
    by_verdict (Open o) own is are = chosen o own is.1.is_open are
    by_verdict (Leading ds) own is are =
        leading played.turn.targets is.0 (subst (λ es. AreSteps B.g p played.turn.spread es played.turn.targets) is.1
        are) played.moves_are own
    by_verdict Settled own is are =
        settled is.0 is.1 (subst (λ ts. AreVertices B.a.positions ts (get_or B.a.moves v [])) are played.moves_are)

    at_won : AtWon v p played.turn.spread
    at_won =
        by_verdict played.turn.verdict (owner_at B.g B.a B.arena v inside ∙ played.owner_is) played.turn.is_verdict
        played.turn.are_moves

  -- the same, with the spread that was named
  pub at_spread : (v : ℕ) (sp : SpreadList) (h : SpreadAt B.g B.a v sp) → WonByMoves B v → AtWon v h.position sp
  at_spread v sp h won =
      let turn = (B.arena.played v h.position h.stands).turn in
      subst (AtWon v h.position) (same_spread B.g h.position.sequent h.position.choice turn.spread sp turn.is_spread
      h.is_spread) (at_won v h.position h.stands won (B.arena.played v h.position h.stands))

  -- ---- down the choices

  pub record Chosen (p : Position) (v w : ℕ) (sp : SpreadList) : Type 0 where
    pub position : Position
    pub stands : PositionAt B.a w position
    pub sequent_is : position.sequent ≡ p.sequent
    pub history_is : position.history ≡ p.history
    pub is_spread : IsSpreadOf B.g position.sequent position.choice sp
    pub resolved : IsResolved B.g sp
    pub won : WonByMoves B w
    pub goes_on : (x : ℕ) → EvenMove B w x → EvenWalk B v (priority_of (game_of B.a) v) x

  at_end : (v : ℕ) (sp : SpreadList) (h : SpreadAt B.g B.a v sp)
      → ((n : ℕ) → IsOpenOr B.g sp n → ⊥)
      → WonByMoves B v
      → (p : Position)
      → p ≡ h.position
      → Chosen p v v sp
  at_end v sp h none won p same = from (at_spread v sp h won)
    where
      with_resolved : IsResolved B.g sp → Chosen p v v sp
      with_resolved r = record {
        position = h.position;
        stands = h.stands;
        sequent_is = ap (λ (q : Position). q.sequent) (sym same);
        history_is = ap (λ (q : Position). q.history) (sym same);
        is_spread = h.is_spread;
        resolved = r;
        won = won;
        goes_on = λ x move. last v x move;
      }

      from : AtWon v h.position sp → Chosen p v v sp
      from (choosing o x own is_open stands move) = absurd (none o is_open)
      from (leading ts r steps vertices own) = with_resolved r
      from (settled r no_diamonds vertices) = with_resolved r

  one_choice : (v w n : ℕ) (open_sp sp : SpreadList) (h : SpreadAt B.g B.a v open_sp)
      → IsOpenOr B.g open_sp n
      → WonByMoves B v
      → (p : Position) → PositionAt B.a v p → p ≡ h.position
      → ((q : Position) → PositionAt B.a (even_moves B v) q → WonByMoves B (even_moves B v) → Chosen q
      (even_moves B v) w sp)
      → Chosen p v w sp
  one_choice v w n open_sp sp h is_open won p stands same again = from (at_spread v open_sp h won)
    where
      from : AtWon v h.position open_sp → Chosen p v w sp
      from (leading ts r steps vertices own) = absurd (r.none_open n is_open)
      from (settled r no_diamonds vertices) = absurd (r.none_open n is_open)
      from (choosing o x own here_open next move) =
          let c =
          again (with_chosen B.g h.position o x) next (won_behind (game_of B.a) Even (even_moves B) v
          (even_moves B v) move won) in
          let high : priority_of (game_of B.a) (even_moves B v) ≡ neutral B.g =
          priority_at B.g B.a B.arena (even_moves B v) (with_chosen B.g h.position o x) next in
          let low : min (priority_of (game_of B.a) v) (priority_of (game_of B.a) (even_moves B v)) ≡ priority_of
          (game_of B.a) v =
          omega (
            arith,
            priority_at B.g B.a B.arena v p stands,
            priority_at_most B.g p
                (here B.g B.a B.arena v p stands),
          ) in
          record {
            position = c.position;
            stands = c.stands;
            sequent_is = c.sequent_is ∙ ap (λ (q : Position). q.sequent) (sym same);
            history_is = c.history_is ∙ ap (λ (q : Position). q.history) (sym same);
            is_spread = c.is_spread;
            resolved = c.resolved;
            won = c.won;
            goes_on =
                λ y last_move. subst (λ k. EvenWalk B v k y) low (before v (even_moves B v) move
                (c.goes_on y last_move));
          }

  -- the position that Even's moves end with
  pub down : (v w : ℕ) (sp : SpreadList)
      → Chooses B.g B.a B.s v w sp
      → (p : Position)
      → PositionAt B.a v p
      → WonByMoves B v
      → Chosen p v w sp
  down v w sp (ends _ _ h none) p stands won =
      at_end v sp h none won p (same_entry B.a.positions v p h.position stands h.stands)
  down v w sp (moves _ _ n open_sp _ h is_open rest) p stands won =
      one_choice v w n open_sp sp h is_open won p stands (same_entry B.a.positions v p h.position stands h.stands)
      (λ q q_stands q_won. down (even_moves B v) w sp rest q q_stands q_won)

  -- ---- along the diamonds

  -- where a diamond of the spread leads
  pub record Way (p : Position) (sp : SpreadList) (w d v : ℕ) : Type 0 where
    pub inside : IsMember d sp.nodes
    pub passes : is_diamond (node_at B.g d) ≡ true
    pub position : Position
    pub stands : PositionAt B.a v position
    pub follows : Follows B.g p sp d position
    pub move : EvenMove B w v

  module _ (p : Position) (v w : ℕ) (sp : SpreadList) (c : Chosen p v w sp) where
    at_last : AtWon w c.position sp
    at_last = at_spread w sp (record { position = c.position; stands = c.stands; is_spread = c.is_spread }) c.won

    pub way_of : (d u : ℕ)
        → IsMember (d, u) (zip (diamonds_of B.g sp) (get_or B.a.moves w []))
        → Way c.position sp w d u
    way_of d u m = from at_last
      where
        from : AtWon w c.position sp → Way c.position sp w d u
        from (choosing o x own is_open next move) = absurd (c.resolved.none_open o is_open)
        from (settled r none vertices) = absurd (subst (λ ds. IsMember (d, u) (zip ds (get_or B.a.moves w []))) none m)
        from (leading ts r steps vertices own) =
            let o =
            along B.g B.a.positions c.position sp (diamonds_of B.g sp) ts (get_or B.a.moves w []) steps vertices d
            u m in
            let kept = member-filter_from (λ n. is_diamond (node_at B.g n)) d sp.nodes o.diamond in
            let low = slice_get_within B.a.positions w c.position c.stands in
            record {
              inside = kept.0;
              passes = kept.1;
              position = o.position;
              stands = o.stands;
              follows = o.follows;
              move =
                  odd_move w u own (subst (λ ms. Contains ms u) (sym (moves_at B.g B.a B.arena w low))
                  (contains_of_member u (get_or B.a.moves w []) o.vertex));
            }

    -- each diamond has a position to which it leads
    pub way_for : (d : ℕ)
        → IsMember d (diamonds_of B.g sp)
        → (u : ℕ) × IsMember (d, u) (zip (diamonds_of B.g sp) (get_or B.a.moves w []))
    way_for d m = from at_last
      where
        from : AtWon w c.position sp → (u : ℕ) × IsMember (d, u) (zip (diamonds_of B.g sp) (get_or B.a.moves w []))
        from (choosing o x own is_open next move) = absurd (c.resolved.none_open o is_open)
        from (settled r none vertices) = absurd (subst (λ ds. IsMember d ds) none m)
        from (leading ts r steps vertices own) =
            paired B.g B.a.positions c.position sp (diamonds_of B.g sp) ts (get_or B.a.moves w []) steps vertices d m
