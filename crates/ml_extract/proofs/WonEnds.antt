-- Even's move at a position that is won: it chooses a side, or the choices end there, and what is behind the end.
--
--   won_first      == the first position is won
--   goes_on        == where the position is Even's and the move leads to a position, a side is chosen
--   ends_at_odd    == where the position is Odd's, no or-node is open
--   ends_past      == nor where Even's move leads to no position
--   choice_known   == so it is by what is known of Even's move
--   choice_inside, choice_read == there is a move, and it is what is read there
--   behind_odd     == where no or-node is open, Odd's moves are what the diamonds lead to
--   behind_even    == and where the position is Even's, there are no diamonds
--   won_behind_end == to positions that are won
--   chosen_before, sides_fall == what is chosen behind a choice is chosen before it, and fewer sides are left then
--   chosen_end     == where the choices end
use Rattle.std.proofs.Common.{ℕ, suc, ◌≡◌, ◌+◌, ◌-◌, ◌<◌, ◌≤◌, inl, inr, List, [], ◌∷◌, length, get_or, map, Option, Some, None, MatchOption, refl, sym, ap, ◌∙◌, subst, arith}
use Rattle.std.specs.List.{zip}
use Rattle.std.proofs.lemmas.List.{get_or_default}
use Rattle.std.proofs.lemmas.Option.{slice_get_within, get_or_from_slice_get}
use Rattle.std.proofs.lemmas.Slice.Zip.{seconds-zip}
use Rattle.ml_lists.specs.Member.{IsMember}
use Rattle.ml_lists.proofs.Member.{Image, member-map_from}
use Rattle.ml_lists.proofs.Members.{member_of_contains}
use Rattle.ml_graph.specs.Graph.{Graph, size}
use Rattle.ml_parity.specs.declared.players.Player.TheVariants.{Even, Odd}
use Rattle.ml_parity.specs.Game.{owner_of, moves_of}
use Rattle.ml_parity.specs.Game as games
use Rattle.ml_parity.proofs.FollowedWalks.{won_behind}
use Rattle.ml_sequent.specs.Spread.{SpreadList, IsOpenOr}
use Rattle.ml_product.specs.Position.{Position, start_of, with_chosen}
use Rattle.ml_product.specs.DecisionGame.{Verdict, Clashing, Open, Leading, Settled, Target, Won, IsVerdictOf, AreSteps, Turn, diamonds_of}
use Rattle.ml_product.specs.Movers.{mover}
use Rattle.ml_product.specs.Arena.{AreVertices, game_of}
use Rattle.ml_product.proofs.ArenaGame.{here, owner_at, moves_at, size_is}
use Rattle.ml_product.proofs.ReachedChoices.{with_side_length, chosen_few}
use Rattle.ml_extract.specs.Model.{PositionAt, SpreadAt, Chooses, ends, moves}
use Rattle.ml_extract.specs.private.WonPositions.{IsWon, sides_at, IsEnd, GoesOn, IsChosenEnd, AreBehind}
use Rattle.ml_extract.proofs.Board.{Board, even_moves, WonByMoves, won_at_first}
use Rattle.ml_extract.proofs.Choosing.{AtWon, choosing, leading, settled, at_spread, Chosen, down, way_of}
use Rattle.ml_extract.proofs.OneModel.{spread_here}

-- ---- lists of vertices

vertices_length : (ps : List Position) (ts : List Target) (vs : List ℕ) → AreVertices ps ts vs → length vs ≡ length ts
vertices_length ps [] vs are = ap length are
vertices_length ps (t ∷ ts) vs (v, others, at, rest, is) =
    ap length is ∙ ap suc (vertices_length ps ts others rest)

steps_length : (g : Graph) (p : Position) (sp : SpreadList) (ds : List ℕ) (ts : List Target)
    → AreSteps g p sp ds ts
    → length ts ≡ length ds
steps_length g p sp [] ts steps = ap length steps
steps_length g p sp (d ∷ ds) ts (q, others, follows, rest, is) =
    ap length is ∙ ap suc (steps_length g p sp ds others rest)

-- where there is no diamond, the position isn't Odd's
even_if_none : (g : Graph) (sp : SpreadList) (x : Verdict)
    → IsVerdictOf g sp x
    → diamonds_of g sp ≡ []
    → mover x ≡ Even
even_if_none g sp Clashing is none = refl
even_if_none g sp (Open o) is none = refl
even_if_none g sp (Leading ds) is none =
    let some : length ds ≡ 0 = ap length (is.1 ∙ none) in absurd (omega (arith, is.2))
even_if_none g sp Settled is none = refl

module _ (B : Board) where
  abbrev pub WonHere : ℕ → Type 0
  WonHere v = IsWon B.a B.s v

  pub won_first : WonHere 0
  won_first = record { position = start_of B.g; stands = B.arena.starts; won = won_at_first B }

  pub inside : (v : ℕ) → WonHere v → v < length B.a.positions
  inside v w = slice_get_within B.a.positions v w.position w.stands

  abbrev pub turn_at : (v : ℕ) (w : WonHere v) → Turn B.g w.position
  turn_at v w = (B.arena.played v w.position w.stands).turn

  abbrev pub spread_at : (v : ℕ) (w : WonHere v) → SpreadAt B.g B.a v (turn_at v w).spread
  spread_at v w = record { position = w.position; stands = w.stands; is_spread = (turn_at v w).is_spread }

  owner_is : (v : ℕ) → WonHere v → owner_of (game_of B.a) v ≡ get_or B.a.owners v Even
  owner_is v w = owner_at B.g B.a B.arena v (inside v w)

  moves_are : (v : ℕ) → WonHere v → moves_of (game_of B.a) v ≡ get_or B.a.moves v []
  moves_are v w = moves_at B.g B.a B.arena v (inside v w)

  sides_are : (v : ℕ) (p : Position) → PositionAt B.a v p → sides_at B.a v ≡ length p.choice
  sides_are v p stands = ap (λ (q : Position). length q.choice) (get_or_from_slice_get B.a.positions v p _ stands)

  low_of : (v : ℕ) → WonHere v → v < games.size (game_of B.a)
  low_of v w = omega (arith, size_is B.g B.a B.arena, inside v w)

  -- Even's move is one of the moves
  own_choice : (v : ℕ) → WonHere v → get_or B.a.owners v Even ≡ Even → IsMember (even_moves B v) (get_or B.a.moves v [])
  own_choice v w own =
      subst (λ ms. IsMember (even_moves B v) ms) (moves_are v w)
      (member_of_contains (even_moves B v) (moves_of (game_of B.a) v)
      (B.solved.strategies Even v (low_of v w) (owner_is v w ∙ own)))

  -- where the game is settled, the move is to Won
  to_won : (v w : ℕ) → AreVertices B.a.positions (Won ∷ []) (get_or B.a.moves v [])
      → IsMember w (get_or B.a.moves v [])
      → w ≡ length B.a.positions + 1
  to_won v w (u, others, u_is, none, are) m = by_place (subst (λ ms. IsMember w ms) (are ∙ ap (λ xs. u ∷ xs) none) m)
    where
      by_place : IsMember w (u ∷ []) → w ≡ length B.a.positions + 1
      by_place (inl same) = same ∙ u_is
      by_place (inr i) = absurd i

  module _ (v : ℕ) (won : WonHere v) where
    turn_won : AtWon B v won.position (turn_at v won).spread
    turn_won = at_spread B v (turn_at v won).spread (spread_at v won) won.won

    pub goes_on : (w : ℕ) → get_or B.a.owners v Even ≡ Even → w ≡ even_moves B v → w < length B.a.positions
        → GoesOn B.g B.a B.s v w
    goes_on w own w_is low = from turn_won
      where
        from : AtWon B v won.position (turn_at v won).spread → GoesOn B.g B.a B.s v w
        from (leading ts r steps vertices odd) =
            absurd (let wrong : Even ≡ Odd = sym (owner_is v won ∙ own) ∙ odd in cc)
        from (settled r none vertices) =
            let far = to_won v (even_moves B v) vertices (own_choice v won own) in absurd (omega arith)
        from (choosing o x even is_open stands move) =
            let next = with_chosen B.g won.position o x in
            let there : PositionAt B.a w next = subst (λ u. PositionAt B.a u next) (sym w_is) stands in
            record {
              spread = (turn_at v won).spread;
              here = spread_at v won;
              open_or = o;
              is_open = is_open;
              next_is = w_is;
              won = record {
                position = next;
                stands = there;
                won =
                    subst (WonByMoves B) (sym w_is) (won_behind (game_of B.a) Even (even_moves B) v
                    (even_moves B v) move
                    won.won);
              };
              longer = omega (
                arith,
                sides_are w next there,
                sides_are v won.position won.stands,
                with_side_length
                    won.position.choice o x,
              );
              few = omega (arith, sides_are w next there, chosen_few B.g next (here B.g B.a B.arena w next there));
            }

    -- what is true of the spread that the turn has is true of the spread
    any_spread : ((n : ℕ) → IsOpenOr B.g (turn_at v won).spread n → ⊥) → IsEnd B.g B.a v
    any_spread none sp h n is_open =
        none n (subst (λ x. IsOpenOr B.g x n) (spread_here B.g B.a B.s v sp (turn_at v won).spread h
        (spread_at v won)) is_open)

    -- at an Odd position no or-node is open
    pub ends_at_odd : get_or B.a.owners v Even ≡ Odd → IsEnd B.g B.a v
    ends_at_odd own = from turn_won
      where
        from : AtWon B v won.position (turn_at v won).spread → IsEnd B.g B.a v
        from (leading ts r steps vertices odd) = any_spread r.none_open
        from (settled r none vertices) = any_spread r.none_open
        from (choosing o x even is_open stands move) =
            absurd (let wrong : Even ≡ Odd = sym even ∙ (owner_is v won ∙ own) in cc)

    -- nor where Even's move leads to no position
    pub ends_past : (w : ℕ) → w ≡ even_moves B v → length B.a.positions ≤ w → IsEnd B.g B.a v
    ends_past w w_is past = from turn_won
      where
        from : AtWon B v won.position (turn_at v won).spread → IsEnd B.g B.a v
        from (leading ts r steps vertices odd) = any_spread r.none_open
        from (settled r none vertices) = any_spread r.none_open
        from (choosing o x even is_open stands move) =
            absurd (omega (
              arith,
              slice_get_within B.a.positions (even_moves B v)
                  (with_chosen B.g won.position o x) stands,
            ))

    -- so it is by what is known of Even's move
    pub choice_known : (r : Option ℕ)
        → get_or B.a.owners v Even ≡ Even
        → MatchOption r (length B.a.positions ≤ even_moves B v) (λ w. (w < length B.a.positions) × (w ≡ even_moves B v))
        → MatchOption r (IsEnd B.g B.a v) (GoesOn B.g B.a B.s v)
    choice_known None own past = ends_past (even_moves B v) refl past
    choice_known (Some w) own to = goes_on w own to.1 to.0

    -- there is a move at v, and it is what is read there
    pub choice_inside : v < length B.s.choice
    choice_inside = omega (arith, low_of v won, B.solved.choices)

    pub choice_read : (row : List ℕ) (w : ℕ) → row ≡ B.s.choice → w ≡ get_or row v w → w ≡ even_moves B v
    choice_read row w are is =
        is ∙ ap (λ ms. get_or ms v w) are ∙ get_or_default B.s.choice v w 0 choice_inside

    -- ---- behind the end

    module _ (is_end : IsEnd B.g B.a v) where
      -- a position without diamonds isn't Odd's
      not_odd : (sp : SpreadList) → SpreadAt B.g B.a v sp → diamonds_of B.g sp ≡ [] → get_or B.a.owners v Even ≡ Even
      not_odd sp h none =
          let same = spread_here B.g B.a B.s v sp (turn_at v won).spread h (spread_at v won) in
          (B.arena.played v won.position won.stands).owner_is
          ∙ even_if_none B.g (turn_at v won).spread (turn_at v won).verdict (turn_at v won).is_verdict
          (subst (λ x. diamonds_of B.g x ≡ []) same none)

      pub behind_odd : get_or B.a.owners v Even ≡ Odd → AreBehind B.g B.a v (get_or B.a.moves v [])
      behind_odd own sp h = from (at_spread B v sp h won.won)
        where
          from : AtWon B v h.position sp
              → get_or B.a.moves v [] ≡ map (λ (x : ℕ × ℕ). x.1) (zip (diamonds_of B.g sp) (get_or B.a.moves v []))
          from (choosing o x even is_open stands move) = absurd (is_end sp h o is_open)
          from (settled r none vertices) =
              absurd (let wrong : Even ≡ Odd = sym (not_odd sp h none) ∙ own in cc)
          from (leading ts r steps vertices odd) =
              sym (seconds-zip (diamonds_of B.g sp) (get_or B.a.moves v [])
              (vertices_length B.a.positions ts (get_or B.a.moves v []) vertices
              ∙ steps_length B.g h.position sp (diamonds_of B.g sp) ts steps))

      pub behind_even : get_or B.a.owners v Even ≡ Even → AreBehind B.g B.a v []
      behind_even own sp h = from (at_spread B v sp h won.won)
        where
          from : AtWon B v h.position sp
              → [] ≡ map (λ (x : ℕ × ℕ). x.1) (zip (diamonds_of B.g sp) (get_or B.a.moves v []))
          from (choosing o x even is_open stands move) = absurd (is_end sp h o is_open)
          from (leading ts r steps vertices odd) =
              absurd (let wrong : Even ≡ Odd = sym (owner_is v won ∙ own) ∙ odd in cc)
          from (settled r none vertices) =
              ap (λ ds. map (λ (x : ℕ × ℕ). x.1) (zip ds (get_or B.a.moves v []))) (sym none)

      -- what the diamonds lead to is won
      pub won_behind_end : (sp : SpreadList) → SpreadAt B.g B.a v sp → (u : ℕ)
          → IsMember u (map (λ (x : ℕ × ℕ). x.1) (zip (diamonds_of B.g sp) (get_or B.a.moves v [])))
          → WonHere u
      won_behind_end sp h u m = from (member-map_from (λ (x : ℕ × ℕ). x.1) u (zip (diamonds_of B.g sp)
          (get_or B.a.moves v [])) m)
        where
          from : Image (λ (x : ℕ × ℕ). x.1) u (zip (diamonds_of B.g sp) (get_or B.a.moves v [])) → WonHere u
          from i =
              let c : Chosen B won.position v v sp =
              down B v v sp (ends v sp h (is_end sp h)) won.position won.stands won.won in
              let leads : IsMember (i.from.0, u) (zip (diamonds_of B.g sp) (get_or B.a.moves v [])) =
              subst (λ x. IsMember (i.from.0, x) (zip (diamonds_of B.g sp) (get_or B.a.moves v [])))
              (sym i.holds) i.member in
              let way = way_of B won.position v v sp c i.from.0 u leads in
              record {
                position = way.position;
                stands = way.stands;
                won = won_behind (game_of B.a) Even (even_moves B) v u way.move won.won;
              }

-- ---- the choices one after the other

module _ (B : Board) (v w : ℕ) (g : GoesOn B.g B.a B.s v w) where
  -- what Even's moves choose from w on, they choose from v on
  pub chosen_before : (u : ℕ) (sp : SpreadList) → Chooses B.g B.a B.s w u sp → Chooses B.g B.a B.s v u sp
  chosen_before u sp rest =
      moves v u g.open_or g.spread sp g.here g.is_open (subst (λ x. Chooses B.g B.a B.s x u sp) g.next_is rest)

  -- fewer sides are left
  pub sides_fall : size B.g - sides_at B.a w < size B.g - sides_at B.a v
  sides_fall = omega (arith, g.longer, g.few)

-- where they end
pub chosen_end : (B : Board) (first v : ℕ)
    → IsWon B.a B.s v
    → IsEnd B.g B.a v
    → ((u : ℕ) (sp : SpreadList) → Chooses B.g B.a B.s v u sp → Chooses B.g B.a B.s first u sp)
    → IsChosenEnd B.g B.a B.s first v
chosen_end B first v won is_end before =
    record { won = won; is_end = is_end; chosen = λ sp h. before v sp (ends v sp h (is_end sp h)) }
