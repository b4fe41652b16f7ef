-- The states of the model begin exactly at the positions with an empty choice to which Even's moves come.
--
--   met_along     == what a walk comes to that follows Even's moves from what is met, is met
--   MetAt, met_at == each state begins at such a position
--   OnCourse      == from a position that is met Even's moves choose until the end of some state
--   on_course     == so it is of each position that is met
--   states_are_met == the law
use Rattle.std.proofs.Common.{ℕ, zero, suc, ◌≡◌, ◌+◌, ◌<◌, ◌≤◌, ◌⊎◌, inl, inr, List, [], ◌∷◌, length, get_or, slice_get, map, Some, refl, sym, ap, ◌∙◌, subst, arith}
use Rattle.std.specs.List.{zip}
use Rattle.std.proofs.lemmas.Bool.{cases_eq, cases_lt}
use Rattle.std.proofs.lemmas.List.{get_or_past}
use Rattle.std.proofs.lemmas.Option.{slice_get_within, slice_get-get_or}
use Rattle.ml_lists.specs.Member.{IsMember}
use Rattle.ml_lists.proofs.Member.{Image, member-map, member-map_from}
use Rattle.ml_lists.proofs.Members.{member_of_contains}
use Rattle.ml_parity.specs.declared.players.Player.TheVariants.{Even}
use Rattle.ml_parity.specs.Game.{HasMove, moves_of}
use Rattle.ml_parity.proofs.FollowedWalks.{last, before, won_behind}
use Rattle.ml_sequent.specs.declared.choice.Side.{Side}
use Rattle.ml_sequent.specs.Spread.{SpreadList, IsOpenOr}
use Rattle.ml_product.specs.Position.{Position, start_of, with_chosen}
use Rattle.ml_product.specs.DecisionGame.{diamonds_of, Won}
use Rattle.ml_product.specs.Arena.{AreVertices, game_of}
use Rattle.ml_product.proofs.ArenaGame.{same_entry, moves_at, lost_moves, won_moves, is_game}
use Rattle.ml_product.proofs.ReachedChoices.{with_side_some}
use Rattle.ml_lists.proofs.Member.{member_of_get}
use Rattle.ml_extract.specs.Model.{PositionAt, SpreadAt, Chooses, ends, moves, State, nexts}
use Rattle.ml_extract.specs.Extraction.{IsMet, at_first, by_move, StatesAreMet}
use Rattle.ml_extract.proofs.Setting.{Setting, board, even_moves, WonByMoves, EvenMove, EvenWalk}
use Rattle.ml_extract.proofs.Choosing.{AtWon, choosing, leading, settled, at_spread, paired_back, way_of}
use Rattle.ml_extract.proofs.Numbering.{StateAt, first_state, state_for, Earlier, earlier_state}
use Rattle.ml_extract.proofs.AtNodes.{AtState, resolved_at}
use Rattle.ml_extract.proofs.Board.{won_at_first}

module _ (S : Setting) where
  abbrev Met : ℕ → Type 0
  Met v = IsMet S.a S.s v

  met_along : (v k w : ℕ) → EvenWalk S v k w → Met v → Met w
  met_along v k w (last _ _ move) met = by_move v w met move.move move.chosen
  met_along v k w (before {k = i} _ next move walk) met =
      met_along next i w walk (by_move v next met move.move move.chosen)

  -- ---- each state begins at a position that is met, with an empty choice

  pub record MetAt (x : State) : Type 0 where
    pub position : Position
    pub stands : PositionAt S.a x.first position
    pub won : WonByMoves S x.first
    pub met : Met x.first
    pub unchosen : position.choice ≡ []

  met_next : (k : ℕ) (x : State) (c : Earlier S k x) → MetAt c.state → MetAt x
  met_next k x c old = of_image (member-map_from (λ (next : ℕ × ℕ). next.1) x.first (nexts S.g S.a c.state) c.leads)
    where
      of_image : Image (λ (next : ℕ × ℕ). next.1) x.first (nexts S.g S.a c.state) → MetAt x
      of_image i =
          let t : AtState S = record {
            number = c.place;
            state = c.state;
            is_state = c.stands;
            position = old.position;
            stands = old.stands;
            won = old.won;
          } in
          let leads : IsMember (i.from.0, x.first) (nexts S.g S.a c.state) =
          subst (λ v. IsMember (i.from.0, v) (nexts S.g S.a c.state)) (sym i.holds) i.member in
          let way =
          way_of (board S) t.position c.state.first c.state.last c.state.spread (resolved_at S t) i.from.0 x.first
          leads in
          record {
            position = way.position;
            stands = way.stands;
            won = won_behind (game_of S.a) Even (even_moves S) c.state.last x.first way.move (resolved_at S t).won;
            met = met_along c.state.first _ x.first ((resolved_at S t).goes_on x.first way.move) old.met;
            unchosen = way.follows.unchosen;
          }

  met_first : (x : State) → slice_get S.model.states 0 ≡ Some x → MetAt x
  met_first x is =
      let both : Some (first_state S).state ≡ Some x = sym (first_state S).stands ∙ is in
      let same : (first_state S).state ≡ x = cc in
      let first_is : x.first ≡ 0 = ap (λ (y : State). y.first) (sym same) ∙ (first_state S).first_is in
      record {
        position = start_of S.g;
        stands = subst (λ v. PositionAt S.a v (start_of S.g)) (sym first_is) S.arena.starts;
        won = subst (WonByMoves S) (sym first_is) (won_at_first (board S));
        met = subst Met (sym first_is) at_first;
        unchosen = refl;
      }

  met_by_number : (fuel k : ℕ) → k ≤ fuel → (x : State) → slice_get S.model.states k ≡ Some x → MetAt x
  met_by_number fuel zero low x is = met_first x is
  met_by_number zero (suc k) low x is = absurd (omega arith)
  met_by_number (suc fuel) (suc k) low x is =
      let c = earlier_state S (suc k) x (omega arith) is in
      met_next (suc k) x c (met_by_number fuel c.place (omega (arith, c.earlier)) c.state c.stands)

  pub met_at : (k : ℕ) (x : State) → slice_get S.model.states k ≡ Some x → MetAt x
  met_at k x is = met_by_number k k (omega arith) x is

  -- ---- each position that is met is on the course of a state

  pub record OnCourse (v : ℕ) : Type 0 where
    pub state : State
    pub member : IsMember state S.model.states
    pub rest : Chooses S.g S.a S.s v state.last state.spread
    pub won : WonByMoves S v
    pub entered : (p : Position) → PositionAt S.a v p → p.choice ≡ [] → v ≡ state.first

  first_course : OnCourse 0
  first_course =
      let x = first_state S in
      let member = member_of_get S.model.states 0 x.state x.stands in
      record {
        state = x.state;
        member = member;
        rest =
            subst (λ v. Chooses S.g S.a S.s v x.state.last x.state.spread) x.first_is
            (S.model.are_states.chosen x.state member);
        won = won_at_first (board S);
        entered = λ p stands none. sym x.first_is;
      }

  -- only positions lead to positions
  from_position : (v w : ℕ) → HasMove (game_of S.a) v w → w < length S.a.positions → v < length S.a.positions
  from_position v w move w_low =
      by_case (cases_lt v (length S.a.positions)) (cases_eq v (length S.a.positions))
      (cases_eq v (length S.a.positions + 1))
    where
      single : (x : ℕ) → length S.a.positions ≤ x → IsMember w (x ∷ []) → v < length S.a.positions
      single x high (inl same) = absurd (omega arith)
      single x high (inr none) = absurd none

      among : (ms : List ℕ) → moves_of (game_of S.a) v ≡ ms → IsMember w ms
      among ms is = subst (λ xs. IsMember w xs) is (member_of_contains w (moves_of (game_of S.a) v) move)

      by_case : (v < length S.a.positions) ⊎ (length S.a.positions ≤ v)
          → (v ≡ length S.a.positions) ⊎ (v ≡ length S.a.positions → ⊥)
          → (v ≡ length S.a.positions + 1) ⊎ (v ≡ length S.a.positions + 1 → ⊥)
          → v < length S.a.positions
      by_case (inl low) at_lost at_won = low
      by_case (inr past) (inl same) at_won =
          single (length S.a.positions) (omega arith) (among (length S.a.positions ∷ [])
          (ap (moves_of (game_of S.a)) same ∙ lost_moves S.g S.a S.arena))
      by_case (inr past) (inr other) (inl same) =
          single (length S.a.positions + 1) (omega arith) (among ((length S.a.positions + 1) ∷ [])
          (ap (moves_of (game_of S.a)) same ∙ won_moves S.g S.a S.arena))
      by_case (inr past) (inr other) (inr another) =
          let sizes = (is_game S.g S.a S.arena).lists in
          let none =
          get_or_past (game_of S.a).successors v [] (omega (
            arith,
            sizes,
            Rattle.ml_product.proofs.ArenaGame.size_is S.g S.a S.arena,
            other,
            another,
          )) in
          absurd (among [] none)

  module _ (v w : ℕ) (move : EvenMove S v w) (w_low : w < length S.a.positions) (c : OnCourse v) where
    v_low : v < length S.a.positions
    v_low = from_position v w move.move w_low

    won_there : WonByMoves S w
    won_there = won_behind (game_of S.a) Even (even_moves S) v w move c.won

    member : IsMember w (get_or S.a.moves v [])
    member =
        subst (λ ms. IsMember w ms) (moves_at S.g S.a S.arena v v_low)
        (member_of_contains w (moves_of (game_of S.a) v) move.move)

    -- behind a diamond a state begins
    at_state : StateAt S.model.states w → OnCourse w
    at_state y =
        let inside = member_of_get S.model.states y.number y.state y.stands in
        record {
          state = y.state;
          member = inside;
          rest =
              subst (λ u. Chooses S.g S.a S.s u y.state.last y.state.spread) y.first_is
              (S.model.are_states.chosen y.state inside);
          won = won_there;
          entered = λ p stands none. sym y.first_is;
        }

    -- behind a choice the state's course goes on
    behind_choice : (p : Position) (o : ℕ) (x : Side)
        → PositionAt S.a w (with_chosen S.g p o x)
        → Chooses S.g S.a S.s w c.state.last c.state.spread
        → OnCourse w
    behind_choice p o x stands rest = record {
      state = c.state;
      member = c.member;
      rest = rest;
      won = won_there;
      entered = λ q here none.
          let same = same_entry S.a.positions w (with_chosen S.g p o x) q stands here in
          absurd (with_side_some p.choice o x (ap (λ (r : Position). r.choice) same ∙ none));
    }

    to_won : AreVertices S.a.positions (Won ∷ []) (get_or S.a.moves v []) → ⊥
    to_won (u, others, u_is, none, are) = by_place (subst (λ ms. IsMember w ms) (are ∙ ap (λ xs. u ∷ xs) none) member)
      where
        by_place : IsMember w (u ∷ []) → ⊥
        by_place (inl same) = omega arith
        by_place (inr i) = absurd i

    by_end : (sp : SpreadList) (h : SpreadAt S.g S.a v sp)
        → ((n : ℕ) → IsOpenOr S.g sp n → ⊥)
        → v ≡ c.state.last
        → sp ≡ c.state.spread
        → AtWon (board S) v h.position sp
        → OnCourse w
    by_end sp h none v_is sp_is (choosing o x own is_open next chosen) = absurd (none o is_open)
    by_end sp h none v_is sp_is (settled r no_diamonds vertices) = absurd (to_won vertices)
    by_end sp h none v_is sp_is (leading ts r steps vertices own) =
        let back =
        paired_back S.g S.a.positions h.position sp (diamonds_of S.g sp) ts (get_or S.a.moves v []) steps vertices
        w member in
        let leads : IsMember (back.0, w) (nexts S.g S.a c.state) =
        subst (λ u. IsMember (back.0, w) (zip (diamonds_of S.g c.state.spread) (get_or S.a.moves u []))) v_is
        (subst (λ x. IsMember (back.0, w) (zip (diamonds_of S.g x) (get_or S.a.moves v []))) sp_is back.1) in
        at_state (state_for S c.state c.member w (member-map (λ (next : ℕ × ℕ). next.1) (back.0, w)
        (nexts S.g S.a c.state) leads))

    by_choice : (n : ℕ) (sp : SpreadList) (h : SpreadAt S.g S.a v sp)
        → IsOpenOr S.g sp n
        → Chooses S.g S.a S.s (even_moves S v) c.state.last c.state.spread
        → AtWon (board S) v h.position sp
        → OnCourse w
    by_choice n sp h is_open rest (leading ts r steps vertices own) = absurd (r.none_open n is_open)
    by_choice n sp h is_open rest (settled r no_diamonds vertices) = absurd (r.none_open n is_open)
    by_choice n sp h is_open rest (choosing o x own here next chosen) =
        let taken : w ≡ even_moves S v = move.chosen own in
        behind_choice h.position o x (subst (λ u. PositionAt S.a u (with_chosen S.g h.position o x)) (sym taken) next)
        (subst (λ u. Chooses S.g S.a S.s u c.state.last c.state.spread) (sym taken) rest)

  by_course : (v w last_one : ℕ) (sp : SpreadList)
      → Chooses S.g S.a S.s v last_one sp
      → EvenMove S v w
      → w < length S.a.positions
      → (c : OnCourse v)
      → last_one ≡ c.state.last → sp ≡ c.state.spread → OnCourse w
  by_course v w last_one sp (ends _ _ h none) move low c last_is sp_is =
      by_end v w move low c sp h none last_is sp_is (at_spread (board S) v sp h c.won)
  by_course v w last_one sp (moves _ _ n here _ h is_open rest) move low c last_is sp_is =
      by_choice v w move low c n here h is_open
      (subst (λ u. Chooses S.g S.a S.s (even_moves S v) u c.state.spread) last_is
      (subst (Chooses S.g S.a S.s (even_moves S v) last_one) sp_is rest))
      (at_spread (board S) v here h c.won)

  -- so it is of each position that is met
  pub on_course : (v : ℕ) → Met v → v < length S.a.positions → OnCourse v
  on_course v at_first low = first_course
  on_course w (by_move v _ met move chosen) low =
      let c = on_course v met (from_position v w move low) in
      by_course v w c.state.last c.state.spread c.rest (record { move = move; chosen = chosen }) low c refl refl

  module _ (v : ℕ) (p : Position) (stands : PositionAt S.a v p) where
    begins_met : IsMember v (map (λ (x : State). x.first) S.model.states) → Met v × (p.choice ≡ [])
    begins_met m = of_image (member-map_from (λ (x : State). x.first) v S.model.states m)
      where
        of_state : (x : State) → v ≡ x.first → MetAt x → Met v × (p.choice ≡ [])
        of_state x is here =
            let same =
            same_entry S.a.positions v here.position p (subst (λ u. PositionAt S.a u here.position) (sym is)
            here.stands)
            stands in
            (subst Met (sym is) here.met, ap (λ (q : Position). q.choice) (sym same) ∙ here.unchosen)

        of_image : Image (λ (x : State). x.first) v S.model.states → Met v × (p.choice ≡ [])
        of_image i =
            let place = Rattle.ml_lists.proofs.Member.member-place i.from S.model.states i.member in
            of_state i.from i.holds (met_at place.place i.from (slice_get-get_or S.model.states place.place i.from
            place.below ∙ ap Some (place.holds i.from)))

    met_begins : Met v × (p.choice ≡ []) → IsMember v (map (λ (x : State). x.first) S.model.states)
    met_begins is =
        let c = on_course v is.0 (slice_get_within S.a.positions v p stands) in
        subst (λ u. IsMember u (map (λ (x : State). x.first) S.model.states)) (sym (c.entered p stands is.1))
        (member-map (λ (x : State). x.first) c.state S.model.states c.member)

-- the states begin exactly at the positions that are met and have an empty choice
pub states_are_met : StatesAreMet
states_are_met g a s m start even model v p stands =
    let S : Setting = record {
      g = g;
      a = a;
      s = s;
      m = m;
      start = start;
      g_ok = even.is_graph;
      arena = even.is_arena;
      solved = even.is_solution;
      even_wins = even.wins;
      model = model;
    } in
    (begins_met S v p stands, met_begins S v p stands)
