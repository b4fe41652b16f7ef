-- The entries are the positions without a choice that Odd's moves reach.
--
-- Plays in which Odd makes the solution's moves stay in the decisions of the entries: they go down a decision, and from
-- its go to the next entry, or from a clash to Lost.
--
--   entry_met      == the vertex of each entry is met
--   InDecision     == a vertex whose position has a decision, by which it is an entry if no side is chosen
--   met_inside     == what is met is such a vertex, or behind the positions
--   are_reached    == the law
use Rattle.std.proofs.Common.{ℕ, suc, ◌≡◌, ◌+◌, ◌≤◌, ◌⊎◌, inl, inr, List, [], ◌∷◌, Some, length, slice_get, Contains, sym, ap, ◌∙◌, subst, arith, length-append}
use Rattle.std.proofs.lemmas.Bool.{cases_eq}
use Rattle.std.proofs.lemmas.List.{get_or_past}
use Rattle.std.proofs.lemmas.Option.{slice_get_within}
use Rattle.ml_lists.specs.Member.{IsMember}
use Rattle.ml_lists.proofs.Member.{member-place}
use Rattle.ml_lists.proofs.Members.{member_of_contains, contains_none}
use Rattle.ml_parity.specs.declared.players.Player.TheVariants.{Odd}
use Rattle.ml_parity.specs.Game.{HasMove, owner_of, moves_of}
use Rattle.ml_parity.specs.Solution.{IsSolution, choice_at}
use Rattle.ml_product.specs.Arena.{game_of}
use Rattle.ml_product.specs.Position.{Position, with_chosen}
use Rattle.ml_product.proofs.ArenaGame.{lost_moves, won_moves}
use Rattle.ml_lists.proofs.Member.{member_of_get}
use Rattle.ml_product.proofs.OnePlace.{PlaceOf, place_of, same_place}
use Rattle.ml_refutation.specs.Acceptance.{entry_at}
use Rattle.ml_refutation.specs.Refutation.{Decision, Split, Clash, Go}
use Rattle.ml_sequent.specs.declared.choice.Side.{Side}
use Rattle.ml_sequent.specs.declared.choice.Side.TheVariants.{Left, Right}
use Rattle.ml_refute.specs.Extracted.{IsDecisionAt, IsGo}
use Rattle.ml_refute.specs.Laws.{IsMet, at_start, by_move, IsReachedByOdd}
use Rattle.ml_refute.proofs.Entries.{Extraction, At, position_at, is_reached}
use Rattle.ml_refute.proofs.EntryVertices.{entry_keeps}
use Rattle.ml_refute.proofs.Sizes.{choice_longer}
use Rattle.ml_refute.proofs.Turns.{SplitAt, split_at, lost_at, odd_at}

module _ (X : Extraction) (solution : IsSolution (game_of X.a) X.s) where
  abbrev Met : ℕ → Type 0
  Met v = IsMet X.a X.s v

  -- the vertex of each entry is met
  entry_met : (p : Position) → IsMember p X.o.positions → IsReachedByOdd X.a X.s p
  entry_met p inside = from (place_of p X.o.positions inside)
    where
      from : PlaceOf p X.o.positions → IsReachedByOdd X.a X.s p
      from e = at_vertex (place_of p X.a.positions ((X.arena.are_reached p).1 (is_reached X e.place p e.stands)))
        where
          at_vertex : PlaceOf p X.a.positions → IsReachedByOdd X.a X.s p
          at_vertex v = record {
            vertex = v.place;
            is_met = entry_keeps X solution Met at_start (λ x y move met. by_move x y met move.move move.chosen)
                (suc e.place) e.place (omega arith) p e.stands v.place v.stands;
            is_here = v.stands;
            unchosen = (X.o.are_entries e.place p e.stands).unchosen;
          }

  -- a vertex whose position has a decision, by which it is an entry if no side is chosen
  record InDecision (v : ℕ) : Type 0 where
    pub position : Position
    pub stands : slice_get X.a.positions v ≡ Some position
    pub decision : Decision
    pub is_decision : IsDecisionAt X.g X.a X.s X.o.positions position decision
    pub listed : position.choice ≡ [] → IsMember position X.o.positions

  chosen_side : (v : ℕ) (p : Position) (n : ℕ) (x : Side) (d : Decision)
      → slice_get X.a.positions v ≡ Some (with_chosen X.g p n x)
      → IsDecisionAt X.g X.a X.s X.o.positions (with_chosen X.g p n x) d
      → InDecision v
  chosen_side v p n x d stands is = record {
    position = with_chosen X.g p n x;
    stands = stands;
    decision = d;
    is_decision = is;
    listed = λ none. absurd (omega (arith, choice_longer p.choice n x, ap (λ (c : List (ℕ × Side)). length c) none));
  }

  start_inside : InDecision 0
  start_inside = from (position_at X 0 (let place = member-place X.o.names.entry X.r.entries X.o.names.member in
      omega (arith, place.below)))
    where
      from : At X 0 → InDecision 0
      from h = record {
        position = h.position;
        stands = sym X.o.starts ∙ h.placed;
        decision = (entry_at X.r 0).decision;
        is_decision = h.is_entry.decision;
        listed = λ none. member_of_get X.o.positions 0 h.position h.placed;
      }

  -- a move from such a vertex
  move_inside : (v w : ℕ) (p : Position) (d : Decision)
      → slice_get X.a.positions v ≡ Some p
      → IsDecisionAt X.g X.a X.s X.o.positions p d
      → HasMove (game_of X.a) v w
      → (owner_of (game_of X.a) v ≡ Odd → w ≡ choice_at X.s.choice v)
      → (length X.a.positions ≤ w) ⊎ InDecision w
  move_inside v w p (Clash x) stands at move chosen =
      let lost = lost_at X.g X.a X.arena v p stands x at.spread at.is_spread at.holds.is_cause w move in
      inl (omega arith)
  move_inside v w p (Split n left right) stands at move chosen =
      by_side (split_at X.g X.a X.arena v p stands n at.0.spread at.0.is_spread at.0.holds)
    where
      by_side : SplitAt X.g X.a X.arena v p stands n → (length X.a.positions ≤ w) ⊎ InDecision w
      by_side sides = of_only (sides.only w move)
        where
          of_only : (w ≡ sides.left) ⊎ (w ≡ sides.right) → (length X.a.positions ≤ w) ⊎ InDecision w
          of_only (inl same) = inr (chosen_side w p n Left left (ap (slice_get X.a.positions) same ∙ sides.left_is)
              at.1)
          of_only (inr same) = inr (chosen_side w p n Right right (ap (slice_get X.a.positions) same ∙ sides.right_is)
              at.2)
  move_inside v w p (Go d f m) stands at move chosen = inr (record {
    position = go.next;
    stands = ap (slice_get X.a.positions) (chosen is_odd ∙ ap (choice_at X.s.choice) here) ∙ go.is_choice.chosen;
    decision = (entry_at X.r f).decision;
    is_decision = (X.o.are_entries f go.next go.is_entry).decision;
    listed = λ none. member_of_get X.o.positions f go.next go.is_entry;
  })
    where
      go : IsGo X.g X.a X.s X.o.positions p at.spread d f m
      go = at.holds.1

      here : v ≡ go.is_choice.vertex
      here = same_place X.a.positions X.arena.are_different v go.is_choice.vertex p stands go.is_choice.is_here

      is_odd : owner_of (game_of X.a) v ≡ Odd
      is_odd = odd_at X.g X.a X.arena v p stands d at.spread at.is_spread at.holds.0 go.is_diamond.is_diamond

  -- behind the positions a move stays there
  stays_behind : (v w : ℕ) → length X.a.positions ≤ v → HasMove (game_of X.a) v w → length X.a.positions ≤ w
  stays_behind v w past move = by_vertex (cases_eq v (length X.a.positions)) (cases_eq v (length X.a.positions + 1))
    where
      one : (n : ℕ) → length X.a.positions ≤ n → IsMember w (n ∷ []) → length X.a.positions ≤ w
      one n le (inl same) = omega arith
      one n le (inr none) = absurd none

      at : (n : ℕ) → v ≡ n → moves_of (game_of X.a) n ≡ n ∷ [] → length X.a.positions ≤ n → length X.a.positions ≤ w
      at n same moves le =
          one n le (member_of_contains w (n ∷ [])
          (subst (λ ms. Contains ms w) (ap (moves_of (game_of X.a)) same ∙ moves) move))

      by_vertex : (v ≡ length X.a.positions) ⊎ (v ≡ length X.a.positions → ⊥)
          → (v ≡ length X.a.positions + 1) ⊎ (v ≡ length X.a.positions + 1 → ⊥)
          → length X.a.positions ≤ w
      by_vertex (inl same) other = at (length X.a.positions) same (lost_moves X.g X.a X.arena) (omega arith)
      by_vertex (inr differ) (inl same) = at (length X.a.positions + 1) same (won_moves X.g X.a X.arena) (omega arith)
      by_vertex (inr differ) (inr other) =
          let long = length-append X.a.moves ((length X.a.positions ∷ []) ∷ ((length X.a.positions + 1) ∷ []) ∷ []) in
          let none = get_or_past (game_of X.a).successors v []
          (omega (arith, long, X.arena.moves_each, differ, other, past)) in
          absurd (contains_none w (subst (λ ms. Contains ms w) none move))

  -- what is met is such a vertex, or behind the positions
  met_inside : (v : ℕ) → Met v → (length X.a.positions ≤ v) ⊎ InDecision v
  met_inside v at_start = inr start_inside
  met_inside v (by_move before _ met move chosen) = from (met_inside before met)
    where
      from : (length X.a.positions ≤ before) ⊎ InDecision before → (length X.a.positions ≤ v) ⊎ InDecision v
      from (inl past) = inl (stays_behind before v past move)
      from (inr i) = move_inside before v i.position i.decision i.stands i.is_decision move chosen

  met_listed : (p : Position) → IsReachedByOdd X.a X.s p → IsMember p X.o.positions
  met_listed p is = from (met_inside is.vertex is.is_met)
    where
      from : (length X.a.positions ≤ is.vertex) ⊎ InDecision is.vertex → IsMember p X.o.positions
      from (inl past) = absurd (omega (arith, past, slice_get_within X.a.positions is.vertex p is.is_here))
      from (inr i) =
          let places : Some i.position ≡ Some p = sym i.stands ∙ is.is_here in
          let same : i.position ≡ p = cc in
          subst (λ q. IsMember q X.o.positions) same (i.listed (ap (λ (q : Position). q.choice) same ∙ is.unchosen))

  -- the law
  pub are_reached : (p : Position)
      → (IsMember p X.o.positions → IsReachedByOdd X.a X.s p) × (IsReachedByOdd X.a X.s p → IsMember p X.o.positions)
  are_reached p = (entry_met p, met_listed p)
