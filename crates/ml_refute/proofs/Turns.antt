-- Turns of the decision game, as vertices of its parity game.
--
--   SplitAt, split_at == where an or-node is open, Even may go to both sides
--   lost_at        == where something clashes, the one move goes to Lost
--   odd_at         == where nothing is open and there is a diamond, Odd moves
use Rattle.std.proofs.Common.{ℕ, ◌≡◌, ◌<◌, ◌≤◌, ◌⊎◌, inl, inr, List, [], ◌∷◌, Some, length, get_or, slice_get, Contains, refl, sym, ap, ◌∙◌, subst, arith}
use Rattle.std.proofs.lemmas.Bool.{cases_lt}
use Rattle.ml_lists.specs.Member.{IsMember}
use Rattle.ml_lists.proofs.Members.{contains_head, contains_later, member_of_contains}
use Rattle.ml_graph.specs.Graph.{Graph}
use Rattle.ml_parity.specs.declared.players.Player.TheVariants.{Even, Odd}
use Rattle.ml_parity.specs.Game.{HasMove, owner_of, moves_of}
use Rattle.ml_product.specs.Arena.{Arena, AreVertices, IsPlayed, IsArenaOf, game_of}
use Rattle.ml_product.specs.DecisionGame.{Verdict, Clashing, Open, Leading, Settled, Target, To, Lost, IsResolved, IsVerdictOf, diamonds_of, AreMoves}
use Rattle.ml_product.specs.Movers.{mover}
use Rattle.ml_product.specs.Position.{Position, with_chosen}
use Rattle.ml_sequent.specs.declared.choice.Side.TheVariants.{Left, Right}
use Rattle.ml_sequent.specs.declared.clashes.ClashCause.{ClashCause}
use Rattle.ml_sequent.specs.Spread.{SpreadList, IsSpreadOf, IsCause, IsLeastOpenOr}
use Rattle.std.proofs.lemmas.Option.{slice_get_within}
use Rattle.ml_product.proofs.ArenaGame.{owner_at, moves_at}
use Rattle.ml_product.proofs.OnePlace.{same_spread}

module _ (g : Graph) (a : Arena) (arena : IsArenaOf g a) (v : ℕ) (p : Position)
    (placed : slice_get a.positions v ≡ Some p) where
  low : v < length a.positions
  low = slice_get_within a.positions v p placed

  turn : IsPlayed g a.positions p (get_or a.owners v Even) (get_or a.moves v [])
  turn = arena.played v p placed

  -- the vertices of the two sides of an or-node
  pub record SplitAt (n : ℕ) : Type 0 where
    pub left : ℕ
    pub right : ℕ
    pub left_is : slice_get a.positions left ≡ Some (with_chosen g p n Left)
    pub right_is : slice_get a.positions right ≡ Some (with_chosen g p n Right)
    pub moves_are : get_or a.moves v [] ≡ left ∷ right ∷ []
    pub is_even : owner_of (game_of a) v ≡ Even
    pub to_left : HasMove (game_of a) v left
    pub to_right : HasMove (game_of a) v right
    pub only : (w : ℕ) → HasMove (game_of a) v w → (w ≡ left) ⊎ (w ≡ right)

  -- where an or-node is open, Even may go to both sides
  pub split_at : (n : ℕ) (sp : SpreadList) → IsSpreadOf g p.sequent p.choice sp → IsVerdictOf g sp (Open n) → SplitAt n
  split_at n sp is_spread is =
      of_turn turn.turn.verdict refl turn.turn.is_verdict turn.turn.are_moves
    where
      same : turn.turn.spread ≡ sp
      same = same_spread g p.sequent p.choice turn.turn.spread sp turn.turn.is_spread is_spread

      is_here : IsVerdictOf g turn.turn.spread (Open n)
      is_here = subst (λ x. IsVerdictOf g x (Open n)) (sym same) is

      one_least : (m : ℕ) → IsLeastOpenOr g turn.turn.spread m → (n < m) ⊎ (m < n) ⊎ (m ≡ n) → m ≡ n
      one_least m least (inl early) = absurd (least.least n early is_here.1.is_open)
      one_least m least (inr (inl early)) = absurd (is_here.1.least m early least.is_open)
      one_least m least (inr (inr e)) = e

      compare : (m : ℕ) → (n < m) ⊎ (m < n) ⊎ (m ≡ n)
      compare m = by_first (cases_lt n m) (cases_lt m n)
        where
          by_first : (n < m) ⊎ (m ≤ n) → (m < n) ⊎ (n ≤ m) → (n < m) ⊎ (m < n) ⊎ (m ≡ n)
          by_first (inl early) other = inl early
          by_first (inr le) (inl early) = inr (inl early)
          by_first (inr le) (inr ge) = inr (inr (omega arith))

      one_of : {l k : ℕ} (w : ℕ) → IsMember w (l ∷ k ∷ []) → (w ≡ l) ⊎ (w ≡ k)
      one_of w (inl is_left) = inl is_left
      one_of w (inr (inl is_right)) = inr is_right
      one_of w (inr (inr none)) = absurd none

      of_moves : (m : ℕ)
          → m ≡ n
          → (ts : List Target)
          → ts ≡ To (with_chosen g p m Left) ∷ To (with_chosen g p m Right) ∷ []
          → (ws : List ℕ)
          → AreVertices a.positions ts ws
          → get_or a.moves v [] ≡ ws
          → get_or a.owners v Even ≡ Even
          → SplitAt n
      of_moves m m_is ts ts_is ws vs ws_is owner_is =
          from (subst (λ x. AreVertices a.positions x ws)
          (ts_is ∙ ap (λ k. To (with_chosen g p k Left) ∷ To (with_chosen g p k Right) ∷ []) m_is) vs)
        where
          from : AreVertices a.positions (To (with_chosen g p n Left) ∷ To (with_chosen g p n Right) ∷ []) ws
              → SplitAt n
          from (l, rest, l_is, (k, none, k_is, none_is, rest_is), ws_are) =
              let all : moves_of (game_of a) v ≡ l ∷ k ∷ none = moves_at g a arena v low ∙ ws_is ∙ ws_are ∙ ap
              (λ x. l ∷ x) rest_is in
              record {
                left = l;
                right = k;
                left_is = l_is;
                right_is = k_is;
                moves_are = ws_is ∙ ws_are ∙ ap (λ x. l ∷ x) rest_is ∙ ap (λ x. l ∷ k ∷ x) none_is;
                is_even = owner_at g a arena v low ∙ owner_is;
                to_left = subst (λ x. Contains x l) (sym all) (contains_head l (k ∷ none));
                to_right = subst (λ x. Contains x k) (sym all) (contains_later l (k ∷ none) k (contains_head k none));
                only = λ w move. one_of w
                    (member_of_contains w (l ∷ k ∷ []) (subst (λ x. Contains x w) (all ∙ ap (λ x. l ∷ k ∷ x) none_is)
                    move));
              }

      of_turn : (x : Verdict)
          → turn.turn.verdict ≡ x
          → IsVerdictOf g turn.turn.spread x
          → AreMoves g p turn.turn.spread x turn.turn.targets
          → SplitAt n
      of_turn Clashing e at moves = absurd (is_here.0 at.0 at.1)
      of_turn (Open m) e at moves =
          of_moves m (one_least m at.1 (compare m)) turn.turn.targets moves (get_or a.moves v []) turn.moves_are refl
          (turn.owner_is ∙ ap mover e)
      of_turn (Leading ds) e at moves = absurd (at.0.none_open n is_here.1.is_open)
      of_turn Settled e at moves = absurd (at.0.none_open n is_here.1.is_open)

  -- where nothing is open and there is a diamond, Odd moves
  pub odd_at : (d : ℕ) (sp : SpreadList)
      → IsSpreadOf g p.sequent p.choice sp
      → IsResolved g sp
      → IsMember d (diamonds_of g sp)
      → owner_of (game_of a) v ≡ Odd
  odd_at d sp is_spread resolved inside =
      owner_at g a arena v low ∙ turn.owner_is ∙ of_turn turn.turn.verdict turn.turn.is_verdict
    where
      same : turn.turn.spread ≡ sp
      same = same_spread g p.sequent p.choice turn.turn.spread sp turn.turn.is_spread is_spread

      here : IsResolved g turn.turn.spread
      here = subst (IsResolved g) (sym same) resolved

      of_turn : (x : Verdict) → IsVerdictOf g turn.turn.spread x → mover x ≡ Odd
      of_turn Clashing at = absurd (here.no_clash at.0 at.1)
      of_turn (Open m) at = absurd (here.none_open m at.1.is_open)
      of_turn (Leading ds) at = refl
      of_turn Settled at =
          absurd (subst (λ ds. IsMember d ds) at.1 (subst (λ x. IsMember d (diamonds_of g x)) (sym same) inside))

  -- where something clashes, the one move goes to Lost
  pub lost_at : (c : ClashCause) (sp : SpreadList) → IsSpreadOf g p.sequent p.choice sp → IsCause g sp c → (w : ℕ)
      → HasMove (game_of a) v w → w ≡ length a.positions
  lost_at c sp is_spread is w move = of_turn turn.turn.verdict turn.turn.is_verdict turn.turn.are_moves
    where
      same : turn.turn.spread ≡ sp
      same = same_spread g p.sequent p.choice turn.turn.spread sp turn.turn.is_spread is_spread

      here : IsCause g turn.turn.spread c
      here = subst (λ x. IsCause g x c) (sym same) is

      lost : AreVertices a.positions (Lost ∷ []) (get_or a.moves v []) → w ≡ length a.positions
      lost (x, others, x_is, none, are) =
          of_one (member_of_contains w (x ∷ [])
          (subst (λ ms. Contains ms w) (moves_at g a arena v low ∙ are ∙ ap (λ z. x ∷ z) none) move))
        where
          of_one : IsMember w (x ∷ []) → w ≡ length a.positions
          of_one (inl e) = e ∙ x_is
          of_one (inr e) = absurd e

      of_turn : (x : Verdict)
          → IsVerdictOf g turn.turn.spread x
          → AreMoves g p turn.turn.spread x turn.turn.targets
          → w ≡ length a.positions
      of_turn Clashing at moves = lost (subst (λ ts. AreVertices a.positions ts (get_or a.moves v [])) moves
          turn.moves_are)
      of_turn (Open m) at moves = absurd (at.0 c here)
      of_turn (Leading ds) at moves = absurd (at.0.no_clash c here)
      of_turn Settled at moves = absurd (at.0.no_clash c here)
