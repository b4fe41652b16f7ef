-- What is done at a vertex that Odd wins, in the words of the search for entries.
--
--   resolved_by        == nothing clashes, and no or-node is open
--   placed, facts_here == the vertex is one of the arena, of a position that is reached
--   nodes_here         == the nodes of its sequent are nodes of the graph
--   LeavingAt, leaving_at == where nothing clashes and no or-node is open, the diamond at the place of the choice among
--                      the moves is the least one that leads there
--   BothSides, both_sides == where an or-node is open, the two moves go to both sides
--   SidesIn, sides_in  == so a program reads them
use Rattle.std.proofs.Common.{ℕ, ◌≡◌, ◌<◌, ◌==◌, List, [], ◌∷◌, Some, length, get_or, slice_get, All, refl, sym, ap, ◌∙◌, subst, arith, eqb}
use Rattle.std.specs.List.{position_or_len}
use Rattle.std.proofs.lemmas.Bool.{ne_eqb, eq-eqb}
use Rattle.std.proofs.lemmas.List.Sums.{position_or_len_is}
use Rattle.std.proofs.lemmas.Option.{slice_get_within, slice_get-get_or, get_or_from_slice_get}
use Rattle.ml_lists.proofs.Member.{member-All}
use Rattle.ml_graph.specs.Graph.{Graph, size}
use Rattle.ml_parity.specs.declared.players.Player.TheVariants.{Even, Odd}
use Rattle.ml_parity.specs.Game.{HasMove}
use Rattle.ml_parity.specs.Solution.{GameSolution, choice_at}
use Rattle.ml_parity.specs.Winner.{WinsFrom}
use Rattle.ml_parity.proofs.FollowedWalks.{won_behind}
use Rattle.ml_product.specs.Arena.{Arena, game_of}
use Rattle.ml_product.specs.DecisionGame.{Open, IsResolved, IsVerdictOf, IsReached, diamonds_of}
use Rattle.ml_product.specs.Position.{Position, start_of, with_chosen}
use Rattle.ml_lists.proofs.Member.{member_of_get}
use Rattle.ml_product.proofs.NeutralPriority.{sequent_low}
use Rattle.ml_product.proofs.Reached.{Facts, reached_facts}
use Rattle.ml_refutation.specs.Acceptance.{OfSpread}
use Rattle.ml_sequent.specs.declared.choice.Side.TheVariants.{Left, Right}
use Rattle.ml_sequent.specs.declared.clashes.ClashCause.{ClashCause}
use Rattle.ml_sequent.specs.Spread.{SpreadList, IsSpread, IsSpreadOf, IsCause, IsOpenOr}
use Rattle.ml_refute.specs.Extracted.{IsLeastTo}
use Rattle.ml_refute.specs.private.Found.{OddWins, IsWon, IsSpreadAt, LeavesTo, AreSides, position_at}
use Rattle.ml_refute.proofs.Progress.{GoesOn, goes_on}
use Rattle.ml_refute.proofs.Turns.{SplitAt, split_at}

-- where no clash was found and no open or-node, in graphs that are g
pub resolved_by : (g x y : Graph) (sp : SpreadList)
    → x ≡ g
    → y ≡ g
    → ((c : ClashCause) → IsCause x sp c → ⊥)
    → ((n : ℕ) → IsOpenOr y sp n → ⊥)
    → IsResolved g sp
resolved_by g x y sp x_is y_is none_clash none_open = record {
  no_clash = λ c is. none_clash c (subst (λ h. IsCause h sp c) (sym x_is) is);
  none_open = λ n is. none_open n (subst (λ h. IsOpenOr h sp n) (sym y_is) is);
}

module _ (g : Graph) (a : Arena) (s : GameSolution) (odd : OddWins g a s) (v : ℕ) (won : IsWon a s v) where
  abbrev here : Position
  here = position_at g a v

  pub placed : slice_get a.positions v ≡ Some (position_at g a v)
  placed = slice_get-get_or a.positions v (start_of g) won.low

  pub reached_here : IsReached g (position_at g a v)
  reached_here = (odd.arena.are_reached here).0 (member_of_get a.positions v here placed)

  pub facts_here : Facts g (position_at g a v)
  facts_here = reached_facts g here reached_here

  pub nodes_here : All (λ n. n < size g) (position_at g a v).sequent
  nodes_here =
      let turn = (odd.arena.played v here placed).turn in
      member-All (λ n. n < size g) here.sequent (sequent_low g here turn.spread turn.is_spread)

  -- the position that the arena shows
  pub shown : (p : Position) → slice_get a.positions v ≡ Some p → p ≡ position_at g a v
  shown p is = sym (get_or_from_slice_get a.positions v p (start_of g) is)

  pub nodes_shown : (p : Position) → slice_get a.positions v ≡ Some p → All (λ n. n < size g) p.sequent
  nodes_shown p is = subst (λ (q : Position). All (λ n. n < size g) q.sequent) (sym (shown p is)) nodes_here

  pub spread_shown : (p : Position) (sp : SpreadList) → slice_get a.positions v ≡ Some p
      → IsSpreadOf g p.sequent p.choice sp → IsSpread g sp → IsSpreadAt g a v sp
  spread_shown p sp at of is = record {
    is = is;
    of = subst (λ (q : Position). IsSpreadOf g q.sequent q.choice sp) (shown p at) of;
  }

  -- ---- Odd's choice

  abbrev choice_place : ℕ
  choice_place = position_or_len (λ w. w == choice_at s.choice v) (get_or a.moves v [])

  pub record LeavingAt (sp : SpreadList) : Type 0 where
    pub fits : position_or_len (λ w. w == choice_at s.choice v) (get_or a.moves v []) < length (diamonds_of g sp)
    pub leaves : LeavesTo g a s v sp
        (get_or (diamonds_of g sp) (position_or_len (λ w. w == choice_at s.choice v) (get_or a.moves v [])) 0)

  of_goes_on : (sp : SpreadList) → GoesOn g a odd.arena s v here sp → LeavingAt sp
  of_goes_on sp on = record {
    fits = omega (arith, place_is, on.fits);
    leaves = record {
      won = record { low = slice_get_within a.positions (choice_at s.choice v) on.next on.stands; wins = on.wins };
      is_diamond = subst (λ d. IsLeastTo g here sp (position_at g a (choice_at s.choice v)) d) diamond_is
          (subst (λ q. IsLeastTo g here sp q on.diamond) (sym next_is) on.is_diamond);
      mark = on.mark;
      marked = ap (λ (q : Position). q.priority) next_is ∙ on.marked;
      is_mark = on.is_mark;
      unchosen = ap (λ (q : Position). q.choice) next_is ∙ on.unchosen;
    };
  }
    where
      moves : List ℕ
      moves = get_or a.moves v []

      next_is : position_at g a (choice_at s.choice v) ≡ on.next
      next_is = get_or_from_slice_get a.positions (choice_at s.choice v) on.next (start_of g) on.stands

      place_is : position_or_len (λ w. w == choice_at s.choice v) (get_or a.moves v []) ≡ on.place
      place_is =
          position_or_len_is (λ w. eqb w (choice_at s.choice v)) (get_or a.moves v []) on.place 0
          (omega (arith, on.is_first.below))
          (λ k early. ne_eqb (get_or (get_or a.moves v []) k 0) (choice_at s.choice v) (on.is_first.before k early))
          (λ low. eq-eqb (get_or (get_or a.moves v []) on.place 0) (choice_at s.choice v) on.is_first.holds)

      diamond_is : on.diamond ≡ get_or (diamonds_of g sp) (position_or_len (λ w. w == choice_at s.choice v) (get_or a.moves v [])) 0
      diamond_is = on.diamond_is ∙ ap (λ k. get_or (diamonds_of g sp) k 0) (sym place_is)

  pub leaving_at : (sp : SpreadList)
      → IsSpreadOf g (position_at g a v).sequent (position_at g a v).choice sp
      → IsResolved g sp
      → LeavingAt sp
  leaving_at sp is_spread resolved =
      of_goes_on sp (goes_on g a odd.arena s odd.solution v here placed facts_here sp is_spread resolved won.wins)

  -- so a program reads it
  pub leaving_by : (sp : SpreadList) (diamonds : List ℕ) (place : ℕ)
      → IsSpreadAt g a v sp
      → IsResolved g sp
      → diamonds ≡ diamonds_of g sp
      → place ≡ position_or_len (λ w. w == choice_at s.choice v) (get_or a.moves v [])
      → (place < length diamonds) × LeavesTo g a s v sp (get_or diamonds place 0)
  leaving_by sp diamonds place at resolved diamonds_are place_is =
      let l = leaving_at sp at.of resolved in
      let same : get_or (diamonds_of g sp) (position_or_len (λ w. w == choice_at s.choice v) (get_or a.moves v [])) 0
      ≡ get_or diamonds place 0 =
      ap (λ k. get_or (diamonds_of g sp) k 0) (sym place_is) ∙ ap (λ xs. get_or xs place 0) (sym diamonds_are) in (
        omega (arith, l.fits, place_is, ap (λ (xs : List ℕ). length xs) diamonds_are),
        subst (LeavesTo g a s v sp) same l.leaves,
      )

  -- ---- Even's choice

  pub record BothSides (o : ℕ) : Type 0 where
    pub left : ℕ
    pub right : ℕ
    pub moves_are : get_or a.moves v [] ≡ left ∷ right ∷ []
    pub are_sides : AreSides g a s v o left right

  pub both_sides : (o : ℕ) (sp : SpreadList)
      → IsSpreadOf g (position_at g a v).sequent (position_at g a v).choice sp
      → IsVerdictOf g sp (Open o)
      → BothSides o
  both_sides o sp is_spread verdict = of_split (split_at g a odd.arena v here placed o sp is_spread verdict)
    where
      of_split : SplitAt g a odd.arena v here placed o → BothSides o
      of_split x = record {
        left = x.left;
        right = x.right;
        moves_are = x.moves_are;
        are_sides = record {
          left = get_or_from_slice_get a.positions x.left (with_chosen g here o Left) (start_of g) x.left_is;
          right = get_or_from_slice_get a.positions x.right (with_chosen g here o Right) (start_of g) x.right_is;
          left_won = record {
            low = slice_get_within a.positions x.left (with_chosen g here o Left) x.left_is;
            wins = behind x.left x.to_left;
          };
          right_won = record {
            low = slice_get_within a.positions x.right (with_chosen g here o Right) x.right_is;
            wins = behind x.right x.to_right;
          };
        };
      }
        where
          behind : (w : ℕ) → HasMove (game_of a) v w
              → WinsFrom (game_of a) Odd (choice_at s.choice) w
          behind w move = won_behind (game_of a) Odd (choice_at s.choice) v w
              (record { move = move; chosen = λ own. let wrong : Even ≡ Odd = sym x.is_even ∙ own in cc }) won.wins

  -- the moves, as a program reads them
  pub record SidesIn (o : ℕ) (moves : List ℕ) : Type 0 where
    pub are_two : length moves ≡ 2
    pub left_low : get_or moves 0 0 < length a.positions
    pub right_low : get_or moves 1 0 < length a.positions
    pub are_sides : AreSides g a s v o (get_or moves 0 0) (get_or moves 1 0)

  pub sides_in : (o : ℕ) (moves : List ℕ)
      → OfSpread g (position_at g a v).sequent (position_at g a v).choice (λ sp. IsVerdictOf g sp (Open o))
      → moves ≡ get_or a.moves v []
      → SidesIn o moves
  sides_in o moves turn moves_is = of_both (both_sides o turn.spread turn.is_spread turn.holds)
    where
      of_both : BothSides o → SidesIn o moves
      of_both b = subst (SidesIn o) (sym (moves_is ∙ b.moves_are)) (record {
        are_two = refl;
        left_low = b.are_sides.left_won.low;
        right_low = b.are_sides.right_won.low;
        are_sides = b.are_sides;
      })
