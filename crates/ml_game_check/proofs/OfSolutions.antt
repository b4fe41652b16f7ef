-- The claims of a solution are right.
--
--   told_claim           == what a solution claims of a vertex
--   claimed_is, moved_is == what the claims of a solution say of a vertex
--   solutions_are_right  == the theorem
use Rattle.std.proofs.Common.{ℕ, ◌≡◌, ◌+◌, ◌<◌, ◌≤◌, ◌⊎◌, Option, Some, None, length, get_or, inl, inr, ⊎_elim, refl, sym, ap, ◌∙◌, subst, arith}
use Rattle.std.proofs.lemmas.Bool.{cases_lt}
use Rattle.std.proofs.lemmas.List.{get_or_past}
use Rattle.std.proofs.lemmas.List.FromFn.{get_or-map-range_with_len, length-map-range_with_len}
use Rattle.ml_lists.specs.Lasso.{round}
use Rattle.ml_lists.proofs.Lasso.{round-entry}
use Rattle.ml_parity.specs.declared.players.Player.{Player}
use Rattle.ml_parity.specs.declared.players.Player.TheVariants.{Even, Odd}
use Rattle.ml_parity.specs.Game.{ParityGame, IsGame, HasMove, owner_of, size}
use Rattle.ml_parity.specs.Player.{opponent, side}
use Rattle.ml_parity.specs.Solution.{GameSolution, IsSolution, choice_at, winner_at}
use Rattle.ml_parity.specs.Winner.{Wins, WinsFrom, winner}
use Rattle.ml_parity.proofs.AlongPlays.{kept_by_move}
use Rattle.ml_parity.proofs.Opponents.{cases_player, no_own_opponent}
use Rattle.ml_parity.proofs.Winners.{law}
use Rattle.ml_game_check.specs.Laws.{SolutionsAreRight, claim_of, claims_of, move_of}
use Rattle.ml_game_check.specs.RightClaims.{BreaksOne, BreaksTwo, BreaksThree, BreaksFour, IsClaimed, IsWay, KeepsAll, claim, claim_at}
use Rattle.ml_game_check.specs.declared.claims.Claim.{Claim}
use Rattle.ml_game_check.proofs.Won.{no_claim, same_winner}

-- a move stands where the owner is the winner
stands : (p : Player) (w : ℕ) → move_of p p w ≡ Some w
stands Even w = refl
stands Odd w = refl

pub no_number : (w : ℕ) → None ≡ Some w → ⊥
no_number w e = cc

move_or : Option ℕ → Option Claim → Option ℕ
move_or o (Some c) = c.move_to
move_or o None = o

pub same_move : (q p : Player) (a b : Option ℕ) → Some (claim q a) ≡ Some (claim p b) → a ≡ b
unfolding move_or
same_move q p a b e = ap (move_or a) e

number_or : ℕ → Option ℕ → ℕ
number_or n (Some w) = w
number_or n None = n

pub same_number : (a b : ℕ) → Some a ≡ Some b → a ≡ b
unfolding number_or
same_number a b e = ap (number_or a) e

pub told_claim : (g : ParityGame) (s : GameSolution) (v : ℕ) → v < size g → claim_at (claims_of g s) v ≡ claim_of g s v
told_claim g s v low = get_or-map-range_with_len (claim_of g s) 0 (size g) v v None low (omega arith)

module _ (g : ParityGame) (s : GameSolution) (ok : IsGame g) (is : IsSolution g s) where
  long : length (claims_of g s) ≡ size g
  long = length-map-range_with_len (claim_of g s) 0 (size g)

  below : (p : Player) (v : ℕ) → IsClaimed (claims_of g s) p v → v < size g
  below p v claimed =
      ⊎_elim (λ (low : v < size g). low)
      (λ (past : size g ≤ v).
      absurd (no_claim (claim p claimed.0) (sym (get_or_past (claims_of g s) v None (omega (arith, long))) ∙ claimed.1)))
      (cases_lt v (size g))

  module _ (p : Player) where
    -- the winner of a vertex that is claimed for p
    won : (v : ℕ) → IsClaimed (claims_of g s) p v → winner_at s.winner v ≡ p
    won v claimed =
        same_winner (winner_at s.winner v) p (move_of (owner_of g v) (winner_at s.winner v) (choice_at s.choice v)) claimed.0
        (sym (told_claim g s v (below p v claimed)) ∙ claimed.1)

    claimed_for : (v : ℕ) → v < size g → winner_at s.winner v ≡ p → IsClaimed (claims_of g s) p v
    claimed_for v low same = (
      move_of (owner_of g v) (winner_at s.winner v) (choice_at s.choice v),
      told_claim g s v low ∙ ap (λ q. Some (claim q (move_of (owner_of g v) (winner_at s.winner v) (choice_at s.choice v)))) same,
    )

    -- the move at a vertex of p's that is claimed for p
    choice : (v : ℕ) (to : Option ℕ) → owner_of g v ≡ p → claim_at (claims_of g s) v ≡ Some (claim p to)
        → Some (choice_at s.choice v) ≡ to
    choice v to own here =
        let owner_is : p ≡ owner_of g v = sym own in
        let winner_is : p ≡ winner_at s.winner v = sym (won v (to, here)) in
        sym (stands p (choice_at s.choice v))
        ∙ (λ i. move_of (owner_is i) (winner_is i) (choice_at s.choice v))
        ∙ same_move (winner_at s.winner v) p (move_of (owner_of g v) (winner_at s.winner v) (choice_at s.choice v)) to
        (sym (told_claim g s v (below p v (to, here))) ∙ here)

    wins : (v : ℕ) → IsClaimed (claims_of g s) p v → WinsFrom g p (choice_at s.choice) v
    wins v claimed = subst (λ q. WinsFrom g q (choice_at s.choice) v) (won v claimed) (is.wins v (below p v claimed))

    moves : (v w : ℕ) → IsWay g (claims_of g s) p v w → HasMove g v w
    moves v w (claimed, inl (own, to)) =
        subst (HasMove g v) (same_number (choice_at s.choice v) w (choice v (Some w) own to))
        (is.strategies p v (below p v claimed) own)
    moves v w (claimed, inr (other, move)) = move

    follows : (v w : ℕ) → IsWay g (claims_of g s) p v w → owner_of g v ≡ p → w ≡ choice_at s.choice v
    follows v w (claimed, inl (own, to)) own_too = sym (same_number (choice_at s.choice v) w (choice v (Some w) own to))
    follows v w (claimed, inr (other, move)) own = absurd (other own)

    -- who wins a vertex is the winner
    one_winner : (w : ℕ) → w < size g → Wins g p w → winner_at s.winner w ≡ p
    one_winner w low wins_w = by_player (cases_player (winner_at s.winner w) p)
      where
        both : (q : Player) → Wins g q w → Wins g (opponent q) w → ⊥
        both Even a b = (law g ok).not_both w low a b
        both Odd a b = (law g ok).not_both w low b a

        by_player : (winner_at s.winner w ≡ p) ⊎ (winner_at s.winner w ≡ opponent p) → winner_at s.winner w ≡ p
        by_player (inl same) = same
        by_player (inr other) = absurd (both p wins_w (subst (λ q. Wins g q w) other (is.right w low)))

    leads : (v w : ℕ) → IsWay g (claims_of g s) p v w → IsClaimed (claims_of g s) p w
    leads v w way =
        let move = moves v w way in
        let low = ok.in_range v w move in
        let there = kept_by_move g p (choice_at s.choice) v w (wins v way.0) move (λ own. follows v w way own) in
        claimed_for w low
        (one_winner w low (record { strategy = choice_at s.choice; is_strategy = is.strategies p; wins = there }))

    no_bad_cycle : (v : ℕ) → BreaksFour g (claims_of g s) p v → ⊥
    no_bad_cycle v (claimed, c) =
        let l = c.cycle in
        let first : IsClaimed (claims_of g s) p (get_or (round l) 0 0) = (c.ways.joined 0 (omega (arith, c.ways.starts))).0 in
        let good : winner g l ≡ p =
        wins (get_or (round l) 0 0) first l
        (record { starts = c.ways.starts; joined = λ k low. moves (get_or (round l) k 0) (get_or (round l) (k + 1) 0) (c.ways.joined k low) })
        (sym (round-entry l 0 (omega (arith, c.ways.starts))))
        (λ k low own. follows (get_or (round l) k 0) (get_or (round l) (k + 1) 0) (c.ways.joined k low) own) in
        no_own_opponent p (sym good ∙ ap side c.lowest ∙ c.bad)

    keeps : (v : ℕ) → KeepsAll g (claims_of g s) p v
    keeps v = record {
      one = λ (b : BreaksOne g (claims_of g s) p v). no_number (choice_at s.choice v) (sym (choice v None b.0 b.1));
      two = λ (b : BreaksTwo g (claims_of g s) p v).
          b.1.2 (moves v b.1.0 ((Some b.1.0, b.1.1), inl (b.0, b.1.1)));
      three = λ (b : BreaksThree g (claims_of g s) p v). b.2 (leads v b.0 b.1);
      four = no_bad_cycle v;
    }

pub solutions_are_right : SolutionsAreRight
solutions_are_right g s ok is = (long g s ok is, λ p v. keeps g s ok is p v)
