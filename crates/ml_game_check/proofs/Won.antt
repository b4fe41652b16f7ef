-- Where claims are right, vertices are won as they say.
--
-- A play that follows the claimed moves goes along ways, so it stays among the vertices claimed for the player. On its loop
-- some vertex has the lowest priority. Were that bad for the player, the claim of this vertex would break the fourth rule.
--
--   claimed_or_not   == whether a vertex is claimed for a player is told
--   way, ways        == each move of such a play is a way
--   made, is_strategy == the strategy of the claimed moves, and of first successors elsewhere
--   right_are_won    == the theorem
use Rattle.std.proofs.Common.{ℕ, ◌≡◌, ◌+◌, ◌<◌, ◌≤◌, ◌⊎◌, Option, Some, None, length, get_or, inl, inr, ⊎_elim, refl, sym, ap, ◌∙◌, subst, cond, arith}
use Rattle.ml_lists.specs.Lasso.{Lasso, entry, round}
use Rattle.ml_lists.specs.Member.{IsMember}
use Rattle.ml_lists.proofs.Decided.{Decided, decided_number}
use Rattle.ml_lists.proofs.Deciding.{decided_member}
use Rattle.ml_lists.proofs.Lasso.{LowestOnLoop, lasso_keeps, lowest_on_loop_place, round-entry}
use Rattle.ml_lists.proofs.Member.{place-member}
use Rattle.ml_lists.proofs.Members.{contains_of_member, member_of_contains}
use Rattle.ml_parity.specs.declared.players.Player.{Player}
use Rattle.ml_parity.specs.Game.{ParityGame, IsGame, HasMove, moves_of, owner_of, priority_of, size}
use Rattle.ml_parity.specs.Player.{opponent, side}
use Rattle.ml_parity.specs.Winner.{Follows, IsPlay, IsStrategyOf, WinsFrom, winner}
use Rattle.ml_parity.proofs.Opponents.{cases_player, is_or_not, same_player, same_player-true, same_player-false}
use Rattle.ml_game_check.specs.Laws.{Makes, RightAreWon}
use Rattle.ml_game_check.specs.RightClaims.{AreRight, Claims, IsClaimed, IsMoved, IsWay, claim, claim_at}
use Rattle.ml_game_check.specs.declared.claims.Claim.{Claim}

-- the player that a claim names
winner_or : Player → Option Claim → Player
winner_or q (Some c) = c.winner
winner_or q None = q

pub same_winner : (q p : Player) (a b : Option ℕ) → Some (claim q a) ≡ Some (claim p b) → q ≡ p
unfolding winner_or
same_winner q p a b e = ap (winner_or q) e

pub no_claim : (c : Claim) → None ≡ Some c → ⊥
no_claim c e = cc

pub claimed_or_not : (cs : Claims) (p : Player) (v : ℕ) → Decided (IsClaimed cs p v)
claimed_or_not cs p v = by_claim (claim_at cs v) refl
  where
    by_winner : (c : Claim) → claim_at cs v ≡ Some c → (c.winner ≡ p) ⊎ (c.winner ≡ p → ⊥) → Decided (IsClaimed cs p v)
    by_winner c is (inl same) = inl (c.move_to, is ∙ ap (λ q. Some (claim q c.move_to)) same)
    by_winner c is (inr other) =
        inr (λ (h : IsClaimed cs p v). other (same_winner c.winner p c.move_to h.0 (sym is ∙ h.1)))

    by_claim : (o : Option Claim) → claim_at cs v ≡ o → Decided (IsClaimed cs p v)
    by_claim None is = inr (λ (h : IsClaimed cs p v). no_claim (claim p h.0) (sym is ∙ h.1))
    by_claim (Some c) is = by_winner c is (is_or_not c.winner p)

pub has_move_or_not : (g : ParityGame) (v w : ℕ) → Decided (HasMove g v w)
has_move_or_not g v w = of (decided_member decided_number w (moves_of g v))
  where
    of : Decided (IsMember w (moves_of g v)) → Decided (HasMove g v w)
    of (inl is) = inl (contains_of_member w (moves_of g v) is)
    of (inr none) = inr (λ has. none (member_of_contains w (moves_of g v) has))

-- what is in the option, and else another number
get_or_option : Option ℕ → ℕ → ℕ
get_or_option (Some w) other = w
get_or_option None other = other

module _ (g : ParityGame) (cs : Claims) (ok : IsGame g) (right : AreRight g cs) (p : Player) where
  -- where p owns a vertex that is claimed for p, a move stands
  moved : (v : ℕ) → owner_of g v ≡ p → IsClaimed cs p v → (w : ℕ) × IsMoved cs p v w
  moved v own (Some w, is) = (w, is)
  moved v own (None, is) = absurd ((right.1 p v).one (own, is))

  module _ (s : ℕ → ℕ) (makes : Makes g cs p s) (l : Lasso) (play : IsPlay g l) (follows : Follows g p s l) where
    way : (k : ℕ) → k < length l.entries → IsClaimed cs p (get_or (round l) k 0)
        → IsWay g cs p (get_or (round l) k 0) (get_or (round l) (k + 1) 0)
    way k low claimed = by_owner (is_or_not (owner_of g (get_or (round l) k 0)) p)
      where
        v : ℕ
        v = get_or (round l) k 0

        by_owner : (owner_of g v ≡ p) ⊎ (owner_of g v ≡ p → ⊥) → IsWay g cs p v (get_or (round l) (k + 1) 0)
        by_owner (inl own) =
            let m = moved v own claimed in
            let same : m.0 ≡ get_or (round l) (k + 1) 0 = sym (makes v m.0 own m.1) ∙ sym (follows k low own) in
            (claimed, inl (own, subst (λ w. IsMoved cs p v w) same m.1))
        by_owner (inr other) = (claimed, inr (other, play.joined k low))

    goes_on : (k : ℕ) → k < length l.entries → IsClaimed cs p (get_or (round l) k 0)
        → IsClaimed cs p (get_or (round l) (k + 1) 0)
    goes_on k low claimed =
        ⊎_elim (λ (is : IsClaimed cs p (get_or (round l) (k + 1) 0)). is)
        (λ (none : ¬ (IsClaimed cs p (get_or (round l) (k + 1) 0))).
        absurd ((right.1 p (get_or (round l) k 0)).three (get_or (round l) (k + 1) 0, way k low claimed, none)))
        (claimed_or_not cs p (get_or (round l) (k + 1) 0))

    module _ (begins : IsClaimed cs p (get_or (round l) 0 0)) where
      claimed_at : (k : ℕ) → k ≤ length l.entries → IsClaimed cs p (get_or (round l) k 0)
      claimed_at = lasso_keeps l (IsClaimed cs p) goes_on begins

      wins : winner g l ≡ p
      wins = by_side (cases_player (winner g l) p) (lowest_on_loop_place (priority_of g) l play.starts)
        where
          by_side : (winner g l ≡ p) ⊎ (winner g l ≡ opponent p) → LowestOnLoop (priority_of g) l → winner g l ≡ p
          by_side (inl good) place = good
          by_side (inr bad) place =
              let v = entry l place.place in
              let here = subst (IsClaimed cs p) (round-entry l place.place place.below) (claimed_at place.place (omega (arith, place.below))) in
              absurd ((right.1 p v).four (
                here,
                record {
                  cycle = l;
                  ways = record { starts = play.starts; joined = λ k low. way k low (claimed_at k (omega arith)) };
                  place = place.place;
                  on_loop = place.later;
                  in_list = place.below;
                  here = refl;
                  lowest = sym place.holds;
                  bad = ap side place.holds ∙ bad;
                },
              ))

  by_moves : (s : ℕ → ℕ) → Makes g cs p s → (v : ℕ) → IsClaimed cs p v → WinsFrom g p s v
  by_moves s makes v claimed l play begins follows =
      wins s makes l play follows
      (subst (IsClaimed cs p) (sym (round-entry l 0 (omega (arith, play.starts)) ∙ begins)) claimed)

  -- ---- a strategy that makes these moves

  -- the move of a claim for p, and else another one
  made : Option Claim → ℕ → ℕ
  made None other = other
  made (Some c) other = get_or_option (cond (same_player c.winner p) c.move_to None) other

  abbrev strategy : ℕ → ℕ
  strategy v = made (claim_at cs v) (get_or (moves_of g v) 0 0)

  made_moved : (o : Option Claim) (w other : ℕ) → o ≡ Some (claim p (Some w)) → made o other ≡ w
  unfolding made get_or_option
  made_moved o w other is =
      ap (λ c. made c other) is
      ∙ ap (λ b. get_or_option (cond b (Some w) None) other) (same_player-true p p refl)

  makes : Makes g cs p strategy
  makes v w own is = made_moved (claim_at cs v) w (get_or (moves_of g v) 0 0) is

  made_else : (v : ℕ) → ¬ (IsClaimed cs p v) → (o : Option Claim) → claim_at cs v ≡ o → (other : ℕ) → made o other ≡ other
  unfolding made get_or_option
  made_else v none None is other = refl
  made_else v none (Some c) is other =
      ap (λ b. get_or_option (cond b c.move_to None) other)
      (same_player-false c.winner p (λ same. none (c.move_to, is ∙ ap (λ q. Some (claim q c.move_to)) same)))

  first_move : (v : ℕ) → v < size g → HasMove g v (get_or (moves_of g v) 0 0)
  first_move v low =
      contains_of_member (get_or (moves_of g v) 0 0) (moves_of g v) (place-member (moves_of g v) 0 0 (ok.goes_on v low))

  is_strategy : IsStrategyOf g p strategy
  is_strategy v low own = by_claim (claimed_or_not cs p v)
    where
      by_claim : Decided (IsClaimed cs p v) → HasMove g v (strategy v)
      by_claim (inl claimed) =
          let m = moved v own claimed in
          subst (HasMove g v) (sym (makes v m.0 own m.1))
          (⊎_elim (λ (has : HasMove g v m.0). has)
          (λ (none : ¬ (HasMove g v m.0)). absurd ((right.1 p v).two (own, (m.0, m.1, none))))
          (has_move_or_not g v m.0))
      by_claim (inr none) =
          subst (HasMove g v) (sym (made_else v none (claim_at cs v) refl (get_or (moves_of g v) 0 0))) (first_move v low)

pub right_are_won : RightAreWon
right_are_won g cs ok right p v low claimed = (
  record {
    strategy = strategy g cs ok right p;
    is_strategy = is_strategy g cs ok right p;
    wins = by_moves g cs ok right p (strategy g cs ok right p) (makes g cs ok right p) v claimed;
  },
  λ s s_makes. by_moves g cs ok right p s s_makes v claimed,
)
