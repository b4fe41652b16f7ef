-- The two players: cases, and a test of equality.
--
--   cases_player       == two players are equal, or the one is the opponent of the other
--   opponent-opponent  == the opponent of the opponent is the player
--   no_own_opponent    == no player is the player's own opponent
--   not_both           == a player is not both one player and the opponent of that player
--   is_or_not          == two players are equal, or they are not
--   same_player        == the test of equality, with its meaning both ways
use Rattle.std.proofs.Common.{◌≡◌, Bool, true, false, ◌⊎◌, inl, inr, ⊎_elim, refl, sym, ◌∙◌}
use Rattle.ml_parity.specs.declared.players.Player.{Player}
use Rattle.ml_parity.specs.declared.players.Player.TheVariants.{Even, Odd}
use Rattle.ml_parity.specs.Player.{opponent}

-- two players are equal, or the one is the opponent of the other
pub cases_player : (p q : Player) → (p ≡ q) ⊎ (p ≡ opponent q)
cases_player Even Even = inl refl
cases_player Even Odd = inr refl
cases_player Odd Even = inr refl
cases_player Odd Odd = inl refl

-- the opponent of the opponent is the player
pub opponent-opponent : (p : Player) → opponent (opponent p) ≡ p
opponent-opponent Even = refl
opponent-opponent Odd = refl

-- no player is the player's own opponent
pub no_own_opponent : (p : Player) → p ≡ opponent p → ⊥
no_own_opponent Even h = cc
no_own_opponent Odd h = cc

-- a player is not both one player and the opponent of that player
pub not_both : (p q : Player) → p ≡ q → p ≡ opponent q → ⊥
not_both p q same other = no_own_opponent q (sym same ∙ other)

-- two players are equal, or they are not
pub is_or_not : (p q : Player) → (p ≡ q) ⊎ (p ≡ q → ⊥)
is_or_not p q =
    ⊎_elim (λ (same : p ≡ q). inl same) (λ (other : p ≡ opponent q). inr (λ same. not_both p q same other))
    (cases_player p q)

-- the test of equality of two players
abbrev pub same_player : Player → Player → Bool
same_player Even Even = true
same_player Even Odd = false
same_player Odd Even = false
same_player Odd Odd = true

-- equal players pass it
pub same_player-true : (p q : Player) → p ≡ q → same_player p q ≡ true
same_player-true Even Even h = refl
same_player-true Even Odd h = cc
same_player-true Odd Even h = cc
same_player-true Odd Odd h = refl

-- different players fail it
pub same_player-false : (p q : Player) → (p ≡ q → ⊥) → same_player p q ≡ false
same_player-false Even Even h = absurd (h refl)
same_player-false Even Odd h = refl
same_player-false Odd Even h = refl
same_player-false Odd Odd h = absurd (h refl)

-- who passes it is equal
pub same_player-from_true : (p q : Player) → same_player p q ≡ true → p ≡ q
same_player-from_true Even Even h = refl
same_player-from_true Even Odd h = cc
same_player-from_true Odd Even h = cc
same_player-from_true Odd Odd h = refl

-- who is not a player is the opponent of that player
pub other_player : (p q : Player) → (p ≡ q → ⊥) → p ≡ opponent q
other_player p q different = ⊎_elim (λ (same : p ≡ q). absurd (different same)) (λ (other : p ≡ opponent q). other)
    (cases_player p q)
