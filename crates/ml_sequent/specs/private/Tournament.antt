-- Tournaments: the least of numbers that come and go. Only private contracts and proofs cite what stands here.
--
--   TournamentList      == a bound, and for each place the winner of its match; the number n stands n
--                          places behind the bound
--   Holds t n           == the number n is one of them
--   IsSlotted room slots open == there is room for all, and each match but those that are open was won by the lesser
--                                side
--   IsTournament room slots == all matches were played, and the places of numbers have these alone
--   IsEntered room n x slots slots2 == behind the bound slots2 is slots with x at the place of n
use Rattle.std.specs.Prelude.{ℕ, ◌≡◌, ◌<◌, ◌+◌, ◌*◌, List, Option, Some, None, length, get_or}
use Rattle.ml_sequent.specs.private.ConnectedParts.{lesser}

-- a bound, and for each place the winner of its match
pub record TournamentList : Type 0 where
  pub room : ℕ
  pub slots : List (Option ℕ)

-- the number is one of them
pub record Holds (t : TournamentList) (n : ℕ) : Type 0 where
  pub low : n < t.room
  pub entry : get_or t.slots (t.room + n) None ≡ Some n

-- each match but the open ones was won by the lesser side
pub record IsSlotted (room : ℕ) (slots : List (Option ℕ)) («open» : ℕ → Type 0) : Type 0 where
  pub long : length slots ≡ 2 * room
  pub won : (i : ℕ) → 0 < i → i < room → («open» i → ⊥)
      → get_or slots i None ≡ lesser (get_or slots (2 * i) None) (get_or slots (2 * i + 1) None)

-- all matches were played, and the places of numbers have these alone
pub record IsTournament (room : ℕ) (slots : List (Option ℕ)) : Type 0 where
  pub slotted : IsSlotted room slots (λ i. ⊥)
  pub own : (n m : ℕ) → n < room → get_or slots (room + n) None ≡ Some m → m ≡ n

-- behind the bound slots2 is slots with x at the place of n
pub record IsEntered (room n : ℕ) (x : Option ℕ) (slots slots2 : List (Option ℕ)) : Type 0 where
  pub here : get_or slots2 (room + n) None ≡ x
  pub others : (m : ℕ) → m < room → (m ≡ n → ⊥) → get_or slots2 (room + m) None ≡ get_or slots (room + m) None
