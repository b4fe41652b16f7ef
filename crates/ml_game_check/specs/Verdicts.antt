-- What the check of claims answers.
--
-- The first three rules are broken at a vertex that can be looked at by itself, so the least one is named, with the lowest
-- rule that its claim breaks. Only where none of them is broken the fourth rule is named, with any vertex that breaks it.
--
--   number_of r           == the number of the rule r, from 1 to 4
--   Breaks g cs r v       == the claim of v breaks the rule r
--   BreaksEarly g cs v    == it breaks one of the first three
--   IsBroken g cs v r     == it breaks r, and no lower rule; where some claim breaks one of the first three, r is one of them,
--                            and v is the least vertex with such a claim
--   IsVerdict g cs answer == the claims are right, or this is what is broken
use Rattle.std.specs.Prelude.{ℕ, ◌≤◌, ◌⊎◌}
use Rattle.ml_parity.specs.declared.players.Player.{Player}
use Rattle.ml_parity.specs.Game.{ParityGame}
use Rattle.ml_game_check.specs.RightClaims.{AreRight, BreaksFour, BreaksOne, BreaksThree, BreaksTwo, Claims}
use Rattle.ml_game_check.specs.declared.verdict.Rule.{Rule}
use Rattle.ml_game_check.specs.declared.verdict.Rule.TheVariants.{HasMove, MovesAlong, StaysClaimed, NoBadCycle}
use Rattle.ml_game_check.specs.declared.verdict.Verdict.{Verdict}
use Rattle.ml_game_check.specs.declared.verdict.Verdict.TheVariants.{Right, Broken}

abbrev pub number_of : Rule → ℕ
number_of HasMove = 1
number_of MovesAlong = 2
number_of StaysClaimed = 3
number_of NoBadCycle = 4

abbrev pub Breaks : ParityGame → Claims → Rule → ℕ → Type 0
Breaks g cs HasMove v = (p : Player) × BreaksOne g cs p v
Breaks g cs MovesAlong v = (p : Player) × BreaksTwo g cs p v
Breaks g cs StaysClaimed v = (p : Player) × BreaksThree g cs p v
Breaks g cs NoBadCycle v = (p : Player) × BreaksFour g cs p v

abbrev pub BreaksEarly : ParityGame → Claims → ℕ → Type 0
BreaksEarly g cs v = Breaks g cs HasMove v ⊎ Breaks g cs MovesAlong v ⊎ Breaks g cs StaysClaimed v

pub record IsBroken (g : ParityGame) (cs : Claims) (v : ℕ) (rule : Rule) : Type 0 where
  pub breaks : Breaks g cs rule v
  pub lowest : (r : Rule) → Breaks g cs r v → number_of rule ≤ number_of r
  pub first : (w : ℕ) → BreaksEarly g cs w → (number_of rule ≤ 3) × (v ≤ w)

abbrev pub IsVerdict : ParityGame → Claims → Verdict → Type 0
IsVerdict g cs Right = AreRight g cs
IsVerdict g cs (Broken v rule) = IsBroken g cs v rule
