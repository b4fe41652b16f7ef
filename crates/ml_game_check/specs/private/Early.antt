-- The first three rules at one vertex.
--
--   IsFirstRule g cs v r == the claim of v breaks r, which is one of the first three rules, and no lower one
--   KeepsEarly g cs      == there is a place for a claim at each vertex, and no claim breaks one of the first three rules
use Rattle.std.specs.Prelude.{ℕ, ◌≡◌, ◌<◌, ◌≤◌, length}
use Rattle.ml_parity.specs.Game.{ParityGame, size}
use Rattle.ml_game_check.specs.RightClaims.{Claims}
use Rattle.ml_game_check.specs.Verdicts.{Breaks, BreaksEarly, number_of}
use Rattle.ml_game_check.specs.declared.verdict.Rule.{Rule}

pub record IsFirstRule (g : ParityGame) (cs : Claims) (v : ℕ) (rule : Rule) : Type 0 where
  pub breaks : Breaks g cs rule v
  pub lowest : (r : Rule) → Breaks g cs r v → number_of rule ≤ number_of r
  pub early : number_of rule ≤ 3

pub record KeepsEarly (g : ParityGame) (cs : Claims) : Type 0 where
  pub places : length cs ≡ size g
  pub kept : (v : ℕ) → v < size g → BreaksEarly g cs v → ⊥
