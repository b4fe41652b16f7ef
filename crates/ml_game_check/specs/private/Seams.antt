-- Vertices in an order with seams.
--
-- Each vertex has a place in a row, and between two neighbouring places is a seam, with a number. From a vertex that is claimed
-- for a player ways may lead to earlier places, and to later ones where no seam as low as the priority of the vertex is
-- crossed. Where that priority is bad for the player, each way must cross such a seam towards earlier places. Then no cycle
-- of ways has a lowest priority that is bad: at it, the seams so low that lie before the vertex would get fewer all round.
--
--   at xs k                 == the number at a place of a list
--   IsOpen seam q i j       == no seam of q or lower from i up to j
--   IsBound seam q p i b    == from the place i ways of a vertex of priority q, claimed for p, may lead up to the place b
--   ComesBy g cs place p v b == the ways from v, claimed for p, lead to places up to b
--   IsSortedAt g cs place seam p v == they have such a bound
--   IsSorted g cs place seam == so at each vertex that is claimed for a player
--   AreRuns seams ends      == from each seam on, up to its end, no seam is lower
use Rattle.std.specs.Prelude.{ℕ, ◌≡◌, ◌<◌, ◌≤◌, ◌⊎◌, List, length, get_or}
use Rattle.ml_parity.specs.declared.players.Player.{Player}
use Rattle.ml_parity.specs.Game.{ParityGame, priority_of}
use Rattle.ml_parity.specs.Player.{side}
use Rattle.ml_game_check.specs.RightClaims.{Claims, IsClaimed, IsWay}

abbrev pub at : List ℕ → ℕ → ℕ
at xs k = get_or xs k 0

abbrev pub IsOpen : (ℕ → ℕ) → ℕ → ℕ → ℕ → Type 0
IsOpen seam q i j = (x : ℕ) → i ≤ x → x < j → q < seam x

-- with the player for whom a vertex of the priority q at the place i is claimed
abbrev pub IsBound : (ℕ → ℕ) → ℕ → Player → ℕ → ℕ → Type 0
IsBound seam q p i b = ((side q ≡ p) × IsOpen seam q i b) ⊎ ((b < i) × (seam b ≤ q))

abbrev pub ComesBy : ParityGame → Claims → (ℕ → ℕ) → Player → ℕ → ℕ → Type 0
ComesBy g cs place p v b = (w : ℕ) → IsWay g cs p v w → place w ≤ b

abbrev pub IsSortedAt : ParityGame → Claims → (ℕ → ℕ) → (ℕ → ℕ) → Player → ℕ → Type 0
IsSortedAt g cs place seam p v =
    (b : ℕ) × IsBound seam (priority_of g v) p (place v) b × ComesBy g cs place p v b

abbrev pub IsSorted : ParityGame → Claims → (ℕ → ℕ) → (ℕ → ℕ) → Type 0
IsSorted g cs place seam = (p : Player) (v : ℕ) → IsClaimed cs p v → IsSortedAt g cs place seam p v

pub record AreRuns (seams : List ℕ) (ends : List ℕ) : Type 0 where
  pub many : length ends ≡ length seams
  pub run : (i x : ℕ) → i ≤ x → x < get_or ends i 0 → get_or seams i 0 ≤ get_or seams x 0
