-- The order of marks.
--
-- Marks are ordered Red 0, Green 0, Red 1, Green 1 and so on, and Neutral stands above them all. A Green mark is odd,
-- good for the player who refutes; every other one is even. Neutral is the lowest mark of an empty list, as it is the
-- greatest of all.
--
--   mark_le m n    == m is n or stands below n in the order
--   lowest_mark ms == the lowest of the marks ms, Neutral where there is none
--   is_odd m       == m is Green
--   is_green x m   == m is Green x
--   FitsBelow top m == m is Neutral, or its number is below top
--   PrioritiesAgree == below an even top, the lowest of the numbers is odd exactly if the lowest mark is
use Rattle.std.specs.Prelude.{◌≡◌, ◌↔◌, ℕ, ◌+◌, ◌*◌, ◌%◌, ◌<◌, Bool, true, false, if◌then◌else◌, ◌==◌, nat_lt, nat_le, List, [], ◌∷◌, map}
use Rattle.ml_lists.specs.Lowest.{lowest}
use Rattle.ml_lists.specs.Member.{IsMember}
use Rattle.ml_trace.specs.declared.marks.Mark.{Mark}
use Rattle.ml_trace.specs.declared.marks.Mark.TheVariants.{Red, Green, Neutral}
use Rattle.ml_trace.specs.Marks.{priority}

-- m is n or stands below n in the order
abbrev pub mark_le : Mark → Mark → Bool
mark_le (Red x) (Red y) = nat_le x y
mark_le (Red x) (Green y) = nat_le x y
mark_le (Red x) Neutral = true
mark_le (Green x) (Red y) = nat_lt x y
mark_le (Green x) (Green y) = nat_le x y
mark_le (Green x) Neutral = true
mark_le Neutral (Red y) = false
mark_le Neutral (Green y) = false
mark_le Neutral Neutral = true

-- the lower of two marks
abbrev pub lower_mark : Mark → Mark → Mark
lower_mark m n = if mark_le m n then m else n

-- the lowest of the marks, Neutral where there is none
abbrev pub lowest_mark : List Mark → Mark
lowest_mark [] = Neutral
lowest_mark (m ∷ ms) = lower_mark m (lowest_mark ms)

-- m is odd: it is Green
abbrev pub is_odd : Mark → Bool
is_odd (Red x) = false
is_odd (Green x) = true
is_odd Neutral = false

-- m is Green x
abbrev pub is_green : ℕ → Mark → Bool
is_green x (Red y) = false
is_green x (Green y) = y == x
is_green x Neutral = false

-- m is Neutral, or its number is below top
abbrev pub FitsBelow : ℕ → Mark → Type 0
FitsBelow top (Red x) = 2 * x < top
FitsBelow top (Green x) = 2 * x + 1 < top
FitsBelow top Neutral = Unit {0}

-- below an even top, the lowest of the numbers is odd exactly if the lowest mark is
abbrev pub PrioritiesAgree : Type 0
PrioritiesAgree =
    (top : ℕ) (m : Mark) (ms : List Mark)
    → top % 2 ≡ 0
    → ((n : Mark) → IsMember n (m ∷ ms) → FitsBelow top n)
    → (lowest (priority top m) (map (priority top) ms) % 2 ≡ 1) ↔ (is_odd (lowest_mark (m ∷ ms)) ≡ true)
