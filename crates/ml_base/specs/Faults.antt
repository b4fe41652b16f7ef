-- Counts of faults.
--
-- A source and a sink count their faults in 64 bits. The count never falls, and at its last value it stands still,
-- so a fault at that value can't be seen in the count. Hence the one notion on which every clause about faults
-- rests: the count rose. It is greater after the call than before it, or it stands at its last value.
--
--   last_count         == the last value of a count, 18,446,744,073,709,551,615
--   count_on n         == the count behind n: n + 1, and at the last value n itself
--   Rose before after  == the count rose in a call, before which it was `before` and after which it is `after`
use Rattle.std.specs.Prelude.{◌≡◌, ℕ, ◌+◌, ◌-◌, ◌^◌, ◌<◌, ◌⊎◌, min}

-- the last value of a count, where it stands still
abbrev pub last_count : ℕ
last_count = 2 ^ 64 - 1

-- one more, up to the last value
abbrev pub count_on : ℕ → ℕ
count_on n = min (n + 1) last_count

-- the count is greater than it was, or stands at its last value
abbrev pub Rose : ℕ → ℕ → Type 0
Rose before after = (before < after) ⊎ ((before ≡ last_count) × (after ≡ last_count))
