-- Numbers that look random: a linear congruential generator modulo 2^64, with the multiplier of Knuth's MMIX.
--
--   next_state s  == the state behind the state s
--   drawn bound s == the number below the bound that is drawn in the state s: from the upper half of the next state
use Rattle.std.specs.Prelude.{ℕ, ◌+◌, ◌*◌, ◌/◌, ◌%◌, ◌^◌}

abbrev pub next_state : ℕ → ℕ
next_state s = (s * 6364136223846793005 + 1442695040888963407) % 2 ^ 64

abbrev pub drawn : ℕ → ℕ → ℕ
drawn bound s = (next_state s / 2 ^ 32) % bound
