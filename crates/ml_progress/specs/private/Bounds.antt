-- The lists of a player's measures, as lists within bounds.
--
--   bounds_of g p          == for each bad priority how many vertices have it
--   cut_length g p v       == how many bad priorities are at most the priority of v
--   level_of g p m v       == the level of what the measure gives v
--   StepsAlong g p m v w   == a move from v to w progresses, in these numbers
use Rattle.std.specs.Prelude.{ℕ, nat_le, List, map, count_by}
use Rattle.ml_parity.specs.declared.players.Player.{Player}
use Rattle.ml_parity.specs.Game.{ParityGame, priority_of}
use Rattle.ml_progress.specs.Measure.{Measure, is_bad, bad_priorities, how_many, measure_at}
use Rattle.ml_progress.specs.private.Codes.{level, Steps}

-- for each bad priority how many vertices have it
abbrev pub bounds_of : ParityGame → Player → List ℕ
bounds_of g p = map (how_many g) (bad_priorities g p)

-- how many bad priorities are at most the priority of v
abbrev pub cut_length : ParityGame → Player → ℕ → ℕ
cut_length g p v = count_by (λ k. nat_le k (priority_of g v)) (bad_priorities g p)

-- the level of what the measure gives v
abbrev pub level_of : ParityGame → Player → Measure → ℕ → ℕ
level_of g p m v = level (bounds_of g p) (measure_at m v)

-- a move from v to w progresses
abbrev pub StepsAlong : ParityGame → Player → Measure → ℕ → ℕ → Type 0
StepsAlong g p m v w =
    Steps (cut_length g p v) (bounds_of g p) (is_bad p (priority_of g v)) (measure_at m v) (measure_at m w)
