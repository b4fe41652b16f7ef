-- The source and the sink in memory, as values.
--
-- Both are for tests and worked rows, so each thing that a call does can be computed from what it was made of: bytes
-- come and go in pieces of a chosen size, and chosen calls fail. Calls are numbered from 1, in a count of 64 bits
-- that stands still at its last value; no call past that value fails by its number.
--
--   Feed              == a source: the bytes left, the size of a piece, the calls that fail, the calls and the faults
--                        so far
--   Store             == a sink: the bytes taken, the room for bytes, and the rest as in a feed
--   is_due fails n    == after n calls, the number of the next one stands in `fails`
--   refuses store     == the next call of the sink fails: by its number, or since its room is taken
--   given_count feed n    == how many bytes the next call of the source gives into a buffer of n bytes
--   taken_count store n   == how many bytes the next call of the sink takes of a piece of n bytes
--   after_read feed n     == the source after that call
--   after_write store bs  == the sink after a call with the bytes bs
use Rattle.std.specs.Prelude.{ℕ, ◌+◌, ◌-◌, Bool, ◌==◌, ◌&&◌, ◌||◌, if◌then◌else◌, nat_lt, nat_le, min, List, ◌++◌, length, take, drop}
use Rattle.std.specs.List.{list_any}
use Rattle.ml_base.specs.Faults.{last_count, count_on}

-- a source in memory
pub record Feed : Type 0 where
  pub left : List ℕ
  pub piece : ℕ
  pub fails : List ℕ
  pub calls : ℕ
  pub faults : ℕ

-- a sink in memory
pub record Store : Type 0 where
  pub taken : List ℕ
  pub room : ℕ
  pub piece : ℕ
  pub fails : List ℕ
  pub calls : ℕ
  pub faults : ℕ

-- after so many calls, the number of the next one stands in the list
abbrev pub is_due : List ℕ → ℕ → Bool
is_due fails calls = nat_lt calls last_count && list_any (λ n. n == calls + 1) fails

-- the sink's next call fails: by its number, or since its room is taken
abbrev pub refuses : Store → Bool
refuses store = is_due store.fails store.calls || nat_le store.room (length store.taken)

-- as many bytes as the piece, the buffer and what is left allow
abbrev pub given_count : Feed → ℕ → ℕ
given_count feed n = min feed.piece (min n (length feed.left))

-- as many bytes as the piece, what is offered and the room allow
abbrev pub taken_count : Store → ℕ → ℕ
taken_count store n = min store.piece (min n (store.room - length store.taken))

-- a call that fails gives nothing and is counted as a fault; any other gives what it can
abbrev pub after_read : Feed → ℕ → Feed
after_read feed n = record {
  left = if is_due feed.fails feed.calls then feed.left else drop (given_count feed n) feed.left;
  piece = feed.piece;
  fails = feed.fails;
  calls = count_on feed.calls;
  faults = if is_due feed.fails feed.calls then count_on feed.faults else feed.faults;
}

-- a call that fails takes nothing and is counted as a fault; any other takes what it can
abbrev pub after_write : Store → List ℕ → Store
after_write store bs = record {
  taken = if refuses store then store.taken else store.taken ++ take (taken_count store (length bs)) bs;
  room = store.room;
  piece = store.piece;
  fails = store.fails;
  calls = count_on store.calls;
  faults = if refuses store then count_on store.faults else store.faults;
}
