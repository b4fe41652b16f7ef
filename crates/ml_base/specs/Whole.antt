-- What a whole read and a whole write leave behind where they end early.
--
-- What was given and what was taken is said of the bytes that a source or sink tells, in std's words: the bytes left
-- before were those given and then those left after (`prepend_known`), and the bytes taken after are those taken
-- before and then those appended (`append_known`). Of a source or sink that tells nothing they say nothing.
--
--   Gives old new P               == the bytes that were given meet P
--   AppendsPart old new bs        == a prefix of bs, and not all of it, was appended
use Rattle.std.specs.Prelude.{◌≡◌, ℕ, ◌<◌, List, length, take, Option}
use Rattle.std.specs.Io.KnownBytes.{append_known, prepend_known}

-- some bytes that meet P were given
abbrev pub Gives : Option (List ℕ) → Option (List ℕ) → (List ℕ → Type 0) → Type 0
Gives old new P = (given : List ℕ) × (old ≡ prepend_known given new) × P given

-- a prefix that is shorter than the whole was appended
abbrev pub AppendsPart : Option (List ℕ) → Option (List ℕ) → List ℕ → Type 0
AppendsPart old new bytes = (n : ℕ) × (n < length bytes) × (new ≡ append_known old (take n bytes))
