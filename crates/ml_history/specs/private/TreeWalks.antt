-- What walks over a forest give.
--
--   behind path a        == the item a, whose stack goes on behind the path
use Rattle.std.specs.Prelude.{ℕ, List, ◌++◌}
use Rattle.ml_trace.specs.Stack.{Item}

-- the item, whose stack goes on behind the path
abbrev pub behind : List ℕ → Item ℕ → Item ℕ
behind path a = record { state = a.state; stack = path ++ a.stack }
