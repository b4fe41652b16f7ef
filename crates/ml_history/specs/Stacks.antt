-- States with their stacks, as `stacks` lists them.
--
--   stacked a == the pair a of a state and its stack, as an item
use Rattle.std.specs.Prelude.{ℕ, Vec}
use Rattle.std.specs.declared.alloc.Global.{Global}
use Rattle.ml_trace.specs.Stack.{Item}

-- the pair of a state and its stack, as an item
abbrev pub stacked : ℕ × Vec ℕ Global → Item ℕ
stacked a = record { state = a.0; stack = a.1.items }
