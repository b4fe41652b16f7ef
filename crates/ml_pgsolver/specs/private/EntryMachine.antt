-- The steps of the reader of solutions.
--
--   EntryState             == what the reader knows
--   start                  == behind the word, before the first sign
--   entry_step s t at      == what it knows behind the sign t, which stands at this byte, or how it refuses the text
--   entries_come end s ts  == what comes of the signs ts, where the text ends at this byte
--   IsEntryTold e out      == the refusal e is what came; want of memory says nothing
--   state_of r             == what the reader r knows
use Rattle.std.specs.Prelude.{ℕ, ◌≡◌, nat_le, List, [], ◌∷◌, ◌++◌, length, Option, Some, None, Result, Ok, Err, if◌then◌else◌}
use Rattle.ml_parity.specs.declared.players.Player.{Player}
use Rattle.ml_pgsolver.specs.Refusals.{most_vertices}
use Rattle.ml_pgsolver.specs.declared.entries.EntryReader.{EntryReader}
use Rattle.ml_pgsolver.specs.declared.entries.EntryRow.{EntryRow}
use Rattle.ml_pgsolver.specs.declared.entries.EntryStage.{EntryStage}
use Rattle.ml_pgsolver.specs.declared.entries.EntryStage.TheVariants as stage
use Rattle.ml_pgsolver.specs.declared.refusal.GameTextRefusal.{GameTextRefusal}
use Rattle.ml_pgsolver.specs.declared.refusal.GameTextRefusal.TheVariants as refusal
use Rattle.ml_pgsolver.specs.declared.scan.Numeral.{Numeral}
use Rattle.ml_pgsolver.specs.declared.scan.Sign.{Sign}
use Rattle.ml_pgsolver.specs.declared.scan.Sign.TheVariants as sign
use Rattle.ml_pgsolver.specs.private.Machine.{is_among}

pub record EntryState : Type 0 where
  pub stage : EntryStage
  pub rows : List EntryRow
  -- the vertices of these entries and of the one that is being read
  pub vertices : List ℕ

abbrev pub start : EntryState
start = record { stage = stage.Header; rows = []; vertices = [] }

abbrev pub EntryStep : Type 0
EntryStep = Result EntryState GameTextRefusal

abbrev pub with_vertex : EntryState → Option ℕ → ℕ → EntryStep
with_vertex s None at = Err (if nat_le most_vertices (length s.vertices) then refusal.TooMany at else refusal.TooLarge at)
with_vertex s (Some v) at =
    if is_among s.vertices v then Err (refusal.Repeated at)
    else if nat_le most_vertices (length s.vertices) then Err (refusal.TooMany at)
    else Ok (record s { stage = stage.Winner v; vertices = s.vertices ++ v ∷ [] })

-- where a number leads, if it is one of those that may stand in a text
abbrev pub with_value : (ℕ → EntryStage) → Option ℕ → ℕ → Result EntryStage GameTextRefusal
with_value next None at = Err (refusal.TooLarge at)
with_value next (Some n) at = Ok (next n)

abbrev pub with_winner : ℕ → Option Player → ℕ → Result EntryStage GameTextRefusal
with_winner v None at = Err (refusal.Syntax at)
with_winner v (Some winner) at = Ok (stage.Move v winner)

abbrev pub entry_stage_behind : EntryStage → Numeral → ℕ → Result EntryStage GameTextRefusal
entry_stage_behind stage.Header n at = with_value (λ _. stage.HeaderEnd) n.value at
entry_stage_behind (stage.Winner v) n at = with_winner v n.owner at
entry_stage_behind (stage.Move v winner) n at = with_value (stage.Close v winner) n.value at
entry_stage_behind other n at = Err (refusal.Syntax at)

abbrev pub led_to : EntryState → Result EntryStage GameTextRefusal → EntryStep
led_to s (Ok next) = Ok (record s { stage = next })
led_to s (Err e) = Err e

abbrev pub on_entry_number : EntryStage → EntryState → Numeral → ℕ → EntryStep
on_entry_number stage.Vertex s n at = with_vertex s n.value at
on_entry_number other s n at = led_to s (entry_stage_behind other n at)

-- the entry that was being read is one of those that were read
abbrev pub entered : EntryState → EntryRow → EntryState
entered s row = record s { stage = stage.Vertex; rows = s.rows ++ row ∷ [] }

abbrev pub on_entry_semicolon : EntryStage → EntryState → ℕ → EntryStep
on_entry_semicolon stage.Header s at = Ok (record s { stage = stage.Vertex })
on_entry_semicolon stage.HeaderEnd s at = Ok (record s { stage = stage.Vertex })
on_entry_semicolon (stage.Move v winner) s at = Ok (entered s (record { vertex = v; winner = winner; move_to = None }))
on_entry_semicolon (stage.Close v winner to) s at =
    Ok (entered s (record { vertex = v; winner = winner; move_to = Some to }))
on_entry_semicolon other s at = Err (refusal.Syntax at)

abbrev pub entry_step : EntryState → Sign → ℕ → EntryStep
entry_step s (sign.Number n) at = on_entry_number s.stage s n at
entry_step s sign.Semicolon at = on_entry_semicolon s.stage s at
entry_step s t at = Err (refusal.Syntax at)

abbrev pub entries_end : EntryStage → EntryState → ℕ → EntryStep
entries_end stage.Vertex s end = Ok s
entries_end other s end = Err (refusal.Syntax end)

abbrev pub entry_behind : EntryStep → (EntryState → EntryStep) → EntryStep
entry_behind (Ok s) go = go s
entry_behind (Err e) go = Err e

unfoldable pub entries_come : ℕ → EntryState → List (Sign × ℕ) → EntryStep
entries_come end s [] = entries_end s.stage s end
entries_come end s (t ∷ ts) = entry_behind (entry_step s t.0 t.1) (λ next. entries_come end next ts)

abbrev pub IsEntryTold : GameTextRefusal → EntryStep → Type 0
IsEntryTold refusal.NoMemory out = Unit {0}
IsEntryTold e out = out ≡ Err e

abbrev pub state_of : EntryReader → EntryState
state_of r = record { stage = r.stage; rows = r.rows.items; vertices = r.vertices.keys }
