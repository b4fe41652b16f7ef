-- The steps of the reader of game texts.
--
-- The reader knows where in the grammar it is, and the rows of the vertices that it has read. At each sign it goes on, or
-- refuses the text.
--
--   State                   == what the reader knows
--   start                   == before the first sign
--   step s t at             == what it knows behind the sign t, which stands at this byte, or how it refuses the text
--   outcome_from end s ts   == what comes of the signs ts, where the text ends at this byte
--   IsTold e out            == the refusal e is what came; want of memory says nothing
use Rattle.std.specs.Prelude.{ℕ, ◌+◌, ◌≡◌, Bool, nat_eq, nat_le, List, [], ◌∷◌, ◌++◌, length, Option, Some, None, Result, Ok, Err, if◌then◌else◌}
use Rattle.std.specs.List.{list_any}
use Rattle.ml_parity.specs.declared.players.Player.{Player}
use Rattle.ml_pgsolver.specs.GameText.{Row}
use Rattle.ml_pgsolver.specs.Refusals.{most_vertices, most_successors}
use Rattle.ml_pgsolver.specs.declared.reader.Head.{Head}
use Rattle.ml_pgsolver.specs.declared.reader.Stage.{Stage}
use Rattle.ml_pgsolver.specs.declared.reader.Stage.TheVariants as stage
use Rattle.ml_pgsolver.specs.declared.refusal.GameTextRefusal.{GameTextRefusal}
use Rattle.ml_pgsolver.specs.declared.refusal.GameTextRefusal.TheVariants as refusal
use Rattle.ml_pgsolver.specs.declared.scan.Numeral.{Numeral}
use Rattle.ml_pgsolver.specs.declared.scan.Sign.{Sign}
use Rattle.ml_pgsolver.specs.declared.scan.Sign.TheVariants as sign

pub record State : Type 0 where
  pub stage : Stage
  -- the vertices that were read, and the ids of these and of the one that is being read
  pub rows : List Row
  pub ids : List ℕ
  -- the successors of the one that is being read, and how many there are of all
  pub successors : List ℕ
  pub count : ℕ

abbrev pub start : State
start = record { stage = stage.Start; rows = []; ids = []; successors = []; count = 0 }

abbrev pub Step : Type 0
Step = Result State GameTextRefusal

abbrev pub is_among : List ℕ → ℕ → Bool
is_among ids id = list_any (nat_eq id) ids

abbrev pub at_stage : State → Stage → State
at_stage s next = record s { stage = next }

abbrev pub with_id : State → Option ℕ → ℕ → Step
with_id s None at = Err (if nat_le most_vertices (length s.ids) then refusal.TooMany at else refusal.TooLarge at)
with_id s (Some id) at =
    if is_among s.ids id then Err (refusal.Repeated at)
    else if nat_le most_vertices (length s.ids) then Err (refusal.TooMany at)
    else Ok (record s { stage = stage.Priority id; ids = s.ids ++ id ∷ [] })

abbrev pub with_successor : State → Head → Option ℕ → ℕ → Step
with_successor s head None at = Err (if nat_le most_successors s.count then refusal.TooMany at else refusal.TooLarge at)
with_successor s head (Some id) at =
    if nat_le most_successors s.count then Err (refusal.TooMany at)
    else Ok (record s { stage = stage.Behind head; successors = s.successors ++ id ∷ []; count = s.count + 1 })

-- where a number leads, if it is one of those that may stand in a text
abbrev pub with_number : (ℕ → Stage) → Option ℕ → ℕ → Result Stage GameTextRefusal
with_number next None at = Err (refusal.TooLarge at)
with_number next (Some n) at = Ok (next n)

abbrev pub with_owner : ℕ → ℕ → Option Player → ℕ → Result Stage GameTextRefusal
with_owner id priority None at = Err (refusal.Syntax at)
with_owner id priority (Some owner) at = Ok (stage.First (record { id = id; priority = priority; owner = owner }))

-- the stage behind a number that only the stage keeps
abbrev pub stage_behind : Stage → Numeral → ℕ → Result Stage GameTextRefusal
stage_behind stage.HeaderNumber n at = with_number (λ _. stage.HeaderEnd) n.value at
stage_behind (stage.Priority id) n at = with_number (stage.Owner id) n.value at
stage_behind (stage.Owner id priority) n at = with_owner id priority n.owner at
stage_behind other n at = Err (refusal.Syntax at)

abbrev pub led : State → Result Stage GameTextRefusal → Step
led s (Ok next) = Ok (at_stage s next)
led s (Err e) = Err e

abbrev pub on_number : Stage → State → Numeral → ℕ → Step
on_number stage.Start s n at = with_id s n.value at
on_number stage.FirstVertex s n at = with_id s n.value at
on_number stage.NextVertex s n at = with_id s n.value at
on_number (stage.First head) s n at = with_successor s head n.value at
on_number (stage.Further head) s n at = with_successor s head n.value at
on_number other s n at = led s (stage_behind other n at)

-- the vertex that was being read is one of those that were read
abbrev pub closed : State → Head → State
closed s head = record {
  stage = stage.NextVertex;
  rows = s.rows
      ++ record { id = head.id; priority = head.priority; owner = head.owner; successors = s.successors } ∷ [];
  ids = s.ids;
  successors = [];
  count = s.count;
}

abbrev pub on_semicolon : Stage → State → ℕ → Step
on_semicolon stage.HeaderEnd s at = Ok (at_stage s stage.FirstVertex)
on_semicolon (stage.Behind head) s at = Ok (closed s head)
on_semicolon (stage.Close head) s at = Ok (closed s head)
on_semicolon other s at = Err (refusal.Syntax at)

-- the stage behind a sign at which nothing is kept
abbrev pub next_stage : Stage → Sign → Option Stage
next_stage stage.Start sign.Parity = Some stage.HeaderNumber
next_stage (stage.Behind head) sign.Comma = Some (stage.Further head)
next_stage (stage.Behind head) sign.Name = Some (stage.Close head)
next_stage other t = None

abbrev pub moved : State → Option Stage → ℕ → Step
moved s None at = Err (refusal.Syntax at)
moved s (Some next) at = Ok (at_stage s next)

abbrev pub step : State → Sign → ℕ → Step
step s (sign.Number n) at = on_number s.stage s n at
step s sign.Semicolon at = on_semicolon s.stage s at
step s sign.Name at = moved s (next_stage s.stage sign.Name) at
step s sign.Parity at = moved s (next_stage s.stage sign.Parity) at
step s sign.Comma at = moved s (next_stage s.stage sign.Comma) at
step s sign.Stray at = Err (refusal.Syntax at)

abbrev pub at_end : Stage → State → ℕ → Step
at_end stage.NextVertex s end = Ok s
at_end other s end = Err (refusal.Syntax end)

abbrev pub behind : Step → (State → Step) → Step
behind (Ok s) go = go s
behind (Err e) go = Err e

unfoldable pub outcome_from : ℕ → State → List (Sign × ℕ) → Step
outcome_from end s [] = at_end s.stage s end
outcome_from end s (t ∷ ts) = behind (step s t.0 t.1) (λ next. outcome_from end next ts)

abbrev pub IsTold : GameTextRefusal → Step → Type 0
IsTold refusal.NoMemory out = Unit {0}
IsTold e out = out ≡ Err e
