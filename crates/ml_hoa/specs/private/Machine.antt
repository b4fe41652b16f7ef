-- The steps of the reader of automaton texts.
--
-- The reader knows where in the grammar it is, and what it has read: the headers, the edges, and of the label that is being
-- read what stands before the next operand. A number that is out of range is noted, and 0 stands in its place.
--
--   LevelState          == what was read between two parentheses: the operands of `|` before, those of `&`, and how many `!`
--   State               == what the reader knows
--   start               == before the first token
--   Turn                == a token leads on; it leads on beyond a limit; it leads nowhere
--   turn s t            == what the token t does to s
--   Outcome             == the tokens are read; or one is refused, at this byte
--   outcome s ps        == what comes of the tokens ps
--   IsOutcome e out     == the refusal e is what comes; want of memory says nothing
--   IsTold e at turn    == the refusal e is what a token at this byte does
use Rattle.std.specs.Prelude.{ℕ, zero, suc, ◌+◌, ◌-◌, ◌≡◌, ◌==◌, Bool, true, false, nat_eq, nat_le, min, List, [], ◌∷◌, ◌++◌, length, Option, Some, None, if◌then◌else◌, codes, bytes_eq}
use Rattle.std.specs.List.{list_any}
use Rattle.ml_lines.specs.Reading.{value}
use Rattle.ml_hoa.specs.declared.token.Mark.TheVariants as mark
use Rattle.ml_hoa.specs.declared.reader.Acceptance.{Acceptance}
use Rattle.ml_hoa.specs.declared.reader.Acceptance.TheVariants as acceptance
use Rattle.ml_hoa.specs.declared.reader.Stage.{Stage}
use Rattle.ml_hoa.specs.declared.reader.Stage.TheVariants as stage
use Rattle.ml_hoa.specs.declared.reader.Stood.{Stood}
use Rattle.ml_hoa.specs.declared.refusal.HoaRefusal.{HoaRefusal}
use Rattle.ml_hoa.specs.declared.refusal.HoaRefusal.TheVariants as refusal
use Rattle.ml_hoa.specs.Automaton as automaton
use Rattle.ml_hoa.specs.Automaton.{Guard, Edge, most_states, most_props, most_edges, most_operators}
use Rattle.ml_hoa.specs.Tokens.{Token, Number, Text, Plain, Placed}
use Rattle.ml_hoa.specs.AutomatonText.{joined, accepts, sets_of, most_open}

pub record LevelState : Type 0 where
  pub ors : Option Guard
  pub ands : Option Guard
  pub nots : ℕ

abbrev pub no_level : LevelState
no_level = record { ors = None; ands = None; nots = 0 }

abbrev pub negated : ℕ → Guard → Guard
negated zero g = g
negated (suc n) g = negated n (automaton.Not g)

abbrev pub with_literal : LevelState → Guard → LevelState
with_literal l g = record l { ands = Some (joined automaton.And l.ands (negated l.nots g)); nots = 0 }

-- where no operand was read there is none to be asked for
abbrev pub or_false : Option Guard → Guard
or_false None = automaton.Const false
or_false (Some g) = g

abbrev pub level_guard : LevelState → Guard
level_guard l = joined automaton.Or l.ors (or_false l.ands)

abbrev pub with_or : LevelState → LevelState
with_or l = record { ors = Some (level_guard l); ands = None; nots = 0 }

abbrev pub with_not : LevelState → LevelState
with_not l = record l { nots = suc l.nots }

pub record State : Type 0 where
  pub stage : Stage
  -- which of the headers stood, and what they say
  pub stood : Stood
  pub states : ℕ
  pub first : ℕ
  pub first_at : ℕ
  pub prop_count : ℕ
  pub props : List (List ℕ)
  pub acceptance : Acceptance
  -- of the label that is being read: the innermost parentheses, those around them, and how many operators there were
  pub level : LevelState
  pub outer : List LevelState
  pub operators : ℕ
  -- the states that stood before, the one that is being read, and whether it is in the set 0
  pub seen : List ℕ
  pub from : ℕ
  pub in_set : Bool
  pub edges : List Edge
  -- the first number that is out of range
  pub fault : Option ℕ

abbrev pub start : State
start = record {
  stage = stage.Start;
  stood = record { states = false; start = false; props = false; acceptance = false };
  states = 0;
  first = 0;
  first_at = 0;
  prop_count = 0;
  props = [];
  acceptance = acceptance.Every;
  level = no_level;
  outer = [];
  operators = 0;
  seen = [];
  from = 0;
  in_set = false;
  edges = [];
  fault = None;
}

pub data Turn : Type 0 where
  Next Past : State → Turn
  Stuck : Turn

abbrev pub limited : Bool → State → Turn
limited true s = Past s
limited false s = Next s

abbrev pub at_stage : State → Stage → State
at_stage s next = record s { stage = next }

-- ---- numbers out of range

abbrev pub first_of : Option ℕ → ℕ → Option ℕ
first_of None at = Some at
first_of (Some before) at = Some before

abbrev pub noted : State → ℕ → State
noted s at = record s { fault = first_of s.fault at }

abbrev pub checked : ℕ → ℕ → State → ℕ → State
checked bound n s at = record s { fault = if nat_le bound n then first_of s.fault at else s.fault }

abbrev pub number_below : ℕ → ℕ → ℕ
number_below bound n = if nat_le bound n then 0 else n

-- ---- headers

abbrev pub strings : ℕ → Stage
strings n = if n == 0 then stage.Headers else stage.Strings (n - 1)

abbrev pub wanted : Bool → State → Stage → Turn
wanted true s next = Stuck
wanted false s next = Next (at_stage s next)

abbrev pub into_body : State → Bool → Bool → Bool → Bool → Turn
into_body s true true true true = Next (at_stage (checked s.states s.first s s.first_at) stage.Body)
into_body s a b c d = Stuck

abbrev pub on_header : State → Token → Turn
on_header s (Plain mark.States) = wanted s.stood.states s stage.StatesNumber
on_header s (Plain mark.Start) = wanted s.stood.start s stage.StartNumber
on_header s (Plain mark.Props) = wanted s.stood.props s stage.PropsNumber
on_header s (Plain mark.Acceptance) = wanted s.stood.acceptance s stage.AcceptanceNumber
on_header s (Plain mark.Ignored) = Next (at_stage s stage.Ignored)
on_header s (Plain mark.Body) = into_body s s.stood.states s.stood.start s.stood.props s.stood.acceptance
on_header s t = Stuck

-- behind a name that is ignored
abbrev pub on_ignored : State → Token → Turn
on_ignored s (Plain mark.States) = on_header s (Plain mark.States)
on_ignored s (Plain mark.Start) = on_header s (Plain mark.Start)
on_ignored s (Plain mark.Props) = on_header s (Plain mark.Props)
on_ignored s (Plain mark.Acceptance) = on_header s (Plain mark.Acceptance)
on_ignored s (Plain mark.Body) = on_header s (Plain mark.Body)
on_ignored s (Plain mark.Hoa) = Stuck
on_ignored s (Plain mark.State) = Stuck
on_ignored s (Plain mark.Foreign) = Stuck
on_ignored s (Plain mark.Unclosed) = Stuck
on_ignored s t = Next (at_stage s stage.Ignored)

abbrev pub with_states : State → ℕ → Turn
with_states s n =
    limited (nat_le (most_states + 1) n)
    (record s { stage = stage.Headers; stood = record s.stood { states = true }; states = n })

abbrev pub with_start : State → ℕ → ℕ → Turn
with_start s n at =
    Next (record s {
      stage = stage.Headers;
      stood = record s.stood { start = true };
      first = min n most_states;
      first_at = at;
    })

abbrev pub with_props : State → ℕ → Turn
with_props s n =
    limited (nat_le (most_props + 1) n)
    (record s { stage = strings n; stood = record s.stood { props = true }; prop_count = n; props = [] })

abbrev pub with_string : State → ℕ → List ℕ → Turn
with_string s n bytes = Next (record s { stage = strings n; props = s.props ++ bytes ∷ [] })

abbrev pub with_acceptance : State → Acceptance → Turn
with_acceptance s a =
    Next (record s { stage = stage.Headers; stood = record s.stood { acceptance = true }; acceptance = a })

abbrev pub on_acceptance : State → List ℕ → Turn
on_acceptance s digits =
    if bytes_eq digits (codes "0") then Next (at_stage s stage.EveryTruth)
    else if bytes_eq digits (codes "1") then Next (at_stage s stage.MarkedInf)
    else Stuck

abbrev pub on_set : State → List ℕ → Turn
on_set s digits = if bytes_eq digits (codes "0") then Next (at_stage s stage.MarkedClose) else Stuck

-- ---- labels

abbrev pub with_operand : State → Guard → State
with_operand s g = record s { stage = stage.Behind; level = with_literal s.level g }

abbrev pub with_prop : State → ℕ → ℕ → State
with_prop s n at =
    with_operand (checked s.prop_count n s at) (automaton.Ap (number_below s.prop_count n))

abbrev pub with_operator : State → LevelState → Turn
with_operator s level =
    limited (nat_le most_operators s.operators)
    (record s { stage = stage.Operand; level = level; operators = s.operators + 1 })

abbrev pub opened : State → Turn
opened s =
    limited (nat_le most_open (length s.outer))
    (record s { stage = stage.Operand; level = no_level; outer = s.level ∷ s.outer })

abbrev pub closed : State → List LevelState → Turn
closed s [] = Stuck
closed s (l ∷ outer) =
    Next (record s { stage = stage.Behind; level = with_literal l (level_guard s.level); outer = outer })

abbrev pub label_ended : State → List LevelState → Turn
label_ended s [] = Next (at_stage s stage.Target)
label_ended s (l ∷ outer) = Stuck

abbrev pub on_operand : State → Token → Turn
on_operand s (Number digits at) = Next (with_prop s (value digits) at)
on_operand s (Plain mark.Truth) = Next (with_operand s (automaton.Const true))
on_operand s (Plain mark.Falsity) = Next (with_operand s (automaton.Const false))
on_operand s (Plain mark.Not) = with_operator s (with_not s.level)
on_operand s (Plain mark.LeftParen) = opened s
on_operand s t = Stuck

abbrev pub behind_operand : State → Token → Turn
behind_operand s (Plain mark.And) = with_operator s s.level
behind_operand s (Plain mark.Or) = with_operator s (with_or s.level)
behind_operand s (Plain mark.RightParen) = closed s s.outer
behind_operand s (Plain mark.RightBracket) = label_ended s s.outer
behind_operand s t = Stuck

-- ---- states and edges

abbrev pub with_id : State → ℕ → ℕ → State
with_id s n at =
    if nat_le s.states n then record (noted s at) { stage = stage.BehindNumber; from = 0; in_set = false }
    else if list_any (nat_eq n) s.seen then record (noted s at) { stage = stage.BehindNumber; from = n; in_set = false }
    else record s { stage = stage.BehindNumber; seen = s.seen ++ n ∷ []; from = n; in_set = false }

abbrev pub with_state_set : State → ℕ → ℕ → State
with_state_set s n at =
    record (checked (sets_of s.acceptance) n s at) { in_set = if n == 0 then true else s.in_set }

abbrev pub edge_to : State → ℕ → Edge
edge_to s n = record {
  from = s.from;
  guard = level_guard s.level;
  to = number_below s.states n;
  accepting = accepts s.acceptance s.in_set;
}

abbrev pub with_target : State → ℕ → ℕ → State
with_target s n at =
    record (checked s.states n s at) { stage = stage.BehindTarget; level = no_level; edges = s.edges ++ edge_to s n ∷ [] }

-- the last edge accepts
abbrev pub last_accepting : List Edge → List Edge
last_accepting [] = []
last_accepting (e ∷ []) = record e { accepting = true } ∷ []
last_accepting (e ∷ f ∷ es) = e ∷ last_accepting (f ∷ es)

abbrev pub with_edge_set : State → ℕ → ℕ → State
with_edge_set s n at =
    record (checked (sets_of s.acceptance) n s at) { edges = if n == 0 then last_accepting s.edges else s.edges }

abbrev pub edge_begun : State → Turn
edge_begun s =
    limited (nat_le most_edges (length s.edges))
    (record s { stage = stage.Operand; level = no_level; outer = []; operators = 0 })

abbrev pub on_body : State → Token → Turn
on_body s (Plain mark.State) = Next (at_stage s stage.StateNumber)
on_body s (Plain mark.End) = Next (at_stage s stage.Done)
on_body s t = Stuck

abbrev pub on_edges : State → Token → Turn
on_edges s (Plain mark.LeftBracket) = edge_begun s
on_edges s t = on_body s t

abbrev pub behind_name : State → Token → Turn
behind_name s (Plain mark.LeftBrace) = Next (at_stage s stage.StateSets)
behind_name s t = on_edges s t

abbrev pub behind_number : State → Token → Turn
behind_number s (Text bytes) = Next (at_stage s stage.BehindName)
behind_number s t = behind_name s t

abbrev pub behind_target : State → Token → Turn
behind_target s (Plain mark.LeftBrace) = Next (at_stage s stage.EdgeSets)
behind_target s t = on_edges s t

-- ---- the others

abbrev pub on_start : State → Token → Turn
on_start s (Plain mark.Hoa) = Next (at_stage s stage.Version)
on_start s t = Stuck

abbrev pub on_version : State → Token → Turn
on_version s (Plain mark.Version) = Next (at_stage s stage.Headers)
on_version s t = Stuck

abbrev pub on_states_number : State → Token → Turn
on_states_number s (Number digits at) = with_states s (value digits)
on_states_number s t = Stuck

abbrev pub on_start_number : State → Token → Turn
on_start_number s (Number digits at) = with_start s (value digits) at
on_start_number s t = Stuck

abbrev pub on_props_number : State → Token → Turn
on_props_number s (Number digits at) = with_props s (value digits)
on_props_number s t = Stuck

abbrev pub on_string : State → ℕ → Token → Turn
on_string s n (Text bytes) = with_string s n bytes
on_string s n t = Stuck

abbrev pub on_acceptance_number : State → Token → Turn
on_acceptance_number s (Number digits at) = on_acceptance s digits
on_acceptance_number s t = Stuck

abbrev pub on_every : State → Token → Turn
on_every s (Plain mark.Truth) = with_acceptance s acceptance.Every
on_every s t = Stuck

abbrev pub on_inf : State → Token → Turn
on_inf s (Plain mark.Inf) = Next (at_stage s stage.MarkedOpen)
on_inf s t = Stuck

abbrev pub on_open : State → Token → Turn
on_open s (Plain mark.LeftParen) = Next (at_stage s stage.MarkedSet)
on_open s t = Stuck

abbrev pub on_set_number : State → Token → Turn
on_set_number s (Number digits at) = on_set s digits
on_set_number s t = Stuck

abbrev pub on_close : State → Token → Turn
on_close s (Plain mark.RightParen) = with_acceptance s acceptance.Marked
on_close s t = Stuck

abbrev pub on_state_number : State → Token → Turn
on_state_number s (Number digits at) = Next (with_id s (value digits) at)
on_state_number s t = Stuck

abbrev pub in_state_sets : State → Token → Turn
in_state_sets s (Number digits at) = Next (with_state_set s (value digits) at)
in_state_sets s (Plain mark.RightBrace) = Next (at_stage s stage.Edges)
in_state_sets s t = Stuck

abbrev pub on_target : State → Token → Turn
on_target s (Number digits at) = Next (with_target s (value digits) at)
on_target s t = Stuck

abbrev pub in_edge_sets : State → Token → Turn
in_edge_sets s (Number digits at) = Next (with_edge_set s (value digits) at)
in_edge_sets s (Plain mark.RightBrace) = Next (at_stage s stage.Edges)
in_edge_sets s t = Stuck

abbrev pub turn_at : Stage → State → Token → Turn
turn_at stage.Start s t = on_start s t
turn_at stage.Version s t = on_version s t
turn_at stage.Headers s t = on_header s t
turn_at stage.StatesNumber s t = on_states_number s t
turn_at stage.StartNumber s t = on_start_number s t
turn_at stage.PropsNumber s t = on_props_number s t
turn_at (stage.Strings n) s t = on_string s n t
turn_at stage.AcceptanceNumber s t = on_acceptance_number s t
turn_at stage.EveryTruth s t = on_every s t
turn_at stage.MarkedInf s t = on_inf s t
turn_at stage.MarkedOpen s t = on_open s t
turn_at stage.MarkedSet s t = on_set_number s t
turn_at stage.MarkedClose s t = on_close s t
turn_at stage.Ignored s t = on_ignored s t
turn_at stage.Body s t = on_body s t
turn_at stage.StateNumber s t = on_state_number s t
turn_at stage.BehindNumber s t = behind_number s t
turn_at stage.BehindName s t = behind_name s t
turn_at stage.StateSets s t = in_state_sets s t
turn_at stage.Edges s t = on_edges s t
turn_at stage.Operand s t = on_operand s t
turn_at stage.Behind s t = behind_operand s t
turn_at stage.Target s t = on_target s t
turn_at stage.BehindTarget s t = behind_target s t
turn_at stage.EdgeSets s t = in_edge_sets s t
turn_at stage.Done s t = Stuck

abbrev pub turn : State → Token → Turn
turn s t = turn_at s.stage s t

pub data Outcome : Type 0 where
  Read : State → Outcome
  Refused : HoaRefusal → Outcome

abbrev pub went : Turn → ℕ → (State → Outcome) → Outcome
went (Next s) at go = go s
went (Past s) at go = Refused (refusal.TooMany at)
went Stuck at go = Refused (refusal.Syntax at)

unfoldable pub outcome : State → List Placed → Outcome
outcome s [] = Read s
outcome s (p ∷ ps) = went (turn s p.token) p.at (λ next. outcome next ps)

abbrev pub IsPast : Turn → Type 0
IsPast (Past s) = Unit {0}
IsPast other = ⊥

abbrev pub IsTold : HoaRefusal → ℕ → Turn → Type 0
IsTold refusal.NoMemory at t = Unit {0}
IsTold (refusal.Syntax k) at t = (k ≡ at) × (t ≡ Stuck)
IsTold (refusal.TooMany k) at t = (k ≡ at) × IsPast t
IsTold (refusal.Range k) at t = ⊥

abbrev pub IsOutcome : HoaRefusal → Outcome → Type 0
IsOutcome refusal.NoMemory out = Unit {0}
IsOutcome e out = out ≡ Refused e

-- what the token at this byte, if there is one, does to s: it leads to next, or is refused
abbrev pub IsTaken : State → State → Option Token → ℕ → Type 0
IsTaken s next None at = s ≡ next
IsTaken s next (Some t) at = turn s t ≡ Next next

abbrev pub IsStopped : HoaRefusal → State → Option Token → ℕ → Type 0
IsStopped e s None at = ⊥
IsStopped e s (Some t) at = IsTold e at (turn s t)
