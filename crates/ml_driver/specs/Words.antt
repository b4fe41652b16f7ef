-- The words of the command line.
--
-- The words are taken apart by `clap`, as the words of one simple command: three positionals, of which the first one has
-- to be there, and one option with a value, which may stand anywhere. What `clap` makes of words is its own definition;
-- what is made of the parts stands here, in a table of commands. Words that `clap` refuses, and parts that are no row of
-- the table, are no command.
--
--   cli                == the command that `clap` is told
--   faults_of words    == the faults that `clap` finds in the words
--   rows_in words      == what it finds in words without a fault
--   is_digit b         == the byte b is a decimal digit
--   value_from v w     == the value of the digits w behind a number v that was read; none past the greatest limit, or
--                         where a byte is no digit
--   number_named w     == the number from 0 to 200,000 that the word w is, in one to six digits
--   limit_named w      == the limit that the word w tells: such a number from 1 on; without a word 50,000
--   count_named f w    == the number of the range of the family f that the word w is
--   Shape              == what stands behind the first word of a command, with the command that comes of it
--   table              == the commands: their first words, with their shapes
--   shape_in rows w    == the shape of the first row whose word is w
--   command_by x p q r == the command of the shape x with the second word p, the third word q and the limit r, if these are as
--                         the shape says
--   Parts              == the words as they are taken apart: three positionals and the option's value
--   row p              == the command whose row the parts p are
--   if_faultless ks c  == c, where there is no fault
--   parts_in rows      == the parts that `clap` found
--   command_of words   == the command that the words are, if they are one
use Rattle.std.specs.Prelude.{ℕ, ◌+◌, ◌-◌, ◌*◌, ◌&&◌, Bool, true, List, [], ◌∷◌, length, Option, Some, None, if◌then◌else◌, nat_le, option_and_then, option_map, codes}
use Rattle.std.specs.Str.{bytes_eq}
use Rattle.clap.specs.Words.{App, Kinds, Row, first_of, fault_of, matches_of, new_app, new_rule, with_rule}
use Rattle.ml_ask_text.specs.declared.told.Form.{Form}
use Rattle.ml_ask_text.specs.declared.told.Form.TheVariants.{Lines, Files}
use Rattle.ml_lines.specs.Lines.{Word}
use Rattle.ml_front.specs.Logics.{logic_named}
use Rattle.ml_front.specs.declared.logic.Logic.{Logic}
use Rattle.ml_gen.specs.FamilyRanges.{family_named, is_in_range}
use Rattle.ml_gen.specs.declared.family.Family.{Family}
use Rattle.ml_driver.specs.declared.command.Command.{Command}
use Rattle.ml_driver.specs.declared.command.Command.TheVariants.{Decide, Valid, Find, Prove, CheckModel, CheckRefutation, Migrate, Quotient, SolveGame, CheckGame, Path, Show, CheckMachine, Determinise, Automaton, Realize, Make, Ask, CheckAnswers, Gen, Bench}
use Rattle.ml_driver.specs.Games.{engine_named}
use Rattle.ml_driver.specs.declared.engine.Engine.{Engine}
use Rattle.ml_driver.specs.declared.command.TheConstants.{DEFAULT_LIMIT, GREATEST_LIMIT, LONGEST_NUMBER}

-- ---- what `clap` is told

unfoldable pub cli : App
cli =
    let bare = new_app (codes "mlsolver") in
    let plain = record bare { top = record bare.top { no_binary_name = true; disable_help_flag = true } } in
    let command = record (new_rule (codes "command")) { required = true } in
    let limit = record (new_rule (codes "limit")) { long = Some (codes "limit") } in
    with_rule (with_rule (with_rule (with_rule plain command) (new_rule (codes "subject"))) (new_rule (codes "count"))) limit

-- the faults that `clap` finds in words, and what it finds in words without a fault
unfoldable pub faults_of : List Word → Kinds
faults_of words = fault_of cli words

unfoldable pub rows_in : List Word → List Row
rows_in words = matches_of cli words

-- ---- numbers

abbrev pub is_digit : ℕ → Bool
is_digit b = nat_le 48 b && nat_le b 57

abbrev pub digit_on : ℕ → ℕ → Option ℕ
digit_on v b = if is_digit b && nat_le (v * 10 + (b - 48)) GREATEST_LIMIT then Some (v * 10 + (b - 48)) else None

abbrev pub value_from : ℕ → Word → Option ℕ
value_from v [] = Some v
value_from v (b ∷ w) = option_and_then (λ (u : ℕ). value_from u w) (digit_on v b)

abbrev pub at_least_one : ℕ → Option ℕ
at_least_one v = if nat_le 1 v then Some v else None

abbrev pub number_named : Word → Option ℕ
number_named w = if nat_le 1 (length w) && nat_le (length w) LONGEST_NUMBER then value_from 0 w else None

abbrev pub limit_named : Option Word → Option ℕ
limit_named None = Some DEFAULT_LIMIT
limit_named (Some w) = option_and_then at_least_one (number_named w)

abbrev pub if_in_range : Family → ℕ → Option ℕ
if_in_range f n = if is_in_range f n then Some n else None

abbrev pub count_named : Family → Word → Option ℕ
count_named f w = option_and_then (if_in_range f) (number_named w)

-- ---- the table

pub data Shape : Type 0 where
  -- no further word, and no limit
  alone : Command → Shape
  -- no further word, and maybe a limit
  limited : (ℕ → Command) → Shape
  -- a logic, and maybe a limit
  about_logic : (Logic → ℕ → Command) → Shape
  -- the word `files`, or none, and maybe a limit
  with_files : (Form → ℕ → Command) → Shape
  -- an engine, and no limit
  by_engine : (Engine → Command) → Shape
  -- a family and a number of its range, and no limit
  of_family : (Family → ℕ → Command) → Shape

unfoldable pub table : List (Word × Shape)
table =
    (codes "find", about_logic Find)
    ∷ (codes "prove", about_logic Prove)
    ∷ (codes "decide", about_logic Decide)
    ∷ (codes "valid", about_logic Valid)
    ∷ (codes "ask", with_files Ask)
    ∷ (codes "check-answers", alone CheckAnswers)
    ∷ (codes "check-model", alone CheckModel)
    ∷ (codes "check-refutation", alone CheckRefutation)
    ∷ (codes "path", alone Path)
    ∷ (codes "show", alone Show)
    ∷ (codes "migrate", alone Migrate)
    ∷ (codes "quotient", alone Quotient)
    ∷ (codes "solve-game", by_engine SolveGame)
    ∷ (codes "check-game", alone CheckGame)
    ∷ (codes "determinise", limited Determinise)
    ∷ (codes "automaton", limited Automaton)
    ∷ (codes "make", limited Make)
    ∷ (codes "realize", limited Realize)
    ∷ (codes "check-machine", alone CheckMachine)
    ∷ (codes "gen", of_family Gen)
    ∷ (codes "bench", of_family Bench)
    ∷ []

abbrev pub shape_in : List (Word × Shape) → Word → Option Shape
shape_in [] w = None
shape_in (r ∷ rows) w = if bytes_eq w r.0 then Some r.1 else shape_in rows w

abbrev pub command_by : Shape → Option Word → Option Word → Option Word → Option Command
command_by (alone c) None None None = Some c
command_by (limited c) None None limit = option_map c (limit_named limit)
command_by (about_logic c) (Some w) None limit =
    option_and_then (λ (l : Logic). option_map (c l) (limit_named limit)) (logic_named w)
command_by (with_files c) None None limit = option_map (c Lines) (limit_named limit)
command_by (with_files c) (Some w) None limit =
    if bytes_eq w (codes "files") then option_map (c Files) (limit_named limit) else None
command_by (by_engine c) (Some w) None None = option_map c (engine_named w)
command_by (of_family c) (Some w) (Some number) None =
    option_and_then (λ (f : Family). option_map (c f) (count_named f number)) (family_named w)
command_by _ _ _ _ = None

-- ---- the words

pub record Parts : Type 0 where
  pub command : Option Word
  pub subject : Option Word
  pub count : Option Word
  pub limit : Option Word

abbrev pub row_of : Option Word → Option Word → Option Word → Option Word → Option Command
row_of (Some w) subject count limit = option_and_then (λ (x : Shape). command_by x subject count limit) (shape_in table w)
row_of None subject count limit = None

abbrev pub row : Parts → Option Command
row p = row_of p.command p.subject p.count p.limit

abbrev pub parts_in : List Row → Parts
parts_in rows = record {
  command = first_of (codes "command") rows;
  subject = first_of (codes "subject") rows;
  count = first_of (codes "count") rows;
  limit = first_of (codes "limit") rows;
}

-- `clap` finds no fault in the words
abbrev pub if_faultless : Kinds → Option Command → Option Command
if_faultless [] c = c
if_faultless (k ∷ ks) c = None

abbrev pub command_of : List Word → Option Command
command_of words = if_faultless (faults_of words) (row (parts_in (rows_in words)))
