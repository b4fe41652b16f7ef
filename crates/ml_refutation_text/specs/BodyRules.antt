-- The body of an unsatisfiable document, as a format.
--
-- What stands at a line follows from the lines before it. A place keeps what they tell: the number of names, the tables
-- of version 2, how many entries there are to be, the whole entries, and of the entry that isn't whole yet its sequent,
-- its traces, its heights, and the splits around the next line of its decision. The rules of a place stand in the order
-- of their numbers, so the first one that a line breaks is the lowest. A line that is missing is the line of no words.
-- A line of a table may be written again or stay without use, so in version 2 a refutation has many texts. A text is of
-- one refutation at most in both versions.
--
--   Form                   == sequents and stacks in full, or by these two tables
--   Known                  == the number of names, the form, and how many entries there are to be
--   Around                 == a split around a decision: with the right one still to come, or with the left one read
--   Begun                  == an entry but for its decision
--   Place                  == what stands at a line
--   closed k es b as d     == the place behind the decision d, around which stand the splits as, the innermost first
--   after v p line         == what stands behind a line at p, if that one is good, in the version v
--   state_of, stack_of, leaf_of == what the line of an item and that of a clash or a go tell
--   kinds p                == the kinds that a line at p may be of
--   rules left p           == the rules of a line at p, with their numbers, in a text of which `left` stands behind the
--                             last LF
--   body v left            == the places with their rules
--   IsFaultOf v text n f   == f tells the first bad line of the text of a body, whose first line has the number n, and
--                             the lowest rule that it breaks
--   IsTextOf v text r      == the text is one of the refutation r in the version v: its lines are good, and behind the last
--                             one stands r, at its end
use Rattle.std.specs.Prelude.{ℕ, ◌+◌, ◌<◌, ◌≤◌, ◌≡◌, ⊤, nat_lt, List, [], ◌∷◌, ◌++◌, Option, None, Some, length, drop, map, All, codes, slice_index_or, if◌then◌else◌}
use Rattle.std.specs.Str.{bytes_eq}
use Rattle.ml_base.specs.declared.doc_fault.DocFault.{DocFault}
use Rattle.ml_base.specs.declared.version.Version.{Version}
use Rattle.ml_base.specs.declared.version.Version.TheVariants.{One, Two}
use Rattle.ml_lines.specs.Faults.{IsFault}
use Rattle.ml_lines.specs.Lines.{Word, Line}
use Rattle.ml_lines.specs.Reading.{value, word, lines_of, left_of}
use Rattle.ml_lists.specs.Ascending.{IsAscending}
use Rattle.ml_lists.specs.Last.{last_of}
use Rattle.ml_lists.specs.Documents.{Format, Rule, rule}
use Rattle.ml_lists.specs.Readings.{Runs}
use Rattle.ml_trace.specs.declared.letters.AutomatonState.{AutomatonState}
use Rattle.ml_trace.specs.declared.marks.Mark.{Mark}
use Rattle.ml_trace.specs.declared.marks.Mark.TheVariants.{Red, Green, Neutral}
use Rattle.ml_trace.specs.Stack as traced
use Rattle.ml_sequent.specs.declared.clashes.ClashCause.{ClashCause}
use Rattle.ml_sequent.specs.declared.clashes.ClashCause.TheVariants.{False, Pair, Cycle}
use Rattle.ml_refutation.specs.Refutation.{Refutation, Entry, Decision, Split, Clash, Go, IsAbove, IsMarkOf}
use Rattle.ml_refutation.specs.declared.refutation.TheConstants.{NESTING_LIMIT}
use Rattle.ml_refutation_text.specs.LineKinds.{Kind, Fixed, ANumber, AGuess, AnySize, kind, open_kind, IsOfKinds, HaveNumbers}

-- ---- places

-- in full, or by a table of sequents and one of stacks
pub data Form : Type 0 where
  InFull : Form
  ByTables : List (List ℕ) → List (List ℕ) → Form

pub record Known : Type 0 where
  pub names : ℕ
  pub form : Form
  pub wanted : ℕ

pub data Around : Type 0 where
  InLeft : ℕ → Around
  InRight : ℕ → Decision → Around

pub record Begun : Type 0 where
  pub sequent : List ℕ
  pub traces : traced.Entry AutomatonState
  pub heights : List ℕ

pub data Place : Type 0 where
  AtNames : Place
  -- version 2: `sequents`, a line of that table, `stacks`, a line of that table; with the number of names, and for a
  -- table how many lines it is to have and those that were read
  AtSequents : ℕ → Place
  AtTableSequent : ℕ → ℕ → List (List ℕ) → Place
  AtStacks : ℕ → List (List ℕ) → Place
  AtTableStack : ℕ → List (List ℕ) → ℕ → List (List ℕ) → Place
  AtEntries : ℕ → Form → Place
  -- `entry`, `sequent` of version 1, `live`, an item or `heights`, a line of a decision; with the whole entries
  AtEntry : Known → List Entry → Place
  AtSequent : Known → List Entry → Place
  AtLive : Known → List Entry → List ℕ → Place
  AtItem : Known → List Entry → List ℕ → traced.Entry AutomatonState → Place
  AtDecision : Known → List Entry → Begun → List Around → Place
  AtEnd : Refutation → Place
  AtNothing : Refutation → Place

-- ---- what a line tells

abbrev pub values : Line → List ℕ
values words = map value words

abbrev pub guess_of : Word → Option ℕ
guess_of w = if bytes_eq w (codes "-") then None else Some (value w)

abbrev pub state_of : Line → AutomatonState
state_of line = record { node = value (word line 1); odd = guess_of (word line 2) }

abbrev pub stack_of : Form → Line → List ℕ
stack_of InFull line = values (drop 3 line)
stack_of (ByTables sequents stacks) line = slice_index_or stacks (value (word line 3)) []

abbrev pub sequent_of : Form → Line → List ℕ
sequent_of InFull line = values (drop 1 line)
sequent_of (ByTables sequents stacks) line = slice_index_or sequents (value (word line 2)) []

abbrev pub cause_of : Line → ClashCause
cause_of line =
    if bytes_eq (word line 1) (codes "false") then False (value (word line 2))
    else (if bytes_eq (word line 1) (codes "pair") then Pair (value (word line 2)) (value (word line 3))
    else Cycle (value (word line 2)))

abbrev pub mark_of : Line → Mark
mark_of line =
    if bytes_eq (word line 3) (codes "red") then Red (value (word line 4))
    else (if bytes_eq (word line 3) (codes "green") then Green (value (word line 4)) else Neutral)

abbrev pub leaf_of : Line → Decision
leaf_of line =
    if bytes_eq (word line 0) (codes "clash") then Clash (cause_of line)
    else Go (value (word line 1)) (value (word line 2)) (mark_of line)

-- ---- what stands behind a line

-- the next line of the table of sequents, and behind the last one `stacks`
abbrev pub at_sequent_table : ℕ → ℕ → List (List ℕ) → Place
at_sequent_table names size rows =
    if nat_lt (length rows) size then AtTableSequent names size rows else AtStacks names rows

-- the next line of the table of stacks, and behind the last one `entries`
abbrev pub at_stack_table : ℕ → List (List ℕ) → ℕ → List (List ℕ) → Place
at_stack_table names sequents size rows =
    if nat_lt (length rows) size then AtTableStack names sequents size rows else AtEntries names (ByTables sequents rows)

-- the next entry, and behind the last one `end`
abbrev pub at_entry : Known → List Entry → Place
at_entry k entries =
    if nat_lt (length entries) k.wanted then AtEntry k entries else AtEnd (record { names = k.names; entries = entries })

abbrev pub whole : Begun → Decision → Entry
whole b d = record { sequent = b.sequent; traces = b.traces; heights = b.heights; decision = d }

abbrev pub closed : Known → List Entry → Begun → List Around → Decision → Place
closed k entries b [] d = at_entry k (entries ++ whole b d ∷ [])
closed k entries b (InLeft n ∷ around) d = AtDecision k entries b (InRight n d ∷ around)
closed k entries b (InRight n left ∷ around) d = closed k entries b around (Split n left d)

abbrev pub with_item : traced.Entry AutomatonState → traced.Item AutomatonState → traced.Entry AutomatonState
with_item e a = record { live = e.live; items = e.items ++ a ∷ [] }

-- behind the number of names
abbrev pub after_names : Version → ℕ → Place
after_names One names = AtEntries names InFull
after_names Two names = AtSequents names

-- behind the line `entry`: version 1 has the sequent in a line of its own
abbrev pub after_entry : Form → Known → List Entry → Line → Place
after_entry InFull k entries line = AtSequent k entries
after_entry (ByTables sequents stacks) k entries line = AtLive k entries (sequent_of (ByTables sequents stacks) line)

abbrev pub after : Version → Place → Line → Place
after v AtNames line = after_names v (value (word line 1))
after v (AtSequents names) line = at_sequent_table names (value (word line 1)) []
after v (AtTableSequent names size rows) line = at_sequent_table names size (rows ++ values (drop 1 line) ∷ [])
after v (AtStacks names sequents) line = at_stack_table names sequents (value (word line 1)) []
after v (AtTableStack names sequents size rows) line =
    at_stack_table names sequents size (rows ++ values (drop 1 line) ∷ [])
after v (AtEntries names form) line =
    at_entry (record { names = names; form = form; wanted = value (word line 1) }) []
after v (AtEntry k entries) line = after_entry k.form k entries line
after v (AtSequent k entries) line = AtLive k entries (sequent_of InFull line)
after v (AtLive k entries sequent) line =
    AtItem k entries sequent (record { live = value (word line 1); items = [] })
after v (AtItem k entries sequent traces) line =
    if bytes_eq (word line 0) (codes "heights")
    then AtDecision k entries (record { sequent = sequent; traces = traces; heights = values (drop 1 line) }) []
    else AtItem k entries sequent (with_item traces (record { state = state_of line; stack = stack_of k.form line }))
after v (AtDecision k entries b around) line =
    if bytes_eq (word line 0) (codes "split") then AtDecision k entries b (InLeft (value (word line 1)) ∷ around)
    else closed k entries b around (leaf_of line)
after v (AtEnd r) line = AtNothing r
after v (AtNothing r) line = AtNothing r

-- ---- the rules

abbrev pub numbered : Word → Kind
numbered fixed = kind (Fixed fixed ∷ ANumber ∷ [])

abbrev pub entry_kind : Form → Kind
entry_kind InFull = numbered (codes "entry")
entry_kind (ByTables sequents stacks) = kind (Fixed (codes "entry") ∷ ANumber ∷ ANumber ∷ [])

abbrev pub stack_kind : Kind
stack_kind = open_kind (Fixed (codes "stack") ∷ ANumber ∷ [])

abbrev pub item_kind : Form → Kind
item_kind InFull = open_kind (Fixed (codes "item") ∷ ANumber ∷ AGuess ∷ ANumber ∷ [])
item_kind (ByTables sequents stacks) = kind (Fixed (codes "item") ∷ ANumber ∷ AGuess ∷ AnySize ∷ [])

-- `clash false n`, `clash pair n m`, `clash cycle n`
abbrev pub clash_kinds : List Kind
clash_kinds =
    kind (Fixed (codes "clash") ∷ Fixed (codes "false") ∷ ANumber ∷ [])
    ∷ kind (Fixed (codes "clash") ∷ Fixed (codes "pair") ∷ ANumber ∷ ANumber ∷ [])
    ∷ kind (Fixed (codes "clash") ∷ Fixed (codes "cycle") ∷ ANumber ∷ [])
    ∷ []

-- `go D e red x`, `go D e green x`, `go D e neutral`
abbrev pub go_kinds : List Kind
go_kinds =
    kind (Fixed (codes "go") ∷ ANumber ∷ ANumber ∷ Fixed (codes "red") ∷ ANumber ∷ [])
    ∷ kind (Fixed (codes "go") ∷ ANumber ∷ ANumber ∷ Fixed (codes "green") ∷ ANumber ∷ [])
    ∷ kind (Fixed (codes "go") ∷ ANumber ∷ ANumber ∷ Fixed (codes "neutral") ∷ [])
    ∷ []

-- what a line of a place may be
abbrev pub kinds : Place → List Kind
kinds AtNames = numbered (codes "names") ∷ []
kinds (AtSequents names) = numbered (codes "sequents") ∷ []
kinds (AtTableSequent names size rows) = open_kind (Fixed (codes "sequent") ∷ []) ∷ []
kinds (AtStacks names sequents) = kind (Fixed (codes "stacks") ∷ AnySize ∷ []) ∷ []
kinds (AtTableStack names sequents size rows) = stack_kind ∷ []
kinds (AtEntries names form) = numbered (codes "entries") ∷ []
kinds (AtEntry k entries) = entry_kind k.form ∷ []
kinds (AtSequent k entries) = open_kind (Fixed (codes "sequent") ∷ []) ∷ []
kinds (AtLive k entries sequent) = numbered (codes "live") ∷ []
kinds (AtItem k entries sequent traces) = item_kind k.form ∷ open_kind (Fixed (codes "heights") ∷ []) ∷ []
kinds (AtDecision k entries b around) = numbered (codes "split") ∷ (clash_kinds ++ go_kinds)
kinds (AtEnd r) = kind (Fixed (codes "end") ∷ []) ∷ []
kinds (AtNothing r) = []

-- the line begins with this word
abbrev pub Begins : Word → Line → Type 0
Begins fixed line = word line 0 ≡ fixed

abbrev pub AreBelow : ℕ → List ℕ → Type 0
AreBelow bound names = All (λ x. x < bound) names

-- the number of the sequent is one of its table
abbrev pub SequentInTable : Form → Line → Type 0
SequentInTable InFull line = ⊤
SequentInTable (ByTables sequents stacks) line = value (word line 2) < length sequents

-- so is that of the stack
abbrev pub StackInTable : Form → Line → Type 0
StackInTable InFull line = ⊤
StackInTable (ByTables sequents stacks) line = value (word line 3) < length stacks

-- the item comes behind the one before it, and its names ascend and are in use
pub record IsNextItem (form : Form) (traces : traced.Entry AutomatonState) (line : Line) : Type 0 where
  pub is_above : IsAbove (last_of None (map (λ a. a.state) traces.items)) (state_of line)
  pub ascends : IsAscending (stack_of form line)
  pub in_use : AreBelow traces.live (stack_of form line)

-- the rules of numbers and ranges, behind those of kinds and of the spelling of numbers
abbrev pub further_rules : Place → List (Rule Line)
further_rules (AtTableSequent names size rows) = rule 25 (λ line. IsAscending (values (drop 1 line))) ∷ []
further_rules (AtTableStack names sequents size rows) =
    rule 27 (λ line. IsAscending (values (drop 1 line)) × AreBelow names (values (drop 1 line))) ∷ []
further_rules (AtEntries names form) = rule 23 (λ line. 0 < value (word line 1)) ∷ []
further_rules (AtEntry k entries) =
    rule 24 (λ line. value (word line 1) ≡ length entries)
    ∷ rule 31 (SequentInTable k.form)
    ∷ []
further_rules (AtSequent k entries) = rule 25 (λ line. IsAscending (values (drop 1 line))) ∷ []
further_rules (AtLive k entries sequent) = rule 26 (λ line. value (word line 1) ≤ k.names) ∷ []
further_rules (AtItem k entries sequent traces) =
    rule 27 (λ line. Begins (codes "item") line → IsNextItem k.form traces line)
    ∷ rule 28 (λ line. Begins (codes "heights") line → length (drop 1 line) ≡ k.names + 1)
    ∷ rule 31 (λ line. Begins (codes "item") line → StackInTable k.form line)
    ∷ []
further_rules (AtDecision k entries b around) =
    rule 29 (λ line. Begins (codes "go") line → (value (word line 2) < k.wanted) × IsMarkOf k.names (mark_of line))
    ∷ rule 30 (λ line. Begins (codes "split") line → length around < NESTING_LIMIT)
    ∷ []
further_rules _ = []

abbrev pub rules : List ℕ → Place → List (Rule Line)
rules left (AtNothing r) = rule 21 (λ line. (line ≡ []) × (left ≡ [])) ∷ []
rules left place =
    rule 21 (IsOfKinds (kinds place)) ∷ rule 22 (HaveNumbers (kinds place)) ∷ further_rules place

abbrev pub body : Version → List ℕ → Format Line Place
body v left = record { rules = rules left; after = after v; missing = [] }

abbrev pub IsFaultOf : Version → List ℕ → ℕ → DocFault → Type 0
IsFaultOf v text first fault = IsFault (body v) first AtNames text fault

-- ---- texts

pub record IsTextOf (v : Version) (text : List ℕ) (r : Refutation) : Type 0 where
  pub runs : Runs (body v []) AtNames (lines_of text) (AtNothing r)
  pub none_left : left_of text ≡ []
