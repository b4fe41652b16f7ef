-- The body of a satisfiable document, as a format.
--
-- What stands at a line follows from the lines before it: first `states n`, then `start s`, the lines of the states
-- 0 to n - 1, any number of edges, `end`, and nothing behind it. The rules of a place stand in the order of their
-- numbers, so the first one that a line breaks is the lowest. A line that is missing is the line of no words.
--
--   Place                 == what stands at a line: states n; start s below n; the line of state i of n; an edge behind
--                            another one or none, or `end`; nothing
--   after place line      == what stands behind a line, if that one is good
--   IsEndOr Keeps line    == the line is `end`, or keeps this
--   rules left p          == the rules of a line at p, in a text of which `left` stands behind the last LF
--   body left             == the places with their rules
--   IsFaultOf text first f  == f tells the first bad line of the text of a body, whose first line has this number, and
--                            the lowest rule that it breaks
--   IsReadableBody text   == the text has no bad line
use Rattle.std.specs.Prelude.{ℕ, ◌+◌, ◌<◌, ◌≡◌, ◌⊎◌, ⊤, nat_lt, List, [], ◌∷◌, Option, None, Some, MatchOption, drop, All, codes, if◌then◌else◌}
use Rattle.std.specs.List.Sorted.{IsStrictlySortedBy}
use Rattle.std.specs.Ordering.{nat_cmp}
use Rattle.std.specs.declared.cmp.Ordering.TheVariants.{Less}
use Rattle.std.specs.Cmp.Lexicographic.{slice_cmp}
use Rattle.std.specs.Str.{bytes_eq}
use Rattle.ml_base.specs.declared.doc_fault.DocFault.{DocFault}
use Rattle.ml_base.specs.declared.structure.Edge.{Edge}
use Rattle.ml_base.specs.Name.{IsName, IsAction}
use Rattle.ml_lines.specs.Faults.{IsFault}
use Rattle.ml_lines.specs.Lines.{Line}
use Rattle.ml_lines.specs.Reading.{AreWords, IsNumber, IsWordBehind, value, word, lines_of, left_of}
use Rattle.ml_lists.specs.Documents.{Format, Rule, rule}
use Rattle.ml_lists.specs.Readings.{IsReadable}
use Rattle.ml_base.specs.EdgeOrder.{edge_cmp}

pub data Place : Type 0 where
  AtStates : Place
  AtStart : ℕ → Place
  AtState : ℕ → ℕ → Place
  AtEdge : ℕ → Option Edge → Place
  AtNothing : Place

-- the line of the state i of n, and behind the last state the first edge
abbrev pub at_state : ℕ → ℕ → Place
at_state n i = if nat_lt i n then AtState n i else AtEdge n None

-- the edge that a line `edge s a t` is
abbrev pub edge_of : Line → Edge
edge_of line = record { source = value (word line 1); action = word line 2; target = value (word line 3) }

abbrev pub after : Place → Line → Place
after AtStates line = AtStart (value (word line 1))
after (AtStart n) line = at_state n 0
after (AtState n i) line = at_state n (i + 1)
after (AtEdge n before) line = if bytes_eq (word line 0) (codes "end") then AtNothing else AtEdge n (Some (edge_of line))
after AtNothing line = AtNothing

-- ---- the rules

-- Of each kind: the line is there, its words are separated by one blank, and the fixed words and the number of words are
-- right. `states` and `start` stand with one word behind them; `state`, one word, and any number of further ones
abbrev pub IsStated : Line → Type 0
IsStated line = AreWords line × (line ≡ codes "state" ∷ word line 1 ∷ drop 2 line)

-- `edge` and three words
abbrev pub IsEdged : Line → Type 0
IsEdged line = AreWords line × (line ≡ codes "edge" ∷ word line 1 ∷ word line 2 ∷ word line 3 ∷ [])

abbrev pub HasNumber : Line → Type 0
HasNumber line = IsNumber (word line 1)

abbrev pub HasNumbers : Line → Type 0
HasNumbers line = IsNumber (word line 1) × IsNumber (word line 3)

abbrev pub HasLabels : Line → Type 0
HasLabels line = All IsName (drop 2 line) × IsStrictlySortedBy (slice_cmp nat_cmp) (drop 2 line)

-- the edge joins states by an action, and is above the one before it
pub record IsEdgeBehind (n : ℕ) (before : Option Edge) (e : Edge) : Type 0 where
  pub source_below : e.source < n
  pub target_below : e.target < n
  pub has_action : IsAction e.action
  pub ascends : MatchOption before ⊤ (λ b. edge_cmp b e ≡ Less)

abbrev pub IsEndOr : (Line → Type 0) → Line → Type 0
IsEndOr keeps line = (line ≡ codes "end" ∷ []) ⊎ keeps line

abbrev pub rules : List ℕ → Place → List (Rule Line)
rules left AtStates =
    rule 11 (IsWordBehind (codes "states")) ∷ rule 12 HasNumber ∷ rule 13 (λ line. 0 < value (word line 1)) ∷ []
rules left (AtStart n) =
    rule 11 (IsWordBehind (codes "start")) ∷ rule 12 HasNumber ∷ rule 14 (λ line. value (word line 1) < n) ∷ []
rules left (AtState n i) =
    rule 11 IsStated ∷ rule 12 HasNumber ∷ rule 15 (λ line. value (word line 1) ≡ i) ∷ rule 16 HasLabels ∷ []
rules left (AtEdge n before) =
    rule 11 (IsEndOr IsEdged)
    ∷ rule 12 (IsEndOr HasNumbers)
    ∷ rule 17 (IsEndOr (λ line. IsEdgeBehind n before (edge_of line)))
    ∷ []
rules left AtNothing = rule 11 (λ line. (line ≡ []) × (left ≡ [])) ∷ []

abbrev pub body : List ℕ → Format Line Place
body left = record { rules = rules left; after = after; missing = [] }

abbrev pub IsFaultOf : List ℕ → ℕ → DocFault → Type 0
IsFaultOf text first fault = IsFault body first AtStates text fault

abbrev pub IsReadableBody : List ℕ → Type 0
IsReadableBody text = IsReadable (body (left_of text)) AtStates (lines_of text)
