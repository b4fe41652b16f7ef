-- What is known of the parts of a body that were read. Private contracts and proofs cite this.
--
-- Each part of a body has its record: the lines that it is, said by what they stand for, and what these values keep.
--
--   IsStatesLine line n       == the line is `states n`, with at least one state
--   IsStartLine line n s      == the line is `start s`, of n states
--   IsStateLine line i ls     == the line is that of the state i with the labels ls
--   IsEdgeLine line n b e     == the line is that of the edge e behind b, of n states
--   Ascend labels             == the labels strictly ascend by their bytes
--   EdgeOrEnd line n b e      == the line is `end` where e is none, and else that of the edge e behind b
--   AreRows n rows            == each of the n rows has names in ascending order
--   IsWholeEnd text n es      == the text is the lines of the edges es and `end`, with nothing behind it
--   AreEdges n b es           == the edges es behind b ascend, join states below n, and have actions
use Rattle.std.specs.Prelude.{ℕ, ◌<◌, ◌≡◌, ◌^◌, ⊤, List, [], ◌∷◌, ◌++◌, Option, None, Some, length, map, All}
use Rattle.std.specs.List.Sorted.{IsStrictlySortedBy}
use Rattle.std.specs.Ordering.{nat_cmp}
use Rattle.std.specs.Cmp.Lexicographic.{slice_cmp}
use Rattle.ml_base.specs.declared.structure.Edge.{Edge}
use Rattle.ml_base.specs.Name.{IsName}
use Rattle.ml_lines.specs.Lines.{Line}
use Rattle.ml_lines.specs.Reading.{lines_of, left_of}
use Rattle.ml_kripke.specs.BodyRules.{IsEdgeBehind}
use Rattle.ml_kripke.specs.ModelText.{state_line, edge_line}
use Rattle.ml_kripke.specs.BodyLines.{states_line, start_line, end_line}

pub record IsStatesLine (line : Line) (n : ℕ) : Type 0 where
  pub is_line : line ≡ states_line n
  pub some : 0 < n
  pub fits : n < 2 ^ 32

pub record IsStartLine (line : Line) (n s : ℕ) : Type 0 where
  pub is_line : line ≡ start_line s
  pub is_state : s < n
  pub fits : s < 2 ^ 32

abbrev pub Ascend : List (List ℕ) → Type 0
Ascend = IsStrictlySortedBy (slice_cmp nat_cmp)

pub record IsStateLine (line : Line) (i : ℕ) (labels : List (List ℕ)) : Type 0 where
  pub is_line : line ≡ state_line i labels
  pub are_names : All IsName labels
  pub ascend : Ascend labels

pub record IsEdgeLine (line : Line) (n : ℕ) (before : Option Edge) (e : Edge) : Type 0 where
  pub is_line : line ≡ edge_line e
  pub is_behind : IsEdgeBehind n before e

pub record AreRows (n : ℕ) (rows : List (List (List ℕ))) : Type 0 where
  pub one_each : length rows ≡ n
  pub are_names : All (All IsName) rows
  pub ascend : All Ascend rows

abbrev pub AreEdges : ℕ → Option Edge → List Edge → Type 0
AreEdges n before [] = ⊤
AreEdges n before (e ∷ es) = IsEdgeBehind n before e × AreEdges n (Some e) es

-- a line that is an edge behind another one, or `end`
abbrev pub EdgeOrEnd : Line → ℕ → Option Edge → Option Edge → Type 0
EdgeOrEnd line n before None = line ≡ end_line
EdgeOrEnd line n before (Some e) = IsEdgeLine line n before e

-- the text is the lines of these edges and `end`, with nothing behind it
pub record IsWholeEnd (text : List ℕ) (n : ℕ) (edges : List Edge) : Type 0 where
  pub lines_are : lines_of text ≡ map edge_line edges ++ end_line ∷ []
  pub left_is : left_of text ≡ []
  pub are : AreEdges n None edges
