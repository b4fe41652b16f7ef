-- What the reader knows of the lines of a decision. Private contracts and proofs cite this.
--
--   around_size as           == how many lines of the splits around were read
--   closed_to k es b as d    == the place behind a decision d that is whole, or inside the splits as
--   IsClosed as d cs w       == with the decision d of the splits around it, as, the whole w is decided; or, where that is
--                               none, the splits cs are around what is to come
--   IsBranch n k j line b    == the line is that of the branch b, which may stand inside j splits, with n names and k entries
--   BreaksBranch n k j line r == r is the first rule that the line breaks there
--   FitsMark m               == the name of the mark fits 32 bits
--   Shape w n ws             == there are n words, the first of which is w
--   LacksNumbers n ws r      == the words aren't n words (21), or not all numbers (22)
--   LacksMark, LacksCause, LacksGo == the same of the words for a mark, a cause, and those behind `go`
use Rattle.std.specs.Prelude.{ℕ, ◌+◌, ◌<◌, ◌≤◌, ◌≡◌, ◌⊎◌, ⊤, List, [], ◌∷◌, ◌++◌, Option, None, Some, length, codes, drop, All}
use Rattle.ml_lines.specs.Lines.{Word, Line}
use Rattle.ml_lines.specs.Reading.{IsNumber, word}
use Rattle.ml_trace.specs.declared.marks.Mark.{Mark}
use Rattle.ml_trace.specs.declared.marks.Mark.TheVariants.{Red, Green, Neutral}
use Rattle.ml_refutation.specs.Refutation.{Entry, Decision, Fits, IsDecided, nesting}
use Rattle.ml_refutation.specs.Views.{decision_of}
use Rattle.ml_refutation.specs.declared.refutation.Decision as program
use Rattle.ml_refutation.specs.declared.refutation.TheConstants.{NESTING_LIMIT}
use Rattle.ml_refutation_text.specs.RefutationText.{split_line, decision_lines}
use Rattle.ml_refutation_text.specs.BodyRules.{Form}
use Rattle.ml_refutation_text.specs.BodyRules.{Known, Around, InLeft, InRight, Begun, Place, AtDecision, at_entry, closed, whole}
use Rattle.ml_refutation_text.specs.private.Reads.{arounds_of, Breaks}
use Rattle.ml_refutation_text.specs.private.ItemReads.{knows}
use Rattle.ml_refutation_text.specs.declared.body_rule.BodyRule.{BodyRule}
use Rattle.ml_refutation_text.specs.declared.body_rule.BodyRule.TheVariants.{OfKind, Numbers}
use Rattle.ml_refutation_text.specs.declared.branches.Around as split
use Rattle.ml_refutation_text.specs.declared.branches.DecisionLine.{DecisionLine}
use Rattle.ml_refutation_text.specs.declared.branches.DecisionLine.TheVariants as branch

-- ---- splits around

abbrev pub around_size : List Around → ℕ
around_size [] = 0
around_size (InLeft n ∷ around) = around_size around + 1
around_size (InRight n left ∷ around) = around_size around + 1 + length (decision_lines left)

abbrev pub closed_to : Known → List Entry → Begun → List Around → Option program.Decision → Place
closed_to k entries b around None = AtDecision k entries b around
closed_to k entries b around (Some d) = at_entry k (entries ++ whole b (decision_of d) ∷ [])

abbrev pub closed_size : List Around → Option program.Decision → ℕ
closed_size around None = around_size around
closed_size around (Some d) = length (decision_lines (decision_of d))

pub record IsClosed (around : List split.Around) (d : Decision) (behind : List split.Around) (made : Option program.Decision) : Type 0 where
  pub leads : (k : Known) (entries : List Entry) (b : Begun)
      → closed k entries b (arounds_of around) d ≡ closed_to k entries b (arounds_of behind) made
  pub counted : around_size (arounds_of around) + length (decision_lines d) ≡ closed_size (arounds_of behind) made
  pub inside : length behind ≤ length around

-- ---- lines

pub record IsLeaf (names wanted : ℕ) (line : Line) (d : Decision) : Type 0 where
  pub is_line : decision_lines d ≡ line ∷ []
  pub is_decided : IsDecided names wanted d
  pub no_split : nesting d ≡ 0

abbrev pub IsBranch : ℕ → ℕ → ℕ → Line → DecisionLine → Type 0
IsBranch names wanted depth line (branch.Split n) = (line ≡ split_line n) × Fits n × (depth < NESTING_LIMIT)
IsBranch names wanted depth line (branch.Leaf d) = IsLeaf names wanted line (decision_of d)

abbrev pub BreaksBranch : ℕ → ℕ → ℕ → Line → BodyRule → Type 0
BreaksBranch names wanted depth line rule =
    (F : Form) (es : List Entry) (b : Begun) (around : List Around)
    → length around ≡ depth → Breaks (AtDecision (knows names F wanted) es b around) line rule

-- ---- words

abbrev pub FitsMark : Mark → Type 0
FitsMark (Red x) = Fits x
FitsMark (Green x) = Fits x
FitsMark Neutral = ⊤

-- words of a kind, which may lack numbers
abbrev pub Lacks : (Line → Type 0) → (Line → Type 0) → Line → BodyRule → Type 0
Lacks OfTheKind HasThem words rule =
    ((rule ≡ OfKind) × (¬ (OfTheKind words))) ⊎ ((rule ≡ Numbers) × OfTheKind words × (¬ (HasThem words)))

abbrev pub LacksNumbers : ℕ → Line → BodyRule → Type 0
LacksNumbers n = Lacks (λ words. length words ≡ n) (All IsNumber)

-- so many words, the first of which is this one
abbrev pub Shape : Word → ℕ → Line → Type 0
Shape first n words = (word words 0 ≡ first) × (length words ≡ n)

-- `red x`, `green x`, `neutral`
abbrev pub IsMarked : Line → Type 0
IsMarked words = Shape (codes "red") 2 words ⊎ (Shape (codes "green") 2 words ⊎ Shape (codes "neutral") 1 words)

abbrev pub LacksMark : Line → BodyRule → Type 0
LacksMark = Lacks IsMarked (λ words. All IsNumber (drop 1 words))

-- `false n`, `pair n m`, `cycle n`
abbrev pub IsCaused : Line → Type 0
IsCaused words = Shape (codes "false") 2 words ⊎ (Shape (codes "pair") 3 words ⊎ Shape (codes "cycle") 2 words)

abbrev pub LacksCause : Line → BodyRule → Type 0
LacksCause = Lacks IsCaused (λ words. All IsNumber (drop 1 words))

-- two words, and those for a mark
abbrev pub IsGo : Line → Type 0
IsGo words = (2 ≤ length words) × IsMarked (drop 2 words)

abbrev pub LacksGo : Line → BodyRule → Type 0
LacksGo = Lacks IsGo (λ words. IsNumber (word words 0) × IsNumber (word words 1) × All IsNumber (drop 3 words))
