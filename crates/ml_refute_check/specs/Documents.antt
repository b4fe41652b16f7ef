-- Documents that answer `unsatisfiable`, and what checking one finds.
--
-- A document shows a refutation for a problem where its head answers `unsatisfiable` about the problem, and its body is
-- a text of the refutation, in the version that the head tells. Where a document shows none, its first bad line tells
-- why. Where the problem's closure is too large, the document is rejected at the line of the formula. Else what is shown
-- is accepted where the refutation breaks no rule of acceptance in the problem's graph, and rejected at the line of the
-- first part that breaks one. Who wrote the document, and how, is asked nowhere.
--
--   IsDocument text v p r == the text shows, in the version v, the refutation r for the problem p
--   ShowsRefutation text P == the text shows a refutation for a problem, and P is true of its version, its body and the two
--   InGraph p P            == the closure of the problem p isn't too large, and P holds in its graph
--   line_of at n k         == the line of part k of an entry with n items, whose parts begin at these lines
--   IsRejectedBy g v b r line number == the first bad part of r in g, with this lowest rule that it breaks, stands at this
--                             line of a document with the body b in version v
--   Finds x v b p r        == x is found of the refutation r for the problem p, which the body b in version v shows
--   IsVerdict text x       == x is what checking the text finds
--   HoldsNowhere text      == the text answers `unsatisfiable` about a problem, and that is true
--   IsDocumentOf p r text  == the text is the document that is written for the problem p and the refutation r
--   IsMigrated text other  == the text shows a refutation for a problem, and the other text is what is written of the
--                             two
use Rattle.std.specs.Prelude.{ℕ, ◌≡◌, ◌⊎◌, ◌+◌, ◌-◌, ◌==◌, nat_lt, List, ◌++◌, Some, length, slice_get, if◌then◌else◌}
use Rattle.ml_base.specs.declared.version.Version.{Version}
use Rattle.ml_base.specs.declared.version.Version.TheVariants.{Two}
use Rattle.ml_lines.specs.Lines.{text_of}
use Rattle.ml_graph.specs.Graph.{Graph}
use Rattle.ml_front.specs.declared.answer.Answer.TheVariants.{Unsatisfiable}
use Rattle.ml_front.specs.declared.problem.Problem.{Problem}
use Rattle.ml_front.specs.declared.problem.TheConstants.{MOST_NODES}
use Rattle.ml_front.specs.Documents.{Shows, IsDocumentFault, first_body_line}
use Rattle.ml_front.specs.Graphs.{HasLargeClosure, OfGraph}
use Rattle.ml_front.specs.Head.{head_lines}
use Rattle.ml_front.specs.HeadRules.{IsHead}
use Rattle.ml_front.specs.Problems.{IsSatisfiable}
use Rattle.ml_refutation.specs.Refutation.{Refutation, IsRefutation}
use Rattle.ml_refutation.specs.Acceptance.{entry_at, IsAccepted, IsFirstBad}
use Rattle.ml_refutation_text.specs.BodyRules.{IsFaultOf}
use Rattle.ml_refutation_text.specs.PartLines.{AreLinesOf}
use Rattle.ml_refutation_text.specs.BodyRules.{IsTextOf}
use Rattle.ml_refutation_text.specs.Canonical.{IsWrittenText}
use Rattle.ml_refutation_text.specs.declared.lines.EntryLines.{EntryLines}
use Rattle.ml_refute_check.specs.declared.verdict.Verdict.{Verdict}
use Rattle.ml_refute_check.specs.declared.verdict.Verdict.TheVariants.{Accepted, Unreadable, Rejected}

-- the number of the line of the formula
abbrev pub formula_line : ℕ
formula_line = 5

-- ---- what a text shows

abbrev pub IsDocument : List ℕ → Version → Problem → Refutation → Type 0
IsDocument text v p r = (body : List ℕ) × IsHead Unsatisfiable text v p body × IsRefutation r × IsTextOf v body r

abbrev pub ShowsRefutation : List ℕ → (Version → List ℕ → Problem → Refutation → Type 0) → Type 0
ShowsRefutation text P =
    Shows Unsatisfiable text (λ v p body. (r : Refutation) × IsRefutation r × IsTextOf v body r × P v body p r)

-- ---- what checking it finds

-- the closure of the problem isn't too large, and this holds in its graph
abbrev pub InGraph : Problem → (Graph → Type 0) → Type 0
InGraph p P = (¬ (HasLargeClosure p MOST_NODES)) × OfGraph p P

-- first the sequent and the names in use, then the items, and last the branches of the decision
abbrev pub line_of : EntryLines → ℕ → ℕ → ℕ
line_of at items part =
    if part == 0 then at.sequent
    else if part == 1 then at.live
    else if nat_lt (part - 2) items then at.items + (part - 2)
    else at.decision + (part - 2 - items)

-- the first bad part of the refutation in the graph, with this lowest rule that it breaks, stands at this line
pub record IsRejectedBy (g : Graph) (v : Version) (body : List ℕ) (r : Refutation) (line number : ℕ) : Type 0 where
  pub entry : ℕ
  pub part : ℕ
  pub is_first : IsFirstBad g r entry part number
  pub lines : List EntryLines
  pub are_lines : AreLinesOf v body first_body_line r lines
  pub at : EntryLines
  pub of_entry : slice_get lines entry ≡ Some at
  pub is_line : line ≡ line_of at (length (entry_at r entry).traces.items) part

abbrev pub Finds : Verdict → Version → List ℕ → Problem → Refutation → Type 0
Finds Accepted v body p r = InGraph p (λ g. IsAccepted g r)
Finds (Rejected line number) v body p r =
    (HasLargeClosure p MOST_NODES × (line ≡ formula_line) × (number ≡ 1))
    ⊎ InGraph p (λ g. IsRejectedBy g v body r line number)
Finds (Unreadable fault) v body p r = ⊥

abbrev pub IsVerdict : List ℕ → Verdict → Type 0
IsVerdict text (Unreadable fault) = IsDocumentFault Unsatisfiable IsFaultOf text fault
IsVerdict text v = ShowsRefutation text (Finds v)

-- ---- what it tells

-- the text answers `unsatisfiable` about a problem, and no admitted structure has a state at which the problem holds
abbrev pub HoldsNowhere : List ℕ → Type 0
HoldsNowhere text = Shows Unsatisfiable text (λ v p body. ¬ (IsSatisfiable p))

-- ---- what is written

pub record IsDocumentOf (p : Problem) (r : Refutation) (text : List ℕ) : Type 0 where
  pub body : List ℕ
  pub is_text : text ≡ text_of (head_lines Two Unsatisfiable p) ++ body
  pub is_body : IsWrittenText Two body r

-- the text shows a refutation, and the other one is the document that is written of it, which shows the same
abbrev pub IsMigrated : (text other : List ℕ) → Type 0
IsMigrated text other = ShowsRefutation text (λ v body p r. IsDocumentOf p r other × IsDocument other Two p r)
