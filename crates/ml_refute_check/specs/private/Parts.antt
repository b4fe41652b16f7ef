-- What checking parts in a row finds. (Private: nobody has to believe it.)
--
--   plain r              == the plain refutation that a refutation of the program stands for
--   Question             == a graph, and a refutation that is checked in it
--   question g r         == the question of a refutation as the program holds it
--   plain_entry r e      == the plain entry that an entry of the refutation r stands for
--   Asks g odds          == g is a graph, and odds are the odd priorities that occur there
--   Keeps q e part       == the part of entry e keeps its rules
--   KeepEach q e ps      == so does each of the parts ps
--   FirstBadIn q e ps k n == of the parts ps of entry e the one at place k is the first that breaks a rule, and n is
--                           the lowest rule that it breaks
--   Finds q e ps found == found is the first bad one of the parts ps; or none of them breaks a rule
--   Stands q e nodes sp == sp is a spread of the sequent of entry e, which has these nodes, all of the graph
--   IsEntryOf q e entry  == the entry is the one at the place e, and has what every entry of a refutation has
--   front_parts e        == the parts of the entry e before its decision
--   branch_parts c d     == the branches of the decision d, as parts, where the choices c were made before
--   count_branches d     == how many branches the decision d has
use Rattle.std.specs.Prelude.{ℕ, zero, suc, ⊤, ◌≡◌, ◌<◌, ◌+◌, List, [], ◌∷◌, length, Option, Some, None, map, All}
use Rattle.ml_lists.specs.Documents.{KeepsAll, IsFirstBroken}
use Rattle.ml_graph.specs.Graph.{Graph, IsGraph, size, odd_priorities}
use Rattle.ml_sequent.specs.declared.choice.Side.{Side}
use Rattle.ml_sequent.specs.Spread.{SpreadList, IsSpreadOf, IsSpread}
use Rattle.ml_refutation.specs.Refutation.{Refutation, Entry, Decision, Split, Clash, Go, IsEntry}
use Rattle.ml_refutation.specs.Views.{of_parts, entry_of}
use Rattle.ml_refutation.specs.declared.refutation.Refutation as held
use Rattle.ml_refutation.specs.declared.refutation.Entry as program
use Rattle.ml_refutation.specs.Acceptance.{entry_at, Part, Sequent, Live, Item, Decided, branches, rules}
use Rattle.ml_refute_check.specs.declared.finding.BadPart.{BadPart}

-- the plain refutation
abbrev pub plain : held.Refutation → Refutation
plain r = of_parts r.names r.sequents r.stacks r.entries

pub record Question : Type 0 where
  pub graph : Graph
  pub refutation : Refutation

abbrev pub question : Graph → held.Refutation → Question
question g r = record { graph = g; refutation = plain r }

-- the plain entry, by the lists of the refutation
abbrev pub plain_entry : held.Refutation → program.Entry → Entry
plain_entry r e = entry_of r.sequents r.stacks e

-- what the checker knows of the graph, and the odd priorities that occur there
pub record Asks (g : Graph) (odds : List ℕ) : Type 0 where
  pub is_graph : IsGraph g
  pub odds_are : odds ≡ odd_priorities g

abbrev pub Keeps : Question → ℕ → Part → Type 0
Keeps q e part = KeepsAll (rules q.refutation e part) q.graph

unfoldable pub KeepEach : Question → ℕ → List Part → Type 0
KeepEach q e [] = ⊤
KeepEach q e (part ∷ others) = Keeps q e part × KeepEach q e others

unfoldable pub FirstBadIn : Question → ℕ → List Part → ℕ → ℕ → Type 0
FirstBadIn q e [] k number = ⊥
FirstBadIn q e (part ∷ others) zero number = IsFirstBroken (rules q.refutation e part) q.graph number
FirstBadIn q e (part ∷ others) (suc k) number = Keeps q e part × FirstBadIn q e others k number

unfoldable pub Finds : Question → ℕ → List Part → Option BadPart → Type 0
Finds q e parts None = KeepEach q e parts
Finds q e parts (Some bad) = FirstBadIn q e parts bad.part bad.rule

pub record Stands (q : Question) (e : ℕ) (nodes : List ℕ) (sp : SpreadList) : Type 0 where
  pub of_entry : nodes ≡ (entry_at q.refutation e).sequent
  pub low : All (λ n. n < size q.graph) nodes
  pub is_spread : IsSpreadOf q.graph nodes sp.choice sp
  pub is_own : IsSpread q.graph sp

-- this is the entry at the place, and what every entry of a refutation is
pub record IsEntryOf (q : Question) (place : ℕ) (e : Entry) : Type 0 where
  pub is : entry_at q.refutation place ≡ e
  pub is_entry : IsEntry q.refutation.names (length q.refutation.entries) e

-- the parts before the decision
unfoldable pub front_parts : Entry → List Part
front_parts e = Sequent ∷ Live ∷ map Item e.traces.items

abbrev pub count_branches : Decision → ℕ
count_branches (Split n left right) = 1 + (count_branches left + count_branches right)
count_branches (Clash x) = 1
count_branches (Go d f m) = 1

unfoldable pub branch_parts : List (ℕ × Side) → Decision → List Part
branch_parts c d = map Decided (branches c d)
