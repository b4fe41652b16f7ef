-- The rules of acceptance: what a refutation asks of a graph, part by part.
--
-- Each entry has parts, in the order in which they are written: its sequent, its number of names in use, its items, and
-- the branches of its decision in preorder, each with the choices on the way to it. (Heights are asked for where a `go`
-- compares two of them.) Each part asks something of the graph, in rules with numbers, of which the lowest that is
-- broken is told. A rule looks at its own entry and at the one that a `go` leads to. A branch stands at the spread of
-- the sequent of its entry under the choices on the way. How a refutation was made is asked nowhere.
--
--   entry_at r e          == entry e
--   Branch                == a decision, with the choices on the way to it
--   branches c d          == the branches of the decision d in preorder, where the choices c were made before
--   Part                  == the sequent; the names in use; an item; a branch
--   parts e               == the parts of the entry e, in their order
--   OfSpread g C c P      == P holds of the spread of C under the choice c
--   IsWellStarted r e g   == the nodes of entry e are nodes of g, and those of entry 0 are the root alone
--   StandsIn C a g        == the item's node is one of C, and its odd priority, if it has one, occurs in g
--   LeadsWithinTargets    == the other sequent has nodes alone to which the diamond leads
--   TracesNames           == the step meets the condition on names
--   heights_of r          == the heights of each entry
--   HeightsFall r e f m   == for even priorities up to that of the mark m the height doesn't rise from entry e to entry f,
--                            and for that of m itself, if it is even, it falls; neutral is twice the number of names
--   rules r e part        == what a part of entry e asks of a graph
--   IsAccepted g r        == each part of each entry of r keeps its rules, in g
--   IsFirstBad g r e k n  == part k of entry e is the first one that breaks a rule, and n is the lowest one that it breaks
use Rattle.std.specs.Prelude.{ℕ, ◌*◌, ◌≡◌, ◌<◌, List, [], ◌∷◌, ◌++◌, length, get_or, map, All}
use Rattle.ml_lists.specs.Documents.{Rule, rule, KeepsAll, IsFirstBroken}
use Rattle.ml_lists.specs.Member.{IsMember}
use Rattle.ml_parity.specs.Heights.{FallsAlong}
use Rattle.ml_trace.specs.declared.letters.AutomatonState.{AutomatonState}
use Rattle.ml_trace.specs.declared.marks.Mark.{Mark}
use Rattle.ml_trace.specs.Automaton.{IsState}
use Rattle.ml_trace.specs.NamesCondition.{EachNameStands}
use Rattle.ml_trace.specs.Marks.{priority}
use Rattle.ml_trace.specs.NamesCondition.{NamesCondition}
use Rattle.ml_trace.specs.Stack as traced
use Rattle.ml_graph.specs.Graph.{Graph, size, odd_priorities}
use Rattle.ml_sequent.specs.declared.choice.Side.{Side}
use Rattle.ml_sequent.specs.declared.choice.Side.TheVariants.{Left, Right}
use Rattle.ml_sequent.specs.declared.clashes.ClashCause.TheVariants as cause
use Rattle.ml_sequent.specs.Choice.{with_side}
use Rattle.ml_sequent.specs.Spread.{SpreadList, IsSpreadOf, IsOpenOr, IsCause}
use Rattle.ml_sequent.specs.Step.{IsDiamondOf, IsTarget}
use Rattle.ml_refutation.specs.Refutation.{Refutation, Entry, Decision, Split, Clash, Go}
use Rattle.ml_refutation.specs.GoStep.{HasTransition}

-- ---- parts

-- past the last entry, where nobody asks: no nodes
abbrev pub no_entry : Entry
no_entry = record { sequent = []; traces = record { live = 0; items = [] }; heights = []; decision = Clash (cause.False 0) }

abbrev pub entry_at : Refutation → ℕ → Entry
entry_at r e = get_or r.entries e no_entry

pub record Branch : Type 0 where
  pub choice : List (ℕ × Side)
  pub decision : Decision

-- a decision, and then the branches of its left and of its right side
abbrev pub branches : List (ℕ × Side) → Decision → List Branch
branches c (Split n left right) =
    record { choice = c; decision = Split n left right } ∷ (branches (with_side c n Left) left ++ branches (with_side c n Right) right)
branches c d = record { choice = c; decision = d } ∷ []

pub data Part : Type 0 where
  Sequent : Part
  Live : Part
  Item : traced.Item AutomatonState → Part
  Decided : Branch → Part

abbrev pub parts : Entry → List Part
parts e = Sequent ∷ Live ∷ map Item e.traces.items ++ map Decided (branches [] e.decision)

-- ---- what they ask of a graph

-- the spread of the nodes under the choice has the property
pub record OfSpread (g : Graph) (nodes : List ℕ) (c : List (ℕ × Side)) (P : SpreadList → Type 0) : Type 0 where
  pub spread : SpreadList
  pub is_spread : IsSpreadOf g nodes c spread
  pub holds : P spread

pub record IsWellStarted (r : Refutation) (e : ℕ) (g : Graph) : Type 0 where
  pub in_graph : All (λ n. n < size g) (entry_at r e).sequent
  pub starts : e ≡ 0 → (entry_at r e).sequent ≡ g.root ∷ []

pub record StandsIn (sequent : List ℕ) (a : traced.Item AutomatonState) (g : Graph) : Type 0 where
  pub member : IsMember a.state.node sequent
  pub occurs : IsState (odd_priorities g) a.state

abbrev pub LeadsWithinTargets : List ℕ → List (ℕ × Side) → ℕ → List ℕ → Graph → Type 0
LeadsWithinTargets sequent c d next g = OfSpread g sequent c (λ sp. All (IsTarget g sp d) next)

abbrev pub TracesNames : Entry → List (ℕ × Side) → ℕ → Entry → Mark → Graph → Type 0
TracesNames e c d f m g =
    OfSpread g e.sequent c (λ sp. NamesCondition (HasTransition g) (record { sequent = e.sequent; spread = sp; diamond = d; next = f.sequent }) m e.traces f.traces)

abbrev pub heights_of : Refutation → List (List ℕ)
heights_of r = map (λ e. e.heights) r.entries

-- along an arc from entry to entry with the mark's priority
abbrev pub HeightsFall : Refutation → ℕ → ℕ → Mark → Type 0
HeightsFall r e f m = FallsAlong (heights_of r) (record { from = e; priority = priority (2 * r.names) m; to = f })

-- ---- the rules

abbrev branch_rules : Refutation → ℕ → List (ℕ × Side) → Decision → List (Rule Graph)
branch_rules r e c (Split n left right) = rule 5 (λ g. OfSpread g (entry_at r e).sequent c (λ sp. IsOpenOr g sp n)) ∷ []
branch_rules r e c (Clash x) = rule 6 (λ g. OfSpread g (entry_at r e).sequent c (λ sp. IsCause g sp x)) ∷ []
branch_rules r e c (Go d f m) =
    rule 7 (λ g. OfSpread g (entry_at r e).sequent c (λ sp. IsDiamondOf g sp d))
    ∷ rule 8 (LeadsWithinTargets (entry_at r e).sequent c d (entry_at r f).sequent)
    ∷ rule 9 (TracesNames (entry_at r e) c d (entry_at r f) m)
    ∷ rule 10 (λ g. HeightsFall r e f m)
    ∷ []

abbrev pub rules : Refutation → ℕ → Part → List (Rule Graph)
rules r e Sequent = rule 2 (IsWellStarted r e) ∷ []
rules r e Live = rule 3 (λ g. EachNameStands (entry_at r e).traces) ∷ []
rules r e (Item a) = rule 4 (StandsIn (entry_at r e).sequent a) ∷ []
rules r e (Decided b) = branch_rules r e b.choice b.decision

-- each part of each entry keeps its rules
abbrev pub IsAccepted : Graph → Refutation → Type 0
IsAccepted g r =
    (e : ℕ) (part : Part) → e < length r.entries → IsMember part (parts (entry_at r e)) → KeepsAll (rules r e part) g

-- part k of entry e is the first one that breaks a rule, and this is the lowest one that it breaks
pub record IsFirstBad (g : Graph) (r : Refutation) (e k number : ℕ) : Type 0 where
  pub is_entry : e < length r.entries
  pub is_part : k < length (parts (entry_at r e))
  pub entries_before : (d : ℕ) (part : Part) → d < e → IsMember part (parts (entry_at r d)) → KeepsAll (rules r d part) g
  pub parts_before : (j : ℕ) → j < k → KeepsAll (rules r e (get_or (parts (entry_at r e)) j Sequent)) g
  pub broken : IsFirstBroken (rules r e (get_or (parts (entry_at r e)) k Sequent)) g number
