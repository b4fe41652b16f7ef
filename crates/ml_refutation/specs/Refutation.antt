-- Refutations, as plain data.
--
-- A refutation is a list of entries, the first of which is the start. An entry has a sequent; its traces, which are
-- items with the number of names in use, as the condition on names of `ml_trace` takes them; a height for each even
-- priority from 0 to twice the number of names; and a decision: at an or-node it splits, and each branch ends in a
-- clash, or goes along a diamond to an entry. Clashes and marks are those of `ml_sequent` and `ml_trace`, so that what
-- is asked of a refutation can be said in their words. What can be said of a refutation without a graph is said here:
-- lists ascend, names are in use, and each `go` leads to an entry; so much every refutation keeps that a program holds.
--
--   Decision            == split at an or-node, with the left and the right decision; clash; go, along a diamond, to an
--                          entry, with a mark
--   Entry, Refutation   == as above
--   nesting d           == how deep splits are nested in the decision d
--   comes_before s t    == by node, and at one node no odd priority before any, and then by it
--   AreAbove b ss       == each of the states ss comes behind the one before it, the first one behind b, if it is one
--   IsStack live ns     == the names ns, at least one, strictly ascend below live
--   IsTraced names e    == no more names are in use than there are, the items ascend, and each has a stack of names in use
--   IsDecided n k d     == each go of d leads to one of k entries, with a name of n
--   IsEntry n k e       == e is an entry of a refutation with n names and k entries
--   IsRefutation r      == r has at least one entry, and each is one of it
--   Fits n              == n is a number of 32 bits, as all numbers of a refutation are
use Rattle.std.specs.Prelude.{ℕ, ◌+◌, ◌≡◌, ◌<◌, ◌≤◌, ◌^◌, ◌==◌, ◌&&◌, ◌||◌, ⊤, Bool, true, false, nat_lt, max, List, [], ◌∷◌, Option, None, Some, IfSome, length, map, All, IsTrue}
use Rattle.ml_lists.specs.Ascending.{IsAscending}
use Rattle.ml_trace.specs.declared.letters.AutomatonState.{AutomatonState}
use Rattle.ml_trace.specs.declared.marks.Mark.{Mark}
use Rattle.ml_trace.specs.declared.marks.Mark.TheVariants.{Red, Green, Neutral}
use Rattle.ml_trace.specs.Stack as traced
use Rattle.ml_sequent.specs.declared.clashes.ClashCause.{ClashCause}
use Rattle.ml_sequent.specs.declared.clashes.ClashCause.TheVariants as cause
use Rattle.ml_refutation.specs.declared.refutation.TheConstants.{NESTING_LIMIT}

pub data Decision : Type 0 where
  Split : ℕ → Decision → Decision → Decision
  Clash : ClashCause → Decision
  Go : ℕ → ℕ → Mark → Decision

pub record Entry : Type 0 where
  pub sequent : List ℕ
  pub traces : traced.Entry AutomatonState
  pub heights : List ℕ
  pub decision : Decision

pub record Refutation : Type 0 where
  pub names : ℕ
  pub entries : List Entry

-- how deep splits are nested
abbrev pub nesting : Decision → ℕ
nesting (Split n left right) = 1 + max (nesting left) (nesting right)
nesting _ = 0

-- ---- what every refutation keeps

abbrev pub Fits : ℕ → Type 0
Fits n = n < 2 ^ 32

-- no odd priority before any, and odd priorities in their order
abbrev pub guess_before : Option ℕ → Option ℕ → Bool
guess_before None None = false
guess_before None (Some e) = true
guess_before (Some d) None = false
guess_before (Some d) (Some e) = nat_lt d e

abbrev pub comes_before : AutomatonState → AutomatonState → Bool
comes_before s t = nat_lt s.node t.node || ((s.node == t.node) && guess_before s.odd t.odd)

abbrev pub IsAbove : Option AutomatonState → AutomatonState → Type 0
IsAbove None s = ⊤
IsAbove (Some b) s = IsTrue (comes_before b s)

-- each state comes behind the one before it
abbrev pub AreAbove : Option AutomatonState → List AutomatonState → Type 0
AreAbove before [] = ⊤
AreAbove before (s ∷ ss) = IsAbove before s × AreAbove (Some s) ss

-- at least one name, strictly ascending, each below so many
pub record IsStack (live : ℕ) (names : List ℕ) : Type 0 where
  pub some : 0 < length names
  pub ascends : IsAscending names
  pub below : All (λ x. x < live) names

-- the numbers of the item fit, and its stack is one of names in use
pub record IsItem (live : ℕ) (a : traced.Item AutomatonState) : Type 0 where
  pub node_fits : Fits a.state.node
  pub guess_fits : IfSome a.state.odd Fits
  pub is_stack : IsStack live a.stack

pub record IsTraced (names : ℕ) (e : traced.Entry AutomatonState) : Type 0 where
  pub within : e.live ≤ names
  pub ascend : AreAbove None (map (λ a. a.state) e.items)
  pub are_items : All (IsItem e.live) e.items

abbrev pub FitsCause : ClashCause → Type 0
FitsCause (cause.False n) = Fits n
FitsCause (cause.Pair p q) = Fits p × Fits q
FitsCause (cause.Cycle n) = Fits n

-- the mark's name is one of so many
abbrev pub IsMarkOf : ℕ → Mark → Type 0
IsMarkOf names (Red x) = x < names
IsMarkOf names (Green x) = x < names
IsMarkOf names Neutral = ⊤

-- each go leads to one of so many entries, with one of so many names
abbrev pub IsDecided : ℕ → ℕ → Decision → Type 0
IsDecided names entries (Split n left right) = Fits n × IsDecided names entries left × IsDecided names entries right
IsDecided names entries (Clash x) = FitsCause x
IsDecided names entries (Go d e m) = Fits d × (e < entries) × IsMarkOf names m

pub record IsEntry (names entries : ℕ) (e : Entry) : Type 0 where
  pub nodes_fit : All Fits e.sequent
  pub ascends : IsAscending e.sequent
  pub is_traced : IsTraced names e.traces
  pub heights_fit : All Fits e.heights
  pub a_height_each : length e.heights ≡ names + 1
  pub is_decided : IsDecided names entries e.decision
  pub nested : nesting e.decision ≤ NESTING_LIMIT

pub record IsRefutation (r : Refutation) : Type 0 where
  pub names_fit : Fits r.names
  pub has_start : 0 < length r.entries
  pub entries_fit : Fits (length r.entries)
  pub are_entries : All (IsEntry r.names (length r.entries)) r.entries
