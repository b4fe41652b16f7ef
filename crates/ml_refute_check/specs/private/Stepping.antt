-- What a branch keeps of what was made on it last. (Private: nobody has to believe it.)
--
--   list_at ls p      == the list at the place p of ls
--   KeptList          == a branch, and the sequents with which it may begin
--   IsOwn b sp        == sp is a spread of the sequent of the branch b
--   IsBegun b qs p    == b began with the sequent at the place p of qs: its spreads, now and before each choice, are of it
--   AreTargets g sp d ns == ns are the targets along the diamond d of the spread sp
--   IsStepFrom g C sp s == s has the traces along its diamond of the spread sp of C from its sources, and its targets if any
--   IsStepOn b s      == s is that of the branch b, its traces sorted by target
use Rattle.std.specs.Prelude.{◌≡◌, ◌↔◌, ℕ, List, [], All, IfSome, slice_index_or}
use Rattle.ml_lists.specs.Member.{IsMember}
use Rattle.ml_graph.specs.Graph.{Graph}
use Rattle.ml_trace.specs.declared.letters.Triple.{Triple}
use Rattle.ml_sequent.specs.Branch.{BranchList}
use Rattle.ml_sequent.specs.Spread.{SpreadList, IsSpreadOf, IsSpread}
use Rattle.ml_sequent.specs.Step.{IsTarget, IsTrace}
use Rattle.ml_refute_check.specs.declared.stepping.KeptStep.{KeptStep}
use Rattle.ml_refute_check.specs.private.Sources.{RiseByTarget}

-- the list at a place
abbrev pub list_at : List (List ℕ) → ℕ → List ℕ
list_at lists place = slice_index_or lists place []

-- a branch, and the sequents with which it may begin
pub record KeptList : Type 0 where
  pub on : BranchList
  pub sequents : List (List ℕ)

-- a spread of the sequent of the branch
abbrev pub IsOwn : BranchList → SpreadList → Type 0
IsOwn b sp = IsSpreadOf b.graph b.sequent sp.choice sp × IsSpread b.graph sp

-- the branch began with the sequent at this place
pub record IsBegun (b : BranchList) (sequents : List (List ℕ)) (place : ℕ) : Type 0 where
  pub sequent : b.sequent ≡ list_at sequents place
  pub spread : IsOwn b b.spread
  pub before : All (IsOwn b) b.before

-- the targets along a diamond
abbrev pub AreTargets : Graph → SpreadList → ℕ → List ℕ → Type 0
AreTargets g sp d targets = (m : ℕ) → IsMember m targets ↔ IsTarget g sp d m

-- the local traces along the diamond of a step from its sources, and all its targets if they are kept
pub record IsStepFrom (g : Graph) (C : List ℕ) (sp : SpreadList) (s : KeptStep) : Type 0 where
  pub targets : IfSome s.targets (AreTargets g sp s.diamond)
  pub traces : (t : Triple) → IsMember t s.traces.items ↔ (IsMember t.from s.sources × IsTrace g C sp s.diamond t)

-- that of a branch, its traces sorted by target
pub record IsStepOn (b : BranchList) (s : KeptStep) : Type 0 where
  pub step : IsStepFrom b.graph b.sequent b.spread s
  pub rise : RiseByTarget s.traces.items
