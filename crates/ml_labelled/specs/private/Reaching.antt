-- How the states that are reached are found, and how the others are left out.
--
--   mark marks n              == is n marked?
--   targets es                == where the edges lead
--   IsSpread ts ms ws ns us   == what is listed in ts was visited: the marks ms became ns, and the numbers ws that wait us
--   IsWalk a ms ws            == a walk through the automaton a is under way
--   left ms                   == how many numbers aren't marked
--   AreMarked a ms            == the states that are reached are marked, and nothing else
--   rank ms n                 == how many numbers below n are marked
--   retargeted numbers e      == the edge e, to the number that its target gets
--   AreRetargetedTo, RowsAreRetargetedTo == so it is of the first edges, and of those of the first rows
--   TargetsFit n rows         == all edges lead to numbers below n
--   moved, IsPart ms a b      == b has the states of a with marks, by their ranks
--   IsKept ms rows kept       == the rows with marks are kept, in their order
--   IsKeptTo p at ms old rows == so are those of the first p, in front
use Rattle.std.specs.Prelude.{ℕ, ◌≡◌, ◌+◌, ◌*◌, ◌<◌, ◌≤◌, ◌⊎◌, Bool, true, false, not, List, length, map, get_or}
use Rattle.ml_lists.specs.Counting.{count}
use Rattle.ml_lists.specs.Member.{IsMember}
use Rattle.ml_labelled.specs.Labelled.{Automaton, Edge, IsReached, edges_of}
use Rattle.std.specs.Global.{Vec}
use Rattle.ml_labelled.specs.private.Views.{edge_of, edges_in}
use Rattle.ml_labelled.specs.declared.labelled.CubeEdge.{CubeEdge}

abbrev pub mark : List Bool → ℕ → Bool
mark marks n = get_or marks n false

abbrev pub targets : List CubeEdge → List ℕ
targets es = map (λ (e : CubeEdge). e.to) es

abbrev pub left : List Bool → ℕ
left marks = count (λ n. not (mark marks n)) (length marks)

-- ---- a walk

pub record IsSpread (ts : List ℕ) (before : List Bool) (waited : List ℕ) (marks : List Bool) (waiting : List ℕ) : Type 0 where
  pub as_long : length marks ≡ length before
  pub kept : (n : ℕ) → mark before n ≡ true → mark marks n ≡ true
  pub visited : (n : ℕ) → IsMember n ts → mark marks n ≡ true
  pub from : (n : ℕ) → mark marks n ≡ true → (mark before n ≡ true) ⊎ IsMember n ts
  pub still : (n : ℕ) → IsMember n waited → IsMember n waiting
  pub new_wait : (n : ℕ) → mark marks n ≡ true → (mark before n ≡ true) ⊎ IsMember n waiting
  pub waits : (n : ℕ) → IsMember n waiting → IsMember n waited ⊎ IsMember n ts
  pub less : 2 * left marks + length waiting ≤ 2 * left before + length waited

pub record IsWalk (a : Automaton) (marks : List Bool) (waiting : List ℕ) : Type 0 where
  pub as_long : length marks ≡ length a.edges
  pub started : mark marks 0 ≡ true
  pub reached : (n : ℕ) → mark marks n ≡ true → IsReached a n
  pub states : (n : ℕ) → IsMember n waiting → n < length a.edges
  pub are_reached : (n : ℕ) → IsMember n waiting → IsReached a n
  pub closed : (n : ℕ) (e : Edge)
      → mark marks n ≡ true
      → IsMember e (edges_of a n)
      → IsMember n waiting ⊎ (mark marks e.to ≡ true)

pub record AreMarked (a : Automaton) (marks : List Bool) : Type 0 where
  pub as_long : length marks ≡ length a.edges
  pub started : mark marks 0 ≡ true
  pub reached : (n : ℕ) → mark marks n ≡ true → IsReached a n
  pub closed : (n : ℕ) (e : Edge) → mark marks n ≡ true → IsMember e (edges_of a n) → mark marks e.to ≡ true

-- ---- numbers

abbrev pub rank : List Bool → ℕ → ℕ
rank marks n = count (mark marks) n

pub record AreRanks (marks : List Bool) (numbers : List ℕ) : Type 0 where
  pub as_long : length numbers ≡ length marks
  pub are : (n : ℕ) → n < length marks → get_or numbers n 0 ≡ rank marks n

abbrev pub retargeted : List ℕ → Edge → Edge
retargeted numbers e = record { cube = e.cube; to = get_or numbers e.to 0; accepting = e.accepting }

pub record IsKept {X : Type 0} (marks : List Bool) (rows kept : List X) : Type 0 where
  pub as_many : length kept ≡ rank marks (length marks)
  pub at_rank : (n : ℕ) (d : X) → n < length marks → mark marks n ≡ true → get_or kept (rank marks n) d ≡ get_or rows n d

-- those of the first p rows are kept so far, in front
pub record IsKeptTo {X : Type 0} (p at : ℕ) (marks : List Bool) (old rows : List X) : Type 0 where
  pub at_is : at ≡ rank marks p
  pub as_long : length rows ≡ length old
  pub kept : (n : ℕ) (d : X) → n < p → mark marks n ≡ true → get_or rows (rank marks n) d ≡ get_or old n d
  pub ahead : (n : ℕ) (d : X) → p ≤ n → get_or rows n d ≡ get_or old n d

-- ---- targets

-- the first i edges lead to new numbers so far
pub record AreRetargetedTo (i : ℕ) (numbers : List ℕ) (old es : List CubeEdge) : Type 0 where
  pub as_long : length es ≡ length old
  pub done : (k : ℕ) (d : CubeEdge) → k < i → edge_of (get_or es k d) ≡ retargeted numbers (edge_of (get_or old k d))
  pub ahead : (k : ℕ) (d : CubeEdge) → i ≤ k → get_or es k d ≡ get_or old k d

-- so do those of the first i rows
pub record RowsAreRetargetedTo (i : ℕ) (numbers : List ℕ) (old rows : List (Vec CubeEdge)) : Type 0 where
  pub as_long : length rows ≡ length old
  pub done : (k : ℕ) (d : Vec CubeEdge) → k < i
      → edges_in (get_or rows k d) ≡ map (retargeted numbers) (edges_in (get_or old k d))
  pub ahead : (k : ℕ) (d : Vec CubeEdge) → i ≤ k → get_or rows k d ≡ get_or old k d

abbrev pub TargetsFit : ℕ → List (List Edge) → Type 0
TargetsFit n rows = (es : List Edge) (e : Edge) → IsMember es rows → IsMember e es → e.to < n

-- ---- parts

-- the edge leads to the rank of its target
abbrev pub moved : List Bool → Edge → Edge
moved marks e = record { cube = e.cube; to = rank marks e.to; accepting = e.accepting }

-- b is the part of a with these marks
pub record IsPart (marks : List Bool) (a b : Automaton) : Type 0 where
  pub props : b.props ≡ a.props
  pub as_many : length b.edges ≡ rank marks (length a.edges)
  pub rows : (p : ℕ) → p < length a.edges → mark marks p ≡ true → edges_of b (rank marks p) ≡ map (moved marks) (edges_of a p)
