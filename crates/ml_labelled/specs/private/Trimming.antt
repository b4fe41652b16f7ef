-- How edges are left out, and flags changed.
--
-- A guide says of the states in which order they come, and which of them are dead or full. Edges into dead states are left
-- out, and edges that others cover. On full states flags are set; that of an edge that comes to a later state is free, and is
-- set where this one is full, so that a state has the edges of one to whose loop it leads, if it can.
--
--   order_of, depth_of g p, is_dead, is_full g p == what the guide g says of the state p
--   IsGuided g p e        == it is right about the edge e of the state p, as to dead states (KeepsDead) and full ones
--                            (KeepsFull)
--   Guides g rows         == it is right about all edges
--   flag_of g p q b       == the flag of an edge from p to q whose flag was b
--   flagged g p e         == the edge e of p with this flag
--   Covers f e            == the edge f may be taken wherever e may, to the same state, and accepts if e does
--   IsCovered e es        == so does one of es
--   IsTrimmed g p old new == the edges of p, trimmed
--   AreTrimmedTo g i old rows == those of the first i rows, the others as they were
--   AreTrimmed g old rows == those of all rows
--   IsKept g p e old new  == the edge e of p was added, with its flag, to those that are kept, if it leads to no dead state and
--                            none covers it
--   AreKept g p old left new == so were all of old but those that are left
--   IsTrimming old rows   == the rows are trimmed by some guide that is right, or are as they were
use Rattle.std.specs.Prelude.{ℕ, ◌≡◌, ◌<◌, ◌≤◌, ◌⊎◌, Bool, true, false, List, [], length, get_or, if◌then◌else◌, nat_lt}
use Rattle.std.specs.Global.{Vec}
use Rattle.ml_lists.specs.Member.{IsMember}
use Rattle.ml_labelled.specs.Labelled.{Edge}
use Rattle.ml_labelled.specs.declared.guide.Guide.{Guide}
use Rattle.ml_labelled.specs.declared.labelled.CubeEdge.{CubeEdge}
use Rattle.ml_labelled.specs.declared.labelled.Literal.{Literal}
use Rattle.ml_labelled.specs.private.Views.{edges_in}

abbrev pub order_of : Guide → ℕ → ℕ
order_of g p = get_or g.order.items p 0

abbrev pub depth_of : Guide → ℕ → ℕ
depth_of g p = get_or g.depth.items p 0

abbrev pub is_dead : Guide → ℕ → Bool
is_dead g p = get_or g.dead.items p false

abbrev pub is_full : Guide → ℕ → Bool
is_full g p = get_or g.full.items p false

-- ---- what is right

pub record LeadsDead (g : Guide) (p : ℕ) (e : Edge) : Type 0 where
  pub stays : is_dead g e.to ≡ true
  pub rises : e.accepting ≡ true → order_of g p < order_of g e.to

pub record LeadsFull (g : Guide) (p : ℕ) (e : Edge) : Type 0 where
  pub stays : is_full g e.to ≡ true
  pub accepts : (e.accepting ≡ true) ⊎ (depth_of g p < depth_of g e.to)

abbrev pub KeepsDead : Guide → ℕ → Edge → Type 0
KeepsDead g p e = is_dead g p ≡ true → LeadsDead g p e

abbrev pub KeepsFull : Guide → ℕ → Edge → Type 0
KeepsFull g p e = is_full g p ≡ true → order_of g e.to ≡ order_of g p → LeadsFull g p e

pub record IsGuided (g : Guide) (p : ℕ) (e : Edge) : Type 0 where
  pub no_fall : order_of g p ≤ order_of g e.to
  pub keeps_dead : KeepsDead g p e
  pub keeps_full : KeepsFull g p e

abbrev pub Guides : Guide → List (List Edge) → Type 0
Guides g rows = (p : ℕ) (e : Edge) → IsMember e (get_or rows p []) → IsGuided g p e

-- ---- what is made of them

abbrev pub flag_of : Guide → ℕ → ℕ → Bool → Bool
flag_of g p to accepting =
    if nat_lt (order_of g p) (order_of g to) then is_full g to else (if is_full g p then true else accepting)

abbrev pub flagged : Guide → ℕ → Edge → Edge
flagged g p e = record { cube = e.cube; to = e.to; accepting = flag_of g p e.to e.accepting }

pub record Covers (f e : Edge) : Type 0 where
  pub same_end : f.to ≡ e.to
  pub accepts : e.accepting ≡ true → f.accepting ≡ true
  pub weaker : (l : Literal) → IsMember l f.cube → IsMember l e.cube

abbrev pub IsCovered : Edge → List Edge → Type 0
IsCovered e es = (f : Edge) × IsMember f es × Covers f e

pub record IsTrimmed (g : Guide) (p : ℕ) (old new : List Edge) : Type 0 where
  pub there : (e : Edge) → IsMember e old → (is_dead g e.to ≡ true) ⊎ IsCovered (flagged g p e) new
  pub back : (f : Edge) → IsMember f new → (e : Edge) × IsMember e old × (f ≡ flagged g p e)

pub record AreTrimmedTo (g : Guide) (i : ℕ) (old rows : List (Vec CubeEdge)) : Type 0 where
  pub as_long : length rows ≡ length old
  pub done : (k : ℕ) (d : Vec CubeEdge) → k < i → IsTrimmed g k (edges_in (get_or old k d)) (edges_in (get_or rows k d))
  pub ahead : (k : ℕ) (d : Vec CubeEdge) → i ≤ k → get_or rows k d ≡ get_or old k d

pub record AreTrimmed (g : Guide) (old rows : List (List Edge)) : Type 0 where
  pub as_long : length rows ≡ length old
  pub trimmed : (p : ℕ) → IsTrimmed g p (get_or old p []) (get_or rows p [])

-- ---- edge by edge

pub record IsKept (g : Guide) (p : ℕ) (e : Edge) (old new : List Edge) : Type 0 where
  pub there : (is_dead g e.to ≡ true) ⊎ IsCovered (flagged g p e) new
  pub still : (f : Edge) → IsMember f old → IsMember f new
  pub from : (f : Edge) → IsMember f new → IsMember f old ⊎ (f ≡ flagged g p e)

pub record AreKept (g : Guide) (p : ℕ) (old left new : List Edge) : Type 0 where
  pub there : (e : Edge) → IsMember e old → IsMember e left ⊎ ((is_dead g e.to ≡ true) ⊎ IsCovered (flagged g p e) new)
  pub waits : (e : Edge) → IsMember e left → IsMember e old
  pub from : (f : Edge) → IsMember f new → (e : Edge) × IsMember e old × (f ≡ flagged g p e)

pub data IsTrimming (old rows : List (List Edge)) : Type 0 where
  by_guide : (g : Guide) → Guides g old → AreTrimmed g old rows → IsTrimming old rows
  unchanged : rows ≡ old → IsTrimming old rows
