-- Strongly connected parts of what is not below a floor. Only private contracts and proofs cite what stands here.
--
-- Nodes are walked depth first along a path, and what lies on it is known to be connected frame by frame: of a frame each
-- node leads to each other one. Targets of the nodes on the path wait until they are looked at. One that is on the path
-- already joins all frames behind it to its own; a frame of which nothing waits any more is a part, and is done.
--
--   IsChild g c d n m   == m is a local child of n, and not below the floor d
--   Reaches g c d n m   == a local walk leads from n to m through nodes that are not below d
--   HasStages g x       == the walk x has room for the nodes of g
--   stage_of x n        == what is known of node n: new, at a place of the path, or done
--   first_frame frames  == the first one of the list, if there is one
--   IsFramed n k frames == the frames, the last one first, divide n nodes on the path and k targets that wait
--   AreTogether frames p q == no frame begins behind the place p and at q at the latest
--   Led, Owner          == where a child of a node on the path is; whose child a target that waits is
--   IsUnder g c d nodes extra x == a walk among the nodes is under way, and the nodes `extra` are looked at just now
--   high_children g c d n == the children that are not below d
--   begun n x           == the walk with the node n behind the path, in a frame of its own
--   folded w frames     == the frames without those that begin behind the place w
--   gone g c d m x      == the walk with the target m looked at
--   shut F rest x       == the walk with the last frame F done
--   all_done ns stages  == the stages where the nodes ns are done
--   is_new s, left_new n stages == is it new; how many of n nodes are new
--   IsLeast P o         == o is the least number with P, if there is one
--   IsLoop g c d n      == n has the priority d, and is on a cycle
--   IsDoneLoop g c d nodes x n == and is done
--   IsLoopIn g c nodes ds n == n is one of the nodes, with one of the priorities ds, on a cycle
--   IsCyclic g c part   == a part with a cycle: two nodes, or one that is its own child
--   lesser o p, offered g d ns o == the lesser of two; the least of o and the nodes ns with priority d
--   IsClosedIn g c nodes == the nodes are nodes of g, and have their local children
--   IsFit g x           == what a step needs to know
--   IsPart              == the walk is under way, and the least such node of those that are done is known
--   WentOn, Began       == what a step of the walk did, and what its beginning at a node did
use Rattle.std.specs.Prelude.{ℕ, ◌≡◌, ◌==◌, ◌+◌, ◌*◌, ◌<◌, ◌≤◌, ◌⊎◌, Bool, true, false, List, [], ◌∷◌, ◌++◌, Option, Some, None}
use Rattle.std.specs.Prelude.{MatchOption, filter, length, get_or, set, take, drop, nat_le, nat_lt, if◌then◌else◌}
use Rattle.ml_lists.specs.Counting.{count}
use Rattle.ml_lists.specs.Member.{IsMember}
use Rattle.ml_graph.specs.Graph.{Graph, size, priority_at}
use Rattle.ml_sequent.specs.declared.choice.Side.{Side}
use Rattle.ml_sequent.specs.declared.parts.Frame.{Frame}
use Rattle.ml_sequent.specs.declared.parts.Stage.{Stage}
use Rattle.ml_sequent.specs.declared.parts.Stage.TheVariants.{New, On, Done}
use Rattle.ml_sequent.specs.LocalWalk.{LocalWalk, children}
use Rattle.ml_sequent.specs.Spread.{OnCycle}

-- m is a local child of n, and not below the floor
abbrev pub IsChild : Graph → List (ℕ × Side) → ℕ → ℕ → ℕ → Type 0
IsChild g c d n m = IsMember m (children g c n) × (d ≤ priority_at g m)

-- a local walk through nodes that are not below the floor
pub record Reaches (g : Graph) (c : List (ℕ × Side)) (d n m : ℕ) : Type 0 where
  pub lowest : ℕ
  pub walk : LocalWalk g c n lowest m
  pub high : d ≤ lowest

-- ---- the walk as contracts see it, the last frame first

pub record WalkList : Type 0 where
  pub path : List ℕ
  pub waiting : List ℕ
  pub frames : List Frame
  pub stages : List Stage

-- a walk has room for the nodes of g
abbrev pub HasStages : Graph → WalkList → Type 0
HasStages g x = length x.stages ≡ size g

-- what is known of a node
abbrev pub stage_of : WalkList → ℕ → Stage
stage_of x n = get_or x.stages n New

-- the frames divide the path and what waits
abbrev pub IsFramed : ℕ → ℕ → List Frame → Type 0
IsFramed n k [] = (n ≡ 0) × (k ≡ 0)
IsFramed n k (f ∷ fs) = (f.first < n) × (f.waits ≤ k) × IsFramed f.first f.waits fs

-- the first one of a list of frames
abbrev pub first_frame : List Frame → Option Frame
first_frame [] = None
first_frame (f ∷ fs) = Some f

-- no frame begins between two places
abbrev pub AreTogether : List Frame → ℕ → ℕ → Type 0
AreTogether frames p q = (f : Frame) → IsMember f frames → (f.first ≤ p) ⊎ (q < f.first)

-- where a child of a node of the frame f, or of a later one, is
pub data Led (x : WalkList) (extra : List ℕ) (f : Frame) (m : ℕ) : Type 0 where
  is_done : stage_of x m ≡ Done → Led x extra f m
  is_on : (q : ℕ) → stage_of x m ≡ On q → f.first ≤ q → Led x extra f m
  waits : (k : ℕ) → f.waits ≤ k → k < length x.waiting → get_or x.waiting k 0 ≡ m → Led x extra f m
  looked_at : IsMember m extra → Led x extra f m

-- whose child the target with the place k among those that wait is
pub record Owner (g : Graph) (c : List (ℕ × Side)) (d : ℕ) (x : WalkList) (k : ℕ) : Type 0 where
  pub place : ℕ
  pub low : place < length x.path
  pub child : IsChild g c d (get_or x.path place 0) (get_or x.waiting k 0)
  pub framed : (f : Frame) → IsMember f x.frames → (f.waits ≤ k → f.first ≤ place) × (k < f.waits → place < f.first)

-- a walk is under way
pub record IsUnder (g : Graph) (c : List (ℕ × Side)) (d : ℕ) (nodes extra : List ℕ) (x : WalkList) : Type 0 where
  pub sized : length x.stages ≡ size g
  pub inside : (p : ℕ) → p < length x.path
      → IsMember (get_or x.path p 0) nodes × (d ≤ priority_at g (get_or x.path p 0)) × (stage_of x (get_or x.path p 0) ≡ On p)
  pub placed : (n p : ℕ) → IsMember n nodes → stage_of x n ≡ On p → (p < length x.path) × (get_or x.path p 0 ≡ n)
  pub forth : (p q : ℕ) → p ≤ q → q < length x.path → Reaches g c d (get_or x.path p 0) (get_or x.path q 0)
  pub back : (p q : ℕ) → p ≤ q → q < length x.path → AreTogether x.frames p q
      → Reaches g c d (get_or x.path q 0) (get_or x.path p 0)
  pub closed : (n m : ℕ) → IsMember n nodes → stage_of x n ≡ Done → IsChild g c d n m → stage_of x m ≡ Done
  pub leads : (f : Frame) → IsMember f x.frames → (p m : ℕ) → f.first ≤ p → p < length x.path
      → IsChild g c d (get_or x.path p 0) m → Led x extra f m
  pub owned : (k : ℕ) → k < length x.waiting → Owner g c d x k
  pub framed : IsFramed (length x.path) (length x.waiting) x.frames

-- the target m is looked at, a child of a node of the last frame
pub record Coming (g : Graph) (c : List (ℕ × Side)) (d : ℕ) (x : WalkList) (m : ℕ) : Type 0 where
  pub place : ℕ
  pub low : place < length x.path
  pub child : IsChild g c d (get_or x.path place 0) m
  pub last : (f : Frame) → IsMember f x.frames → f.first ≤ place

-- ---- steps

-- the children that are not below the floor
abbrev pub high_children : Graph → List (ℕ × Side) → ℕ → ℕ → List ℕ
high_children g c d n = filter (λ m. nat_le d (priority_at g m)) (children g c n)

abbrev pub begun : ℕ → WalkList → WalkList
begun n x = record {
  path = x.path ++ n ∷ [];
  waiting = x.waiting;
  frames = record { first = length x.path; waits = length x.waiting } ∷ x.frames;
  stages = set x.stages n (On (length x.path));
}

abbrev pub awaiting : List ℕ → WalkList → WalkList
awaiting ms x = record { path = x.path; waiting = x.waiting ++ ms; frames = x.frames; stages = x.stages }

-- the node n with its children
abbrev pub entered : Graph → List (ℕ × Side) → ℕ → ℕ → WalkList → WalkList
entered g c d n x = awaiting (high_children g c d n) (begun n x)

-- without the frames that begin behind the place w
abbrev pub folded : ℕ → List Frame → List Frame
folded w [] = []
folded w (f ∷ fs) = if nat_lt w f.first then folded w fs else f ∷ fs

abbrev pub folded_to : ℕ → WalkList → WalkList
folded_to w x = record { path = x.path; waiting = x.waiting; frames = folded w x.frames; stages = x.stages }

-- a target is looked at: it goes behind the path, or joins frames, or is left
abbrev pub gone_by : Stage → Graph → List (ℕ × Side) → (d m : ℕ) → WalkList → WalkList
gone_by New g c d m x = entered g c d m x
gone_by (On w) g c d m x = folded_to w x
gone_by Done g c d m x = x

abbrev pub gone : Graph → List (ℕ × Side) → (d m : ℕ) → WalkList → WalkList
gone g c d m x = gone_by (stage_of x m) g c d m x

abbrev pub all_done : List ℕ → List Stage → List Stage
all_done [] stages = stages
all_done (n ∷ ns) stages = all_done ns (set stages n Done)

-- the last frame f is done
abbrev pub shut : Frame → List Frame → WalkList → WalkList
shut f rest x = record {
  path = take f.first x.path;
  waiting = x.waiting;
  frames = rest;
  stages = all_done (drop f.first x.path) x.stages;
}

-- ---- what is left

abbrev pub is_new : Stage → Bool
is_new New = true
is_new (On p) = false
is_new Done = false

abbrev pub left_new : ℕ → List Stage → ℕ
left_new n stages = count (λ k. is_new (get_or stages k New)) n

-- what each step of the walk lessens
abbrev pub walk_left : WalkList → ℕ
walk_left x = 4 * left_new (length x.stages) x.stages + length x.waiting + length x.frames

-- ---- what is found

-- the least number with P, if there is one
abbrev pub IsLeast : (ℕ → Type 0) → Option ℕ → Type 0
IsLeast P o = MatchOption o ((n : ℕ) → ¬ (P n)) (λ n. P n × ((m : ℕ) → P m → n ≤ m))

-- a node of priority d on a cycle
abbrev pub IsLoop : Graph → List (ℕ × Side) → ℕ → ℕ → Type 0
IsLoop g c d n = (priority_at g n ≡ d) × OnCycle g c n

-- one of those that are done
abbrev pub IsDoneLoop : Graph → List (ℕ × Side) → ℕ → List ℕ → WalkList → ℕ → Type 0
IsDoneLoop g c d nodes x n = IsMember n nodes × (stage_of x n ≡ Done) × IsLoop g c d n

-- a node with one of these priorities, on a cycle
abbrev pub IsLoopIn : Graph → List (ℕ × Side) → (nodes priorities : List ℕ) → ℕ → Type 0
IsLoopIn g c nodes priorities n = IsMember n nodes × IsMember (priority_at g n) priorities × OnCycle g c n

-- the nodes are more than one, or the first one is its own child
abbrev pub IsCyclic : Graph → List (ℕ × Side) → List ℕ → Type 0
IsCyclic g c part = (1 < length part) ⊎ IsMember (get_or part 0 0) (children g c (get_or part 0 0))

-- the lesser of two, where there are two
abbrev pub lesser : Option ℕ → Option ℕ → Option ℕ
lesser None o = o
lesser (Some n) None = Some n
lesser (Some n) (Some m) = if nat_lt m n then Some m else Some n

-- the least of the nodes with priority d, and one more
abbrev pub offered : Graph → ℕ → List ℕ → Option ℕ → Option ℕ
offered g d [] best = best
offered g d (n ∷ ns) best = offered g d ns (if priority_at g n == d then lesser best (Some n) else best)

-- nodes of the graph that have their local children
pub record IsClosedIn (g : Graph) (c : List (ℕ × Side)) (nodes : List ℕ) : Type 0 where
  pub low : (n : ℕ) → IsMember n nodes → n < size g
  pub closed : (n m : ℕ) → IsMember n nodes → IsMember m (children g c n) → IsMember m nodes

-- what a step needs to know of the walk
pub record IsFit (g : Graph) (x : WalkList) : Type 0 where
  pub sized : length x.stages ≡ size g
  pub path_low : (n : ℕ) → IsMember n x.path → n < size g
  pub waiting_low : (n : ℕ) → IsMember n x.waiting → n < size g
  pub framed : IsFramed (length x.path) (length x.waiting) x.frames

-- the walk is under way, and the least loop of the nodes that are done is known
pub record IsPart (g : Graph) (c : List (ℕ × Side)) (d : ℕ) (nodes : List ℕ) (x : WalkList) (best : Option ℕ) : Type 0 where
  pub under : IsUnder g c d nodes [] x
  pub least : IsLeast (IsDoneLoop g c d nodes x) best

-- the walk went on from x to y, with fewer steps left
pub record WentOn (g : Graph) (c : List (ℕ × Side)) (d : ℕ) (nodes : List ℕ) (x y : WalkList) (best : Option ℕ) : Type 0 where
  pub part : IsPart g c d nodes y best
  pub falls : walk_left y < walk_left x
  pub fresh : (n : ℕ) → IsMember n nodes → stage_of y n ≡ New → stage_of x n ≡ New

-- the walk began at a node, unless it is below the floor or was met before
pub record Began (g : Graph) (c : List (ℕ × Side)) (d : ℕ) (nodes : List ℕ) (n : ℕ) (x y : WalkList) (best : Option ℕ) : Type 0 where
  pub part : IsPart g c d nodes y best
  pub fresh : (k : ℕ) → IsMember k nodes → stage_of y k ≡ New → stage_of x k ≡ New
  pub met : d ≤ priority_at g n → stage_of y n ≡ New → ⊥
