-- The steps of the search for heights. Only private contracts cite them.
--
-- For one priority p the search keeps a number for each vertex, and raises it along arcs until no arc raises one. Each
-- number is the count of some walk. A number above the number of vertices shows a loop; then a walk back along arcs of
-- at least p is sought for each arc of priority p, from where it shall end.
--
--   SettledAlong p f a     == along the arc a the number does not rise, and falls by one if its priority is p
--   Settled g p f          == so along each arc of g of priority at least p
--   LoopAt g p             == an arc of priority p, and a walk along arcs of at least p from its end back to where it begins
--   AreAttained g p xs     == each number is the count of some walk from its vertex, and at most the number of vertices
--   room n xs              == by how much the numbers stay below n, in all
--   RaisesAlong g p old new a how == what was made of the numbers along the arc a
--   IsPass g p old new i how == what a pass over the first i arcs made of the numbers
--   IsColumn g p xs        == the numbers are the largest counts for p
--   AreLongestBelow g n rows == the rows have the first n numbers, and these are the largest
--   IsAppended old column n new == the first n rows have one number more each, from the column
--   Comes steps i goal v   == v is the goal, or one of the first i steps leaves it
--   LeadBack steps goal    == each step leads to the goal, or to where an earlier step begins
--   Chain v xs w           == the arcs lead from v to w one after the other
--   IsWay steps v w xs     == so do these, each of which is among the steps
--   IsHigh g p a           == a is an arc of g of priority at least p
--   IsSearch g p goal found steps == the steps lead back to the goal, and what is found is where they begin
--   missing found          == how many vertices are not found
--   FoundAlong p found a   == what leads to what is found along a is found
--   FindsAlong p old new a changed == what was found along a
--   IsSpread g p old new i changed == what was found along the first i arcs
use Rattle.std.specs.Prelude.{ℕ, ◌≡◌, ◌+◌, ◌-◌, ◌*◌, ◌<◌, ◌≤◌, ◌⊎◌, List, [], ◌∷◌, ◌++◌, length, get_or, Contains, All, Bool, true, false, cond}
use Rattle.std.specs.List.{sum_by}
use Rattle.ml_parity.specs.declared.one_sided.graph.Arc.{Arc}
use Rattle.ml_parity.specs.declared.one_sided.search.Pass.{Pass}
use Rattle.ml_parity.specs.declared.one_sided.search.Pass.TheVariants.{Stays, Raised, TooHigh}
use Rattle.ml_parity.specs.OneSided.{OneSidedGraph, IsWalk, count_at, Attained, IsMost}
use Rattle.ml_parity.specs.private.SinkGame.{flag_at}

-- along the arc a the number does not rise, and falls by one if the priority of a is p
abbrev pub SettledAlong : ℕ → (ℕ → ℕ) → Arc → Type 0
SettledAlong p f a = p ≤ a.priority → count_at p (a ∷ []) + f a.to ≤ f a.from

-- so along each arc of g of priority at least p
abbrev pub Settled : OneSidedGraph → ℕ → (ℕ → ℕ) → Type 0
Settled g p f = All (SettledAlong p f) g.arcs

-- an arc of priority p, and a walk along arcs of at least p from its end back to where it begins
pub record LoopAt (g : OneSidedGraph) (p : ℕ) : Type 0 where
  pub arc : Arc
  pub member : Contains g.arcs arc
  pub level : arc.priority ≡ p
  pub back : List Arc
  pub leads : IsWalk g p arc.to back arc.from

-- ---- raising numbers

-- the number of vertex v
abbrev pub number_at : List ℕ → ℕ → ℕ
number_at xs v = get_or xs v 0

-- each number is the count of some walk from its vertex, and at most the number of vertices
pub record AreAttained (g : OneSidedGraph) (p : ℕ) (xs : List ℕ) : Type 0 where
  pub size : length xs ≡ g.size
  pub low : (v : ℕ) → number_at xs v ≤ g.size
  pub attained : (v : ℕ) → Attained g p v (number_at xs v)

-- by how much the numbers stay below n, in all
abbrev pub room : ℕ → List ℕ → ℕ
room n xs = sum_by (λ x. n - x) xs

-- no number was raised, since that of a is right; or one was; or there is a loop
abbrev pub RaisesAlong : OneSidedGraph → ℕ → List ℕ → List ℕ → Arc → Pass → Type 0
RaisesAlong g p old new a Stays = (new ≡ old) × SettledAlong p (number_at new) a
RaisesAlong g p old new a Raised = room g.size new < room g.size old
RaisesAlong g p old new a TooHigh = LoopAt g p

-- no number was raised, since none was to be raised along the first i arcs; or some was; or there is a loop
abbrev pub IsPass : OneSidedGraph → ℕ → List ℕ → List ℕ → ℕ → Pass → Type 0
IsPass g p old new i Stays = (new ≡ old) × ((k : ℕ) (d : Arc) → k < i → SettledAlong p (number_at new) (get_or g.arcs k d))
IsPass g p old new i Raised = room g.size new < room g.size old
IsPass g p old new i TooHigh = LoopAt g p

-- the numbers are the largest counts for p
pub record IsColumn (g : OneSidedGraph) (p : ℕ) (xs : List ℕ) : Type 0 where
  pub size : length xs ≡ g.size
  pub most : (v : ℕ) → v < g.size → IsMost g p v (number_at xs v)

-- the rows have the first n numbers, and these are the largest
pub record AreLongestBelow (g : OneSidedGraph) (n : ℕ) (rows : List (List ℕ)) : Type 0 where
  pub vertices : length rows ≡ g.size
  pub numbers : (v : ℕ) → v < g.size → length (get_or rows v []) ≡ n
  pub most : (k v : ℕ) → k < n → v < g.size → IsMost g (2 * k) v (get_or (get_or rows v []) k 0)

-- the first n rows have one number more each, from the column, and the others are as they were
pub record IsAppended (old : List (List ℕ)) (column : List ℕ) (n : ℕ) (new : List (List ℕ)) : Type 0 where
  pub size : length new ≡ length old
  pub longer : (v : ℕ) → v < n → get_or new v [] ≡ get_or old v [] ++ get_or column v 0 ∷ []
  pub later : (v : ℕ) → n ≤ v → get_or new v [] ≡ get_or old v []

-- ---- looking for a walk back

-- v is the goal, or one of the first i steps leaves it
abbrev pub Comes : List Arc → ℕ → ℕ → ℕ → Type 0
Comes steps i goal v = (v ≡ goal) ⊎ ((k : ℕ) × (k < i) × ((d : Arc) → (get_or steps k d).from ≡ v))

-- each step leads to the goal, or to where an earlier step begins
abbrev pub LeadBack : List Arc → ℕ → Type 0
LeadBack steps goal = (k : ℕ) (d : Arc) → k < length steps → Comes steps k goal (get_or steps k d).to

-- the arcs lead from v to w one after the other
abbrev pub Chain : ℕ → List Arc → ℕ → Type 0
Chain v [] w = v ≡ w
Chain v (a ∷ rest) w = (a.from ≡ v) × Chain a.to rest w

-- the arcs, each among the steps, lead from v to w
pub record IsWay (steps : List Arc) (v w : ℕ) (xs : List Arc) : Type 0 where
  pub chain : Chain v xs w
  pub among : All (Contains steps) xs

-- an arc of g of priority at least p
pub record IsHigh (g : OneSidedGraph) (p : ℕ) (a : Arc) : Type 0 where
  pub member : Contains g.arcs a
  pub high : p ≤ a.priority

-- the steps are arcs of g of at least p and lead back to the goal, and what is found is the goal and where they begin
pub record IsSearch (g : OneSidedGraph) (p goal : ℕ) (found : List Bool) (steps : List Arc) : Type 0 where
  pub size : length found ≡ g.size
  pub high : All (IsHigh g p) steps
  pub leads : LeadBack steps goal
  pub begins : flag_at found goal ≡ true
  pub comes : (v : ℕ) → flag_at found v ≡ true → Comes steps (length steps) goal v

-- how many are not found
abbrev pub missing : List Bool → ℕ
missing found = sum_by (λ b. cond b 0 1) found

-- if the arc a has at least p, and its end is found, then so is its beginning
abbrev pub FoundAlong : ℕ → List Bool → Arc → Type 0
FoundAlong p found a = p ≤ a.priority → flag_at found a.to ≡ true → flag_at found a.from ≡ true

-- something was found, or nothing was, since nothing was to be found along a
abbrev pub FindsAlong : ℕ → List Bool → List Bool → Arc → Bool → Type 0
FindsAlong p old new a true = missing new < missing old
FindsAlong p old new a false = (new ≡ old) × FoundAlong p new a

-- something was found, or nothing was, since nothing was to be found along the first i arcs
abbrev pub IsSpread : OneSidedGraph → ℕ → List Bool → List Bool → ℕ → Bool → Type 0
IsSpread g p old new i true = missing new < missing old
IsSpread g p old new i false = (new ≡ old) × ((k : ℕ) (d : Arc) → k < i → FoundAlong p new (get_or g.arcs k d))
