-- The rounds of a refinement. Only private contracts cite this.
--
-- Classes have any different numbers here; in the end they are numbered in turn. A round looks at the states alone that are
-- not settled: states of one class that are settled match each other's edges. With those that aren't it looks at one settled
-- state of each of their classes, where there is one. The states that it looks at are cut into parts; one part of each
-- class keeps the number of the class, and the others get new ones.
--
--   IsFiner m class ns          == two states have one number if they have one class and match each other's edges
--   IsCoarse m class            == bisimilar states have one class
--   IsPartition m class         == bisimilar states have one class, states of one class the same propositions
--   HasMembers class n members  == the members of a class have its states below n, and no number that isn't below n
--   IsSettled flags s           == the flag of s is set
--   AreSettled m class flags    == states of one class that are settled match each other's edges
--   AreListed flags n states    == each state below n is settled, or is one of these
--   IsRefined m p states        == p is a partition with all that a round takes, and these are the states that aren't settled
--   AreChosen                   == the states that a round looks at: first those that aren't settled, then settled ones
--   KeepsFrom ... k c           == the number of a state from the k-th on, which has the class c, is kept for c
--   AreKept                     == so it is with the class of each state, and with a settled one if there is one
--   AreNames                    == names of parts: its class for the one that is kept, new and different ones for the others
--   AreRenamed                  == the states that aren't settled have the names of their parts, and the others their classes
--   different xs                == how many different numbers stand in xs
--   Grows old new renamed       == there are no fewer numbers, and more if a state was renamed
--   IsCut m p states k q renamed == the states before the k-th one got the names of their parts, so that p became q
--   IsSplit m old p renamed     == a round made this of the classes `old`, and these states have new names
--   IsAlone class n s           == no other state below n has the class of s
--   IsLoose class n flags s     == s isn't settled, or is alone in its class
--   IsCutOff edges ... flags t  == so is each state from which an edge leads to t
use Rattle.std.specs.Prelude.{ℕ, ◌≡◌, ◌≢◌, ◌<◌, ◌≤◌, ◌⊎◌, ◌↔◌, Bool, true, false, nat_eq, List, [], length, get_or, map, All, Contains}
use Rattle.std.specs.Global.{Vec}
use Rattle.ml_base.specs.declared.structure.Edge.{Edge}
use Rattle.ml_base.specs.Structure.{Structure, lists}
use Rattle.ml_lists.proofs.FirstEntries.{firsts}
use Rattle.ml_bisim.specs.declared.partition.Partition.{Partition}
use Rattle.ml_bisim.specs.Bisimilar.{Bisimilar}
use Rattle.ml_bisim.specs.Quotient.{class_of}
use Rattle.ml_bisim.specs.private.Signatures.{AreParts, SameSteps}

pub record IsFiner (m : Structure) (class ns : List ℕ) : Type 0 where
  pub each_state : length ns ≡ m.states
  pub same : (s t : ℕ) → s < m.states → t < m.states
      → (class_of ns s ≡ class_of ns t) ↔ ((class_of class s ≡ class_of class t) × SameSteps m class s t)

abbrev pub IsCoarse : Structure → List ℕ → Type 0
IsCoarse m class = (s t : ℕ) → s < m.states → t < m.states → Bisimilar m s t → class_of class s ≡ class_of class t

pub record IsPartition (m : Structure) (class : List ℕ) : Type 0 where
  pub each_state : length class ≡ m.states
  pub coarse : IsCoarse m class
  pub same_labels : (s t : ℕ) → s < m.states → t < m.states → class_of class s ≡ class_of class t
      → (p : List ℕ) → lists m s p ≡ lists m t p

-- ---- what a partition keeps

abbrev pub rows : List (Vec ℕ) → List (List ℕ)
rows = map (λ (v : Vec ℕ). v.items)

pub record HasMembers (class : List ℕ) (n : ℕ) (members : List (List ℕ)) : Type 0 where
  pub classes : (s : ℕ) → s < n → class_of class s < length members
  pub has : (s : ℕ) → s < n → Contains (get_or members (class_of class s) []) s
  pub low : (c s : ℕ) → Contains (get_or members c []) s → s < n

abbrev pub IsSettled : List Bool → ℕ → Type 0
IsSettled flags s = get_or flags s false ≡ true

abbrev pub AreSettled : Structure → List ℕ → List Bool → Type 0
AreSettled m class flags = (s t : ℕ) → s < m.states → t < m.states → IsSettled flags s → IsSettled flags t
    → class_of class s ≡ class_of class t
    → SameSteps m class s t

abbrev pub AreListed : List Bool → ℕ → List ℕ → Type 0
AreListed flags n states = (s : ℕ) → s < n → IsSettled flags s ⊎ Contains states s

pub record IsRefined (m : Structure) (p : Partition) (states : List ℕ) : Type 0 where
  pub part : IsPartition m p.class.items
  pub members : HasMembers p.class.items m.states (rows p.members.items)
  pub keepers : length p.keeper.items ≡ length p.members.items
  pub flags : length p.is_settled.items ≡ m.states
  pub settled : AreSettled m p.class.items p.is_settled.items
  pub listed : AreListed p.is_settled.items m.states states
  pub in_range : All (λ s. s < m.states) states

-- ---- a round

-- the states at the places from `first` on are settled; each class of one before it has one there, or no settled state at all
pub record AreChosen (class : List ℕ) (flags : List Bool) (n first : ℕ) (states : List ℕ) : Type 0 where
  pub in_range : All (λ s. s < n) states
  pub before : first ≤ length states
  pub settled : (i : ℕ) → first ≤ i → i < length states → IsSettled flags (get_or states i 0)
  pub some : (i : ℕ) → i < first
      → ((j : ℕ) × (first ≤ j) × (j < length states) × (class_of class (get_or states j 0) ≡ class_of class
      (get_or states i 0)))
      ⊎ ((t : ℕ) → t < n → class_of class t ≡ class_of class (get_or states i 0) → ¬ (IsSettled flags t))

abbrev pub KeepsFrom : List ℕ → List ℕ → List ℕ → List ℕ → ℕ → ℕ → Type 0
KeepsFrom class states ns keeper k c =
    (j : ℕ) × (k ≤ j) × (j < length states) × (class_of class (get_or states j 0) ≡ c) × (get_or keeper c 0 ≡ get_or ns j 0)

pub record AreKept (class states ns keeper : List ℕ) (first : ℕ) : Type 0 where
  pub each : (i : ℕ) → i < length states → KeepsFrom class states ns keeper 0 (class_of class (get_or states i 0))
  pub settled : (i : ℕ) → first ≤ i → i < length states
      → KeepsFrom class states ns keeper first (class_of class (get_or states i 0))

-- the name of the part of the i-th state
abbrev pub name_at : List ℕ → List ℕ → ℕ → ℕ
name_at names ns i = get_or names (get_or ns i 0) 0

-- of parts of classes below `old`; all names are below `new`
pub record AreNames (class states ns keeper names : List ℕ) (old new : ℕ) : Type 0 where
  pub each_part : (i : ℕ) → i < length states → get_or ns i 0 < length names
  pub kept : (i : ℕ) → i < length states → get_or keeper (class_of class (get_or states i 0)) 0 ≡ get_or ns i 0
      → name_at names ns i ≡ class_of class (get_or states i 0)
  pub fresh : (i : ℕ) → i < length states → get_or keeper (class_of class (get_or states i 0)) 0 ≢ get_or ns i 0
      → old ≤ name_at names ns i
  pub apart : (i j : ℕ) → i < length states → j < length states → name_at names ns i ≡ name_at names ns j
      → get_or ns i 0 ≡ get_or ns j 0
  pub in_range : (i : ℕ) → i < length states → name_at names ns i < new

-- the states before the k-th one have the names of their parts, and those with other names than before are `renamed`
pub record AreRenamed (old states ns names : List ℕ) (k n : ℕ) (class renamed : List ℕ) : Type 0 where
  pub each_state : length class ≡ length old
  pub named : (i : ℕ) → i < k → class_of class (get_or states i 0) ≡ name_at names ns i
  pub others : (s : ℕ) → (class_of class s ≡ class_of old s) ⊎ ((i : ℕ) × (i < k) × (get_or states i 0 ≡ s))
  pub has : (s : ℕ) → (class_of class s ≡ class_of old s) ⊎ Contains renamed s
  pub only : (s : ℕ) → Contains renamed s → (s < n) × (class_of class s ≢ class_of old s)

-- flags that are set stay so, and those of the states before the k-th one are set
pub record AreSet (old : List Bool) (states : List ℕ) (k : ℕ) (flags : List Bool) : Type 0 where
  pub each_state : length flags ≡ length old
  pub stay : (s : ℕ) → IsSettled old s → IsSettled flags s
  pub set : (i : ℕ) → i < k → IsSettled flags (get_or states i 0)

abbrev pub different : List ℕ → ℕ
different xs = length (firsts nat_eq xs)

abbrev pub Grows : List ℕ → List ℕ → List ℕ → Type 0
Grows old new renamed = (different old < different new) ⊎ ((renamed ≡ []) × (different old ≤ different new))

pub record IsCut (m : Structure) (p : Partition) (states : List ℕ) (first : ℕ) (q : Partition) (renamed : List ℕ) : Type 0 where
  pub ns : List ℕ
  pub count : ℕ
  pub keeper : List ℕ
  pub names : List ℕ
  pub new : ℕ
  pub parts : AreParts m p.class.items states ns count
  pub kept : AreKept p.class.items states ns keeper first
  pub named : AreNames p.class.items states ns keeper names (length p.members.items) new
  pub are_renamed : AreRenamed p.class.items states ns names first (length p.class.items) q.class.items renamed
  pub set : AreSet p.is_settled.items states first q.is_settled.items
  pub members : HasMembers q.class.items (length p.class.items) (rows q.members.items)
  pub keepers : length q.keeper.items ≡ length q.members.items

pub record IsSplit (m : Structure) (old : List ℕ) (p : Partition) (renamed : List ℕ) : Type 0 where
  pub finer : IsFiner m old p.class.items
  pub members : HasMembers p.class.items m.states (rows p.members.items)
  pub keepers : length p.keeper.items ≡ length p.members.items
  pub flags : length p.is_settled.items ≡ m.states
  pub settled : (s : ℕ) → s < m.states → IsSettled p.is_settled.items s
  pub has : (s : ℕ) → (class_of p.class.items s ≡ class_of old s) ⊎ Contains renamed s
  pub in_range : All (λ s. s < m.states) renamed
  pub grows : Grows old p.class.items renamed

abbrev pub IsAlone : List ℕ → ℕ → ℕ → Type 0
IsAlone class n s = (t : ℕ) → t < n → class_of class t ≡ class_of class s → t ≡ s

abbrev pub IsLoose : List ℕ → ℕ → List Bool → ℕ → Type 0
IsLoose class n flags s = (¬ (IsSettled flags s)) ⊎ IsAlone class n s

abbrev pub IsCutOff : List Edge → List ℕ → ℕ → List Bool → ℕ → Type 0
IsCutOff edges class n flags t = (e : Edge) → Contains edges e → e.target ≡ t → IsLoose class n flags e.source
