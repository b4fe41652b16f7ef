-- Which items a name can come from along a step. (Private: nobody has to believe it.)
--
--   Serves y progress s acc     == y stands in the stack s; where progress is asked for, it isn't last there, or acc is
--                                  true
--   stack_of ks a               == the stack of the item a, by the stacks ks
--   IsSource ks odds t y p i a  == the trace t leads from the item i to the item a, and i serves for the name y
--   SourceAmong ks odds t y p is a == it leads so from some of the items is
--   HasSource ks odds ts y p is a == some of the traces ts does
--   IsNameTraced ks odds ts b green is y a == the name y of a is traced back, where it is below the bound b or green
--   IsItemTraced ks odds ts b green is a == each name of a is
--   green_of m                  == the green name of the mark, if it has one
--   AreInUse b green live behind == bound and green name are in use before and behind the step
--   traces_of ks e              == the items and the names in use of an entry
--   LeadInto next made ts       == ts are those of made that lead to one of the nodes next
--   led next made               == those traces themselves
--   StandAmong nodes is         == each of the items is stands at one of the nodes
--   RiseByNode is, RiseByTarget ts == the nodes of the items is, the targets of the traces ts don't descend
--   IsReached ts m              == one of the traces ts leads to the node m
use Rattle.std.specs.Prelude.{ℕ, ◌≡◌, ◌⊎◌, ◌↔◌, ◌<◌, ◌≤◌, nat_eq, Bool, true, not, List, [], Option, None, Some, All, map, slice_index_or}
use Rattle.std.specs.List.{filter, list_any}
use Rattle.std.specs.List.Sorted.{IsNonDecreasingBy}
use Rattle.ml_lists.specs.Member.{IsMember}
use Rattle.ml_refutation.specs.declared.refutation.Entry.{Entry}
use Rattle.ml_refutation.specs.declared.refutation.Item.{Item}
use Rattle.ml_refutation.specs.Views.{item_of}
use Rattle.ml_trace.specs.declared.letters.AutomatonState.{AutomatonState}
use Rattle.ml_trace.specs.Stack as traced
use Rattle.ml_trace.specs.declared.letters.Triple.{Triple}
use Rattle.ml_trace.specs.declared.marks.Mark.{Mark}
use Rattle.ml_trace.specs.declared.marks.Mark.TheVariants.{Red, Green, Neutral}
use Rattle.ml_trace.specs.Automaton.{Leads}
use Rattle.ml_trace.specs.Stack.{has, ends_in, IsAdvanced}

abbrev pub Serves : ℕ → Bool → List ℕ → Bool → Type 0
Serves y progress stack accepting =
    (has y stack ≡ true) × (progress ≡ true → IsAdvanced y stack ⊎ (accepting ≡ true))

-- the stack of an item, by the stacks that it names
abbrev pub stack_of : List (List ℕ) → Item → List ℕ
stack_of stacks a = slice_index_or stacks a.stack []

pub record IsSource (stacks : List (List ℕ)) (odds : List ℕ) (t : Triple) (y : ℕ) (progress : Bool) (item behind : Item) : Type 0 where
  pub begins : item.node ≡ t.from
  pub ends : behind.node ≡ t.to
  pub accepting : Bool
  pub leads : Leads odds t.lowest item.odd behind.odd accepting
  pub serves : Serves y progress (stack_of stacks item) accepting

pub record SourceAmong (stacks : List (List ℕ)) (odds : List ℕ) (t : Triple) (y : ℕ) (progress : Bool)
    (items : List Item) (behind : Item) : Type 0 where
  pub item : Item
  pub member : IsMember item items
  pub is_source : IsSource stacks odds t y progress item behind

pub record HasSource (stacks : List (List ℕ)) (odds : List ℕ) (traces : List Triple) (y : ℕ) (progress : Bool)
    (items : List Item) (behind : Item) : Type 0 where
  pub trace : Triple
  pub member : IsMember trace traces
  pub among : SourceAmong stacks odds trace y progress items behind

-- below the bound a name comes from where it stands, with progress where it is advanced; a green one is the last of its
-- stack, and comes with progress
pub record IsNameTraced (stacks : List (List ℕ)) (odds : List ℕ) (traces : List Triple) (bound : ℕ) (green : Option ℕ)
    (items : List Item) (y : ℕ) (behind : Item) : Type 0 where
  pub below : y < bound → HasSource stacks odds traces y (not (ends_in y (stack_of stacks behind))) items behind
  pub if_green : green ≡ Some y → (ends_in y (stack_of stacks behind) ≡ true) × HasSource stacks odds traces y true items behind

abbrev pub IsItemTraced : List (List ℕ) → List ℕ → List Triple → ℕ → Option ℕ → List Item → Item → Type 0
IsItemTraced stacks odds traces bound green items behind =
    All (λ y. IsNameTraced stacks odds traces bound green items y behind) (stack_of stacks behind)

-- the green name of a mark
abbrev pub green_of : Mark → Option ℕ
green_of (Red x) = None
green_of (Green x) = Some x
green_of Neutral = None

-- bound and green name are in use before and behind the step
abbrev pub AreInUse : ℕ → Option ℕ → ℕ → ℕ → Type 0
AreInUse bound green live live_behind =
    ((bound ≤ live) × (bound ≤ live_behind)) × ((x : ℕ) → green ≡ Some x → (x < live) × (x < live_behind))

-- the traces that lead to one of these nodes
abbrev pub LeadInto : List ℕ → List Triple → List Triple → Type 0
LeadInto next made traces = (t : Triple) → IsMember t traces ↔ (IsMember t made × IsMember t.to next)

-- those of the traces that lead to one of these nodes
abbrev pub led : List ℕ → List Triple → List Triple
led next made = filter (λ t. list_any (nat_eq t.to) next) made

-- each item stands at one of these nodes
abbrev pub StandAmong : List ℕ → List Item → Type 0
StandAmong nodes items = All (λ (a : Item). IsMember a.node nodes) items

abbrev pub RiseByNode : List Item → Type 0
RiseByNode items = IsNonDecreasingBy (λ (a : Item). a.node) items

abbrev pub RiseByTarget : List Triple → Type 0
RiseByTarget traces = IsNonDecreasingBy (λ (t : Triple). t.to) traces

-- one of the traces leads to the node
abbrev pub IsReached : List Triple → ℕ → Type 0
IsReached traces m = (t : Triple) × (IsMember t traces × (t.to ≡ m))

-- the items and the names in use of an entry
abbrev pub traces_of : List (List ℕ) → Entry → traced.Entry AutomatonState
traces_of stacks e = record { live = e.live; items = map (item_of stacks) e.items.items }
