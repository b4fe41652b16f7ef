-- What the reader knows of the lines of an entry. Private contracts and proofs cite this.
--
--   knows n F k              == there are n names and k entries to be, in the form F
--   ascends_behind x xs      == do the numbers xs strictly ascend, all above x?
--   AreNames b ns            == the names ns strictly ascend below b
--   IsItemed line            == the line is `item`, two words, and at least one more
--   before_of a              == the state of the item before, if there is one
--   AtItems m b e            == of the traces e so far m names are in use, and the last item has the state b, if there is one
--   MayStand m a             == the numbers of the item a fit, and its names ascend below m
--   SomeIn F ns              == in full, there is a name
--   IsItemOf F m b line a    == the line is that of the item a, which may stand there
--   TellsItem F n m b line e == the refusal e of a line that isn't that of the heights tells the rule that it breaks there
--   HasStack ks t m i        == t is the number of one of the stacks ks, with the place i and names below m
--   LacksStack ks t m e      == the refusal e tells why t isn't the number of one of the stacks ks with names below m
--   IsHeights n line hs      == the line is that of the heights hs, for n names
--   IsTraceLine F n m b line ks t == the line is that of an item, by the stacks ks, or that of the heights
--   TellsTrace F n m b line e  == the refusal e tells the rule that the line breaks there
use Rattle.std.specs.Prelude.{ℕ, ◌+◌, ◌-◌, ◌^◌, ◌<◌, ◌≤◌, ◌≡◌, ◌⊎◌, ⊤, slice_index_or, Bool, true, nat_lt, ◌&&◌, List, [], ◌∷◌, Option, None, Some, length, map, drop, codes, All}
use Rattle.ml_lines.specs.Lines.{Line}
use Rattle.ml_lines.specs.Reading.{AreWords, word}
use Rattle.ml_lists.specs.Ascending.{IsAscending}
use Rattle.ml_lists.specs.Last.{last_of}
use Rattle.ml_trace.specs.declared.letters.AutomatonState.{AutomatonState}
use Rattle.ml_trace.specs.Stack as traced
use Rattle.ml_refutation.specs.Refutation.{Entry, Fits, IsAbove}
use Rattle.ml_refutation.specs.Guesses.{FitsGuess}
use Rattle.ml_refutation.specs.Views.{item_of}
use Rattle.ml_refutation.specs.declared.refutation.Item.{Item}
use Rattle.ml_refutation_text.specs.LineKinds.{IsOfKind}
use Rattle.ml_refutation_text.specs.RefutationText.{heights_line}
use Rattle.ml_refutation_text.specs.BodyRules.{Form, InFull, ByTables}
use Rattle.ml_refutation_text.specs.private.TextLines.{ItemLine}
use Rattle.ml_refutation_text.specs.BodyRules.{Known, AtItem}
use Rattle.ml_refutation_text.specs.private.ListKinds.{heights_kind}
use Rattle.ml_refutation_text.specs.private.Reads.{TellsRule}
use Rattle.ml_lines.specs.declared.refusal.LineRefusal.{LineRefusal}
use Rattle.ml_refutation_text.specs.declared.body_rule.BodyRule.{BodyRule}
use Rattle.ml_lines.specs.declared.refusal.LineRefusal.TheVariants as refusal
use Rattle.ml_refutation_text.specs.declared.body_rule.BodyRule.TheVariants.{ItemsAscend, InTables}
use Rattle.ml_refutation_text.specs.declared.traces.TraceLine.{TraceLine}
use Rattle.ml_refutation_text.specs.declared.traces.TraceLine.TheVariants as trace

abbrev pub knows : ℕ → Form → ℕ → Known
knows names F wanted = record { names = names; form = F; wanted = wanted }

abbrev pub ascends_behind : ℕ → List ℕ → Bool
ascends_behind x [] = true
ascends_behind x (y ∷ ys) = nat_lt x y && ascends_behind y ys

abbrev pub AreNames : ℕ → List ℕ → Type 0
AreNames bound names = IsAscending names × All (λ x. x < bound) names

abbrev pub IsItemed : Line → Type 0
IsItemed line = AreWords line × (line ≡ codes "item" ∷ word line 1 ∷ word line 2 ∷ word line 3 ∷ drop 4 line)

abbrev pub before_of : Option Item → Option AutomatonState
before_of None = None
before_of (Some a) = Some (record { node = a.node; odd = a.odd })

pub record AtItems (live : ℕ) (before : Option AutomatonState) (traces : traced.Entry AutomatonState) : Type 0 where
  pub with_live : traces.live ≡ live
  pub behind : last_of None (map (λ a. a.state) traces.items) ≡ before

-- what an item keeps without its table
pub record MayStand (live : ℕ) (a : traced.Item AutomatonState) : Type 0 where
  pub node_fits : Fits a.state.node
  pub guess_fits : FitsGuess a.state.odd
  pub ascends : IsAscending a.stack
  pub below : All (λ x. x < live) a.stack

-- a stack in full has a name; in a table it has one anyhow
abbrev pub SomeIn : Form → List ℕ → Type 0
SomeIn InFull names = 0 < length names
SomeIn (ByTables sequents stacks) names = ⊤

pub record IsItemOf (F : Form) (live : ℕ) (before : Option AutomatonState) (line : Line) (a : traced.Item AutomatonState) : Type 0 where
  pub is_line : ItemLine F a line
  pub may_stand : MayStand live a
  pub some : SomeIn F a.stack
  pub is_above : IsAbove before a.state

abbrev pub TellsItem : Form → ℕ → ℕ → Option AutomatonState → Line → LineRefusal BodyRule → Type 0
TellsItem F names live before line e =
    (wanted : ℕ) (es : List Entry) (q : List ℕ) (traces : traced.Entry AutomatonState)
    → ¬ (IsOfKind heights_kind line) → AtItems live before traces → TellsRule (AtItem (knows names F wanted) es q traces) line e

-- the stack of this number, whose names are as they must be
pub record HasStack (stacks : List (List ℕ)) (number live place : ℕ) : Type 0 where
  pub is_place : place ≡ number
  pub small : number < 2 ^ 64 - 1
  pub inside : place < length stacks
  pub names : AreNames live (slice_index_or stacks place [])

-- no stack of this number, or one whose names aren't as they must be
abbrev pub LacksStack : List (List ℕ) → ℕ → ℕ → LineRefusal BodyRule → Type 0
LacksStack stacks place live (refusal.Breaks rule) =
    ((rule ≡ InTables) × (length stacks ≤ place))
    ⊎ ((rule ≡ ItemsAscend) × (place < 2 ^ 64 - 1) × (¬ (AreNames live (slice_index_or stacks place []))))
LacksStack stacks place live refusal.NoMemory = ⊤

pub record IsHeights (names : ℕ) (line : Line) (heights : List ℕ) : Type 0 where
  pub is_line : line ≡ heights_line heights
  pub fit : All Fits heights
  pub one_each : length heights ≡ names + 1

abbrev pub IsTraceLine : Form → ℕ → ℕ → Option AutomatonState → Line → List (List ℕ) → TraceLine → Type 0
IsTraceLine F names live before line stacks (trace.Item a) = IsItemOf F live before line (item_of stacks a)
IsTraceLine F names live before line stacks (trace.Heights hs) = IsHeights names line hs.items

abbrev pub TellsTrace : Form → ℕ → ℕ → Option AutomatonState → Line → LineRefusal BodyRule → Type 0
TellsTrace F names live before line e =
    (wanted : ℕ) (es : List Entry) (q : List ℕ) (traces : traced.Entry AutomatonState)
    → AtItems live before traces → TellsRule (AtItem (knows names F wanted) es q traces) line e
