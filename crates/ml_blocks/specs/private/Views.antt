-- Which node a program means by the numbers of occurrences.
--
--   formula_at fs n      == the formula at the occurrence n
--   item_of fs x         == the item that is meant by x
--   row_of fs r          == the row that is meant by r
--   place_of fs start s  == the node that is meant by s, where the problem starts with the node `start`
--   StandsIn here xs i f o == at each occurrence of f, the first of which is i, xs has what `here` says of it
--   Kept                 == what a program keeps of a formula
--   Stands K i f o       == f stands at i, and what is kept says so
--   IsKept K n           == the formula at n does
--   Fits K s             == so do all formulas of the node s
--   start_place first f b == the node that a problem of f starts with
--   begin_place from start == the node that a graph begins with, where the problem starts with the node `start`
use Rattle.std.specs.Prelude.{ℕ, ◌≡◌, ◌<◌, ◌+◌, Bool, true, false, List, [], ◌∷◌, Option, None, Some, map, get_or, slice_get, length}
use Rattle.std.specs.List.{AllByRecursion, list_any}
use Rattle.std.specs.Str.{bytes_eq}
use Rattle.ml_text.specs.declared.token.Operator.TheVariants as operator
use Rattle.ml_text.specs.Names.{Proposition, of_kind}
use Rattle.ml_text.specs.Operators.{weight}
use Rattle.ml_ctl.specs.Formula.{Formula, Const, Prop, Not, Binary, Temporal, Paired, Quantified, occurrences}
use Rattle.ml_ctl.specs.FormulaNames.{names}
use Rattle.ml_blocks.specs.Items as plain
use Rattle.ml_blocks.specs.Items.{Item}
use Rattle.ml_blocks.specs.Places as node
use Rattle.ml_blocks.specs.Places.{Place}
use Rattle.ml_blocks.specs.private.Forms.{Form}
use Rattle.ml_blocks.specs.private.Occurrences.{formula_here, occurrence_here, eventualities_here, sign_of}
use Rattle.ml_blocks.specs.declared.items.Asked.{Asked}
use Rattle.ml_blocks.specs.declared.items.Few.{Few}
use Rattle.ml_blocks.specs.declared.items.Few.TheVariants as few
use Rattle.ml_blocks.specs.declared.rows.Row.{Row}
use Rattle.ml_blocks.specs.declared.rows.Row.TheVariants as row
use Rattle.ml_blocks.specs.declared.table.Occurrence.{Occurrence}
use Rattle.ml_blocks.specs.declared.spots.Beginning.{Beginning}
use Rattle.ml_blocks.specs.declared.spots.Beginning.TheVariants as beginning
use Rattle.ml_blocks.specs.declared.spots.Block.{Block}
use Rattle.ml_blocks.specs.declared.spots.Fixed.TheVariants as fixed
use Rattle.ml_nodes.specs.declared.numbering.Form.TheVariants as form
use Rattle.ml_blocks.specs.declared.spots.Part.TheVariants as part
use Rattle.ml_blocks.specs.declared.spots.Spot.{Spot}
use Rattle.ml_blocks.specs.declared.spots.Spot.TheVariants as spot

abbrev pub formula_at : List Formula → ℕ → Formula
formula_at fs n = get_or fs n (Const true)

-- ---- items

abbrev pub item_of : List Formula → Asked → Item
item_of fs x =
    record { number = x.number; formula = formula_at fs x.number; positive = x.positive; later = x.later }

abbrev pub items_of : List Formula → List Asked → List Item
items_of fs = map (item_of fs)

abbrev pub few_of : List Formula → Few → List Item
few_of fs (few.One x) = item_of fs x ∷ []
few_of fs (few.Two x y) = item_of fs x ∷ item_of fs y ∷ []

abbrev pub row_of : List Formula → Row → plain.Row
row_of fs row.OfState = plain.OfState
row_of fs row.Waits = plain.Waits
row_of fs (row.Becomes ys) = plain.Becomes (few_of fs ys)
row_of fs (row.Either ys zs) = plain.Either (few_of fs ys) (few_of fs zs)

-- ---- nodes

abbrev pub left_part : Formula → Formula
left_part (Binary op f g) = f
left_part f = f

abbrev pub right_part : Formula → Formula
right_part (Binary op f g) = g
right_part f = f

abbrev pub block_view : List Formula → Block → node.Block
block_view fs b =
    record { first = item_of fs b.first; positive = b.positive; items = items_of fs b.items; focus = b.focus }

abbrev pub place_of : List Formula → (start : Place) → Spot → Place
place_of fs start (spot.Fixed fixed.Root) = node.Root start
place_of fs start (spot.Fixed fixed.Total) = node.Total
place_of fs start (spot.Fixed fixed.HasEdge) = node.HasEdge
place_of fs start (spot.Fixed fixed.LeadsOn) = node.LeadsOn
place_of fs start (spot.Fixed fixed.True) = node.True
place_of fs start (spot.Fixed fixed.False) = node.False
place_of fs start (spot.State part.Whole n b) = node.Holding n (formula_at fs n) b
place_of fs start (spot.State part.Both n b) =
    node.Both (n + 1) (left_part (formula_at fs n)) (right_part (formula_at fs n)) b
place_of fs start (spot.State part.Neither n b) =
    node.Neither (n + 2) (left_part (formula_at fs n)) (right_part (formula_at fs n)) b
place_of fs start (spot.Path b) = node.Path (block_view fs b)

-- ---- what is kept

module _ {X : Type 0} (here : ℕ → Formula → Option Bool → X) (xs : List X) where
  abbrev pub StandsIn : ℕ → Formula → Option Bool → Type 0
  StandsIn i (Const b) o = slice_get xs i ≡ Some (here i (Const b) o)
  StandsIn i (Prop p) o = slice_get xs i ≡ Some (here i (Prop p) o)
  StandsIn i (Not f) o = (slice_get xs i ≡ Some (here i (Not f) o)) × StandsIn (i + 1) f None
  StandsIn i (Binary op f g) o =
      (slice_get xs i ≡ Some (here i (Binary op f g) o))
      × StandsIn (i + weight op) f None
      × StandsIn (i + weight op + occurrences f) g None
  StandsIn i (Temporal t f) o = (slice_get xs i ≡ Some (here i (Temporal t f) o)) × StandsIn (i + 1) f None
  StandsIn i (Paired p f g) o =
      (slice_get xs i ≡ Some (here i (Paired p f g) o))
      × StandsIn (i + 1) f None
      × StandsIn (i + 1 + occurrences f) g None
  StandsIn i (Quantified q f) o =
      (slice_get xs i ≡ Some (here i (Quantified q f) o)) × StandsIn (i + 1) f (Some (sign_of q))

-- all propositions of a formula are among these
abbrev pub AreAmong : List (List ℕ) → Formula → Type 0
AreAmong ps f = AllByRecursion (λ p. list_any (bytes_eq p) ps ≡ true) (of_kind Proposition (names f))

pub record Kept : Type 0 where
  pub names : List (List ℕ)
  pub formulas : List Formula
  pub occurrences : List Occurrence
  pub eventualities : List (List ℕ)

pub record Stands (K : Kept) (i : ℕ) (f : Formula) (o : Option Bool) : Type 0 where
  pub formulas : StandsIn formula_here K.formulas i f o
  pub occurrences : StandsIn (occurrence_here K.names) K.occurrences i f o
  pub eventualities : StandsIn eventualities_here K.eventualities i f o
  pub among : AreAmong K.names f

-- some formula stands at n
pub record IsKept (K : Kept) (n : ℕ) : Type 0 where
  pub first : Option Bool
  pub stands : Stands K n (formula_at K.formulas n) first

-- an iff stands at n
pub record IsIff (K : Kept) (n : ℕ) : Type 0 where
  pub left : Formula
  pub right : Formula
  pub is : formula_at K.formulas n ≡ Binary operator.Iff left right
  pub kept : IsKept K n

abbrev pub AreKept : Kept → List Asked → Type 0
AreKept K [] = Unit {0}
AreKept K (x ∷ xs) = IsKept K x.number × AreKept K xs

pub record BlockFits (K : Kept) (b : Block) : Type 0 where
  pub first : Stands K b.first.number (formula_at K.formulas b.first.number) (Some b.first.positive)
  pub is_now : b.first.later ≡ false
  pub items : AreKept K b.items

abbrev pub Fits : Kept → Spot → Type 0
Fits K (spot.Fixed f) = Unit {0}
Fits K (spot.State part.Whole n b) = IsKept K n
Fits K (spot.State part.Both n b) = IsIff K n
Fits K (spot.State part.Neither n b) = IsIff K n
Fits K (spot.Path b) = BlockFits K b

-- so do all nodes to which it leads, and a proposition has a name
abbrev pub FormFits : Kept → Form → Type 0
FormFits K (form.Constant b) = Unit {0}
FormFits K (form.Literal p b) = p < length K.names
FormFits K (form.Two b l r) = Fits K l × Fits K r
FormFits K (form.Twice b s) = Fits K s
FormFits K (form.Edge b s) = Fits K s

-- the node that a problem starts with: a block of this sign, or else a state
abbrev pub start_place : Option Bool → Formula → Bool → Place
start_place None f b = node.Holding 0 f b
start_place (Some c) f b = node.block_of (plain.now 0 f c) b

-- the node that a graph begins with: the root, or the one that the problem starts with
abbrev pub begin_place : Beginning → (start : Place) → Place
begin_place beginning.Root start = node.Root start
begin_place beginning.Start start = start
