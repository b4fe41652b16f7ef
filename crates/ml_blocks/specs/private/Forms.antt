-- What nodes are, over the numbers of occurrences: the tables of `specs/Items.antt` and `specs/Places.antt`, as a program
-- goes through them.
--
--   row_in o x           == how the item x, of the occurrence o, is decomposed
--   is_open_in os x      == x is to be decomposed
--   next_in os x, next_all os xs == what x, and all of xs, ask of the next place
--   is_pending ms k xs   == the eventuality in focus is put off
--   Form                 == what a node is, and to which nodes it leads
--   path_at first b xs k == the node of such a block
--   begin_in from first b == the node that a graph begins with
--   form_in os lists s   == what the node s is
--   priority_in os lists s == its priority
use Rattle.std.specs.Prelude.{ℕ, ◌+◌, ◌%◌, ◌==◌, ◌&&◌, Bool, true, false, not, if◌then◌else◌, List, [], ◌∷◌, find, length, get_or, Option, None, Some}
use Rattle.std.specs.Bool.{beq}
use Rattle.std.specs.List.{list_any}
use Rattle.ml_text.specs.declared.token.Operator.{Operator}
use Rattle.ml_text.specs.declared.token.Operator.TheVariants as operator
use Rattle.ml_blocks.specs.private.Asked.{now_at, put_off_of, due_of, key_of, put_in, put_few, others}
use Rattle.ml_blocks.specs.private.Occurrences.{entry_at, eventualities_at}
use Rattle.ml_blocks.specs.declared.items.Asked.{Asked}
use Rattle.ml_blocks.specs.declared.items.Few.{Few}
use Rattle.ml_blocks.specs.declared.items.Few.TheVariants as few
use Rattle.ml_blocks.specs.declared.rows.Row.{Row}
use Rattle.ml_blocks.specs.declared.rows.Row.TheVariants as row
use Rattle.ml_blocks.specs.declared.table.Occurrence.{Occurrence}
use Rattle.ml_blocks.specs.declared.table.Symbol.{Symbol}
use Rattle.ml_blocks.specs.declared.table.Symbol.TheVariants as symbol
use Rattle.ml_ctl.specs.declared.term.Tense.{Tense}
use Rattle.ml_ctl.specs.declared.term.Tense.TheVariants as tense
use Rattle.ml_ctl.specs.declared.term.Pairing.{Pairing}
use Rattle.ml_ctl.specs.declared.term.Pairing.TheVariants as pairing
use Rattle.ml_ctl.specs.declared.term.Quantifier.TheVariants as quantifier
use Rattle.ml_blocks.specs.declared.spots.Beginning.{Beginning}
use Rattle.ml_blocks.specs.declared.spots.Beginning.TheVariants as beginning
use Rattle.ml_blocks.specs.declared.spots.Block.{Block}
use Rattle.ml_blocks.specs.declared.spots.Fixed.{Fixed}
use Rattle.ml_blocks.specs.declared.spots.Fixed.TheVariants as fixed
use Rattle.ml_nodes.specs.declared.numbering.Form as numbering
use Rattle.ml_nodes.specs.declared.numbering.Form.TheVariants as form
use Rattle.ml_blocks.specs.declared.spots.Part.{Part}
use Rattle.ml_blocks.specs.declared.spots.Part.TheVariants as part
use Rattle.ml_blocks.specs.declared.spots.Spot.{Spot}
use Rattle.ml_blocks.specs.declared.spots.Spot.TheVariants as spot

-- ---- rows

abbrev pub one_of : Asked → Few
one_of x = few.One x

abbrev pub connective_row : Operator → Bool → (l r : ℕ) → Row
connective_row operator.And true l r = row.Becomes (few.Two (now_at l true) (now_at r true))
connective_row operator.And false l r = row.Either (few.One (now_at l false)) (few.One (now_at r false))
connective_row operator.Or true l r = row.Either (few.One (now_at l true)) (few.One (now_at r true))
connective_row operator.Or false l r = row.Becomes (few.Two (now_at l false) (now_at r false))
connective_row operator.Implies true l r = row.Either (few.One (now_at l false)) (few.One (now_at r true))
connective_row operator.Implies false l r = row.Becomes (few.Two (now_at l true) (now_at r false))
connective_row operator.Iff true l r =
    row.Either (few.Two (now_at l true) (now_at r true)) (few.Two (now_at l false) (now_at r false))
connective_row operator.Iff false l r =
    row.Either (few.Two (now_at l true) (now_at r false)) (few.Two (now_at l false) (now_at r true))

abbrev pub tense_row : Tense → Asked → (operand : Asked) → Row
tense_row tense.Next x g = row.Waits
tense_row tense.Finally x g =
    if x.positive
    then row.Either (few.One g) (few.One (put_off_of x))
    else row.Becomes (few.Two g (put_off_of x))
tense_row tense.Globally x g =
    if x.positive
    then row.Becomes (few.Two g (put_off_of x))
    else row.Either (few.One g) (few.One (put_off_of x))

abbrev pub unless_row : Asked → (f g : Asked) → Row
unless_row x f g = row.Either (few.One g) (few.Two f (put_off_of x))

abbrev pub release_row : Asked → (f g : Asked) → Row
release_row x f g = row.Either (few.Two g f) (few.Two g (put_off_of x))

abbrev pub pairing_row : Pairing → Asked → (f g : Asked) → Row
pairing_row pairing.Until x f g = if x.positive then unless_row x f g else release_row x f g
pairing_row pairing.Weak x f g = if x.positive then unless_row x f g else release_row x f g
pairing_row pairing.Release x f g = if x.positive then release_row x f g else unless_row x f g

abbrev pub symbol_row : Symbol → (l r : ℕ) → Asked → Row
symbol_row (symbol.Const b) l r x = row.OfState
symbol_row (symbol.Prop p) l r x = row.OfState
symbol_row (symbol.Quantified q) l r x = row.OfState
symbol_row symbol.Not l r x = row.Becomes (few.One (now_at l (not x.positive)))
symbol_row (symbol.Binary op) l r x = connective_row op x.positive l r
symbol_row (symbol.Temporal t) l r x = tense_row t x (now_at l x.positive)
symbol_row (symbol.Paired p) l r x = pairing_row p x (now_at l x.positive) (now_at r x.positive)

abbrev pub row_in : Occurrence → Asked → Row
row_in o x = symbol_row o.symbol o.left o.right x

abbrev pub is_next : Symbol → Bool
is_next (symbol.Temporal tense.Next) = true
is_next _ = false

abbrev pub is_open_in : List Occurrence → Asked → Bool
is_open_in os x = not x.later && not (is_next (entry_at os x.number).symbol)

abbrev pub next_in : List Occurrence → Asked → Asked
next_in os x =
    if x.later
    then due_of x
    else (if is_next (entry_at os x.number).symbol then now_at (entry_at os x.number).left x.positive else x)

abbrev pub next_all : List Occurrence → List Asked → List Asked
next_all os [] = []
next_all os (x ∷ xs) = put_in (next_in os x) (next_all os xs)

-- ---- blocks

abbrev pub Form : Type 0
Form = numbering.Form Spot

abbrev pub is_pending : List ℕ → ℕ → List Asked → Bool
is_pending ms k xs = list_any (λ x. x.later && (key_of (due_of x) == get_or ms k 0)) xs

abbrev pub focus_in : List ℕ → ℕ → Bool → ℕ
focus_in [] k b = 0
focus_in (e ∷ es) k b = if b then k else (k + 1) % length (e ∷ es)

abbrev pub edge_priority_in : List ℕ → Bool → ℕ
edge_priority_in [] b = 0
edge_priority_in (e ∷ es) b = if b then 1 else 0

abbrev pub path_at : Asked → Bool → List Asked → ℕ → Spot
path_at first b [] k = spot.Fixed (if b then fixed.True else fixed.False)
path_at first b (x ∷ xs) k = spot.Path (record { first = first; positive = b; items = x ∷ xs; focus = k })

-- the block with other items
abbrev pub with_items : Block → List Asked → Spot
with_items b xs = path_at b.first b.positive xs b.focus

abbrev pub item_form : Block → Asked → Row → Form
item_form b x row.OfState =
    form.Two b.positive (spot.State part.Whole x.number (beq x.positive b.positive)) (with_items b (others x b.items))
item_form b x row.Waits = form.Twice true (with_items b b.items)
item_form b x (row.Becomes ys) = form.Twice b.positive (with_items b (put_few ys (others x b.items)))
item_form b x (row.Either ys zs) =
    form.Two (not b.positive) (with_items b (put_few ys (others x b.items))) (with_items b (put_few zs (others x b.items)))

abbrev pub edge_form : List Occurrence → List ℕ → Block → Form
edge_form os ms b =
    form.Edge b.positive
    (path_at b.first b.positive (next_all os b.items) (focus_in ms b.focus (is_pending ms b.focus b.items)))

abbrev pub block_form : List Occurrence → List ℕ → Block → Option Asked → Form
block_form os ms b (Some x) = item_form b x (row_in (entry_at os x.number) x)
block_form os ms b None = edge_form os ms b

abbrev pub block_priority : List ℕ → Block → Option Asked → ℕ
block_priority ms b (Some x) = 1
block_priority ms b None = edge_priority_in ms (is_pending ms b.focus b.items)

-- ---- states

abbrev pub whole : ℕ → Bool → Spot
whole n b = spot.State part.Whole n b

abbrev pub block_at : Asked → Bool → Spot
block_at first b = path_at first b (first ∷ []) 0

abbrev pub connective_form : Operator → Bool → (n l r : ℕ) → Form
connective_form operator.And true n l r = form.Two true (whole l true) (whole r true)
connective_form operator.And false n l r = form.Two false (whole l false) (whole r false)
connective_form operator.Or true n l r = form.Two false (whole l true) (whole r true)
connective_form operator.Or false n l r = form.Two true (whole l false) (whole r false)
connective_form operator.Implies true n l r = form.Two false (whole l false) (whole r true)
connective_form operator.Implies false n l r = form.Two true (whole l true) (whole r false)
connective_form operator.Iff b n l r = form.Two false (spot.State part.Both n b) (spot.State part.Neither n b)

abbrev pub symbol_form : Symbol → Bool → (n l r : ℕ) → Form
symbol_form (symbol.Const b) sign n l r = form.Constant (beq b sign)
symbol_form (symbol.Prop p) sign n l r = form.Literal p sign
symbol_form symbol.Not sign n l r = form.Twice true (whole l (not sign))
symbol_form (symbol.Binary op) sign n l r = connective_form op sign n l r
symbol_form (symbol.Quantified quantifier.Exists) sign n l r = form.Twice true (block_at (now_at l true) sign)
symbol_form (symbol.Quantified quantifier.Forall) sign n l r = form.Twice true (block_at (now_at l false) (not sign))
symbol_form (symbol.Temporal t) sign n l r = form.Constant false
symbol_form (symbol.Paired p) sign n l r = form.Constant false

abbrev pub state_form : List Occurrence → Part → ℕ → Bool → Form
state_form os part.Whole n b =
    symbol_form (entry_at os n).symbol b n (entry_at os n).left (entry_at os n).right
state_form os part.Both n b = form.Two true (whole (entry_at os n).left true) (whole (entry_at os n).right b)
state_form os part.Neither n b = form.Two true (whole (entry_at os n).left false) (whole (entry_at os n).right (not b))

-- ---- all nodes

-- the node that the problem starts with: of CTL* a state, of LTL a block
abbrev pub start_in : Option Bool → Bool → Spot
start_in None b = whole 0 b
start_in (Some c) b = block_at (now_at 0 c) b

-- the node that a graph begins with: the root, or the one that the problem starts with
abbrev pub begin_in : Beginning → Option Bool → Bool → Spot
begin_in beginning.Root first b = spot.Fixed fixed.Root
begin_in beginning.Start first b = start_in first b

abbrev pub fixed_form : Spot → Fixed → Form
fixed_form start fixed.Root = form.Two true start (spot.Fixed fixed.Total)
fixed_form start fixed.Total = form.Two true (spot.Fixed fixed.HasEdge) (spot.Fixed fixed.LeadsOn)
fixed_form start fixed.HasEdge = form.Edge true (spot.Fixed fixed.True)
fixed_form start fixed.LeadsOn = form.Edge false (spot.Fixed fixed.Total)
fixed_form start fixed.True = form.Constant true
fixed_form start fixed.False = form.Constant false

abbrev pub fixed_priority : Fixed → ℕ
fixed_priority fixed.Root = 2
fixed_priority fixed.Total = 0
fixed_priority fixed.HasEdge = 2
fixed_priority fixed.LeadsOn = 2
fixed_priority fixed.True = 2
fixed_priority fixed.False = 2

abbrev pub form_in : List Occurrence → List (List ℕ) → (start : Spot) → Spot → Form
form_in os lists start (spot.Fixed f) = fixed_form start f
form_in os lists start (spot.State p n b) = state_form os p n b
form_in os lists start (spot.Path b) =
    block_form os (eventualities_at lists b.first.number) b (find (is_open_in os) b.items)

abbrev pub priority_in : List Occurrence → List (List ℕ) → Spot → ℕ
priority_in os lists (spot.Fixed f) = fixed_priority f
priority_in os lists (spot.State p n b) = 2
priority_in os lists (spot.Path b) =
    block_priority (eventualities_at lists b.first.number) b (find (is_open_in os) b.items)
    + (if b.positive then 0 else 1)
